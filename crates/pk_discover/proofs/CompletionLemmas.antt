-- Keys over completions of rows that fit their kinds.
use Rattle.std.proofs.Common.{◌≡◌, ℕ, true, List, length}
use Rattle.pk_values.specs.declared.key.Sort.{Sort}
use Rattle.pk_values.specs.declared.key.Sort.TheVariants.{Certain, Possible}
use Rattle.pk_values.specs.declared.kind.Kind.{Kind}
use Rattle.pk_values.specs.declared.value.Value.{Value}
use Rattle.pk_values.specs.ColumnSet.{IsColumnSet, columns}
use Rattle.pk_similar.specs.Laws.{all_fit, CertainIsNoWeakPair, PossibleIsNoStrongPair}
use Rattle.pk_similar.specs.Similarity.{are_below}
use Rattle.pk_discover.specs.Keys.{is_key, minimal_keys}
use Rattle.pk_discover.specs.Laws.{IsKeyWithin, Holds, HoldsWithin, MinimalKeysAreListed, MinimalKeysHoldInCompletions}
use Rattle.pk_discover.proofs.SetLemmas.{part_below}
use Rattle.pk_discover.proofs.MinimalLemmas.{minimal_lists_same}

module _ (certain : CertainIsNoWeakPair) (possible : PossibleIsNoStrongPair) (kinds : List Kind) (rows : List (List Value)) (fit : all_fit kinds rows ≡ true) where
  key_holds : (sort : Sort) (x : ℕ) → are_below (length kinds) (columns x) ≡ true → is_key sort rows x ≡ true → Holds sort kinds rows (columns x)
  key_holds Certain x below key = (certain kinds rows (columns x) fit below).1 key
  key_holds Possible x below key = (possible kinds rows (columns x) fit below).1 key

  holding_key : (sort : Sort) (x : ℕ) → are_below (length kinds) (columns x) ≡ true → Holds sort kinds rows (columns x) → is_key sort rows x ≡ true
  holding_key Certain x below holds = (certain kinds rows (columns x) fit below).0 holds
  holding_key Possible x below holds = (possible kinds rows (columns x) fit below).0 holds

  within_holds : (sort : Sort) (all x : ℕ) → IsColumnSet all → are_below (length kinds) (columns all) ≡ true → IsKeyWithin sort all rows x → HoldsWithin sort all kinds rows x
  within_holds sort all x all_set below (x_set, inside, key) =
      (x_set, inside, key_holds sort x (part_below (length kinds) x all x_set all_set inside below) key)

  holds_within : (sort : Sort) (all x : ℕ) → IsColumnSet all → are_below (length kinds) (columns all) ≡ true → HoldsWithin sort all kinds rows x → IsKeyWithin sort all rows x
  holds_within sort all x all_set below (x_set, inside, holds) =
      (x_set, inside, holding_key sort x (part_below (length kinds) x all x_set all_set inside below) holds)

pub keys_hold : MinimalKeysAreListed → CertainIsNoWeakPair → PossibleIsNoStrongPair → MinimalKeysHoldInCompletions
keys_hold listed certain possible = λ sort all kinds rows all_set fit below.
    minimal_lists_same (IsKeyWithin sort all rows) (HoldsWithin sort all kinds rows) (minimal_keys sort all rows)
    (λ x. within_holds certain possible kinds rows fit sort all x all_set below)
    (λ x. holds_within certain possible kinds rows fit sort all x all_set below)
    (listed sort all rows all_set)
