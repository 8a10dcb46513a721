-- Lists of minimal sets, and the minimal keys among them.
use Rattle.std.proofs.Common.{ℕ, List}
use Rattle.std.specs.List.{Contains, filter}
use Rattle.pk_values.specs.declared.key.Sort.{Sort}
use Rattle.pk_values.specs.declared.value.Value.{Value}
use Rattle.pk_values.specs.ColumnSet.{IsColumnSet}
use Rattle.pk_transversal.specs.Laws.{MinimalSetsAreListed}
use Rattle.pk_transversal.specs.Minimal.{IsMinimal, Lists}
use Rattle.pk_transversal.specs.Transversals.{parts}
use Rattle.pk_discover.specs.Keys.{is_key, minimal_keys}
use Rattle.pk_discover.specs.Laws.{IsKeyWithin}
use Rattle.pk_discover.proofs.ListLemmas.{in_kept, kept_in}
use Rattle.pk_discover.proofs.SetLemmas.{in_parts, part_of}

-- what lists all that have P lists all that have what is the same
pub lists_same : (P Q : ℕ → Type 0) (sets : List ℕ) → ((x : ℕ) → P x → Q x) → ((x : ℕ) → Q x → P x) → Lists P sets → Lists Q sets
lists_same P Q sets to from listed = record {
  ascend = listed.ascend;
  only = λ x found. to x (listed.only x found);
  every = λ x holds. listed.every x (from x holds);
}

-- where two tests say the same of all sets, the minimal sets are the same
minimal_same : (P Q : ℕ → Type 0) → ((x : ℕ) → P x → Q x) → ((x : ℕ) → Q x → P x) → (x : ℕ) → IsMinimal P x → IsMinimal Q x
minimal_same P Q to from x minimal = record { holds = to x minimal.holds; least = λ y holds inside. minimal.least y (from y holds) inside }

pub minimal_lists_same : (P Q : ℕ → Type 0) (sets : List ℕ) → ((x : ℕ) → P x → Q x) → ((x : ℕ) → Q x → P x) → Lists (IsMinimal P) sets → Lists (IsMinimal Q) sets
minimal_lists_same P Q sets to from = lists_same (IsMinimal P) (IsMinimal Q) sets (minimal_same P Q to from) (minimal_same Q P from to)

-- the computed list has the minimal keys
pub keys_listed : MinimalSetsAreListed → (sort : Sort) (all : ℕ) (rows : List (List Value)) → IsColumnSet all
    → Lists (IsMinimal (IsKeyWithin sort all rows)) (minimal_keys sort all rows)
unfolding minimal_keys
keys_listed listed sort all rows all_set =
    minimal_lists_same (Contains (filter (is_key sort rows) (parts all))) (IsKeyWithin sort all rows) (minimal_keys sort all rows) to from
    (listed (filter (is_key sort rows) (parts all)))
  where
    to : (x : ℕ) → Contains (filter (is_key sort rows) (parts all)) x → IsKeyWithin sort all rows x
    to x found =
        let kept = kept_in (is_key sort rows) (parts all) x found in
        let part = part_of all x all_set kept.0 in
        (part.0, part.1, kept.1)

    from : (x : ℕ) → IsKeyWithin sort all rows x → Contains (filter (is_key sort rows) (parts all)) x
    from x (x_set, inside, key) = in_kept (is_key sort rows) (parts all) x (in_parts all x x_set inside) key
