-- Minimal keys are the minimal sets that meet each set in which two rows differ.
use Rattle.std.proofs.Common.{◌≡◌, refl, sym, ◌∙◌, ap, subst, ℕ, true, false, ◌<◌, List, length, Some, None, Option, option_map, nat_lt, bit_and}
use Rattle.std.specs.List.{Contains}
use Rattle.std.specs.Option.{option_or}
use Rattle.std.proofs.lemmas.Bool.{and_from, lt-ltb}
use Rattle.pk_values.specs.declared.key.Sort.{Sort}
use Rattle.pk_values.specs.declared.key.Sort.TheVariants.{Certain, Possible}
use Rattle.pk_values.specs.declared.value.Value.{Value}
use Rattle.pk_values.specs.ColumnSet.{IsColumnSet, has_column, columns, is_subset}
use Rattle.pk_similar.specs.Laws.{WeakMeetsNoneApart, StrongMeetsNoneNotSame, NoPairStands, PairIsFound}
use Rattle.pk_similar.specs.Similarity.{apart, not_same, no_pair}
use Rattle.pk_sweep.specs.Laws.{PairsAreOfPlaces, SetsHaveTheirColumns}
use Rattle.pk_sweep.specs.Pairs.{pair_sets, InOrder}
use Rattle.pk_transversal.specs.Laws.{MeetsAll, OneListOfTransversals, OrderTellsNothing, HaveTheSame}
use Rattle.pk_transversal.specs.Minimal.{IsMinimal, Lists}
use Rattle.pk_transversal.specs.Transversals.{meets, meets_all, transversals, edge_limit}
use Rattle.pk_discover.specs.declared.disc_err.DiscErr.{DiscErr}
use Rattle.pk_discover.specs.declared.disc_err.DiscErr.TheVariants.{TooManyRows, TooMany, Memory}
use Rattle.pk_discover.specs.Keys.{are_similar, minimal_keys}
use Rattle.pk_discover.specs.Laws.{IsKeyWithin, MinimalKeysAreListed, MinimalKeysAreTransversals}
use Rattle.pk_discover.specs.Limits.{edges_of, beyond, either_beyond, refusal, IsTold}
use Rattle.pk_discover.proofs.ListLemmas.{all_at, all_from, all_inside}
use Rattle.pk_discover.proofs.SetLemmas.{subset_trans, has_and, and_left_part, and_right_part, and_set, in_columns, column_of, shared_of, meets_from}
use Rattle.pk_discover.proofs.MinimalLemmas.{lists_same}
use Rattle.pk_discover.proofs.PairLemmas.{Similar, Differ, PairLaws, apart_within, not_same_within, key_meets, meets_key, edge_set, edge_within}

-- the laws of other crates that this rests on
pub record Laws : Type 0 where
  pub weak : WeakMeetsNoneApart
  pub strong : StrongMeetsNoneNotSame
  pub stands : NoPairStands
  pub found : PairIsFound
  pub places : PairsAreOfPlaces
  pub columns : SetsHaveTheirColumns
  pub one : OneListOfTransversals
  pub order : OrderTellsNothing

-- what tells of a sort in which columns two rows differ
abbrev differ : Sort → Differ
differ Certain = apart
differ Possible = not_same

pair_laws : Laws → (sort : Sort) → PairLaws (are_similar sort) (differ sort)
pair_laws laws Certain = record {
  none = laws.weak;
  has = laws.columns.apart;
  within = apart_within;
  stands = laws.stands;
  found = laws.found;
  places = laws.places;
}
pair_laws laws Possible = record {
  none = laws.strong;
  has = laws.columns.not_same;
  within = not_same_within;
  stands = laws.stands;
  found = laws.found;
  places = laws.places;
}

edges_are : (sort : Sort) (all : ℕ) (rows : List (List Value)) → edges_of sort all rows ≡ pair_sets (differ sort (columns all)) rows
edges_are Certain all rows = refl
edges_are Possible all rows = refl

-- ---- keys and sets that meet all edges

module _ (similar : Similar) (differ : Differ) (laws : PairLaws similar differ) (all : ℕ) (all_set : IsColumnSet all) (rows : List (List Value)) where
  abbrev edges : List ℕ
  edges = pair_sets (differ (columns all)) rows

  abbrev IsKey : ℕ → Type 0
  IsKey x = IsColumnSet x × (is_subset x all ≡ true) × (no_pair (similar (columns x)) rows ≡ true)

  key_meets_all : (x : ℕ) → IsKey x → MeetsAll edges x
  unfolding meets_all pair_sets
  key_meets_all x (x_set, inside, key) = (x_set, all_from (meets x) edges (key_meets similar differ laws x all rows x_set all_set inside key))

  meets_all_key : (x : ℕ) → MeetsAll edges x → is_subset x all ≡ true → IsKey x
  unfolding meets_all pair_sets
  meets_all_key x (x_set, met) inside =
      (x_set, inside, meets_key similar differ laws x all rows x_set all_set inside (λ edge there. all_at (meets x) edges edge met there))

  -- what a set has of all columns meets each edge where it does
  within_meets : (x : ℕ) → MeetsAll edges x → MeetsAll edges (bit_and x all)
  unfolding meets_all pair_sets
  within_meets x (x_set, met) = (and_set x all all_set, all_from (meets (bit_and x all)) edges meeting)
    where
      meeting : (edge : ℕ) → Contains edges edge → meets (bit_and x all) edge ≡ true
      meeting edge there =
          let a_set = edge_set similar differ laws all rows edge there in
          let (c, has, holds) = shared_of x edge a_set (all_at (meets x) edges edge met there) in
          let of_all : has_column all c ≡ true = column_of all c all_set (edge_within similar differ laws all rows edge c there (in_columns edge c a_set has)) in
          meets_from (bit_and x all) edge c a_set has (has_and x all c ∙ and_from (has_column x c) (has_column all c) holds of_all)

  minimal_key_meets : (x : ℕ) → IsMinimal IsKey x → IsMinimal (MeetsAll edges) x
  minimal_key_meets x minimal = record {
    holds = key_meets_all x minimal.holds;
    least = λ y met inside.
        minimal.least y (meets_all_key y met (subset_trans y x all met.0 minimal.holds.0 inside minimal.holds.1)) inside;
  }

  minimal_meeting_key : (x : ℕ) → IsMinimal (MeetsAll edges) x → IsMinimal IsKey x
  minimal_meeting_key x minimal =
      let same : bit_and x all ≡ x = minimal.least (bit_and x all) (within_meets x minimal.holds) (and_left_part x all) in
      record {
        holds = meets_all_key x minimal.holds (subst (λ y. is_subset y all ≡ true) same (and_right_part x all));
        least = λ y key inside. minimal.least y (key_meets_all y key) inside;
      }

  keys_meet : (sets : List ℕ) → Lists (IsMinimal IsKey) sets → Lists (IsMinimal (MeetsAll edges)) sets
  keys_meet sets = lists_same (IsMinimal IsKey) (IsMinimal (MeetsAll edges)) sets minimal_key_meets minimal_meeting_key

-- ---- the law

edges_are_sets : Laws → (sort : Sort) (all : ℕ) (rows : List (List Value)) (edge : ℕ) → Contains (edges_of sort all rows) edge → IsColumnSet edge
edges_are_sets laws sort all rows edge there =
    edge_set (are_similar sort) (differ sort) (pair_laws laws sort) all rows edge (subst (λ edges. Contains edges edge) (edges_are sort all rows) there)

-- the minimal keys, in any list, are the minimal sets that meet all edges
one_list : Laws → (sort : Sort) (all : ℕ) (rows : List (List Value)) (sets : List ℕ) → IsColumnSet all → Lists (IsMinimal (IsKeyWithin sort all rows)) sets
    → sets ≡ transversals (edges_of sort all rows)
one_list laws sort all rows sets all_set listed =
    laws.one (edges_of sort all rows) sets (all_inside IsColumnSet (edges_of sort all rows) (edges_are_sets laws sort all rows))
    (subst (λ es. Lists (IsMinimal (MeetsAll es)) sets) (sym (edges_are sort all rows))
    (keys_meet (are_similar sort) (differ sort) (pair_laws laws sort) all all_set rows sets listed))

transversals_of_pairs : Laws → MinimalKeysAreListed → (sort : Sort) (all : ℕ) (rows : List (List Value)) → IsColumnSet all
    → minimal_keys sort all rows ≡ transversals (edges_of sort all rows)
transversals_of_pairs laws listed sort all rows all_set = one_list laws sort all rows (minimal_keys sort all rows) all_set (listed sort all rows all_set)

same_members : (sort : Sort) (all : ℕ) (rows : List (List Value)) (sets : List ℕ) → InOrder (edges_of sort all rows) sets → HaveTheSame sets (edges_of sort all rows)
same_members sort all rows sets ordered = (ordered.only, ordered.every)

pub keys_are_transversals : Laws → MinimalKeysAreListed → MinimalKeysAreTransversals
keys_are_transversals laws listed = record {
  one = λ sort all rows sets all_set lists. one_list laws sort all rows sets all_set lists ∙ sym (transversals_of_pairs laws listed sort all rows all_set);
  keys = λ sort all rows edges all_set ordered.
      laws.order.sets edges (edges_of sort all rows)
      (all_inside IsColumnSet edges (λ edge there. edges_are_sets laws sort all rows edge (ordered.only edge there)))
      (all_inside IsColumnSet (edges_of sort all rows) (edges_are_sets laws sort all rows))
      (same_members sort all rows edges ordered)
      ∙ sym (transversals_of_pairs laws listed sort all rows all_set);
  limit = λ sort all rows edges most ordered. laws.order.limit most edges (edges_of sort all rows) (same_members sort all rows edges ordered);
}

-- ---- why no keys are told

beyond_same : (sort : Sort) (xs ys : List ℕ) → edge_limit 4096 xs ≡ edge_limit 4096 ys → beyond sort xs ≡ beyond sort ys
beyond_same sort xs ys same = ap (option_map _) same

pub refusal_is : MinimalKeysAreTransversals → (all : ℕ) (rows : List (List Value)) (apart_edges not_same_edges : List ℕ) → nat_lt 8192 (length rows) ≡ false
    → InOrder (edges_of Certain all rows) apart_edges → InOrder (edges_of Possible all rows) not_same_edges
    → either_beyond apart_edges not_same_edges ≡ refusal all rows
unfolding either_beyond refusal
refusal_is laws all rows apart_edges not_same_edges few certain possible =
    rw (few, laws.limit Certain all rows apart_edges 4096 certain, laws.limit Possible all rows not_same_edges 4096 possible) refl

pub too_many_rows : (all : ℕ) (rows : List (List Value)) → 8192 < length rows → refusal all rows ≡ Some (TooManyRows (length rows))
unfolding refusal
too_many_rows all rows more = rw (lt-ltb 8192 (length rows) more) refl

pub told_first : (certain possible : List ℕ) (e : DiscErr) → IsTold (beyond Certain certain) e → IsTold (either_beyond certain possible) e
unfolding either_beyond
told_first certain possible (TooManyRows n) told = ap (λ (o : Option DiscErr). option_or o (beyond Possible possible)) told
told_first certain possible (TooMany sort edge) told = ap (λ (o : Option DiscErr). option_or o (beyond Possible possible)) told
told_first certain possible Memory told = tt

pub told_second : (certain possible : List ℕ) (e : DiscErr) → beyond Certain certain ≡ None → IsTold (beyond Possible possible) e → IsTold (either_beyond certain possible) e
unfolding either_beyond
told_second certain possible (TooManyRows n) none told = ap (λ (o : Option DiscErr). option_or o (beyond Possible possible)) none ∙ told
told_second certain possible (TooMany sort edge) none told = ap (λ (o : Option DiscErr). option_or o (beyond Possible possible)) none ∙ told
told_second certain possible Memory none told = tt

pub neither_beyond : (certain possible : List ℕ) → beyond Certain certain ≡ None → beyond Possible possible ≡ None → either_beyond certain possible ≡ None
unfolding either_beyond
neither_beyond certain possible none few = ap (λ (o : Option DiscErr). option_or o (beyond Possible possible)) none ∙ few

-- ---- the same of sets that are known to be one

pub keys_from : MinimalKeysAreTransversals → (sort : Sort) (whole all : ℕ) (rows : List (List Value)) (edges : List ℕ) → all ≡ whole → IsColumnSet whole
    → InOrder (edges_of sort all rows) edges → transversals edges ≡ minimal_keys sort whole rows
keys_from laws sort whole all rows edges same whole_set ordered =
    laws.keys sort whole rows edges whole_set (subst (λ x. InOrder (edges_of sort x rows) edges) same ordered)

pub refusal_from : MinimalKeysAreTransversals → (whole all : ℕ) (rows : List (List Value)) (apart_edges not_same_edges : List ℕ) → all ≡ whole → nat_lt 8192 (length rows) ≡ false
    → InOrder (edges_of Certain all rows) apart_edges → InOrder (edges_of Possible all rows) not_same_edges
    → either_beyond apart_edges not_same_edges ≡ refusal whole rows
refusal_from laws whole all rows apart_edges not_same_edges same few certain possible =
    refusal_is laws all rows apart_edges not_same_edges few certain possible ∙ ap (λ x. refusal x rows) same
