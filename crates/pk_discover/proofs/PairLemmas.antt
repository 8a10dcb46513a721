-- Keys, and the sets of columns in which two rows differ.
use Rattle.std.proofs.Common.{◌≡◌, refl, sym, ◌∙◌, ap, subst, ℕ, Bool, true, false, not, List, inl, inr}
use Rattle.std.specs.List.{Contains, list_all, list_any}
use Rattle.std.proofs.lemmas.Bool.{cases_Bool}
use Rattle.pk_values.specs.declared.value.Value.{Value}
use Rattle.pk_values.specs.ColumnSet.{IsColumnSet, columns, is_subset}
use Rattle.pk_values.specs.Values.{value_at}
use Rattle.pk_similar.specs.Laws.{NoPairStands, PairIsFound}
use Rattle.pk_similar.specs.Similarity.{is_among, weak_entries, strong_entries, apart, not_same, no_pair}
use Rattle.pk_sweep.specs.Laws.{PairsAreOfPlaces}
use Rattle.pk_sweep.specs.Pairs.{set_of, pair_sets}
use Rattle.pk_transversal.specs.Transversals.{meets}
use Rattle.pk_discover.proofs.ListLemmas.{kept_in}
use Rattle.pk_discover.proofs.SetLemmas.{part_among, meets_either}

-- what tells whether rows are similar, and what tells in which columns they differ
abbrev pub Similar : Type 0
Similar = List ℕ → List Value → List Value → Bool

abbrev pub Differ : Type 0
Differ = List ℕ → List Value → List Value → List ℕ

-- rows are similar on a part of some columns exactly where they differ in none of it
abbrev pub MeetsNone : Similar → Differ → Type 0
MeetsNone similar differ =
    (a b : List Value) (all cs : List ℕ) → list_all (is_among all) cs ≡ true → similar cs a b ≡ not (list_any (is_among (differ all a b)) cs)

-- the set in which two rows differ has just the columns in which they do
abbrev pub HasItsColumns : Differ → Type 0
HasItsColumns differ = (x : ℕ) (a b : List Value) → IsColumnSet (set_of (differ (columns x) a b)) × (columns (set_of (differ (columns x) a b)) ≡ differ (columns x) a b)

-- these are some of the columns that are looked at
abbrev pub StaysWithin : Differ → Type 0
StaysWithin differ = (cs : List ℕ) (a b : List Value) (c : ℕ) → Contains (differ cs a b) c → Contains cs c

pub apart_within : StaysWithin apart
unfolding apart
apart_within cs a b c found = (kept_in (λ k. not (weak_entries (value_at a k) (value_at b k))) cs c found).0

pub not_same_within : StaysWithin not_same
unfolding not_same
not_same_within cs a b c found = (kept_in (λ k. not (strong_entries (value_at a k) (value_at b k))) cs c found).0

-- what holds of all rows and both sorts of keys
pub record PairLaws (similar : Similar) (differ : Differ) : Type 0 where
  pub none : MeetsNone similar differ
  pub has : HasItsColumns differ
  pub within : StaysWithin differ
  pub stands : NoPairStands
  pub found : PairIsFound
  pub places : PairsAreOfPlaces

-- rows are similar on a set exactly where it doesn't meet the set in which they differ
similar_is : (similar : Similar) (differ : Differ) → PairLaws similar differ → (x all : ℕ) (a b : List Value) → IsColumnSet x → IsColumnSet all → is_subset x all ≡ true
    → similar (columns x) a b ≡ not (meets x (set_of (differ (columns all) a b)))
similar_is similar differ laws x all a b x_set all_set inside =
    laws.none a b (columns all) (columns x) (part_among x all x_set all_set inside)
    ∙ ap (λ ds. not (list_any (is_among ds) (columns x))) (sym (laws.has all a b).1)
    ∙ ap not (sym (meets_either x (set_of (differ (columns all) a b)) x_set (laws.has all a b).0))

not_false : (b : Bool) → not b ≡ false → b ≡ true
not_false true _ = refl
not_false false same = cc

both_values : (b : Bool) → b ≡ true → b ≡ not true → ⊥
both_values b one other = cc

-- a key meets each of these sets
pub key_meets : (similar : Similar) (differ : Differ) → PairLaws similar differ → (x all : ℕ) (rows : List (List Value)) → IsColumnSet x → IsColumnSet all → is_subset x all ≡ true
    → no_pair (similar (columns x)) rows ≡ true → (edge : ℕ) → Contains (pair_sets (differ (columns all)) rows) edge → meets x edge ≡ true
key_meets similar differ laws x all rows x_set all_set inside key edge there =
    let (i, j, a, b, order, first, second, is) = (laws.places (differ (columns all)) rows edge).0 there in
    ap (meets x) is
    ∙ not_false (meets x (set_of (differ (columns all) a b)))
    (sym (similar_is similar differ laws x all a b x_set all_set inside) ∙ laws.stands (similar (columns x)) rows key i j a b order first second)

-- a set that meets each of them is a key
pub meets_key : (similar : Similar) (differ : Differ) → PairLaws similar differ → (x all : ℕ) (rows : List (List Value)) → IsColumnSet x → IsColumnSet all → is_subset x all ≡ true
    → ((edge : ℕ) → Contains (pair_sets (differ (columns all)) rows) edge → meets x edge ≡ true) → no_pair (similar (columns x)) rows ≡ true
meets_key similar differ laws x all rows x_set all_set inside met =
    elim (cases_Bool (no_pair (similar (columns x)) rows)) [
      | inl holds ↦ holds
      | inr fails ↦
          let (i, j, a, b, order, first, second, related) = laws.found (similar (columns x)) rows fails in
          let edge = set_of (differ (columns all) a b) in
          let there : Contains (pair_sets (differ (columns all)) rows) edge = (laws.places (differ (columns all)) rows edge).1 (i, j, a, b, order, first, second, refl) in
          absurd (both_values (similar (columns x) a b) related (similar_is similar differ laws x all a b x_set all_set inside ∙ ap not (met edge there)))
    ]

-- they are sets of columns, inside the set that is looked at
pub edge_set : (similar : Similar) (differ : Differ) → PairLaws similar differ → (all : ℕ) (rows : List (List Value)) (edge : ℕ)
    → Contains (pair_sets (differ (columns all)) rows) edge → IsColumnSet edge
edge_set similar differ laws all rows edge there =
    let (i, j, a, b, order, first, second, is) = (laws.places (differ (columns all)) rows edge).0 there in
    subst IsColumnSet (sym is) (laws.has all a b).0

pub edge_within : (similar : Similar) (differ : Differ) → PairLaws similar differ → (all : ℕ) (rows : List (List Value)) (edge c : ℕ)
    → Contains (pair_sets (differ (columns all)) rows) edge → Contains (columns edge) c → Contains (columns all) c
edge_within similar differ laws all rows edge c there column =
    let (i, j, a, b, order, first, second, is) = (laws.places (differ (columns all)) rows edge).0 there in
    laws.within (columns all) a b c (subst (λ ds. Contains ds c) (ap columns is ∙ (laws.has all a b).1) column)
