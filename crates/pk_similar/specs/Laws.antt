-- What similarity decides. `kinds` are those of a table's columns, a, b and rows its rows, and cs any list of columns.
use Rattle.std.specs.Prelude.{◌≡◌, ℕ, ◌<◌, Bool, not, List, length, map, IsTrue, IsFalse, Some, slice_get}
use Rattle.std.specs.List.{list_all, list_any}
use Rattle.pk_values.specs.declared.kind.Kind.{Kind}
use Rattle.pk_values.specs.declared.value.Value.{Value}
use Rattle.pk_values.specs.Values.{fits_kinds, value_at}
use Rattle.pk_similar.specs.Completions.{CompletesRow, AgreeOn, Certain, Possible}
use Rattle.pk_similar.specs.Similarity.{are_below, is_among, weak, strong, apart, not_same, no_pair}
use Rattle.pk_similar.specs.Filling.{fill_values}

-- all rows of the table fit its kinds
abbrev pub all_fit : List Kind → List (List Value) → Bool
all_fit kinds rows = list_all (fits_kinds kinds) rows

-- A certain key holds exactly where no two distinct places are weakly similar.
abbrev pub CertainIsNoWeakPair : Type 0
CertainIsNoWeakPair =
    (kinds : List Kind) (rows : List (List Value)) (cs : List ℕ)
    → IsTrue (all_fit kinds rows) → IsTrue (are_below (length kinds) cs)
    → (Certain kinds rows cs → IsTrue (no_pair (weak cs) rows)) × (IsTrue (no_pair (weak cs) rows) → Certain kinds rows cs)

-- A possible key holds exactly where no two distinct places are strongly similar.
abbrev pub PossibleIsNoStrongPair : Type 0
PossibleIsNoStrongPair =
    (kinds : List Kind) (rows : List (List Value)) (cs : List ℕ)
    → IsTrue (all_fit kinds rows) → IsTrue (are_below (length kinds) cs)
    → (Possible kinds rows cs → IsTrue (no_pair (strong cs) rows)) × (IsTrue (no_pair (strong cs) rows) → Possible kinds rows cs)

-- A possible key holds where the certain one does.
abbrev pub CertainIsPossible : Type 0
CertainIsPossible =
    (kinds : List Kind) (rows : List (List Value)) (cs : List ℕ)
    → IsTrue (all_fit kinds rows) → Certain kinds rows cs → Possible kinds rows cs

-- a completion of each of the two rows
abbrev pub CompletesBoth : List Kind → List Value → List Value → List Value → List Value → Type 0
CompletesBoth kinds a b full_a full_b = CompletesRow kinds a full_a × CompletesRow kinds b full_b

-- some completion of the two rows has them agree
abbrev pub MayAgree : List Kind → List Value → List Value → List ℕ → Type 0
MayAgree kinds a b cs = (full_a full_b : List Value) × CompletesBoth kinds a b full_a full_b × AgreeOn cs full_a full_b

-- every completion of the two rows has them agree
abbrev pub MustAgree : List Kind → List Value → List Value → List ℕ → Type 0
MustAgree kinds a b cs = (full_a full_b : List Value) → CompletesBoth kinds a b full_a full_b → AgreeOn cs full_a full_b

-- Two rows are weakly similar exactly where some completion has them agree.
abbrev pub WeakIsMayAgree : Type 0
WeakIsMayAgree =
    (kinds : List Kind) (a b : List Value) (cs : List ℕ)
    → IsTrue (fits_kinds kinds a) → IsTrue (fits_kinds kinds b) → IsTrue (are_below (length kinds) cs)
    → (IsTrue (weak cs a b) → MayAgree kinds a b cs) × (MayAgree kinds a b cs → IsTrue (weak cs a b))

-- Two rows are strongly similar exactly where every completion has them agree.
abbrev pub StrongIsMustAgree : Type 0
StrongIsMustAgree =
    (kinds : List Kind) (a b : List Value) (cs : List ℕ)
    → IsTrue (fits_kinds kinds a) → IsTrue (fits_kinds kinds b) → IsTrue (are_below (length kinds) cs)
    → (IsTrue (strong cs a b) → MustAgree kinds a b cs) × (MustAgree kinds a b cs → IsTrue (strong cs a b))

-- the row has these values on the columns
abbrev pub HasValues : List ℕ → List Value → List Value → Type 0
HasValues cs row values = map (value_at row) cs ≡ values

-- Weakly similar rows have a completion in which both have the values that `fill` gives.
abbrev pub FillCompletesWeak : Type 0
FillCompletesWeak =
    (kinds : List Kind) (a b : List Value) (cs : List ℕ)
    → IsTrue (fits_kinds kinds a) → IsTrue (fits_kinds kinds b) → IsTrue (are_below (length kinds) cs)
    → IsTrue (weak cs a b)
    → (full_a full_b : List Value) × CompletesBoth kinds a b full_a full_b
    × HasValues cs full_a (fill_values kinds cs a b) × HasValues cs full_b (fill_values kinds cs a b)

-- Strongly similar rows both have the values that `fill` gives already.
abbrev pub FillKeepsStrong : Type 0
FillKeepsStrong =
    (kinds : List Kind) (a b : List Value) (cs : List ℕ)
    → IsTrue (strong cs a b)
    → HasValues cs a (fill_values kinds cs a b) × HasValues cs b (fill_values kinds cs a b)

-- Which row is named first tells nothing.
abbrev pub WeakIsSymmetric : Type 0
WeakIsSymmetric = (a b : List Value) (cs : List ℕ) → weak cs a b ≡ weak cs b a

-- The same of strong similarity.
abbrev pub StrongIsSymmetric : Type 0
StrongIsSymmetric = (a b : List Value) (cs : List ℕ) → strong cs a b ≡ strong cs b a

-- Strongly similar rows are weakly similar.
abbrev pub StrongIsWeak : Type 0
StrongIsWeak = (a b : List Value) (cs : List ℕ) → IsTrue (strong cs a b) → IsTrue (weak cs a b)

-- On some of the columns `all`, rows are weakly similar exactly where they are apart at none of these.
abbrev pub WeakMeetsNoneApart : Type 0
WeakMeetsNoneApart =
    (a b : List Value) (all cs : List ℕ) → IsTrue (list_all (is_among all) cs)
    → weak cs a b ≡ not (list_any (is_among (apart all a b)) cs)

-- On some of the columns `all`, rows are strongly similar exactly where at each of these they are known to be the same.
abbrev pub StrongMeetsNoneNotSame : Type 0
StrongMeetsNoneNotSame =
    (a b : List Value) (all cs : List ℕ) → IsTrue (list_all (is_among all) cs)
    → strong cs a b ≡ not (list_any (is_among (not_same all a b)) cs)

-- Where no two rows are related, none at an earlier place is related to one at a later place.
abbrev pub NoPairStands : Type 0
NoPairStands =
    (related : List Value → List Value → Bool) (rows : List (List Value)) → IsTrue (no_pair related rows)
    → (i j : ℕ) (a b : List Value) → i < j → slice_get rows i ≡ Some a → slice_get rows j ≡ Some b → IsFalse (related a b)

-- Else two rows are related, at an earlier place and a later one.
abbrev pub PairIsFound : Type 0
PairIsFound =
    (related : List Value → List Value → Bool) (rows : List (List Value)) → IsFalse (no_pair related rows)
    → (i j : ℕ) × (a b : List Value) × (i < j) × (slice_get rows i ≡ Some a) × (slice_get rows j ≡ Some b) × IsTrue (related a b)
