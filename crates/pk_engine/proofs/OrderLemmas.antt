use Rattle.std.proofs.Common.{◌≡◌, ℕ, ◌≤◌, ◌<◌, Bool, true, false, List, [], ◌∷◌, Option, Some, None, Result, Ok, Err, length, map, get_or, if◌then◌else◌, ap, refl, subst, sym, arith, ◌∙◌, Ordering, inl, inr}
use Rattle.std.specs.List.{AllByRecursion, position}
use Rattle.std.proofs.lemmas.Slice.Eq.{bytes_eq-Decides}
use Rattle.std.specs.List.Sorted.{IsStrictlySortedBy, IsSearchInRange, IsBinarySearchResult, IsNonDecreasingBy}
use Rattle.std.specs.Ordering.{nat_cmp, is_lt, is_eq, ordering_reverse, ordering_index}
use Rattle.std.specs.declared.cmp.Ordering.TheVariants.{Less, Equal, Greater}
use Rattle.std.specs.Cmp.Lexicographic.{slice_cmp}
use Rattle.std.specs.Str.{bytes_eq}
use Rattle.std.proofs.lemmas.Cmp.{nat_list_cmp_total}
use Rattle.std.proofs.lemmas.Map.Text.{is_eq-slice_cmp}
use Rattle.std.proofs.lemmas.Map.Keys.{Less-from_sorted}
use Rattle.std.proofs.lemmas.List.Sums.{position_or_len_is}
use Rattle.std.proofs.lemmas.List.{get_or-map, length-map}
use Rattle.std.proofs.lemmas.Bool.{cases_lt}
use Rattle.pk_values.specs.declared.changes.Changes.{Changes}
use Rattle.pk_engine.specs.Base.{Table, IsInNameOrder, is_named, comes_before, table_named, with_table, without_table, changed_by, change_table}
use Rattle.pk_engine.specs.Place.{IsPlaceOf}
use Rattle.pk_engine.proofs.ListLemmas.{position_at, no_position}
use Rattle.pk_engine.proofs.RowLemmas.{changed_is_same}

abbrev names : List Table → List (List ℕ)
names ts = map (λ t. t.name) ts

-- ---- the order is kept

pub order_empty : IsInNameOrder []
unfolding IsStrictlySortedBy
order_empty = tt

-- what holds of the names and of the new one holds of all
names_with : (P : List ℕ → Type 0) (t : Table) (ts : List Table) → P t.name → AllByRecursion P (names ts) → AllByRecursion P (names (with_table t ts))
unfolding with_table
names_with P t [] p ps = (p, tt)
names_with P t (u ∷ us) p ps = elim (comes_before t.name u.name) as (λ b. AllByRecursion P (names (if b then t ∷ u ∷ us else u ∷ with_table t us))) [
  | true ↦ (p, ps)
  | false ↦ (ps.0, names_with P t us p ps.1)
]

-- a name above one is above those below it
names_above : (a b : List ℕ) (ns : List (List ℕ)) → slice_cmp nat_cmp a b ≡ Less → AllByRecursion (λ n. slice_cmp nat_cmp b n ≡ Less) ns → AllByRecursion (λ n. slice_cmp nat_cmp a n ≡ Less) ns
names_above a b [] less all = tt
names_above a b (n ∷ ns) less all = (nat_list_cmp_total.trans a b n less all.0, names_above a b ns less all.1)

less_from_lt : (o : Ordering) → is_lt o ≡ true → o ≡ Less
less_from_lt Less lt = refl
less_from_lt Equal lt = absurd (cc)
less_from_lt Greater lt = absurd (cc)

less_from_reverse : (o r : Ordering) → is_lt o ≡ false → is_eq r ≡ false → r ≡ ordering_reverse o → r ≡ Less
less_from_reverse Less r lt eq is = absurd (cc)
less_from_reverse Equal r lt eq is = absurd (cc)
less_from_reverse Greater r lt eq is = is

-- of two names that aren't the same one comes before the other
other_order : (a b : List ℕ) → comes_before a b ≡ false → bytes_eq b a ≡ false → slice_cmp nat_cmp b a ≡ Less
other_order a b order differ = less_from_reverse (slice_cmp nat_cmp a b) (slice_cmp nat_cmp b a) order (is_eq-slice_cmp b a ∙ differ) (nat_list_cmp_total.antisymm b a)

rise_step : (t u : Table) (us : List Table) (b : Bool) → comes_before t.name u.name ≡ b → bytes_eq u.name t.name ≡ false
    → IsStrictlySortedBy (slice_cmp nat_cmp) (names (u ∷ us)) → IsStrictlySortedBy (slice_cmp nat_cmp) (names (with_table t us))
    → IsStrictlySortedBy (slice_cmp nat_cmp) (names (if b then t ∷ u ∷ us else u ∷ with_table t us))
unfolding IsStrictlySortedBy
rise_step t u us true before differ rise rest =
    let less = less_from_lt (slice_cmp nat_cmp t.name u.name) before in
    ((less, names_above t.name u.name (names us) less rise.0), rise)
rise_step t u us false before differ rise rest =
    (names_with (λ n. slice_cmp nat_cmp u.name n ≡ Less) t us (other_order t.name u.name before differ) rise.0, rest)

none_head : (b : Bool) (t : Table) (o : Option Table) → if b then Some t else o ≡ None → (b ≡ false) × (o ≡ None)
none_head true t o none = absurd (cc)
none_head false t o none = (refl, none)

-- a new table, whose name none of the others has, goes where its name belongs
pub order_with : (t : Table) (ts : List Table) → IsInNameOrder ts → table_named t.name ts ≡ None → IsInNameOrder (with_table t ts)
unfolding with_table table_named IsStrictlySortedBy
order_with t [] rise new = (tt, tt)
order_with t (u ∷ us) rise new =
    let w = none_head (is_named t.name u) u (table_named t.name us) new in
    rise_step t u us (comes_before t.name u.name) refl w.0 rise (order_with t us rise.1 w.1)

names_changed : (name : List ℕ) (c : Changes) (ts : List Table) → names (change_table name c ts) ≡ names ts
unfolding change_table
names_changed name c [] = refl
names_changed name c (t ∷ ts) = elim (is_named name t) as (λ b. names (if b then changed_by c t ∷ ts else t ∷ change_table name c ts) ≡ names (t ∷ ts)) [
  | true ↦ ap (λ n. n ∷ names ts) (changed_is_same c t).0
  | false ↦ ap (λ ns. t.name ∷ ns) (names_changed name c ts)
]

-- changes of rows change no name
pub order_changed : (name : List ℕ) (c : Changes) (ts : List Table) → IsInNameOrder ts → IsInNameOrder (change_table name c ts)
order_changed name c ts order = rw (names_changed name c ts) order

names_without : (P : List ℕ → Type 0) (name : List ℕ) (ts : List Table) → AllByRecursion P (names ts) → AllByRecursion P (names (without_table name ts))
unfolding without_table
names_without P name [] ps = tt
names_without P name (t ∷ ts) ps = elim (is_named name t) as (λ b. AllByRecursion P (names (if b then ts else t ∷ without_table name ts))) [
  | true ↦ ps.1
  | false ↦ (ps.0, names_without P name ts ps.1)
]

-- without one table the others stand as they stood
pub order_without : (name : List ℕ) (ts : List Table) → IsInNameOrder ts → IsInNameOrder (without_table name ts)
unfolding without_table IsStrictlySortedBy
order_without name [] rise = tt
order_without name (t ∷ ts) rise = elim (is_named name t) as (λ b. IsStrictlySortedBy (slice_cmp nat_cmp) (names (if b then ts else t ∷ without_table name ts))) [
  | true ↦ rise.1
  | false ↦ (names_without (λ n. slice_cmp nat_cmp t.name n ≡ Less) name ts rise.0, order_without name ts rise.1)
]

-- ---- a search by name

-- what comes before a name comes before every equal one
before_equal : (a b x : List ℕ) → slice_cmp nat_cmp a b ≡ Less → slice_cmp nat_cmp b x ≡ Equal → slice_cmp nat_cmp a x ≡ Less
before_equal a b x less equal =
    let order = nat_list_cmp_total in
    order.antisymm a x ∙ ap ordering_reverse (sym (order.congr b x a equal) ∙ order.antisymm b a ∙ ap ordering_reverse less)

index_most : (o : Ordering) → ordering_index o ≤ 2
index_most Less = omega arith
index_most Equal = omega arith
index_most Greater = omega arith

-- a name that comes before another compares no higher with a third
compares_lower : (a b x : List ℕ) (o : Ordering) → slice_cmp nat_cmp a b ≡ Less → slice_cmp nat_cmp b x ≡ o → ordering_index (slice_cmp nat_cmp a x) ≤ ordering_index o
compares_lower a b x Less less is = rw (nat_list_cmp_total.trans a b x less is) (omega arith)
compares_lower a b x Equal less is = rw (before_equal a b x less is) (omega arith)
compares_lower a b x Greater less is = index_most (slice_cmp nat_cmp a x)

-- of two tables the one that stands first has the lesser name
names_rise : (ts : List Table) (i j : ℕ) (d : Table) → IsInNameOrder ts → i < j → j < length ts → slice_cmp nat_cmp (get_or ts i d).name (get_or ts j d).name ≡ Less
names_rise ts i j d order lt within =
    let name = λ (t : Table). t.name in
    let at_i = get_or-map name ts i d d.name (omega arith) in
    let at_j = get_or-map name ts j d d.name within in
    let less = Less-from_sorted (slice_cmp nat_cmp) (names ts) i j d.name order lt (rw (length-map ts name) within) in
    rw (at_i, at_j) at less

-- the comparisons with a name rise along the tables, as a binary search asks
comparisons_rise : (name : List ℕ) (ts : List Table) → IsInNameOrder ts → IsNonDecreasingBy (λ t. ordering_index (slice_cmp nat_cmp t.name name)) ts
comparisons_rise name ts order i j d le within = elim (cases_lt i j) as (λ _. ordering_index (slice_cmp nat_cmp (get_or ts i d).name name) ≤ ordering_index (slice_cmp nat_cmp (get_or ts j d).name name)) [
  | inl lt ↦ compares_lower (get_or ts i d).name (get_or ts j d).name name _ (names_rise ts i j d order lt within) refl
  | inr ge ↦ (let same : i ≡ j = omega arith in rw same (omega arith))
]

not_named : (name : List ℕ) (t : Table) (o : Ordering) → slice_cmp nat_cmp t.name name ≡ o → is_named name t ≡ is_eq o
not_named name t o is = sym (is_eq-slice_cmp t.name name) ∙ ap is_eq is

comes_behind : (name : List ℕ) (t : Table) (o : Ordering) → slice_cmp nat_cmp t.name name ≡ o → comes_before name t.name ≡ is_lt (ordering_reverse o)
comes_behind name t o is = ap is_lt (nat_list_cmp_total.antisymm name t.name ∙ ap ordering_reverse is)

pub blank : Table
blank = record { name = []; shape = record { columns = []; keys = [] }; next = 0; rows = [] }

-- a binary search by name ends at the place of the name
pub searched : (name : List ℕ) (ts : List Table) (r : Result ℕ ℕ) → IsInNameOrder ts → IsSearchInRange r (length ts) → IsBinarySearchResult (λ t. slice_cmp nat_cmp t.name name) ts r → IsPlaceOf name ts r
searched name ts (Ok i) order within equal =
    let first = position_or_len_is (is_named name) ts i blank (omega (arith, within))
    (λ k lt. not_named name (get_or ts k blank) Less (before_equal (get_or ts k blank).name (get_or ts i blank).name name (names_rise ts k i blank order lt within) (equal blank)))
    (λ _. not_named name (get_or ts i blank) Equal (equal blank)) in
    position_at (is_named name) ts i first within
searched name ts (Err i) order within parted =
    let w = parted (comparisons_rise name ts order) in
    let none = position_or_len_is (is_named name) ts (length ts) blank (omega arith) (λ k lt. elim (cases_lt k i) as (λ _. is_named name (get_or ts k blank) ≡ false) [
      | inl before ↦ not_named name (get_or ts k blank) Less (w.0 k blank (omega arith) before)
      | inr behind ↦ not_named name (get_or ts k blank) Greater (w.1 k blank behind lt)
    ]) (λ lt. absurd (omega (arith, lt))) in
    let first = position_or_len_is (λ t. comes_before name t.name) ts i blank within
    (λ k lt. comes_behind name (get_or ts k blank) Less (w.0 k blank (omega arith) lt))
    (λ lt. comes_behind name (get_or ts i blank) Greater (w.1 i blank (omega arith) lt)) in
    (no_position (is_named name) ts none, first)

-- a table stands at the first place of its name
pub place_of_table : (ts : List Table) (i : ℕ) (t : Table) → IsInNameOrder ts → i < length ts → t ≡ get_or ts i blank → position (is_named t.name) ts ≡ Some i
place_of_table ts i t order within is =
    let first = position_or_len_is (is_named t.name) ts i blank (omega (arith, within))
    (λ k lt. not_named t.name (get_or ts k blank) Less (subst (λ (u : Table). slice_cmp nat_cmp (get_or ts k blank).name u.name ≡ Less) (sym is) (names_rise ts k i blank order lt within)))
    (λ _. subst (λ (u : Table). is_named t.name u ≡ true) is ((bytes_eq-Decides t.name t.name).1 refl)) in
    position_at (is_named t.name) ts i first within
