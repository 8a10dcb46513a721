-- Rows in the order of their ids, and tables whose rows are changed.
use Rattle.std.proofs.Common.{◌≡◌, ℕ, zero, ◌+◌, ◌≤◌, ◌<◌, Bool, true, false, ◌==◌, List, [], ◌∷◌, length, set, get_or, Result, Ok, Err, refl, ap, sym, arith, All, if◌then◌else◌, suc, subst, inl, inr}
use Rattle.std.specs.Prelude.{filter, nat_lt, cond, insert}
use Rattle.std.specs.List.{AllByRecursion}
use Rattle.std.specs.List.Sorted.{IsBinarySearchResult, IsNonDecreasingBy, IsStrictlySortedBy}
use Rattle.std.specs.Ordering.{nat_cmp, ordering_index}
use Rattle.std.specs.Cmp.{nat_cmp_is}
use Rattle.std.specs.declared.cmp.Ordering.TheVariants.{Less}
use Rattle.std.proofs.lemmas.Bool.{cases_lt, eqb-true, eqb-false, eq-eqb, ne_eqb, ltb-true, ltb-false, lt-ltb, le-ltb}
use Rattle.std.proofs.lemmas.List.Elements.{All-from_recursion, recursion_from_All}
use Rattle.pk_values.specs.declared.placed.Placed.{Placed}
use Rattle.pk_values.specs.declared.changes.Changes.{Changes}
use Rattle.pk_exec.specs.Rows.{AscendFrom, ids_of}
use Rattle.pk_guard.specs.Changed.{RowsAscend, put_row, put_rows, stays}
use Rattle.pk_engine.specs.Base.{Table, changed_by}
use Rattle.pk_engine.specs.Valid.{IsValidTable}
use Rattle.pk_values.proofs.NumberLemmas.{less_numbers}
use Rattle.pk_values.proofs.SearchLemmas.{equal_numbers, greater_numbers, index_least}

-- changes of rows leave a table's name and its schema
pub changed_is_same : (c : Changes) (t : Table) → ((changed_by c t).name ≡ t.name) × ((changed_by c t).shape ≡ t.shape)
unfolding changed_by
changed_is_same c t = (refl, refl)

-- ---- ids that ascend

-- all ids are at least this
abbrev pub AreFrom : ℕ → List Placed → Type 0
AreFrom least rows = AllByRecursion (λ p. least ≤ p.id) rows

pub from_lower : (low high : ℕ) (ps : List Placed) → low ≤ high → AreFrom high ps → AreFrom low ps
from_lower low high [] le from = tt
from_lower low high (p ∷ ps) le from = (omega (arith, le, from.0), from_lower low high ps le from.1)

pub all_above : (low : ℕ) (ps : List Placed) → AreFrom (low + 1) ps → AllByRecursion (λ id. nat_cmp low id ≡ Less) (ids_of ps)
all_above low [] from = tt
all_above low (p ∷ ps) from = (sym (nat_cmp_is low p.id Less (omega (arith, from.0))), all_above low ps from.1)

behind_first : (least : ℕ) (p : Placed) (ps : List Placed) → AscendFrom least (p ∷ ps) → AscendFrom (p.id + 1) ps
unfolding IsStrictlySortedBy
behind_first least p ps up = (up.0.1, above ps up.0.0)
  where
    above : (qs : List Placed) → AllByRecursion (λ k. nat_cmp p.id k ≡ Less) (ids_of qs) → AreFrom (p.id + 1) qs
    above [] all = tt
    above (q ∷ qs) all = (omega (arith, less_numbers p.id q.id all.0), above qs all.1)

ascend_with : (least : ℕ) (p : Placed) (ps : List Placed) → least ≤ p.id → AscendFrom (p.id + 1) ps → AscendFrom least (p ∷ ps)
unfolding IsStrictlySortedBy
ascend_with least p ps le up = ((all_above p.id ps up.1, up.0), (le, from_lower least (p.id + 1) ps (omega (arith, le)) up.1))

from_zero : (rows : List Placed) → RowsAscend rows → AscendFrom 0 rows
from_zero rows up = (up, all rows)
  where
    all : (ps : List Placed) → AreFrom 0 ps
    all [] = tt
    all (p ∷ ps) = (omega arith, all ps)

-- each id is above those before it, none is below the least, and all are below the next
abbrev pub IdsRise : ℕ → List Placed → ℕ → Type 0
IdsRise least [] next = least ≤ next
IdsRise least (p ∷ ps) next = (least ≤ p.id) × IdsRise (p.id + 1) ps next

-- so they do in a valid table
pub rises : (t : Table) → IsValidTable t → IdsRise 1 t.rows t.next
rises t valid = go 1 t.rows valid.ids (recursion_from_All (λ (p : Placed). p.id < t.next) t.rows valid.below) valid.first
  where
    go : (least : ℕ) (ps : List Placed) → AscendFrom least ps → AllByRecursion (λ (p : Placed). p.id < t.next) ps → least ≤ t.next → IdsRise least ps t.next
    go least [] up below le = le
    go least (p ∷ ps) up below le = (up.1.0, go (p.id + 1) ps (behind_first least p ps up) below.1 (omega (arith, below.0)))

pub rise_from : (least next : ℕ) (ps : List Placed) → IdsRise least ps next → AreFrom least ps
rise_from least next [] rise = tt
rise_from least next (p ∷ ps) rise = (rise.0, from_lower least (p.id + 1) ps (omega (arith, rise.0)) (rise_from (p.id + 1) next ps rise.1))

pub rise_sorted : (least next : ℕ) (ps : List Placed) → IdsRise least ps next → RowsAscend ps
unfolding IsStrictlySortedBy
rise_sorted least next [] rise = tt
rise_sorted least next (p ∷ ps) rise = (all_above p.id ps (rise_from (p.id + 1) next ps rise.1), rise_sorted (p.id + 1) next ps rise.1)

pub rise_ascends : (least next : ℕ) (ps : List Placed) → IdsRise least ps next → AscendFrom least ps
rise_ascends least next ps rise = (rise_sorted least next ps rise, rise_from least next ps rise)

pub rise_room : (least next : ℕ) (ps : List Placed) → IdsRise least ps next → least ≤ next
rise_room least next [] rise = rise
rise_room least next (p ∷ ps) rise = (let rest = rise_room (p.id + 1) next ps rise.1 in omega (arith, rise.0, rest))

pub rise_below : (least next : ℕ) (ps : List Placed) → IdsRise least ps next → All (λ (p : Placed). p.id < next) ps
rise_below least next ps rise = All-from_recursion (λ (p : Placed). p.id < next) ps (go least ps rise)
  where
    go : (least : ℕ) (qs : List Placed) → IdsRise least qs next → AllByRecursion (λ (p : Placed). p.id < next) qs
    go least [] rise = tt
    go least (q ∷ qs) rise = (let room = rise_room (q.id + 1) next qs rise.1 in omega (arith, room), go (q.id + 1) qs rise.1)

pub lower_rise : (low high next : ℕ) (ps : List Placed) → low ≤ high → IdsRise high ps next → IdsRise low ps next
lower_rise low high next [] le rise = omega (arith, le, rise)
lower_rise low high next (p ∷ ps) le rise = (omega (arith, le, rise.0), rise.1)

-- ---- a row is sought by its id

pub blank_row : Placed
blank_row = record { id = 0; row = [] }

rise_at : (least : ℕ) (ps : List Placed) (j : ℕ) (d : Placed) → AreFrom least ps → j < length ps → least ≤ (get_or ps j d).id
rise_at least [] j d from within = absurd (omega (arith, within))
rise_at least (p ∷ ps) zero d from within = from.0
rise_at least (p ∷ ps) (suc j) d from within = rise_at least ps j d from.1 (omega (arith, within))

ids_rise : (least : ℕ) (rows : List Placed) (i j : ℕ) (d : Placed) → AscendFrom least rows → i < j → j < length rows → (get_or rows i d).id < (get_or rows j d).id
ids_rise least [] i j d ascend lt within = absurd (omega (arith, within))
ids_rise least (r ∷ rs) i zero d ascend lt within = absurd (omega (arith, lt))
ids_rise least (r ∷ rs) zero (suc j) d ascend lt within =
    let above = rise_at (r.id + 1) rs j d (behind_first least r rs ascend).1 (omega (arith, within)) in
    omega (arith, above)
ids_rise least (r ∷ rs) (suc i) (suc j) d ascend lt within = ids_rise (r.id + 1) rs i j d (behind_first least r rs ascend) (omega (arith, lt)) (omega (arith, within))

comparisons_rise : (id : ℕ) (rows : List Placed) → AscendFrom 0 rows → IsNonDecreasingBy (λ (p : Placed). ordering_index (nat_cmp p.id id)) rows
comparisons_rise id rows ascend i j d le within = elim (cases_lt i j) as (λ _. ordering_index (nat_cmp (get_or rows i d).id id) ≤ ordering_index (nat_cmp (get_or rows j d).id id)) [
  | inl lt ↦ index_least (get_or rows i d).id (get_or rows j d).id id (let rise = ids_rise 0 rows i j d ascend lt within in omega (arith, rise))
  | inr ge ↦ (let same : i ≡ j = omega (arith, le, ge) in rw same (omega arith))
]

-- what a search finds has the id
found_id : (rows : List Placed) (id place : ℕ) (r : Result ℕ ℕ) → IsBinarySearchResult (λ (p : Placed). nat_cmp p.id id) rows r → r ≡ Ok place
    → (get_or rows place blank_row).id ≡ id
found_id rows id place (Ok i) is found = (let same : i ≡ place = cc in rw (← same) (equal_numbers (get_or rows i blank_row).id id (is blank_row)))
found_id rows id place (Err i) is found = absurd cc

-- ---- a row is put

put_there : (p : Placed) (least : ℕ) (rows : List Placed) (i : ℕ) → AscendFrom least rows → i < length rows → (get_or rows i blank_row).id ≡ p.id
    → set rows i p ≡ put_row p rows
unfolding put_row
put_there p least [] i ascend within same = absurd (omega (arith, within))
put_there p least (r ∷ rs) zero ascend within same = rw (le-ltb r.id p.id (omega (arith, same)), eq-eqb r.id p.id same) refl
put_there p least (r ∷ rs) (suc i) ascend within same =
    let above = rise_at (r.id + 1) rs i blank_row (behind_first least r rs ascend).1 (omega (arith, within)) in
    rw (lt-ltb r.id p.id (omega (arith, above, same)))
    (ap (λ (rest : List Placed). r ∷ rest) (put_there p (r.id + 1) rs i (behind_first least r rs ascend) (omega (arith, within)) same))

put_between : (p : Placed) (rows : List Placed) (i : ℕ) → i ≤ length rows → ((k : ℕ) → k < i → (get_or rows k blank_row).id < p.id)
    → ((k : ℕ) → i ≤ k → k < length rows → p.id < (get_or rows k blank_row).id) → insert rows i p ≡ put_row p rows
unfolding put_row
put_between p [] zero most before behind = refl
put_between p [] (suc i) most before behind = absurd (omega (arith, most))
put_between p (r ∷ rs) zero most before behind =
    let less : p.id < r.id = behind 0 (omega arith) (omega arith) in
    rw (le-ltb r.id p.id (omega (arith, less)), ne_eqb r.id p.id (λ e. omega (arith, e, less))) refl
put_between p (r ∷ rs) (suc i) most before behind =
    rw (lt-ltb r.id p.id (before 0 (omega arith)))
    (ap (λ (rest : List Placed). r ∷ rest)
    (put_between p rs i (omega (arith, most)) (λ k h. before (suc k) (omega (arith, h))) (λ k low high. behind (suc k) (omega (arith, low)) (omega (arith, high)))))

-- in the place of the one with its id, where the search finds it
pub put_found : (p : Placed) (rows : List Placed) (place : ℕ) (r : Result ℕ ℕ) → RowsAscend rows → IsBinarySearchResult (λ (q : Placed). nat_cmp q.id p.id) rows r
    → r ≡ Ok place → place < length rows → set rows place p ≡ put_row p rows
put_found p rows place r up is found within = put_there p 0 rows place (from_zero rows up) within (found_id rows p.id place r is found)

-- and else at the place to which the search leads
pub put_missed : (p : Placed) (rows : List Placed) (place : ℕ) (r : Result ℕ ℕ) → RowsAscend rows → IsBinarySearchResult (λ (q : Placed). nat_cmp q.id p.id) rows r
    → r ≡ Err place → place ≤ length rows → insert rows place p ≡ put_row p rows
put_missed p rows place (Ok i) up is missed most = absurd cc
put_missed p rows place (Err i) up is missed most =
    let same : i ≡ place = cc in
    let w = is (comparisons_rise p.id rows (from_zero rows up)) in
    rw (← same)
    (put_between p rows i (omega (arith, same, most)) (λ k h. less_numbers (get_or rows k blank_row).id p.id (w.0 k blank_row (omega arith) h))
    (λ k low high. greater_numbers (get_or rows k blank_row).id p.id (w.1 k blank_row low high)))

put_from : (p : Placed) (least : ℕ) (rows : List Placed) → AscendFrom least rows → least ≤ p.id → AscendFrom least (put_row p rows)
unfolding put_row IsStrictlySortedBy
put_from p least [] up le = ascend_with least p [] le (tt, tt)
put_from p least (q ∷ qs) up le = by_order (nat_lt q.id p.id) refl (put_from p (q.id + 1) qs (behind_first least q qs up))
  where
    by_same : (b : Bool) → (q.id == p.id) ≡ b → p.id ≤ q.id → AscendFrom least (if b then p ∷ qs else p ∷ q ∷ qs)
    by_same true same most = ascend_with least p qs le (subst (λ (n : ℕ). AscendFrom (n + 1) qs) (eqb-true q.id p.id same) (behind_first least q qs up))
    by_same false differ most =
        let apart = eqb-false q.id p.id differ in
        ascend_with least p (q ∷ qs) le (ascend_with (p.id + 1) q qs (omega (arith, most, apart)) (behind_first least q qs up))

    by_order : (b : Bool) → nat_lt q.id p.id ≡ b → (q.id + 1 ≤ p.id → AscendFrom (q.id + 1) (put_row p qs))
        → AscendFrom least (if b then q ∷ put_row p qs else if q.id == p.id then p ∷ qs else p ∷ q ∷ qs)
    by_order true less deeper = (let lt = ltb-true q.id p.id less in ascend_with least q (put_row p qs) up.1.0 (deeper (omega (arith, lt))))
    by_order false most deeper = by_same (q.id == p.id) refl (ltb-false q.id p.id most)

-- the ids ascend still
pub put_ascends : (p : Placed) (rows : List Placed) → RowsAscend rows → RowsAscend (put_row p rows)
put_ascends p rows up = (put_from p 0 rows (from_zero rows up) (omega arith)).0

-- rows put one behind the other, as a loop computes them
abbrev pub put_each : List Placed → List Placed → List Placed
put_each [] rows = rows
put_each (p ∷ ps) rows = put_each ps (put_row p rows)

pub put_each_is : (ps rows : List Placed) → put_each ps rows ≡ put_rows ps rows
unfolding put_rows
put_each_is [] rows = refl
put_each_is (p ∷ ps) rows = put_each_is ps (put_row p rows)

-- ---- rows that are taken out

-- where no id is given nothing is taken out
pub none_out : (ids : List ℕ) (rows : List Placed) → length ids ≡ 0 → rows ≡ filter (stays ids) rows
none_out [] [] none = refl
none_out [] (p ∷ ps) none = ap (λ (rest : List Placed). p ∷ rest) (none_out [] ps none)
none_out (k ∷ ks) rows none = absurd (omega (arith, none))

left_from : (keeps : Placed → Bool) (least : ℕ) (ps : List Placed) → AscendFrom least ps → AscendFrom least (filter keeps ps)
left_from keeps least [] up = up
left_from keeps least (p ∷ ps) up = go (keeps p) (filter keeps ps) (left_from keeps (p.id + 1) ps (behind_first least p ps up))
  where
    go : (b : Bool) (us : List Placed) → AscendFrom (p.id + 1) us → AscendFrom least (cond b (p ∷ us) us)
    go true us rest = ascend_with least p us up.1.0 rest
    go false us rest = (rest.0, from_lower least (p.id + 1) us (omega (arith, up.1.0)) rest.1)

-- ids ascend still where some rows are taken out
pub left_ascend : (keeps : Placed → Bool) (ps : List Placed) → RowsAscend ps → RowsAscend (filter keeps ps)
left_ascend keeps ps up = (left_from keeps 0 ps (from_zero ps up)).0

-- ---- tests on ids

pub other_id : (m n : ℕ) → m < n → (m == n) ≡ false
other_id m n lt = grind (arith, lt)

pub other_above : (m n : ℕ) → n + 1 ≤ m → (m == n) ≡ false
other_above m n le = grind (arith, le)
