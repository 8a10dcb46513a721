-- Places in rows whose ids ascend.
use Rattle.std.proofs.Common.{◌≡◌, ℕ, zero, suc, ◌+◌, ◌≤◌, ◌<◌, Bool, true, false, ◌==◌, ◌||◌, List, [], ◌∷◌, Some, None, length, get_or, nat_le, nat_lt, refl, ap, sym, ◌∙◌, subst, arith, if◌then◌else◌}
use Rattle.std.specs.List.{find, AllByRecursion}
use Rattle.std.specs.List.Sorted.{IsPartitionPoint, IsPartitionedBy, IsStrictlySortedBy}
use Rattle.std.specs.Ordering.{nat_cmp}
use Rattle.std.specs.declared.cmp.Ordering.TheVariants.{Less}
use Rattle.std.specs.Option.{option_map}
use Rattle.std.proofs.lemmas.Bool.{ltb-true, ltb-false, lt-ltb, le-ltb, leb-true, leb-false, le-leb, ne_eqb, eqb-false}
use Rattle.pk_values.specs.declared.placed.Placed.{Placed}
use Rattle.pk_values.proofs.NumberLemmas.{less_numbers}
use Rattle.pk_exec.specs.Rows.{AscendFrom, ids_of, rows_above, next_id, is_of, has_id, row_of}

-- behind the first row they ascend from the id next to its own
pub rest_from : (least : ℕ) (p : Placed) (ps : List Placed) → AscendFrom least (p ∷ ps) → AscendFrom (p.id + 1) ps
unfolding IsStrictlySortedBy
rest_from least p ps up = (up.0.1, above ps up.0.0)
  where
    above : (qs : List Placed) → AllByRecursion (λ k. nat_cmp p.id k ≡ Less) (ids_of qs) → AllByRecursion (λ (q : Placed). p.id + 1 ≤ q.id) qs
    above [] all = tt
    above (q ∷ qs) all = (omega (arith, less_numbers p.id q.id all.0), above qs all.1)

-- the ids rise along the rows
pub rise_at : (least : ℕ) (ps : List Placed) (j : ℕ) (d : Placed) → AscendFrom least ps → j < length ps → least ≤ (get_or ps j d).id
rise_at least [] j d up within = absurd (omega (arith, within))
rise_at least (p ∷ ps) zero d up within = up.1.0
rise_at least (p ∷ ps) (suc j) d up within = omega (arith, up.1.0, rise_at (p.id + 1) ps j d (rest_from least p ps up) (omega (arith, within)))

-- the row next behind an id stands at the place before which all ids are at most this one
pub next_at : (least id : ℕ) (ps : List Placed) (i : ℕ) (d : Placed) → AscendFrom least ps → i < length ps
    → ((k : ℕ) → k < i → (get_or ps k d).id ≤ id) → id < (get_or ps i d).id → next_id id ps ≡ Some (get_or ps i d).id
unfolding rows_above
next_at least id [] i d up within before at = absurd (omega (arith, within))
next_at least id (p ∷ ps) zero d up within before at = rw (lt-ltb id p.id at) refl
next_at least id (p ∷ ps) (suc i) d up within before at =
    rw (le-ltb id p.id (before 0 (omega arith)))
    (next_at (p.id + 1) id ps i d (rest_from least p ps up) (omega (arith, within)) (λ k h. before (suc k) (omega (arith, h))) at)

-- no row is behind an id that none is above
pub next_none : (id : ℕ) (ps : List Placed) (d : Placed) → ((k : ℕ) → k < length ps → (get_or ps k d).id ≤ id) → next_id id ps ≡ None
unfolding rows_above
next_none id [] d before = refl
next_none id (p ∷ ps) d before = rw (le-ltb id p.id (before 0 (omega arith))) (next_none id ps d (λ k h. before (suc k) (omega (arith, h))))

-- the row of an id that is there stands at the place before which all ids are below it
pub found_at : (least id : ℕ) (ps : List Placed) (i : ℕ) (d : Placed) → AscendFrom least ps → has_id ps id ≡ true → i ≤ length ps
    → ((k : ℕ) → k < i → (get_or ps k d).id < id) → ((k : ℕ) → i ≤ k → k < length ps → id ≤ (get_or ps k d).id)
    → (i < length ps) × (row_of ps id ≡ Some (get_or ps i d).row)
found_at least id [] i d up there most before behind = absurd (cc)
found_at least id (p ∷ ps) zero d up there most before behind = step (p.id == id) refl there
  where
    later : (least : ℕ) (qs : List Placed) → AscendFrom least qs → id < least → has_id qs id ≡ false
    later least [] up below = refl
    later least (q ∷ qs) up below = rw (ne_eqb q.id id (λ e. omega (arith, e, up.1.0, below))) (later (q.id + 1) qs (rest_from least q qs up) (omega (arith, up.1.0, below)))

    step : (b : Bool) → (p.id == id) ≡ b → (b || has_id ps id) ≡ true
        → (0 < length (p ∷ ps)) × (option_map (λ (x : Placed). x.row) (if b then Some p else find (is_of id) ps) ≡ Some p.row)
    step true same there = (omega arith, refl)
    step false differ there =
        let at : id ≤ p.id = behind 0 (omega arith) (omega arith) in
        let less : id < p.id = omega (arith, at, eqb-false p.id id differ) in
        absurd (cc (later (p.id + 1) ps (rest_from least p ps up) (omega (arith, less)), there))
found_at least id (p ∷ ps) (suc i) d up there most before behind =
    let below : p.id < id = before 0 (omega arith) in
    let apart = ne_eqb p.id id (λ e. omega (arith, e, below)) in
    let rest = found_at (p.id + 1) id ps i d (rest_from least p ps up) (subst (λ (b : Bool). (b || has_id ps id) ≡ true) apart there) (omega (arith, most))
    (λ k h. before (suc k) (omega (arith, h))) (λ k low high. behind (suc k) (omega (arith, low)) (omega (arith, high))) in
    (omega (arith, rest.0), rw apart rest.1)

-- ---- as the search finds them

rising : (least : ℕ) (ps : List Placed) (i j : ℕ) (d : Placed) → AscendFrom least ps → i ≤ j → j < length ps → (get_or ps i d).id ≤ (get_or ps j d).id
rising least [] i j d up le within = absurd (omega (arith, within))
rising least (p ∷ ps) zero zero d up le within = omega arith
rising least (p ∷ ps) zero (suc j) d up le within = omega (arith, rise_at (p.id + 1) ps j d (rest_from least p ps up) (omega (arith, within)))
rising least (p ∷ ps) (suc i) zero d up le within = absurd (omega (arith, le))
rising least (p ∷ ps) (suc i) (suc j) d up le within = rising (p.id + 1) ps i j d (rest_from least p ps up) (omega (arith, le)) (omega (arith, within))

pub parted_most : (ps : List Placed) (id : ℕ) → AscendFrom 1 ps → IsPartitionedBy (λ (p : Placed). nat_le p.id id) ps
parted_most ps id up i j d le within passes = le-leb _ _ (omega (arith, rising 1 ps i j d up le within, leb-true _ _ passes))

pub parted_below : (ps : List Placed) (id : ℕ) → AscendFrom 1 ps → IsPartitionedBy (λ (p : Placed). nat_lt p.id id) ps
parted_below ps id up i j d le within passes = lt-ltb _ _ (omega (arith, rising 1 ps i j d up le within, ltb-true _ _ passes))

pub next_found : (ps : List Placed) (id i : ℕ) (p : Placed) → AscendFrom 1 ps → i < length ps → p ≡ get_or ps i p
    → IsPartitionPoint (λ (x : Placed). nat_le x.id id ≡ true) (λ (x : Placed). nat_le x.id id ≡ false) ps i → Some p.id ≡ next_id id ps
next_found ps id i p up within is parted =
    sym (next_at 1 id ps i p up within (λ k h. leb-true _ _ (parted.0 k p (omega arith) h)) (leb-false _ _ (parted.1 i p (omega arith) within))
    ∙ ap (λ (x : Placed). Some x.id) (sym is))

pub next_ends : (ps : List Placed) (id i : ℕ) (d : Placed) → length ps ≤ i
    → IsPartitionPoint (λ (x : Placed). nat_le x.id id ≡ true) (λ (x : Placed). nat_le x.id id ≡ false) ps i → None ≡ next_id id ps
next_ends ps id i d past parted = sym (next_none id ps d (λ k h. leb-true _ _ (parted.0 k d (omega arith) (omega (arith, h, past)))))

pub row_found : (ps : List Placed) (id i : ℕ) (d : Placed) → AscendFrom 1 ps → has_id ps id ≡ true → i ≤ length ps
    → IsPartitionPoint (λ (x : Placed). nat_lt x.id id ≡ true) (λ (x : Placed). nat_lt x.id id ≡ false) ps i
    → (i < length ps) × (row_of ps id ≡ Some (get_or ps i d).row)
row_found ps id i d up there most parted =
    found_at 1 id ps i d up there most (λ k h. ltb-true _ _ (parted.0 k d (omega arith) h)) (λ k low high. ltb-false _ _ (parted.1 k d low high))

-- some row, where none is read
pub no_row_placed : Placed
no_row_placed = record { id = 0; row = [] }
