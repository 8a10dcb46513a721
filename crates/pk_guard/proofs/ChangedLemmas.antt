-- Rows in the order of their ids, and those that are put among them.
use Rattle.std.proofs.Common.{◌≡◌, refl, sym, ◌∙◌, ap, ℕ, ◌≤◌, ◌<◌, Bool, true, false, List, [], ◌∷◌, ◌++◌, map, inl, inr, arith, if◌then◌else◌}
use Rattle.std.specs.Prelude.{filter}
use Rattle.std.specs.List.{AllByRecursion}
use Rattle.std.specs.List.Sorted.{IsStrictlySortedBy}
use Rattle.std.specs.Ordering.{nat_cmp}
use Rattle.std.specs.Cmp.{nat_cmp_is}
use Rattle.std.specs.declared.cmp.Ordering.TheVariants.{Less}
use Rattle.std.proofs.lemmas.Bool.{cases_lt, lt-ltb, le-ltb, ne_eqb, eq-eqb}
use Rattle.pk_values.specs.declared.placed.Placed.{Placed}
use Rattle.pk_guard.specs.Changed.{RowsAscend, put_row, put_rows, stays, standing}
use Rattle.pk_guard.specs.Splits.{below_id, above_id}
use Rattle.pk_values.proofs.NumberLemmas.{less_numbers}

-- ---- the order of ids

-- all ids are above this one
abbrev pub Above : ℕ → List Placed → Type 0
Above id [] = Unit {0}
Above id (p ∷ ps) = (id < p.id) × Above id ps

-- each id is above those before it
abbrev pub Ascends : List Placed → Type 0
Ascends [] = Unit {0}
Ascends (p ∷ ps) = Above p.id ps × Ascends ps

above_from : (id : ℕ) (ps : List Placed) → AllByRecursion (λ y. nat_cmp id y ≡ Less) (map (λ (p : Placed). p.id) ps) → Above id ps
above_from id [] all = tt
above_from id (p ∷ ps) all = (less_numbers id p.id all.0, above_from id ps all.1)

pub ascends_from : (ps : List Placed) → RowsAscend ps → Ascends ps
unfolding IsStrictlySortedBy
ascends_from [] ascend = tt
ascends_from (p ∷ ps) ascend = (above_from p.id ps ascend.0, ascends_from ps ascend.1)

above_back : (id : ℕ) (ps : List Placed) → Above id ps → AllByRecursion (λ y. nat_cmp id y ≡ Less) (map (λ (p : Placed). p.id) ps)
above_back id [] above = tt
above_back id (p ∷ ps) above = (sym (nat_cmp_is id p.id Less above.0), above_back id ps above.1)

ascends_back : (ps : List Placed) → Ascends ps → RowsAscend ps
unfolding IsStrictlySortedBy
ascends_back [] ascend = tt
ascends_back (p ∷ ps) ascend = (above_back p.id ps ascend.0, ascends_back ps ascend.1)

pub above_lower : (low high : ℕ) (ps : List Placed) → low ≤ high → Above high ps → Above low ps
above_lower low high [] le above = tt
above_lower low high (p ∷ ps) le above = (omega (arith, le, above.0), above_lower low high ps le above.1)

pub above_kept : (s : Placed → Bool) (id : ℕ) (ps : List Placed) → Above id ps → Above id (filter s ps)
above_kept s id [] above = tt
above_kept s id (p ∷ ps) above = elim (s p) as (λ b. Above id (if b then p ∷ filter s ps else filter s ps)) [
  | true ↦ (above.0, above_kept s id ps above.1)
  | false ↦ above_kept s id ps above.1
]

pub ascends_kept : (s : Placed → Bool) (ps : List Placed) → Ascends ps → Ascends (filter s ps)
ascends_kept s [] ascend = tt
ascends_kept s (p ∷ ps) ascend = elim (s p) as (λ b. Ascends (if b then p ∷ filter s ps else filter s ps)) [
  | true ↦ (above_kept s p.id ps ascend.0, ascends_kept s ps ascend.1)
  | false ↦ ascends_kept s ps ascend.1
]

-- some of the rows, and all but the first, still ascend
pub rows_kept : (s : Placed → Bool) (ps : List Placed) → RowsAscend ps → RowsAscend (filter s ps)
rows_kept s ps ascend = ascends_back (filter s ps) (ascends_kept s ps (ascends_from ps ascend))

pub rows_behind : (p : Placed) (ps : List Placed) → RowsAscend (p ∷ ps) → RowsAscend ps
rows_behind p ps ascend = ascends_back ps (ascends_from (p ∷ ps) ascend).1

-- ---- what is put

-- a row below all that are put stays in front
put_one_behind : (q p : Placed) (rows : List Placed) → q.id < p.id → put_row p (q ∷ rows) ≡ q ∷ put_row p rows
unfolding put_row
put_one_behind q p rows lt = rw (lt-ltb q.id p.id lt) refl

pub put_behind : (q : Placed) (ps rows : List Placed) → Above q.id ps → put_rows ps (q ∷ rows) ≡ q ∷ put_rows ps rows
unfolding put_rows
put_behind q [] rows above = refl
put_behind q (p ∷ ps) rows above = ap (put_rows ps) (put_one_behind q p rows above.0) ∙ put_behind q ps (put_row p rows) above.1

-- a row that none has the id of, and that is below all
put_one_first : (p : Placed) (rows : List Placed) → Above p.id rows → put_row p rows ≡ p ∷ rows
unfolding put_row
put_one_first p [] above = refl
put_one_first p (q ∷ qs) above =
    rw (le-ltb q.id p.id (omega (arith, above.0)), ne_eqb q.id p.id (λ same. absurd (omega (arith, same, above.0)))) refl

-- and one in place of the first
put_one_over : (p q : Placed) (rows : List Placed) → q.id ≡ p.id → put_row p (q ∷ rows) ≡ p ∷ rows
unfolding put_row
put_one_over p q rows same = rw (le-ltb q.id p.id (omega (arith, same)), eq-eqb q.id p.id same) refl

-- ---- what stays of rows above

pub all_above : (id : ℕ) (rows : List Placed) → Above id rows → above_id id rows ≡ rows
all_above id [] above = refl
all_above id (q ∷ qs) above = rw (lt-ltb id q.id above.0) (ap (λ (rest : List Placed). q ∷ rest) (all_above id qs above.1))

none_below : (id : ℕ) (rows : List Placed) → Above id rows → below_id id rows ≡ []
none_below id [] above = refl
none_below id (q ∷ qs) above = rw (le-ltb q.id id (omega (arith, above.0))) (none_below id qs above.1)

pub none_below_from : (id : ℕ) (q : Placed) (qs : List Placed) → id ≤ q.id → Ascends (q ∷ qs) → below_id id (q ∷ qs) ≡ []
none_below_from id q qs ge ascend = rw (le-ltb q.id id ge) (below_none id q.id qs ge ascend.0)
  where
    below_none : (id low : ℕ) (rows : List Placed) → id ≤ low → Above low rows → below_id id rows ≡ []
    below_none id low [] le above = refl
    below_none id low (r ∷ rs) le above = rw (le-ltb r.id id (omega (arith, le, above.0))) (below_none id low rs le above.1)

-- ---- the first row that is put, and what stands before and behind it

put_standing : (p : Placed) (ps rows : List Placed) (s : Placed → Bool) → Above p.id ps → Ascends rows
    → put_rows ps (put_row p (filter s rows)) ≡ filter s (below_id p.id rows) ++ (p ∷ put_rows ps (filter s (above_id p.id rows)))
put_standing p ps [] s above ascend = ap (put_rows ps) (put_one_first p [] tt) ∙ put_behind p ps [] above
put_standing p ps (q ∷ qs) s above ascend = elim (cases_lt q.id p.id) [
  | inl lt ↦ rw (lt-ltb q.id p.id lt, le-ltb p.id q.id (omega (arith, lt))) (before lt (put_standing p ps qs s above ascend.1) (s q))
  | inr ge ↦ elim (cases_lt p.id q.id) [
    | inl gt ↦
        let all : Above p.id (q ∷ qs) = (gt, above_lower p.id q.id qs (omega (arith, gt)) ascend.0) in
        rw (none_below p.id (q ∷ qs) all, all_above p.id (q ∷ qs) all)
        (ap (put_rows ps) (put_one_first p (filter s (q ∷ qs)) (above_kept s p.id (q ∷ qs) all)) ∙ put_behind p ps (filter s (q ∷ qs)) above)
    | inr le ↦
        let same : q.id ≡ p.id = omega (arith, ge, le) in
        let all : Above p.id qs = above_lower p.id q.id qs (omega (arith, same)) ascend.0 in
        rw (le-ltb q.id p.id ge, le-ltb p.id q.id le, none_below p.id qs all, all_above p.id qs all) (over same all (s q))
  ]
]
  where
    before : q.id < p.id
        → put_rows ps (put_row p (filter s qs)) ≡ filter s (below_id p.id qs) ++ (p ∷ put_rows ps (filter s (above_id p.id qs))) → (b : Bool)
        → put_rows ps (put_row p (if b then q ∷ filter s qs else filter s qs))
        ≡ (if b then q ∷ filter s (below_id p.id qs) else filter s (below_id p.id qs)) ++ (p ∷ put_rows ps (filter s (above_id p.id qs)))
    before lt rest true =
        ap (put_rows ps) (put_one_behind q p (filter s qs) lt)
        ∙ put_behind q ps (put_row p (filter s qs)) (above_lower q.id p.id ps (omega (arith, lt)) above)
        ∙ ap (λ (more : List Placed). q ∷ more) rest
    before lt rest false = rest

    over : q.id ≡ p.id → Above p.id qs → (b : Bool)
        → put_rows ps (put_row p (if b then q ∷ filter s qs else filter s qs)) ≡ p ∷ put_rows ps (filter s qs)
    over same all true = ap (put_rows ps) (put_one_over p q (filter s qs) same) ∙ put_behind p ps (filter s qs) above
    over same all false = ap (put_rows ps) (put_one_first p (filter s qs) (above_kept s p.id qs all)) ∙ put_behind p ps (filter s qs) above

pub standing_split : (gone : List ℕ) (p : Placed) (ps rows : List Placed) → Above p.id ps → Ascends rows
    → standing gone (p ∷ ps) rows ≡ filter (stays gone) (below_id p.id rows) ++ (p ∷ standing gone ps (above_id p.id rows))
unfolding put_rows
standing_split gone p ps rows above ascend = put_standing p ps rows (stays gone) above ascend

-- rows put where there are none
pub put_alone : (ps : List Placed) → Ascends ps → put_rows ps [] ≡ ps
unfolding put_rows
put_alone [] ascend = refl
put_alone (p ∷ ps) ascend =
    ap (put_rows ps) (put_one_first p [] tt) ∙ put_behind p ps [] ascend.0 ∙ ap (λ (rest : List Placed). p ∷ rest) (put_alone ps ascend.1)
