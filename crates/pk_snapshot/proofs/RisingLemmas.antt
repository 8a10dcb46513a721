-- Rows whose ids rise, and how they are known by their ids.
use Rattle.std.proofs.Common.{◌≡◌, ℕ, zero, suc, ◌+◌, ◌-◌, ◌≤◌, ◌<◌, true, List, [], ◌∷◌, Some, None, length, get_or, drop, is_some, refl, ap, sym, ◌∙◌, arith, inl, inr}
use Rattle.std.specs.Cmp.{nat_cmp_is}
use Rattle.std.specs.List.{AllByRecursion}
use Rattle.std.specs.List.Sorted.{IsStrictlySortedBy}
use Rattle.std.specs.Ordering.{nat_cmp}
use Rattle.std.specs.declared.cmp.Ordering.TheVariants.{Less}
use Rattle.std.proofs.lemmas.Bool.{lt-ltb, le-ltb, eq-eqb, ne_eqb, cases_lt, cases_eq}
use Rattle.std.proofs.lemmas.Option.{none-some, same_Some}
use Rattle.pk_values.specs.declared.placed.Placed.{Placed}
use Rattle.pk_values.specs.declared.value.Value.{Value}
use Rattle.pk_values.proofs.NumberLemmas.{less_numbers}
use Rattle.pk_exec.specs.Rows.{AscendFrom, ids_of, rows_above, next_id, has_id, row_of}

-- the ids rise, and none is below this number
abbrev pub Rising : ℕ → List Placed → Type 0
Rising least [] = Unit {0}
Rising least (p ∷ ps) = (least ≤ p.id) × Rising (p.id + 1) ps

pub weaken : (low high : ℕ) (ps : List Placed) → low ≤ high → Rising high ps → Rising low ps
weaken low high [] le up = tt
weaken low high (p ∷ ps) le up = (omega (arith, le, up.0), up.1)

-- ---- that they rise is that they ascend

rest_from : (least : ℕ) (p : Placed) (ps : List Placed) → AscendFrom least (p ∷ ps) → AscendFrom (p.id + 1) ps
unfolding IsStrictlySortedBy
rest_from least p ps up = (up.0.1, above ps up.0.0)
  where
    above : (qs : List Placed) → AllByRecursion (λ k. nat_cmp p.id k ≡ Less) (ids_of qs) → AllByRecursion (λ (q : Placed). p.id + 1 ≤ q.id) qs
    above [] all = tt
    above (q ∷ qs) all = (omega (arith, less_numbers p.id q.id all.0), above qs all.1)

pub to_rising : (least : ℕ) (ps : List Placed) → AscendFrom least ps → Rising least ps
to_rising least [] up = tt
to_rising least (p ∷ ps) up = (up.1.0, to_rising (p.id + 1) ps (rest_from least p ps up))

all_behind : (id : ℕ) (ps : List Placed) → Rising (id + 1) ps → AllByRecursion (λ k. nat_cmp id k ≡ Less) (ids_of ps)
all_behind id [] up = tt
all_behind id (p ∷ ps) up =
    let later : id < p.id = omega (arith, up.0) in
    (sym (nat_cmp_is id p.id Less later), all_behind id ps (weaken (id + 1) (p.id + 1) ps (omega (arith, later)) up.1))

sorted : (least : ℕ) (ps : List Placed) → Rising least ps → IsStrictlySortedBy nat_cmp (ids_of ps)
unfolding IsStrictlySortedBy
sorted least [] up = tt
sorted least (p ∷ ps) up = (all_behind p.id ps up.1, sorted (p.id + 1) ps up.1)

all_from : (least : ℕ) (ps : List Placed) → Rising least ps → AllByRecursion (λ (p : Placed). least ≤ p.id) ps
all_from least [] up = tt
all_from least (p ∷ ps) up = (up.0, all_from least ps (weaken least (p.id + 1) ps (omega (arith, up.0)) up.1))

pub from_rising : (least : ℕ) (ps : List Placed) → Rising least ps → AscendFrom least ps
from_rising least ps up = (sorted least ps up, all_from least ps up)

-- ---- the row under an id

pub row_first : (p : Placed) (ps : List Placed) (id : ℕ) → p.id ≡ id → row_of (p ∷ ps) id ≡ Some p.row
row_first p ps id same = rw (eq-eqb p.id id same) refl

pub row_rest : (p : Placed) (ps : List Placed) (id : ℕ) → (p.id ≡ id → ⊥) → row_of (p ∷ ps) id ≡ row_of ps id
row_rest p ps id apart = rw (ne_eqb p.id id apart) refl

pub none_below : (least id : ℕ) (ps : List Placed) → Rising least ps → id < least → row_of ps id ≡ None
none_below least id [] up below = refl
none_below least id (p ∷ ps) up below =
    row_rest p ps id (λ e. omega (arith, e, up.0, below)) ∙ none_below (p.id + 1) id ps up.1 (omega (arith, up.0, below))

pub at_least : (least id : ℕ) (ps : List Placed) (row : List Value) → Rising least ps → row_of ps id ≡ Some row → least ≤ id
at_least least id ps row up is =
    elim (cases_lt id least) [
      | inl below ↦ absurd (none-some row (sym (none_below least id ps up below) ∙ is))
      | inr above ↦ above
    ]

pub is_there : (ps : List Placed) (id : ℕ) → has_id ps id ≡ true → is_some (row_of ps id) ≡ true
is_there [] id there = there
is_there (p ∷ ps) id there =
    elim (cases_eq p.id id) [
      | inl same ↦ ap is_some (row_first p ps id same)
      | inr apart ↦ ap is_some (row_rest p ps id apart) ∙ is_there ps id (rw (ne_eqb p.id id apart) at there)
    ]

pub has_row : (ps : List Placed) (id : ℕ) → is_some (row_of ps id) ≡ true → has_id ps id ≡ true
has_row [] id there = there
has_row (p ∷ ps) id there =
    elim (cases_eq p.id id) [
      | inl same ↦ rw (eq-eqb p.id id same) refl
      | inr apart ↦ rw (ne_eqb p.id id apart) (has_row ps id (sym (ap is_some (row_rest p ps id apart)) ∙ there))
    ]

-- ---- they are known by their ids

abbrev placed : ℕ → List Value → Placed
placed id row = record { id = id; row = row }

same_placed : (p q : Placed) → p.id ≡ q.id → p.row ≡ q.row → p ≡ q
same_placed p q ids rows = ap (λ id. placed id p.row) ids ∙ ap (placed q.id) rows

pub known : (least other : ℕ) (ps qs : List Placed) → Rising least ps → Rising other qs → ((id : ℕ) → row_of ps id ≡ row_of qs id) → ps ≡ qs
known least other [] [] up down same = refl
known least other [] (q ∷ qs) up down same = absurd (none-some q.row (same q.id ∙ row_first q qs q.id refl))
known least other (p ∷ ps) [] up down same = absurd (none-some p.row (sym (same p.id) ∙ row_first p ps p.id refl))
known least other (p ∷ ps) (q ∷ qs) up down same =
    let low : p.id ≤ q.id = at_least p.id q.id (p ∷ ps) q.row (omega arith, up.1) (same q.id ∙ row_first q qs q.id refl) in
    let high : q.id ≤ p.id = at_least q.id p.id (q ∷ qs) p.row (omega arith, down.1) (sym (same p.id) ∙ row_first p ps p.id refl) in
    let one : p.id ≡ q.id = omega (arith, low, high) in
    let row : p.row ≡ q.row = same_Some p.row q.row (sym (row_first p ps p.id refl) ∙ (same p.id ∙ row_first q qs p.id (sym one))) in
    ap (λ (x : Placed). x ∷ ps) (same_placed p q one row) ∙ ap (λ (xs : List Placed). q ∷ xs) (known (p.id + 1) (q.id + 1) ps qs up.1 down.1 (rest one))
  where
    rest : p.id ≡ q.id → (id : ℕ) → row_of ps id ≡ row_of qs id
    rest one id =
        elim (cases_eq p.id id) [
          | inl here ↦
              none_below (p.id + 1) id ps up.1 (omega (arith, here))
              ∙ sym (none_below (q.id + 1) id qs down.1 (omega (arith, here, one)))
          | inr apart ↦
              sym (row_rest p ps id apart) ∙ (same id ∙ row_rest q qs id (λ e. apart (one ∙ e)))
        ]

-- rows that rise do so from a number, if none is below it
pub raised : (least : ℕ) (ps : List Placed) → Rising 0 ps → ((k : ℕ) → k < least → row_of ps k ≡ None) → Rising least ps
raised least [] up none = tt
raised least (p ∷ ps) up none =
    elim (cases_lt p.id least) [
      | inl below ↦ absurd (none-some p.row (sym (none p.id below) ∙ row_first p ps p.id refl))
      | inr above ↦ (above, up.1)
    ]

-- ---- which is next

pub above_row : (id k : ℕ) (ps : List Placed) → id < k → row_of (rows_above id ps) k ≡ row_of ps k
unfolding rows_above
above_row id k [] later = refl
above_row id k (p ∷ ps) later =
    elim (cases_lt id p.id) [
      | inl before ↦ rw (lt-ltb id p.id before) refl
      | inr past ↦ rw (le-ltb id p.id past) (above_row id k ps later ∙ sym (row_rest p ps k (λ e. omega (arith, e, past, later))))
    ]

pub above_rising : (least id : ℕ) (ps : List Placed) → Rising least ps → Rising (id + 1) (rows_above id ps)
unfolding rows_above
above_rising least id [] up = tt
above_rising least id (p ∷ ps) up =
    elim (cases_lt id p.id) [
      | inl before ↦ rw (lt-ltb id p.id before) (omega (arith, before), up.1)
      | inr past ↦ rw (le-ltb id p.id past) (above_rising (p.id + 1) id ps up.1)
    ]

pub next_is : (least id n : ℕ) (ps : List Placed) (row : List Value) → Rising least ps → id < n → row_of ps n ≡ Some row
    → ((k : ℕ) → id < k → k < n → row_of ps k ≡ None) → next_id id ps ≡ Some n
unfolding rows_above
next_is least id n [] row up later is between = absurd (none-some row is)
next_is least id n (p ∷ ps) row up later is between =
    elim (cases_lt id p.id) [
      | inl before ↦ rw (lt-ltb id p.id before) (ap (λ (k : ℕ). Some k) (at_first before))
      | inr past ↦
          rw (le-ltb id p.id past)
          (next_is (p.id + 1) id n ps row up.1 later (sym (row_rest p ps n (λ e. omega (arith, e, past, later))) ∙ is)
          (λ k low high. sym (row_rest p ps k (λ e. omega (arith, e, past, low))) ∙ between k low high))
    ]
  where
    at_first : id < p.id → p.id ≡ n
    at_first before =
        let most : p.id ≤ n = at_least p.id n (p ∷ ps) row (omega arith, up.1) is in
        elim (cases_lt p.id n) [
          | inl less ↦ absurd (none-some p.row (sym (between p.id before less) ∙ row_first p ps p.id refl))
          | inr more ↦ omega (arith, most, more)
        ]

pub next_ends : (id : ℕ) (ps : List Placed) → ((k : ℕ) → id < k → row_of ps k ≡ None) → next_id id ps ≡ None
unfolding rows_above
next_ends id [] none = refl
next_ends id (p ∷ ps) none =
    elim (cases_lt id p.id) [
      | inl before ↦ absurd (none-some p.row (sym (none p.id before) ∙ row_first p ps p.id refl))
      | inr past ↦
          rw (le-ltb id p.id past)
          (next_ends id ps (λ k later. sym (row_rest p ps k (λ e. omega (arith, e, past, later))) ∙ none k later))
    ]

-- ---- places

pub rise_at : (least i : ℕ) (ps : List Placed) (d : Placed) → Rising least ps → i < length ps → least ≤ (get_or ps i d).id
rise_at least i [] d up within = absurd (omega (arith, within))
rise_at least zero (p ∷ ps) d up within = up.0
rise_at least (suc i) (p ∷ ps) d up within = omega (arith, up.0, rise_at (p.id + 1) i ps d up.1 (omega (arith, within)))

pub row_at : (least i : ℕ) (ps : List Placed) (d : Placed) → Rising least ps → i < length ps
    → row_of ps (get_or ps i d).id ≡ Some (get_or ps i d).row
row_at least i [] d up within = absurd (omega (arith, within))
row_at least zero (p ∷ ps) d up within = row_first p ps p.id refl
row_at least (suc i) (p ∷ ps) d up within =
    row_rest p ps (get_or ps i d).id (λ e. omega (arith, e, rise_at (p.id + 1) i ps d up.1 (omega (arith, within))))
    ∙ row_at (p.id + 1) i ps d up.1 (omega (arith, within))

rising : (least i j : ℕ) (ps : List Placed) (d : Placed) → Rising least ps → i ≤ j → j < length ps → (get_or ps i d).id ≤ (get_or ps j d).id
rising least i j [] d up le within = absurd (omega (arith, within))
rising least zero zero (p ∷ ps) d up le within = omega arith
rising least zero (suc j) (p ∷ ps) d up le within = omega (arith, rise_at (p.id + 1) j ps d up.1 (omega (arith, within)))
rising least (suc i) zero (p ∷ ps) d up le within = absurd (omega (arith, le))
rising least (suc i) (suc j) (p ∷ ps) d up le within = rising (p.id + 1) i j ps d up.1 (omega (arith, le)) (omega (arith, within))

-- the rows from a place on are those behind an id, if those before are up to it and the first of them isn't
pub place_parts : (least id i : ℕ) (ps : List Placed) (d : Placed) → Rising least ps → i ≤ length ps
    → ((k : ℕ) → k < i → (get_or ps k d).id ≤ id) → (i < length ps → id < (get_or ps i d).id) → drop i ps ≡ rows_above id ps
unfolding rows_above
place_parts least id zero [] d up most before at = refl
place_parts least id (suc i) [] d up most before at = refl
place_parts least id zero (p ∷ ps) d up most before at = rw (lt-ltb id p.id (at (omega arith))) refl
place_parts least id (suc i) (p ∷ ps) d up most before at =
    rw (le-ltb id p.id (before 0 (omega arith)))
    (place_parts (p.id + 1) id i ps d up.1 (omega (arith, most)) (λ k h. before (suc k) (omega (arith, h))) (λ h. at (omega (arith, h))))

-- so it is enough to look at the rows on both sides of the place
pub place_by_sides : (least id i : ℕ) (ps : List Placed) (d : Placed) → Rising least ps → i ≤ length ps
    → (0 < i → (get_or ps (i - 1) d).id ≤ id) → (i < length ps → id < (get_or ps i d).id) → drop i ps ≡ rows_above id ps
place_by_sides least id i ps d up most before at =
    place_parts least id i ps d up most
    (λ k h. omega (arith, before (omega (arith, h)), rising least k (i - 1) ps d up (omega (arith, h)) (omega (arith, h, most)))) at

-- rows that pass a test up to an id, and no others, are parted by it
pub parted : (least id : ℕ) (ps : List Placed) (i j : ℕ) (d : Placed) → Rising least ps → i ≤ j → j < length ps → (get_or ps j d).id ≤ id
    → (get_or ps i d).id ≤ id
parted least id ps i j d up le within most = omega (arith, rising least i j ps d up le within, most)

-- what is next is there
pub next_there : (id n : ℕ) (ps : List Placed) → next_id id ps ≡ Some n → has_id ps n ≡ true
unfolding rows_above
next_there id n [] is = absurd (none-some n is)
next_there id n (p ∷ ps) is =
    elim (cases_eq p.id n) [
      | inl same ↦ rw (eq-eqb p.id n same) refl
      | inr apart ↦
          elim (cases_lt id p.id) [
            | inl before ↦ absurd (apart (same_Some p.id n (rw (lt-ltb id p.id before) at is)))
            | inr past ↦ rw (ne_eqb p.id n apart) (next_there id n ps (rw (le-ltb id p.id past) at is))
          ]
    ]

-- some row, where none is read
pub no_row_placed : Placed
no_row_placed = record { id = 0; row = [] }

-- the row that was found at a place is that of its id
pub found_row : (ps : List Placed) (i id : ℕ) (p : Placed) (row : List Value) → AscendFrom 1 ps → i < length ps → p ≡ get_or ps i p → p.id ≡ id
    → row ≡ p.row → row_of ps id ≡ Some row
found_row ps i id p row up within is same copied =
    ap (row_of ps) (sym same ∙ ap (λ (x : Placed). x.id) is)
    ∙ (row_at 1 i ps p (to_rising 1 ps up) within ∙ ap (λ (r : List Value). Some r) (sym (copied ∙ ap (λ (x : Placed). x.row) is)))
