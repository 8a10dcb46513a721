-- Walks over rows with ids that ascend.
use Rattle.std.proofs.Common.{◌≡◌, ℕ, ◌+◌, ◌≤◌, ◌<◌, Bool, true, false, List, [], ◌∷◌, Some, None, nat_lt, refl, arith, if◌then◌else◌}
use Rattle.std.proofs.lemmas.Bool.{ltb-true, ltb-false, lt-ltb, le-ltb, eq-eqb, ne_eqb}
use Rattle.pk_values.specs.declared.placed.Placed.{Placed}
use Rattle.pk_exec.specs.Rows.{AscendFrom, rows_above, first_id, next_id, has_id, row_of}
use Rattle.pk_exec.proofs.ListLemmas.{rest_from}

-- rows that ascend from an id on are all behind one below it
pub all_above : (id least : ℕ) (ps : List Placed) → id < least → AscendFrom least ps → rows_above id ps ≡ ps
unfolding rows_above
all_above id least [] below up = refl
all_above id least (p ∷ ps) below up = rw (lt-ltb id p.id (omega (arith, up.1.0, below))) refl

-- what is known of a row that is next behind an id
pub record IsNext (rows : List Placed) (id n : ℕ) (p : Placed) (rest : List Placed) : Type 0 where
  pub above : rows_above id rows ≡ p ∷ rest
  pub is : p.id ≡ n
  pub behind : rows_above n rows ≡ rest
  pub found : row_of rows n ≡ Some p.row
  pub there : has_id rows n ≡ true
  pub later : id < n

first_is : (p : Placed) (n : ℕ) → first_id (p ∷ []) ≡ Some n → p.id ≡ n
first_is p n is = cc

here : (id least n : ℕ) (p : Placed) (ps : List Placed) → AscendFrom least (p ∷ ps) → id < p.id → p.id ≡ n → IsNext (p ∷ ps) id n p ps
unfolding rows_above
here id least n p ps up later is = record {
  above = rw (lt-ltb id p.id later) refl;
  is = is;
  behind = rw (le-ltb n p.id (omega (arith, is))) (all_above n (p.id + 1) ps (omega (arith, is)) (rest_from least p ps up));
  found = rw (eq-eqb p.id n is) refl;
  there = rw (eq-eqb p.id n is) refl;
  later = omega (arith, later, is);
}

there : (id least n : ℕ) (p q : Placed) (ps rest : List Placed) → least ≤ p.id → p.id < n → p.id ≤ id → IsNext ps id n q rest → IsNext (p ∷ ps) id n q rest
unfolding rows_above
there id least n p q ps rest up less past next = record {
  above = rw (le-ltb id p.id past) next.above;
  is = next.is;
  behind = rw (le-ltb n p.id (omega (arith, less))) next.behind;
  found = rw (ne_eqb p.id n (λ e. omega (arith, e, less))) next.found;
  there = rw (ne_eqb p.id n (λ e. omega (arith, e, less))) next.there;
  later = next.later;
}

-- the row that is next, with what stands behind it
pub record HasNext (rows : List Placed) (id least n : ℕ) : Type 0 where
  pub placed : Placed
  pub rest : List Placed
  pub next : IsNext rows id n placed rest
  pub most : least ≤ n

pub next_row : (id least n : ℕ) (rows : List Placed) → AscendFrom least rows → next_id id rows ≡ Some n → HasNext rows id least n
unfolding rows_above
next_row id least n [] up is = absurd (cc)
next_row id least n (p ∷ ps) up is = split (nat_lt id p.id) refl is (λ rest. next_row id (p.id + 1) n ps (rest_from least p ps up) rest)
  where
    split : (b : Bool) → nat_lt id p.id ≡ b → first_id (if b then p ∷ ps else rows_above id ps) ≡ Some n
        → (next_id id ps ≡ Some n → HasNext ps id (p.id + 1) n) → HasNext (p ∷ ps) id least n
    split true before is deeper =
        let same : p.id ≡ n = cc in
        record { placed = p; rest = ps; next = here id least n p ps up (ltb-true id p.id before) same; most = omega (arith, up.1.0, same) }
    split false before is deeper =
        let w = deeper is in
        record {
          placed = w.placed;
          rest = w.rest;
          next = there id least n p w.placed ps w.rest up.1.0 (omega (arith, w.most)) (ltb-false id p.id before) w.next;
          most = omega (arith, w.most, up.1.0);
        }

-- where no row is next, none is left
pub no_row : (id : ℕ) (rows : List Placed) → next_id id rows ≡ None → rows_above id rows ≡ []
no_row id rows is = none (rows_above id rows) is
  where
    none : (ps : List Placed) → first_id ps ≡ None → ps ≡ []
    none [] is = refl
    none (p ∷ ps) is = absurd (cc)

-- all rows are behind 0
pub from_start : (rows : List Placed) → AscendFrom 1 rows → rows_above 0 rows ≡ rows
from_start rows up = all_above 0 1 rows (omega arith) up
