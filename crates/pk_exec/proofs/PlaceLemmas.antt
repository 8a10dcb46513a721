-- Where the edits of a table are put.
use Rattle.std.proofs.Common.{◌≡◌, ℕ, ◌+◌, ◌≤◌, ◌<◌, Bool, true, false, not, ◌==◌, List, [], ◌∷◌, length, Option, Some, None, nat_le, nat_lt, slice_get, get_or, set, suc, refl, ap, sym, ◌∙◌, subst, arith, if◌then◌else◌}
use Rattle.std.specs.Prelude.{insert}
use Rattle.std.specs.List.{find, position, position_or_len}
use Rattle.std.specs.Option.{option_map_or}
use Rattle.std.proofs.lemmas.List.Sums.{prefix_len-le-length}
use Rattle.std.proofs.lemmas.Bool.{ltb-false, leb-false, eqb-true, ne_eqb}
use Rattle.std.proofs.lemmas.Option.{slice_get_within}
use Rattle.pk_exec.specs.Works.{Edits, TableEdits, is_for, put_table, place_in, stands_at}

-- where a position is found it is the place, and else the place is behind the last
pub place_found : {X : Type 0} (p : X → Bool) (xs : List X) (i : ℕ) → position p xs ≡ Some i → i ≡ position_or_len p xs
place_found p xs i is = by_order (nat_lt (position_or_len p xs) (length xs)) is
  where
    by_order : (b : Bool) → (if b then Some (position_or_len p xs) else None) ≡ Some i → i ≡ position_or_len p xs
    by_order true is = cc
    by_order false is = absurd (cc)

pub place_none : {X : Type 0} (p : X → Bool) (xs : List X) → position p xs ≡ None → length xs ≡ position_or_len p xs
place_none p xs is = by_order (nat_lt (position_or_len p xs) (length xs)) refl is
  where
    by_order : (b : Bool) → nat_lt (position_or_len p xs) (length xs) ≡ b → (if b then Some (position_or_len p xs) else None) ≡ None → length xs ≡ position_or_len p xs
    by_order true less is = absurd (cc)
    by_order false more is = omega (arith, ltb-false _ _ more, prefix_len-le-length (λ x. not (p x)) xs)

pub one_more : (n : ℕ) → 1 + n ≡ suc n
one_more n = omega arith

-- the edits of the table stand at the place
pub put_there : (t : TableEdits) (ts : List TableEdits) → stands_at t.table ts (place_in t.table ts) ≡ true → put_table t ts ≡ set ts (place_in t.table ts) t
put_there t [] at = absurd (cc)
put_there t (u ∷ us) at = step (nat_le t.table u.table) at (put_there t us)
  where
    by_same : (b : Bool) → b ≡ true → (if b then t ∷ us else t ∷ u ∷ us) ≡ t ∷ us
    by_same true at = refl
    by_same false at = absurd (cc)

    step : (b : Bool) → stands_at t.table (u ∷ us) (if not b then 1 + place_in t.table us else 0) ≡ true
        → (stands_at t.table us (place_in t.table us) ≡ true → put_table t us ≡ set us (place_in t.table us) t)
        → (if b then (if u.table == t.table then t ∷ us else t ∷ u ∷ us) else u ∷ put_table t us)
        ≡ set (u ∷ us) (if not b then 1 + place_in t.table us else 0) t
    step true at deeper = by_same (u.table == t.table) at
    step false at deeper =
        rw (one_more (place_in t.table us))
        (ap (λ (xs : List TableEdits). u ∷ xs) (deeper (subst (λ (n : ℕ). stands_at t.table (u ∷ us) n ≡ true) (one_more (place_in t.table us)) at)))

-- they don't stand there
pub put_new : (t : TableEdits) (ts : List TableEdits) → stands_at t.table ts (place_in t.table ts) ≡ false → put_table t ts ≡ insert ts (place_in t.table ts) t
put_new t [] at = refl
put_new t (u ∷ us) at = step (nat_le t.table u.table) at (put_new t us)
  where
    by_same : (b : Bool) → b ≡ false → (if b then t ∷ us else t ∷ u ∷ us) ≡ t ∷ u ∷ us
    by_same true at = absurd (cc)
    by_same false at = refl

    step : (b : Bool) → stands_at t.table (u ∷ us) (if not b then 1 + place_in t.table us else 0) ≡ false
        → (stands_at t.table us (place_in t.table us) ≡ false → put_table t us ≡ insert us (place_in t.table us) t)
        → (if b then (if u.table == t.table then t ∷ us else t ∷ u ∷ us) else u ∷ put_table t us)
        ≡ insert (u ∷ us) (if not b then 1 + place_in t.table us else 0) t
    step true at deeper = by_same (u.table == t.table) at
    step false at deeper =
        rw (one_more (place_in t.table us))
        (ap (λ (xs : List TableEdits). u ∷ xs) (deeper (subst (λ (n : ℕ). stands_at t.table (u ∷ us) n ≡ false) (one_more (place_in t.table us)) at)))

-- what stands at the place is within the list, and is the table's
pub stands_within : (table : ℕ) (ts : List TableEdits) (place : ℕ) → stands_at table ts place ≡ true → place < length ts
stands_within table ts place at = step (slice_get ts place) refl at
  where
    step : (o : Option TableEdits) → slice_get ts place ≡ o → option_map_or (is_for table) o false ≡ true → place < length ts
    step None is at = absurd (cc)
    step (Some t) is at = slice_get_within ts place t is

pub place_most : (table : ℕ) (ts : List TableEdits) → place_in table ts ≤ length ts
place_most table ts = prefix_len-le-length (λ t. not (nat_le table t.table)) ts

-- ---- as the code puts them

pub put_set : (t : TableEdits) (w : Edits) (items : List TableEdits) (k place : ℕ) (b : Bool) → record { tables = items } ≡ w → k ≡ t.table
    → place ≡ place_in k w.tables → b ≡ stands_at k w.tables place → b ≡ true → set items place t ≡ put_table t w.tables
put_set t w items k place b view is at found there =
    let same : items ≡ w.tables = ap (λ (x : Edits). x.tables) view in
    let here : place ≡ place_in t.table w.tables = at ∙ ap (λ (n : ℕ). place_in n w.tables) is in
    rw (same, here)
    (sym (put_there t w.tables
    (ap (λ (n : ℕ). stands_at n w.tables (place_in t.table w.tables)) (sym is) ∙ ap (stands_at k w.tables) (sym here) ∙ sym found ∙ there)))

pub put_insert : (t : TableEdits) (w : Edits) (items : List TableEdits) (k place : ℕ) (b : Bool) → record { tables = items } ≡ w → k ≡ t.table
    → place ≡ place_in k w.tables → b ≡ stands_at k w.tables place → b ≡ false → insert items place t ≡ put_table t w.tables
put_insert t w items k place b view is at found there =
    let same : items ≡ w.tables = ap (λ (x : Edits). x.tables) view in
    let here : place ≡ place_in t.table w.tables = at ∙ ap (λ (n : ℕ). place_in n w.tables) is in
    rw (same, here)
    (sym (put_new t w.tables
    (ap (λ (n : ℕ). stands_at n w.tables (place_in t.table w.tables)) (sym is) ∙ ap (stands_at k w.tables) (sym here) ∙ sym found ∙ there)))

pub put_within : (w : Edits) (items : List TableEdits) (k place : ℕ) → record { tables = items } ≡ w → place ≡ place_in k w.tables → place ≤ length items
put_within w items k place view at =
    let same : items ≡ w.tables = ap (λ (x : Edits). x.tables) view in
    rw (same, at) (place_most k w.tables)

-- what stands at the place is what the table has
pub stands_is : (k : ℕ) (ts : List TableEdits) (d : TableEdits) → stands_at k ts (place_in k ts) ≡ true
    → (find (is_for k) ts ≡ Some (get_or ts (place_in k ts) d)) × ((get_or ts (place_in k ts) d).table ≡ k)
stands_is k [] d at = absurd (cc)
stands_is k (t ∷ ts) d at = step (nat_le k t.table) refl at (stands_is k ts d)
  where
    by_same : (b : Bool) → (t.table == k) ≡ b → b ≡ true → ((if b then Some t else find (is_for k) ts) ≡ Some t) × (t.table ≡ k)
    by_same true same at = (refl, eqb-true t.table k same)
    by_same false differ at = absurd (cc)

    step : (b : Bool) → nat_le k t.table ≡ b → stands_at k (t ∷ ts) (if not b then 1 + place_in k ts else 0) ≡ true
        → (stands_at k ts (place_in k ts) ≡ true → (find (is_for k) ts ≡ Some (get_or ts (place_in k ts) d)) × ((get_or ts (place_in k ts) d).table ≡ k))
        → (find (is_for k) (t ∷ ts) ≡ Some (get_or (t ∷ ts) (if not b then 1 + place_in k ts else 0) d))
        × ((get_or (t ∷ ts) (if not b then 1 + place_in k ts else 0) d).table ≡ k)
    step true le at deeper = by_same (t.table == k) refl at
    step false le at deeper =
        let rest = deeper (subst (λ (n : ℕ). stands_at k (t ∷ ts) n ≡ true) (one_more (place_in k ts)) at) in
        rw (one_more (place_in k ts), ne_eqb t.table k (λ e. omega (arith, e, leb-false k t.table le))) rest
