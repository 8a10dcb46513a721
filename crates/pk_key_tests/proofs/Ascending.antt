-- Rows whose ids ascend from each to the next.
use Rattle.std.proofs.Common.{subst, ℕ, ◌+◌, ◌<◌, List, [], length, map, get_or, arith}
use Rattle.std.proofs.lemmas.Map.Keys.{sorted_from_strictly_increasing}
use Rattle.std.proofs.lemmas.List.{get_or-map, length-map}
use Rattle.pk_values.specs.declared.placed.Placed.{Placed}
use Rattle.pk_guard.specs.Changed.{RowsAscend}

nothing : Placed
nothing = record { id = 0; row = [] }

-- the ids at a place and the next, as a list of their own has them
id_below : (rows : List Placed) (i : ℕ) → i + 1 < length rows → (get_or rows i nothing).id < (get_or rows (i + 1) nothing).id
    → get_or (map (λ (p : Placed). p.id) rows) i 0 < get_or (map (λ (p : Placed). p.id) rows) (i + 1) 0
id_below rows i within below =
    rw (get_or-map (λ (p : Placed). p.id) rows i nothing 0 (omega (arith, within)), get_or-map (λ (p : Placed). p.id) rows (i + 1) nothing 0 within) below

pub rows_ascend_from_places : (rows : List Placed) → ((i : ℕ) (d : Placed) → i + 1 < length rows → (get_or rows i d).id < (get_or rows (i + 1) d).id) → RowsAscend rows
rows_ascend_from_places rows below =
    sorted_from_strictly_increasing (map (λ (p : Placed). p.id) rows) (λ i within.
    let inside : i + 1 < length rows = subst (λ n. i + 1 < n) (length-map rows (λ (p : Placed). p.id)) within in
    id_below rows i inside (below i nothing inside))
