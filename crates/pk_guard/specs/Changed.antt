-- What becomes of a table's rows, which stand in the order of their ids.
use Rattle.std.specs.Prelude.{ℕ, Bool, not, ◌==◌, List, [], ◌∷◌, map, filter, nat_lt, if◌then◌else◌}
use Rattle.std.specs.List.{list_any}
use Rattle.std.specs.List.Sorted.{IsStrictlySortedBy}
use Rattle.std.specs.Ordering.{nat_cmp}
use Rattle.pk_values.specs.declared.changes.Changes.{Changes}
use Rattle.pk_values.specs.declared.placed.Placed.{Placed}

-- each id is above those before it
abbrev pub IdsAscend : List ℕ → Type 0
IdsAscend ids = IsStrictlySortedBy nat_cmp ids

-- the ids of the rows ascend
abbrev pub RowsAscend : List Placed → Type 0
RowsAscend rows = IdsAscend (map (λ (p : Placed). p.id) rows)

-- the row at its place among the rows, in the place of the one with its id
unfoldable pub put_row : Placed → List Placed → List Placed
put_row p [] = p ∷ []
put_row p (q ∷ qs) = if nat_lt q.id p.id then q ∷ put_row p qs else if q.id == p.id then p ∷ qs else p ∷ q ∷ qs

-- each of the rows is put, one behind the other
unfoldable pub put_rows : List Placed → List Placed → List Placed
put_rows [] rows = rows
put_rows (p ∷ ps) rows = put_rows ps (put_row p rows)

-- the row isn't among those that go
abbrev pub stays : List ℕ → Placed → Bool
stays gone p = not (list_any (λ id. id == p.id) gone)

-- the rows that stay, and those that are put in their places
abbrev pub standing : List ℕ → List Placed → List Placed → List Placed
standing gone put rows = put_rows put (filter (stays gone) rows)

-- the rows with these changes
abbrev pub changed_rows : Changes → List Placed → List Placed
changed_rows c rows = standing c.gone c.put rows
