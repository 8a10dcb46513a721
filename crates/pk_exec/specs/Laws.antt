-- What the words on edits come to.
use Rattle.std.specs.Prelude.{◌≡◌, ℕ, ◌≤◌, ◌<◌, true, List, length, slice_index_or}
use Rattle.std.specs.Cmp.{IsTotalOrder}
use Rattle.std.specs.List.{list_all}
use Rattle.std.specs.List.Sorted.{IsStrictlySortedBy}
use Rattle.std.specs.Ordering.{nat_cmp}
use Rattle.pk_values.specs.declared.placed.Placed.{Placed}
use Rattle.pk_exec.specs.Rows.{AscendFrom, has_id}
use Rattle.pk_bind.specs.declared.selection.OrderBy.{OrderBy}
use Rattle.pk_exec.specs.Seen.{Covers}
use Rattle.pk_exec.specs.Selecting.{row_cmp}
use Rattle.pk_exec.specs.Works.{Edits, edited_ids}

-- rows in the order of their ids are covered exactly where each edited row of the base is one of them
abbrev pub CoveredRowsAreThere : Type 0
CoveredRowsAreThere = (w : Edits) (table least : ℕ) (rows : List Placed) → IsStrictlySortedBy nat_cmp (edited_ids w table) → AscendFrom least rows
    → (Covers w table rows → list_all (has_id rows) (edited_ids w table) ≡ true)
    × (list_all (has_id rows) (edited_ids w table) ≡ true → Covers w table rows)

-- rows whose ids ascend from a number have no lower id
abbrev pub IdsAreNoLower : Type 0
IdsAreNoLower = (least : ℕ) (rows : List Placed) (i : ℕ) (p : Placed) → AscendFrom least rows → i < length rows → least ≤ (slice_index_or rows i p).id

-- ORDER BY puts rows in a total order
abbrev pub OrdersAreTotal : Type 0
OrdersAreTotal = (order : List OrderBy) → IsTotalOrder (row_cmp order)
