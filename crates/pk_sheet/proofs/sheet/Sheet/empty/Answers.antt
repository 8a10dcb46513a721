use Rattle.std.proofs.Common.{sym, subst, List}
use Rattle.pk_rows.specs.declared.stored.Stored.{Stored}
use Rattle.pk_sheet.specs.Sheets.{LeavesRoom}
use Rattle.pk_sheet.proofs.Changes.{empty_room}
use Rattle.pk_sheet.proofs.sheet.Sheet.empty.Goals as goal

pub invariant_of-result : goal.invariant_of-result
invariant_of-result c = subst (λ (xs : List Stored). LeavesRoom xs 4094) (sym c.new.ensures.items) empty_room
