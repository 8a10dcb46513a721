use Rattle.std.proofs.Common.{◌≡◌, take}
use Rattle.pk_schema.specs.Shapes.{kinds_of}
use Rattle.pk_rule.specs.TwoRows.{row_from}
use Rattle.pk_examples.specs.Entries.{entry_by}
use Rattle.pk_examples.proofs.refuting.row_of.Given as goal

-- the values so far are those of the columns so far
abbrev pub invariant-loop-i : goal.invariant-loop-i
invariant-loop-i l = l.values.items ≡ row_from (entry_by l.nulls l.marked) 0 (kinds_of (take l.i l.columns))
