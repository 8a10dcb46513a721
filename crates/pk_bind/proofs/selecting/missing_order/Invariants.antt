use Rattle.std.proofs.Common.{◌≡◌, drop}
use Rattle.pk_bind.specs.Select.{missing_order}
use Rattle.pk_bind.proofs.selecting.missing_order.Given as goal

-- the parts that are left decide
abbrev pub invariant-loop-part : goal.invariant-loop-part
invariant-loop-part l = missing_order l.columns l.table (drop l.part-index l.order) ≡ missing_order l.columns l.table l.order
