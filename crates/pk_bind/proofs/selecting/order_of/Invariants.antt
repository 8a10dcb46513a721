use Rattle.std.proofs.Common.{◌≡◌, map, take}
use Rattle.pk_bind.specs.Select.{order_of}
use Rattle.pk_bind.proofs.selecting.order_of.Given as goal

-- the order of the parts so far
abbrev pub invariant-loop-part : goal.invariant-loop-part
invariant-loop-part l = l.order.items ≡ map (order_of l.schema.columns) (take l.part-index l.parts)
