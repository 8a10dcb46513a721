use Rattle.std.proofs.Common.{◌≡◌, ◌++◌, take}
use Rattle.std.specs.List.{flat_map}
use Rattle.pk_report.proofs.line.write_others.Given as goal

-- what was there, and the items so far
abbrev pub invariant-loop-item : goal.invariant-loop-item
invariant-loop-item g l = l.out.items ≡ l.fn.out.items ++ flat_map (λ x. l.between ++ g.T.Shown.text x) (take l.item-index l.items)
