use Rattle.std.proofs.Common.{take}
use Rattle.std.specs.List.{AllZip}
use Rattle.pk_sweep.specs.Coding.{IsCoded}
use Rattle.pk_sweep.proofs.coding.coded_columns.Given as goal

-- what is coded so far are the columns so far
abbrev pub invariant-loop-c : goal.invariant-loop-c
invariant-loop-c l = AllZip (IsCoded l.rows) (take l.c-index l.columns) l.coded.items
