use Rattle.std.proofs.Common.{◌≡◌, drop}
use Rattle.pk_values.specs.Refusals.{first_by}
use Rattle.pk_syntax.specs.declared.edit.SetPart.{SetPart}
use Rattle.pk_bind.specs.Columns.{no_column}
use Rattle.pk_bind.proofs.updating.missing_set.Given as goal

-- the parts that are left decide
abbrev pub invariant-loop-set : goal.invariant-loop-set
invariant-loop-set l =
    first_by (λ (s : SetPart). no_column l.columns l.table s.column) (drop l.set-index l.sets)
    ≡ first_by (λ (s : SetPart). no_column l.columns l.table s.column) l.sets
