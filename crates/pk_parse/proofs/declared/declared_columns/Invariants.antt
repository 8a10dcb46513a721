use Rattle.std.proofs.Common.{◌≡◌, map, take}
use Rattle.pk_parse.specs.Create.{declared_column}
use Rattle.pk_values.specs.NameSets.{has_name}
use Rattle.pk_parse.proofs.declared.declared_columns.Given as goal

abbrev pub invariant-loop-column : goal.invariant-loop-column
invariant-loop-column l = l.decls.items ≡ map (declared_column (has_name l.primary)) (take l.column-index l.columns)
