use Rattle.std.proofs.Common.{◌≡◌, take}
use Rattle.std.specs.List.{filter_map}
use Rattle.pk_schema.specs.Shapes.{column_named}
use Rattle.pk_bind.proofs.insertion.listed_columns.Given as goal

-- the columns of the names so far
abbrev pub invariant-loop-name : goal.invariant-loop-name
invariant-loop-name l = l.listed.items ≡ filter_map (column_named l.columns) (take l.name-index l.names)
