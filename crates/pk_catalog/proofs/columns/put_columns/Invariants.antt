use Rattle.std.proofs.Common.{◌≡◌, ◌++◌, ◌∷◌, length}
use Rattle.std.specs.Prelude.{take}
use Rattle.std.specs.List.{flat_map}
use Rattle.pk_catalog.specs.Records.{column_record}
use Rattle.pk_catalog.proofs.columns.put_columns.Given as goal

-- the columns so far are written behind their number
abbrev pub invariant-loop-column : goal.invariant-loop-column
invariant-loop-column l = l.out.items ≡ l.fn.out.items ++ (length l.columns ∷ flat_map column_record (take l.column-index l.columns))
