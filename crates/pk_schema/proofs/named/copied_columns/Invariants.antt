use Rattle.std.proofs.Common.{◌≡◌, true}
use Rattle.std.specs.Prelude.{take}
use Rattle.std.specs.List.{list_all}
use Rattle.pk_values.specs.Name.{is_name}
use Rattle.pk_syntax.specs.Declarations.{names_of}
use Rattle.pk_schema.proofs.named.copied_columns.Given as goal

-- the copies so far are the columns so far, and their names are some
abbrev pub invariant-loop-column : goal.invariant-loop-column
invariant-loop-column l = record {
  copies : l.copies.items ≡ take l.column-index l.columns;
  names : list_all is_name (names_of (take l.column-index l.columns)) ≡ true;
}
