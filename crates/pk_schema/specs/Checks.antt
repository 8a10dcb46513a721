use Rattle.std.specs.Prelude.{Bool}
use Rattle.pk_values.specs.declared.value.Value.{Value}
use Rattle.pk_syntax.specs.declared.declaration.ColumnDecl.{ColumnDecl}
use Rattle.pk_schema.specs.declared.admitting.Check.{Check}
use Rattle.pk_schema.specs.declared.admitting.Check.TheVariants.{Kind, Length, Known}
use Rattle.pk_schema.specs.Admits.{has_other_kind, is_long, is_missing}

-- what a check looks for
abbrev pub wrong_of : Check → ColumnDecl → Value → Bool
wrong_of Kind = has_other_kind
wrong_of Length = is_long
wrong_of Known = is_missing
