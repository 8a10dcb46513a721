-- Keys that hold over all completions of a table.
use Rattle.std.specs.Prelude.{List, map}
use Rattle.pk_values.specs.declared.placed.Placed.{Placed}
use Rattle.pk_values.specs.declared.value.Value.{Value}
use Rattle.pk_rule.specs.Tables.{AllHold}
use Rattle.pk_schema.specs.Shapes.{Shape, kinds_of}

-- the rows' values
abbrev pub values_of : List Placed → List (List Value)
values_of rows = map (λ (p : Placed). p.row) rows

-- all keys of the table hold: a certain one in every completion of the rows, a possible one in some
abbrev pub KeysHold : Shape → List Placed → Type 0
KeysHold s rows = AllHold (kinds_of s.columns) (values_of rows) s.keys
