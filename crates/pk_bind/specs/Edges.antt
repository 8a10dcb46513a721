-- Each statement at its edges, computed. Where two things are wrong with one, the first in the order of refusals is told.
use Rattle.std.specs.Prelude.{◌≡◌, ℕ, true, false, codes, List, [], ◌∷◌, ◌++◌, map, replicate, Option, Some, None, pos}
use Rattle.std.specs.List.{range_with_len}
use Rattle.pk_values.specs.declared.kind.Kind.TheVariants as kinds
use Rattle.pk_values.specs.declared.value.Value.TheVariants as values
use Rattle.pk_values.specs.declared.refusal.Refusal.{Refusal}
use Rattle.pk_values.specs.declared.refusal.Refusal.TheVariants.{NoColumn, ColumnTwice, ValueCount, WrongKind, WideNumber, LongText, NullValue, LongRow}
use Rattle.pk_values.specs.Refusals.{first_some}
use Rattle.pk_syntax.specs.declared.declaration.ColumnDecl.{ColumnDecl}
use Rattle.pk_syntax.specs.declared.edit.SetPart.{SetPart}
use Rattle.pk_syntax.specs.declared.literal.Literal.{Literal}
use Rattle.pk_syntax.specs.declared.literal.Literal.TheVariants.{Null, Number, Wide, Text}
use Rattle.pk_syntax.specs.declared.condition.Op.TheVariants as written_ops
use Rattle.pk_syntax.specs.declared.condition.Operand.TheVariants.{Known, Column}
use Rattle.pk_syntax.specs.declared.condition.Test.{Test}
use Rattle.pk_syntax.specs.declared.condition.Test.TheVariants.{Compare, IsNull, Not, All, Any}
use Rattle.pk_syntax.specs.declared.query.What.{What}
use Rattle.pk_syntax.specs.declared.query.What.TheVariants as whats
use Rattle.pk_logic.specs.declared.condition.Op.TheVariants as ops
use Rattle.pk_logic.specs.declared.condition.Side.TheVariants as sides
use Rattle.pk_logic.specs.declared.condition.Cond.TheVariants as conds
use Rattle.pk_schema.specs.Shapes.{Shape}
use Rattle.pk_bind.specs.Conditions.{cond_refusals, cond_of}
use Rattle.pk_bind.specs.Insert.{insert_refusals, new_rows}
use Rattle.pk_bind.specs.Update.{update_refusals}
use Rattle.pk_bind.specs.Select.{select_refusals}

-- ---- a table t

-- a: a number, NOT NULL; s: a text of at most 3 bytes; n: a number
abbrev pub columns : List ColumnDecl
columns =
    record { name = codes "a"; kind = kinds.Integer; max = 0; not_null = true }
    ∷ record { name = codes "s"; kind = kinds.Text; max = 3; not_null = false }
    ∷ record { name = codes "n"; kind = kinds.Integer; max = 0; not_null = false }
    ∷ []

abbrev pub table : Shape
table = record { columns = columns; keys = [] }

abbrev pub one : Literal
one = Number (pos 1)

abbrev pub text : List ℕ → Literal
text bytes = Text bytes

-- a text of so many bytes
abbrev pub text_of : ℕ → Literal
text_of n = Text (replicate n 120)

-- ---- INSERT

-- what an INSERT of these tuples for these columns is refused for
abbrev pub inserting : Option (List (List ℕ)) → List (List Literal) → Option Refusal
inserting names rows = first_some (insert_refusals table (record { table = codes "t"; columns = names; rows = rows }))

abbrev pub InsertsAtTheirEdges : Type 0
InsertsAtTheirEdges =
    (inserting (Some (codes "a" ∷ codes "x" ∷ codes "a" ∷ [])) ((one ∷ []) ∷ []) ≡ Some (NoColumn (codes "x") (codes "t")))
    × (inserting (Some (codes "a" ∷ codes "a" ∷ [])) ((one ∷ []) ∷ []) ≡ Some (ColumnTwice (codes "a")))
    × (inserting None ((text (codes "x") ∷ one ∷ one ∷ []) ∷ (one ∷ []) ∷ []) ≡ Some (ValueCount 1 3))
    × (inserting None ((Wide ∷ Null ∷ Null ∷ []) ∷ (one ∷ one ∷ Null ∷ []) ∷ []) ≡ Some (WrongKind (codes "s")))
    × (inserting None ((one ∷ Wide ∷ Null ∷ []) ∷ []) ≡ Some (WrongKind (codes "s")))
    × (inserting None ((one ∷ text_of 4 ∷ Null ∷ []) ∷ (one ∷ Null ∷ Wide ∷ []) ∷ []) ≡ Some WideNumber)
    × (inserting None ((Null ∷ Null ∷ Null ∷ []) ∷ (one ∷ text_of 4 ∷ Null ∷ []) ∷ []) ≡ Some (LongText (codes "s") 4 3))
    × (inserting None ((one ∷ Null ∷ Null ∷ []) ∷ (Null ∷ Null ∷ Null ∷ []) ∷ []) ≡ Some (NullValue (codes "a")))
    × (inserting (Some (codes "s" ∷ [])) ((text_of 3 ∷ []) ∷ []) ≡ Some (NullValue (codes "a")))
    × (inserting None ((one ∷ text_of 3 ∷ Null ∷ []) ∷ []) ≡ None)

-- the row of a tuple for listed columns, with null where none is listed
abbrev pub RowsAreMade : Type 0
RowsAreMade =
    new_rows columns (record { table = codes "t"; columns = Some (codes "s" ∷ codes "a" ∷ []); rows = (text_of 2 ∷ one ∷ []) ∷ [] })
    ≡ (values.Integer (pos 1) ∷ values.Text (replicate 2 120) ∷ values.Null ∷ []) ∷ []

-- a table of 16 columns of texts
abbrev pub wide_table : Shape
wide_table =
    record { columns = map (λ letter. record { name = letter ∷ []; kind = kinds.Text; max = 255; not_null = false }) (range_with_len 97 16); keys = [] }

-- what an INSERT of 15 texts of 255 bytes and one of so many is refused for
abbrev pub inserting_wide : ℕ → Option Refusal
inserting_wide n =
    first_some (insert_refusals wide_table (record { table = codes "t"; columns = None; rows = (replicate 15 (text_of 255) ++ text_of n ∷ []) ∷ [] }))

-- a row has 4,000 bytes at most
abbrev pub RowsAtTheirEdge : Type 0
RowsAtTheirEdge = (inserting_wide 143 ≡ None) × (inserting_wide 144 ≡ Some (LongRow 4001))

-- ---- conditions

abbrev pub compares : List ℕ → Literal → Test
compares name literal = Compare name written_ops.Equal (Known literal)

abbrev pub compares_columns : List ℕ → List ℕ → Test
compares_columns name other = Compare name written_ops.Less (Column other)

-- what a condition is refused for
abbrev pub asking : Test → Option Refusal
asking test = first_some (cond_refusals columns (codes "t") (Some test))

abbrev pub ConditionsAtTheirEdges : Type 0
ConditionsAtTheirEdges =
    (asking (compares_columns (codes "x") (codes "y")) ≡ Some (NoColumn (codes "x") (codes "t")))
    × (asking (compares_columns (codes "a") (codes "y")) ≡ Some (NoColumn (codes "y") (codes "t")))
    × (asking (Not (IsNull (codes "x") true)) ≡ Some (NoColumn (codes "x") (codes "t")))
    × (asking (All (compares (codes "a") (text_of 1) ∷ compares (codes "x") one ∷ [])) ≡ Some (NoColumn (codes "x") (codes "t")))
    × (asking (Any (compares (codes "a") Wide ∷ compares (codes "s") one ∷ [])) ≡ Some (WrongKind (codes "s")))
    × (asking (compares (codes "s") Wide) ≡ Some (WrongKind (codes "s")))
    × (asking (compares_columns (codes "a") (codes "s")) ≡ Some (WrongKind (codes "a")))
    × (asking (compares_columns (codes "a") (codes "n")) ≡ None)
    × (asking (All (compares (codes "s") (text_of 256) ∷ compares (codes "n") Wide ∷ [])) ≡ Some WideNumber)
    × (asking (compares (codes "s") (text_of 256)) ≡ Some (LongText (codes "s") 256 255))
    × (asking (compares (codes "s") (text_of 255)) ≡ None)
    × (asking (All (compares (codes "s") Null ∷ compares (codes "a") Null ∷ [])) ≡ None)

-- a < n AND NOT s IS NOT NULL, of the columns' places
abbrev pub ConditionsSayPlaces : Type 0
ConditionsSayPlaces =
    cond_of columns (All (compares_columns (codes "a") (codes "n") ∷ Not (IsNull (codes "s") true) ∷ []))
    ≡ conds.All (conds.Compare 0 ops.Less (sides.Column 2) ∷ conds.Not (conds.IsNull 1 true) ∷ [])

-- ---- UPDATE

abbrev pub sets : List ℕ → Literal → SetPart
sets name literal = record { column = name; value = literal }

-- what an UPDATE of these columns under this condition is refused for
abbrev pub updating : List SetPart → Option Test → Option Refusal
updating parts cond = first_some (update_refusals table (record { table = codes "t"; sets = parts; cond = cond }))

abbrev pub UpdatesAtTheirEdges : Type 0
UpdatesAtTheirEdges =
    (updating (sets (codes "a") one ∷ sets (codes "x") one ∷ []) (Some (compares (codes "y") one)) ≡ Some (NoColumn (codes "x") (codes "t")))
    × (updating (sets (codes "a") one ∷ sets (codes "a") one ∷ []) (Some (compares (codes "y") one)) ≡ Some (NoColumn (codes "y") (codes "t")))
    × (updating (sets (codes "a") one ∷ sets (codes "a") (text_of 1) ∷ []) None ≡ Some (ColumnTwice (codes "a")))
    × (updating (sets (codes "a") Wide ∷ []) (Some (compares (codes "s") one)) ≡ Some (WrongKind (codes "s")))
    × (updating (sets (codes "s") one ∷ []) (Some (compares (codes "a") (text_of 1))) ≡ Some (WrongKind (codes "s")))
    × (updating (sets (codes "s") (text_of 4) ∷ []) (Some (compares (codes "n") Wide)) ≡ Some WideNumber)
    × (updating (sets (codes "a") Null ∷ []) (Some (compares (codes "s") (text_of 256))) ≡ Some (LongText (codes "s") 256 255))
    × (updating (sets (codes "s") (text_of 4) ∷ []) None ≡ Some (LongText (codes "s") 4 3))
    × (updating (sets (codes "n") Null ∷ sets (codes "a") Null ∷ []) None ≡ Some (NullValue (codes "a")))
    × (updating (sets (codes "n") Null ∷ sets (codes "s") (text_of 3) ∷ []) (Some (IsNull (codes "a") false)) ≡ None)

-- ---- SELECT

-- what a SELECT under this condition and by the order of this column is refused for
abbrev pub selecting : What → Test → List ℕ → Option Refusal
selecting what test by =
    first_some (select_refusals table (record { table = codes "t"; what = what; cond = Some test; order = record { column = by; down = true } ∷ [] }))

abbrev pub SelectsAtTheirEdges : Type 0
SelectsAtTheirEdges =
    (selecting (whats.Columns (codes "s" ∷ codes "x" ∷ [])) (compares (codes "y") one) (codes "z") ≡ Some (NoColumn (codes "x") (codes "t")))
    × (selecting whats.All (compares (codes "y") one) (codes "z") ≡ Some (NoColumn (codes "y") (codes "t")))
    × (selecting whats.Count (compares (codes "s") one) (codes "z") ≡ Some (NoColumn (codes "z") (codes "t")))
    × (selecting whats.Count (compares (codes "s") one) (codes "n") ≡ Some (WrongKind (codes "s")))
    × (selecting (whats.Columns (codes "s" ∷ codes "s" ∷ [])) (compares (codes "s") (text_of 3)) (codes "n") ≡ None)
