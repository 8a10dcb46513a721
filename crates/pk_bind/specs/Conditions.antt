-- What a condition is refused for over the columns of a table, and what it says of them.
use Rattle.std.specs.Prelude.{ℕ, Bool, true, List, [], ◌∷◌, Option, Some, None}
use Rattle.std.specs.List.{list_all}
use Rattle.std.specs.Option.{option_map}
use Rattle.pk_values.specs.declared.refusal.Refusal.{Refusal}
use Rattle.pk_values.specs.Refusals.{first_some, or_else}
use Rattle.pk_syntax.specs.declared.declaration.ColumnDecl.{ColumnDecl}
use Rattle.pk_syntax.specs.declared.condition.Op.{Op as WrittenOp}
use Rattle.pk_syntax.specs.declared.condition.Op.TheVariants as written_ops
use Rattle.pk_syntax.specs.declared.condition.Operand.{Operand}
use Rattle.pk_syntax.specs.declared.condition.Operand.TheVariants.{Known, Column}
use Rattle.pk_syntax.specs.declared.condition.Test.{Test}
use Rattle.pk_syntax.specs.declared.condition.Test.TheOpen.{Test-F, Compare, IsNull, Not, All, Any}
use Rattle.pk_syntax.specs.declared.condition.Test.TheFolds.{fold-Test}
use Rattle.pk_logic.specs.declared.condition.Op.{Op}
use Rattle.pk_logic.specs.declared.condition.Op.TheVariants as ops
use Rattle.pk_logic.specs.declared.condition.Side.{Side}
use Rattle.pk_logic.specs.declared.condition.Side.TheVariants as sides
use Rattle.pk_logic.specs.declared.condition.Cond.{Cond}
use Rattle.pk_logic.specs.declared.condition.Cond.TheVariants as conds
use Rattle.pk_schema.specs.Shapes.{column_named}
use Rattle.pk_bind.specs.declared.searching.Search.{Search}
use Rattle.pk_bind.specs.declared.searching.Search.TheVariants as searches
use Rattle.pk_bind.specs.Columns.{no_column, column_at}
use Rattle.pk_bind.specs.Literals.{unless_kind, kind_fault, wide_fault, long_fault, has_words, stored_value}

-- ---- what is found in one comparison

-- one of its columns is no column of the table: the left one, or else the right one
abbrev pub missing_in : List ColumnDecl → List ℕ → List ℕ → Operand → Option Refusal
missing_in columns table name (Known literal) = no_column columns table name
missing_in columns table name (Column other) = or_else (no_column columns table name) (no_column columns table other)

abbrev pub unless_same_kind : ColumnDecl → Option ColumnDecl → Option Refusal
unless_same_kind c None = None
unless_same_kind c (Some other) = unless_kind c.name c.kind other.kind

abbrev pub kind_beside : List ColumnDecl → ColumnDecl → Operand → Option Refusal
kind_beside columns c (Known literal) = kind_fault c literal
kind_beside columns c (Column other) = unless_same_kind c (column_named columns other)

-- the other side is of another kind than the column
abbrev pub kind_in : List ColumnDecl → Option ColumnDecl → Operand → Option Refusal
kind_in columns None with = None
kind_in columns (Some c) with = kind_beside columns c with

-- the column is compared with a number outside 64 bits
abbrev pub wide_in : Operand → Option Refusal
wide_in (Known literal) = wide_fault literal
wide_in (Column other) = None

-- the column is compared with a text that is longer than any text may be
abbrev pub long_in : List ℕ → Operand → Option Refusal
long_in name (Known literal) = long_fault name 255 literal
long_in name (Column other) = None

abbrev pub comparison_fault : Search → List ColumnDecl → List ℕ → List ℕ → Operand → Option Refusal
comparison_fault searches.Missing columns table name with = missing_in columns table name with
comparison_fault searches.Kind columns table name with = kind_in columns (column_named columns name) with
comparison_fault searches.Wide columns table name with = wide_in with
comparison_fault searches.Length columns table name with = long_in name with

-- IS NULL may be asked of every column
abbrev pub null_test_fault : Search → List ColumnDecl → List ℕ → List ℕ → Option Refusal
null_test_fault searches.Missing columns table name = no_column columns table name
null_test_fault searches.Kind columns table name = None
null_test_fault searches.Wide columns table name = None
null_test_fault searches.Length columns table name = None

-- ---- what is found in a condition

-- one layer of a condition, with what is found in its members in their places
abbrev pub fault_step : Search → List ColumnDecl → List ℕ → Test-F (Option Refusal) → Option Refusal
fault_step search columns table (Compare name op with) = comparison_fault search columns table name with
fault_step search columns table (IsNull name negated) = null_test_fault search columns table name
fault_step search columns table (Not member) = member
fault_step search columns table (All members) = first_some members
fault_step search columns table (Any members) = first_some members

-- what is found first, from left to right
abbrev pub test_fault : Search → List ColumnDecl → List ℕ → Test → Option Refusal
test_fault search columns table = fold-Test (Option Refusal) (fault_step search columns table)

-- nothing is found where there is no condition
abbrev pub cond_fault : Search → List ColumnDecl → List ℕ → Option Test → Option Refusal
cond_fault search columns table None = None
cond_fault search columns table (Some test) = test_fault search columns table test

-- what a condition is refused for, in this order
abbrev pub cond_refusals : List ColumnDecl → List ℕ → Option Test → List (Option Refusal)
cond_refusals columns table cond =
    cond_fault searches.Missing columns table cond
    ∷ cond_fault searches.Kind columns table cond
    ∷ cond_fault searches.Wide columns table cond
    ∷ cond_fault searches.Length columns table cond
    ∷ []

-- ---- texts

abbrev pub operand_has_words : Operand → Bool
operand_has_words (Known literal) = has_words literal
operand_has_words (Column name) = true

-- one layer of a condition, with what is so of its members in their places
abbrev pub words_step : Test-F Bool → Bool
words_step (Compare name op with) = operand_has_words with
words_step (IsNull name negated) = true
words_step (Not member) = member
words_step (All members) = list_all (λ m. m) members
words_step (Any members) = list_all (λ m. m) members

-- the texts of a condition are words
abbrev pub test_has_words : Test → Bool
test_has_words = fold-Test Bool words_step

abbrev pub cond_has_words : Option Test → Bool
cond_has_words None = true
cond_has_words (Some test) = test_has_words test

-- ---- what a condition says of the columns

abbrev pub op_of : WrittenOp → Op
op_of written_ops.Equal = ops.Equal
op_of written_ops.Unequal = ops.Unequal
op_of written_ops.Less = ops.Less
op_of written_ops.AtMost = ops.AtMost
op_of written_ops.Greater = ops.Greater
op_of written_ops.AtLeast = ops.AtLeast

abbrev pub side_of : List ColumnDecl → Operand → Side
side_of columns (Known literal) = sides.Known (stored_value literal)
side_of columns (Column name) = sides.Column (column_at columns name)

-- one layer of a condition, with what its members say in their places
abbrev pub cond_step : List ColumnDecl → Test-F Cond → Cond
cond_step columns (Compare name op with) = conds.Compare (column_at columns name) (op_of op) (side_of columns with)
cond_step columns (IsNull name negated) = conds.IsNull (column_at columns name) negated
cond_step columns (Not member) = conds.Not member
cond_step columns (All members) = conds.All members
cond_step columns (Any members) = conds.Any members

-- the same condition, of columns by their places and of values
abbrev pub cond_of : List ColumnDecl → Test → Cond
cond_of columns = fold-Test Cond (cond_step columns)

-- what is asked of a row, where anything is
abbrev pub cond_asked : List ColumnDecl → Option Test → Option Cond
cond_asked columns cond = option_map (cond_of columns) cond
