-- Literals that are stored in a column or compared with one.
use Rattle.std.specs.Prelude.{ℕ, Bool, true, List, length, Option, Some, None, nat_le, if◌then◌else◌}
use Rattle.pk_values.specs.declared.kind.Kind.{Kind}
use Rattle.pk_values.specs.declared.kind.Kind.TheVariants as kinds
use Rattle.pk_values.specs.declared.value.Value.{Value}
use Rattle.pk_values.specs.declared.value.Value.TheVariants as values
use Rattle.pk_values.specs.declared.refusal.Refusal.{Refusal}
use Rattle.pk_values.specs.declared.refusal.Refusal.TheVariants.{WrongKind, WideNumber, LongText, NullValue}
use Rattle.pk_values.specs.Words.{is_words}
use Rattle.pk_syntax.specs.declared.declaration.ColumnDecl.{ColumnDecl}
use Rattle.pk_syntax.specs.declared.literal.Literal.{Literal}
use Rattle.pk_syntax.specs.declared.literal.Literal.TheVariants.{Null, Number, Wide, Text}
use Rattle.pk_bind.specs.declared.literals.Check.{Check}
use Rattle.pk_bind.specs.declared.literals.Check.TheVariants as checks

-- the column of this name and of the first kind is of another kind than the second
abbrev pub unless_kind : List ℕ → Kind → Kind → Option Refusal
unless_kind name kinds.Integer kinds.Integer = None
unless_kind name kinds.Integer kinds.Text = Some (WrongKind name)
unless_kind name kinds.Text kinds.Integer = Some (WrongKind name)
unless_kind name kinds.Text kinds.Text = None

-- a number where texts stand, or a text where numbers do; a number outside 64 bits is a number
abbrev pub kind_fault : ColumnDecl → Literal → Option Refusal
kind_fault c Null = None
kind_fault c (Number z) = unless_kind c.name c.kind kinds.Integer
kind_fault c Wide = unless_kind c.name c.kind kinds.Integer
kind_fault c (Text bytes) = unless_kind c.name c.kind kinds.Text

-- a number outside 64 bits
abbrev pub wide_fault : Literal → Option Refusal
wide_fault Null = None
wide_fault (Number z) = None
wide_fault Wide = Some WideNumber
wide_fault (Text bytes) = None

-- the text has more than so many bytes
abbrev pub unless_short : List ℕ → ℕ → List ℕ → Option Refusal
unless_short name most bytes = if nat_le (length bytes) most then None else Some (LongText name (length bytes) most)

-- a text of more than so many bytes, for the column of this name
abbrev pub long_fault : List ℕ → ℕ → Literal → Option Refusal
long_fault name most Null = None
long_fault name most (Number z) = None
long_fault name most Wide = None
long_fault name most (Text bytes) = unless_short name most bytes

-- the column is without null
abbrev pub unless_nullable : ColumnDecl → Option Refusal
unless_nullable c = if c.not_null then Some (NullValue c.name) else None

-- null for a column without null
abbrev pub null_fault : ColumnDecl → Literal → Option Refusal
null_fault c Null = unless_nullable c
null_fault c (Number z) = None
null_fault c Wide = None
null_fault c (Text bytes) = None

-- what a check finds in a literal that is to be stored in the column
abbrev pub stored_fault : Check → ColumnDecl → Literal → Option Refusal
stored_fault checks.Kind c literal = kind_fault c literal
stored_fault checks.Wide c literal = wide_fault literal
stored_fault checks.Length c literal = long_fault c.name c.max literal
stored_fault checks.Null c literal = null_fault c literal

-- ---- values

-- a text is words: UTF-8 of at most 255 bytes
abbrev pub has_words : Literal → Bool
has_words Null = true
has_words (Number z) = true
has_words Wide = true
has_words (Text bytes) = is_words bytes

-- no text of the column is longer than words may be
abbrev pub keeps_words : ColumnDecl → Bool
keeps_words c = nat_le c.max 255

-- a literal as a value; a number outside 64 bits is refused, so that its value is never used
abbrev pub stored_value : Literal → Value
stored_value Null = values.Null
stored_value (Number z) = values.Integer z
stored_value Wide = values.Null
stored_value (Text bytes) = values.Text bytes
