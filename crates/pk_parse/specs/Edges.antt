use Rattle.std.specs.Prelude.{◌≡◌, ℕ, true, false, List, [], ◌∷◌, codes, pos, negsuc, Some, None}
use Rattle.pk_values.specs.declared.kind.Kind.TheVariants as kinds
use Rattle.pk_values.specs.declared.key.Sort.TheVariants.{Certain, Possible}
use Rattle.pk_lex.specs.declared.token.Token.{Token}
use Rattle.pk_lex.specs.declared.token.Token.TheVariants.{Word, Number, Symbol as Sign}
use Rattle.pk_lex.specs.declared.token.Symbol.TheVariants.{LeftParen, RightParen, Minus}
use Rattle.pk_syntax.specs.declared.statement.Statement.TheVariants.{Begin, Drop}
use Rattle.pk_syntax.specs.declared.literal.Literal.TheVariants as literals
use Rattle.pk_parse.specs.declared.table_part.TablePart.{TablePart}
use Rattle.pk_parse.specs.declared.table_part.TablePart.TheVariants.{Column, Key}
use Rattle.pk_parse.specs.declared.table_part.Mark.TheVariants.{Unique}
use Rattle.pk_parse.specs.Literals.{literal_at}
use Rattle.pk_parse.specs.Lists.{names_at}
use Rattle.pk_parse.specs.Create.{integer_form, text_form, form_at, declared}
use Rattle.pk_parse.specs.Statements.{read}

-- What the definitions give at their edges, each computed.

-- VARCHAR with these digits
abbrev pub varchar : List ℕ → List Token
varchar digits = Word (codes "varchar") ∷ Sign LeftParen ∷ Number digits ∷ Sign RightParen ∷ []

-- PRIMARY KEY (b), a INTEGER UNIQUE, b TEXT
abbrev pub example_parts : List TablePart
example_parts =
    Key (record { key = record { sort = Certain; columns = codes "b" ∷ [] }; primary = true }) ∷
    Column (record { name = codes "a"; form = integer_form; marks = Unique ∷ [] }) ∷
    Column (record { name = codes "b"; form = text_form 255; marks = [] }) ∷
    []

pub record EdgesAreRead : Type 0 where
  pub nothing : read [] ≡ None
  pub begin : read (Word (codes "begin") ∷ []) ≡ Some Begin
  pub begin_twice : read (Word (codes "begin") ∷ Word (codes "begin") ∷ []) ≡ None
  pub reserved_name : read (Word (codes "drop") ∷ Word (codes "table") ∷ Word (codes "key") ∷ []) ≡ None
  pub free_name : read (Word (codes "drop") ∷ Word (codes "table") ∷ Word (codes "keyes") ∷ []) ≡ Some (Drop (codes "keyes"))
  pub greatest : literal_at (Number (codes "9223372036854775807") ∷ []) ≡ Some (literals.Number (pos 9223372036854775807), [])
  pub too_great : literal_at (Number (codes "9223372036854775808") ∷ []) ≡ Some (literals.Wide, [])
  pub least : literal_at (Sign Minus ∷ Number (codes "9223372036854775808") ∷ []) ≡ Some (literals.Number (negsuc 9223372036854775807), [])
  pub too_small : literal_at (Sign Minus ∷ Number (codes "9223372036854775809") ∷ []) ≡ Some (literals.Wide, [])
  pub minus_zero : literal_at (Sign Minus ∷ Number (codes "0") ∷ []) ≡ Some (literals.Number (pos 0), [])
  pub no_name : names_at (Sign LeftParen ∷ Sign RightParen ∷ []) ≡ Some ([], [])
  pub no_byte : form_at (varchar (codes "0")) ≡ None
  pub zeros_before : form_at (varchar (codes "007")) ≡ Some (text_form 7, [])
  pub longest : form_at (varchar (codes "255")) ≡ Some (text_form 255, [])
  pub too_long : form_at (varchar (codes "256")) ≡ None
  pub no_column : declared (codes "t") (Key (record { key = record { sort = Certain; columns = [] }; primary = false }) ∷ []) ≡ None
  pub keys_in_order : declared (codes "t") example_parts ≡ Some (record {
    table = codes "t";
    columns = record { name = codes "a"; kind = kinds.Integer; max = 0; not_null = false } ∷ record { name = codes "b"; kind = kinds.Text; max = 255; not_null = true } ∷ [];
    keys = record { sort = Certain; columns = codes "b" ∷ [] } ∷ record { sort = Possible; columns = codes "a" ∷ [] } ∷ [];
  })
