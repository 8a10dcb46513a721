use Rattle.std.specs.Prelude.{Bool, true, ◌&&◌, Option, Some, None, All, IsTrue, FitsSigned}
use Rattle.std.specs.Int.{w64}
use Rattle.std.specs.List.{list_all}
use Rattle.std.specs.Str.{is_utf8}
use Rattle.pk_values.specs.Name.{is_name}
use Rattle.pk_syntax.specs.declared.statement.Statement.{Statement}
use Rattle.pk_syntax.specs.declared.statement.Statement.TheVariants as statements
use Rattle.pk_syntax.specs.declared.edit.SetPart.{SetPart}
use Rattle.pk_syntax.specs.declared.literal.Literal.{Literal}
use Rattle.pk_syntax.specs.declared.literal.Literal.TheVariants as literals
use Rattle.pk_syntax.specs.declared.condition.Operand.{Operand}
use Rattle.pk_syntax.specs.declared.condition.Operand.TheVariants.{Known, Column}
use Rattle.pk_syntax.specs.declared.condition.Test.{Test}
use Rattle.pk_syntax.specs.declared.condition.Test.TheOpen.{Test-F}
use Rattle.pk_syntax.specs.declared.condition.Test.TheOpen as open_tests
use Rattle.pk_syntax.specs.declared.condition.Test.TheFolds.{fold-Test}
use Rattle.pk_syntax.specs.Declarations.{names_in, is_plain}

-- What a statement has that was read: no text, name, number or declaration in it is one that none can be.

-- ---- texts

-- a text is UTF-8
abbrev pub has_utf8 : Literal → Bool
has_utf8 literals.Null = true
has_utf8 (literals.Number n) = true
has_utf8 literals.Wide = true
has_utf8 (literals.Text bytes) = is_utf8 bytes

abbrev pub operand_has_utf8 : Operand → Bool
operand_has_utf8 (Known literal) = has_utf8 literal
operand_has_utf8 (Column name) = true

-- one layer of a condition, with what is so of its members
abbrev pub test_step : Test-F Bool → Bool
test_step (open_tests.Compare column op with) = operand_has_utf8 with
test_step (open_tests.IsNull column negated) = true
test_step (open_tests.Not member) = member
test_step (open_tests.All members) = list_all (λ m. m) members
test_step (open_tests.Any members) = list_all (λ m. m) members

-- the texts of a condition are UTF-8
abbrev pub test_has_utf8 : Test → Bool
test_has_utf8 = fold-Test Bool test_step

abbrev pub cond_has_utf8 : Option Test → Bool
cond_has_utf8 None = true
cond_has_utf8 (Some test) = test_has_utf8 test

-- the texts of a statement are UTF-8
abbrev pub texts_are_utf8 : Statement → Bool
texts_are_utf8 (statements.Insert i) = list_all (list_all has_utf8) i.rows
texts_are_utf8 (statements.Update u) = list_all (λ (s : SetPart). has_utf8 s.value) u.sets && cond_has_utf8 u.cond
texts_are_utf8 (statements.Delete d) = cond_has_utf8 d.cond
texts_are_utf8 (statements.Select s) = cond_has_utf8 s.cond
texts_are_utf8 _ = true

-- ---- declarations

-- the table that a statement declares is plain
abbrev pub declares_plain : Statement → Bool
declares_plain (statements.Create decl) = is_plain decl
declares_plain _ = true

-- the names that a statement declares are names
abbrev pub names_are_names : Statement → Bool
names_are_names (statements.Create decl) = list_all is_name (names_in decl)
names_are_names _ = true

-- ---- numbers

-- a number fits 64 bits, with its sign
abbrev pub HasFittingNumber : Literal → Type 0
HasFittingNumber literals.Null = Unit {0}
HasFittingNumber (literals.Number z) = FitsSigned w64 z
HasFittingNumber literals.Wide = Unit {0}
HasFittingNumber (literals.Text bytes) = Unit {0}

-- the numbers that a statement stores fit
abbrev pub NumbersFit : Statement → Type 0
NumbersFit (statements.Insert i) = All (All HasFittingNumber) i.rows
NumbersFit (statements.Update u) = All (λ (s : SetPart). HasFittingNumber s.value) u.sets
NumbersFit _ = Unit {0}

-- ---- all of it

pub record IsGiven (s : Statement) : Type 0 where
  pub plain : IsTrue (declares_plain s)
  pub texts : IsTrue (texts_are_utf8 s)
  pub names : IsTrue (names_are_names s)
  pub numbers : NumbersFit s
