use Rattle.std.specs.Prelude.{ℕ, ◌-◌, Bool, true, false, ◌==◌, List, [], ◌∷◌, take, length, Option, Some, None, if◌then◌else◌}
use Rattle.std.proofs.Common.{suc}
use Rattle.std.specs.Option.{option_map}
use Rattle.std.specs.Str.{is_utf8}
use Rattle.pk_lex.specs.declared.token.Token.TheVariants.{Text}
use Rattle.pk_lex.specs.declared.lexeme.Lexeme.{Lexeme}
use Rattle.pk_lex.specs.declared.lexeme.Lexeme.TheVariants.{Known, Wrong}
use Rattle.pk_lex.specs.declared.lexeme.Fault.TheVariants.{Bad, Unclosed}

-- A text begins with a `'`, the byte 39. From there on each `''`, taken from the left, is one `'`, and the
-- first `'` that is in no such pair closes the text.

-- How many of the bytes behind its first quote a text takes, its last quote among them; none where no
-- quote closes it. The flag says whether these bytes stand behind a `'` that is in no pair yet.
abbrev pub text_width : Bool → List ℕ → Option ℕ
text_width false [] = None
text_width false (b ∷ bs) = option_map suc (text_width (b == 39) bs)
text_width true [] = Some 0
text_width true (b ∷ bs) = if b == 39 then option_map suc (text_width false bs) else Some 0

-- the bytes with each pair of quotes as one, or those behind the first quote of a pair
abbrev pub unpaired : Bool → List ℕ → List ℕ
unpaired false [] = []
unpaired false (b ∷ bs) = b ∷ unpaired (b == 39) bs
unpaired true [] = []
unpaired true (b ∷ bs) = unpaired false bs

-- what a closed text of these bytes is
abbrev pub closed_text : List ℕ → Lexeme
closed_text bytes = if is_utf8 bytes then Known (Text bytes) else Wrong Bad

-- what a text is, by how many of the bytes behind its first quote it takes
abbrev pub text_lexeme : Option ℕ → List ℕ → Lexeme
text_lexeme (Some width) behind = closed_text (unpaired false (take (width - 1) behind))
text_lexeme None behind = Wrong Unclosed

-- how many of the bytes behind its first quote it takes, all of them where none closes it
abbrev pub text_more : Option ℕ → List ℕ → ℕ
text_more (Some width) behind = width
text_more None behind = length behind
