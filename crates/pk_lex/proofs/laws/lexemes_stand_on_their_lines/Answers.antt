use Rattle.pk_lex.specs.Lexemes.{lexemes}
use Rattle.pk_lex.proofs.LexemeLemmas.{stands_at}
use Rattle.pk_lex.proofs.laws.lexemes_stand_on_their_lines.Goals as goal

pub returns : goal.returns
unfolding lexemes
returns c = λ script k d within. stands_at 1 0 script k d within
