use Rattle.std.proofs.Common.{◌≡◌, ◌+◌, arith, suc}
use Rattle.pk_lex.specs.declared.lexeme.Lexeme.TheVariants.{Gap}
use Rattle.pk_lex.specs.Lexemes.{lexemes}
use Rattle.pk_lex.proofs.FillLemmas.{parts_from, parts_joined, parts_count, parts_taken}
use Rattle.pk_lex.proofs.laws.lexemes_fill_the_script.Goals as goal

pub returns : goal.returns
unfolding lexemes
returns c =
    λ script. (
      parts_from 0 script,
      parts_joined 0 script,
      parts_count 1 0 script,
      λ k within. let next : k + 1 ≡ suc k = omega arith in rw next (parts_taken 1 0 script k (0, Gap) within),
    )
