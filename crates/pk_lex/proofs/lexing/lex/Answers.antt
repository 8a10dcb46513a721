use Rattle.std.proofs.Common.{◌+◌, ap, sym, ◌∙◌, arith, take, drop, ◌≡◌, refl, ℕ, List, [], ◌∷◌, true, length}
use Rattle.std.proofs.lemmas.List.Sums.{count_by-le-length}
use Rattle.std.proofs.lemmas.Bool.{eqb-true}
use Rattle.std.specs.Prelude.{◌==◌}
use Rattle.pk_lex.specs.Lexemes.{lexemes, lexemes_from, line_feeds}
use Rattle.pk_lex.specs.Pieces.{pieces}
use Rattle.pk_lex.specs.Building.{pieces_with}
use Rattle.pk_lex.proofs.LexemeLemmas.{front_fits, lexemes_from-front}
use Rattle.pk_lex.proofs.LexedLemmas.{lexed_if}
use Rattle.pk_lex.proofs.lexing.lex.Goals as goal

pub loop-rest-init : goal.loop-rest-init
unfolding pieces lexemes
loop-rest-init c =
    record {
      line_in_range = omega arith;
      same_pieces = c.new-builder.ensures (lexemes_from 1 0 c.args.script.now);
    }

pub split_at-requires : goal.split_at-requires
split_at-requires c = (front_fits c.loop-rest.rest.now c.in_ok-lexeme.field-0 c.in_ok-lexeme.ensures).1

pub loop-rest-preserved : goal.loop-rest-preserved
loop-rest-preserved c =
    let few = count_by-le-length (λ b. b == 10) c.split_at.result.0.now in
    let front = c.in_ok-lexeme.field-0 in
    let cut = lexemes_from-front c.loop-rest.line c.loop-rest.rest.now front c.in_ok-lexeme.ensures in
    record {
      line_in_range = omega (arith, few);
      same_pieces =
          rw (c.line_feeds-line.ensures, c.split_at.ensures.front, c.split_at.ensures.back)
          (c.in_ok-add.ensures (lexemes_from (c.loop-rest.line + line_feeds (take front.width c.loop-rest.rest.now)) 0 (drop front.width c.loop-rest.rest.now))
          ∙ ap (pieces_with c.loop-rest.builder) (sym cut) ∙ c.loop-rest.invariant.same_pieces);
    }

none_left : (line : ℕ) (rest : List ℕ) → (length rest == 0) ≡ true → lexemes_from line 0 rest ≡ []
none_left line [] h = refl
none_left line (b ∷ rest) h =
    let none = eqb-true (length (b ∷ rest)) 0 h in absurd (omega (arith, none))

pub returns-clause-lexed : goal.returns-clause-lexed
returns-clause-lexed c =
    let over = none_left c.loop-rest.line c.loop-rest.rest.now (sym c.loop-rest-test.ensures) in
    lexed_if c.finish.result (λ v. v.items) c.args.script.now (pieces_with c.loop-rest.builder [])
    (ap (pieces_with c.loop-rest.builder) (sym over) ∙ c.loop-rest.invariant.same_pieces) c.finish.ensures
