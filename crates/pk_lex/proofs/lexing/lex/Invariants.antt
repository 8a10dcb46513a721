use Rattle.std.proofs.Common.{◌≡◌, ◌+◌, ◌≤◌, length}
use Rattle.pk_lex.specs.Lexemes.{lexemes_from}
use Rattle.pk_lex.specs.Building.{pieces_with}
use Rattle.pk_lex.specs.Pieces.{pieces}
use Rattle.pk_lex.proofs.lexing.lex.Given as goal

abbrev pub invariant-loop-rest : goal.invariant-loop-rest
invariant-loop-rest l =
    record {
      line_in_range : l.line + length l.rest ≤ 1 + length l.fn.script;
      same_pieces : pieces_with l.builder (lexemes_from l.line 0 l.rest) ≡ pieces l.fn.script;
    }

abbrev pub decreases-loop-rest : goal.decreases-loop-rest
decreases-loop-rest l = length l.rest
