use Rattle.pk_lex.proofs.PieceLemmas.{pieces_of-append}
use Rattle.pk_lex.proofs.laws.semicolons_cut.Goals as goal

pub returns : goal.returns
returns c = λ before behind line. pieces_of-append before behind line
