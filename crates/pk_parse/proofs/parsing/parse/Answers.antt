use Rattle.pk_parse.proofs.StatementGiven.{read_of_piece}
use Rattle.pk_parse.proofs.parsing.parse.Goals as goal

pub returns-in-Ok-clause-given : goal.returns-in-Ok-clause-given
returns-in-Ok-clause-given c =
    λ lexed. read_of_piece c.args.piece.now c.in-Tokens.tokens c.as_slice-tokens.result.now c.in-Ok.statement c.in-Tokens.is c.as_slice-tokens.ensures c.in-Ok.ensures lexed
