use Rattle.pk_run.proofs.ValidRuns.{passed_valid}
use Rattle.pk_run.proofs.laws.runs_pass_valid_states.Goals as goal

pub returns : goal.returns
returns c = passed_valid c.pieces_are_lexed.ensures c.what_is_parsed_is_given.ensures c.answers_keep_bases_valid.ensures.empty c.answers_keep_bases_valid.ensures.kept
