use Rattle.pk_gate.proofs.Frames.{one_list}
use Rattle.pk_gate.proofs.laws.a_log_has_one_list.Goals as goal

pub returns : goal.returns
returns c = one_list
