use Rattle.std.specs.Prelude.{length}
use Rattle.pk_rule.specs.Tables.{Implied}
use Rattle.pk_imply.proofs.LawLemmas.{one_cover}
use Rattle.pk_imply.proofs.laws.one_list_is_the_cover.Goals as goal

pub returns : goal.returns
returns c = λ s a b one other. one_cover (Implied s) (length s.kinds) a b one other
