use Rattle.std.proofs.Common.{◌∙◌, sym}
use Rattle.pk_examples.proofs.EntryLemmas.{has_none, possible_known}
use Rattle.pk_examples.proofs.refuting.left_null.Goals as goal

pub returns-in-Possible-clause-members : goal.returns-in-Possible-clause-members
returns-in-Possible-clause-members c = λ column.
    has_none _ column c.empty.ensures.set c.empty.ensures.none ∙ sym (possible_known _ column c.args.key c.in-Possible.is)
