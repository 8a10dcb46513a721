use Rattle.pk_discover.proofs.CompletionLemmas.{keys_hold}
use Rattle.pk_discover.proofs.laws.minimal_keys_hold_in_completions.Goals as goal

pub returns : goal.returns
returns c = keys_hold c.minimal_keys_are_listed.ensures c.certain_keys_have_no_weak_pair.ensures c.possible_keys_have_no_strong_pair.ensures
