use Rattle.std.proofs.Common.{sym, ◌∙◌}
use Rattle.std.proofs.lemmas.Bool.{le-ltb}
use Rattle.pk_values.proofs.BitLemmas.{has_none_above}
use Rattle.pk_values.proofs.column_set.ColSet.has.Goals as goal

pub returns-else-c-lt-COLUMN_LIMIT : goal.returns-else-c-lt-COLUMN_LIMIT
returns-else-c-lt-COLUMN_LIMIT c =
    rw (sym c.self.view_is)
    (le-ltb c.args.c 32 c.if-c-lt-COLUMN_LIMIT.false
    ∙ sym (has_none_above c.self.inside.bits c.args.c c.self.invariant c.if-c-lt-COLUMN_LIMIT.false))
