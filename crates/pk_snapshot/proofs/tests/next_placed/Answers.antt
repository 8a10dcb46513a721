use Rattle.std.proofs.Common.{ap, sym, ◌∙◌}
use Rattle.pk_exec.specs.Rows.{next_id}
use Rattle.pk_snapshot.proofs.RisingLemmas.{next_there}
use Rattle.pk_snapshot.proofs.tests.next_placed.Goals as goal

pub row-requires : goal.row-requires
row-requires g c =
    next_there c.args.id c.in-Some.id (g.V.View.rows c.next_after.new.self)
    (ap (next_id c.args.id) c.next_after.ensures.rows ∙ (sym c.in_ok-id.ensures.next ∙ c.in-Some.is))
