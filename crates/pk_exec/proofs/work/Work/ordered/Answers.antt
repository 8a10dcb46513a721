use Rattle.std.proofs.Common.{◌∙◌, ap}
use Rattle.pk_exec.specs.Selecting.{sorted_by}
use Rattle.pk_exec.proofs.SeenLemmas.{seen_from}
use Rattle.pk_exec.proofs.work.Work.ordered.Goals as goal

pub returns-clause-told : goal.returns-clause-told
returns-clause-told g c tells =
    c.in_ok-sort_rows.ensures
    ∙ ap (sorted_by c.args.order.now)
    (c.in_ok-rows.ensures.told tells
    ∙ seen_from c.args.self.now c.args.table (g.V.View.rows c.args.view.now) c.args.cond.now c.edits_of.result.0.now c.edits_of.result.1.now
    c.edits_of.ensures.edited c.edits_of.ensures.added)
