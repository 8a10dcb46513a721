use Rattle.std.proofs.Common.{◌∙◌}
use Rattle.pk_exec.proofs.SeenLemmas.{all_kept, all_from}
use Rattle.pk_exec.proofs.work.Work.rows.Goals as goal

pub returns-clause-rows : goal.returns-clause-rows
returns-clause-rows g c tells =
    c.from_vec.ensures ∙ c.in_ok-rows.ensures.told tells ∙ all_kept _
    ∙ all_from c.args.self.now c.args.table (g.V.View.rows c.args.view.now) c.edits_of.result.0.now c.edits_of.result.1.now
    c.edits_of.ensures.edited c.edits_of.ensures.added
