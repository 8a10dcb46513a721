use Rattle.std.proofs.Common.{subst}
use Rattle.pk_bind.specs.Bound.{IsBound}
use Rattle.pk_bind.specs.Select.{select_refusals, selection_of}
use Rattle.pk_exec.proofs.SeenLemmas.{selected_is}
use Rattle.pk_exec.proofs.work.Work.select.Goals as goal

pub returns-in_ok-told-in-Ready-clause-answer : goal.returns-in_ok-told-in-Ready-clause-answer
returns-in_ok-told-in-Ready-clause-answer g c tells =
    let s = c.args.schema.now in
    let q = c.args.select.now in
    let bound = subst (IsBound (select_refusals s q) (selection_of s.columns q)) c.in-Ready.is c.in_ok-refusal.ensures.bound in (
      bound.0,
      selected_is c.args.self.now c.args.table (g.V.View.rows c.args.view.now) c.in-Ready.selection (selection_of s.columns q) s.columns c.columns.result.now
          c.in_ok-told-in-Ready.field-0 (c.in_ok-told-in-Ready.ensures.told tells) bound.1 c.columns.ensures.columns,
    )
