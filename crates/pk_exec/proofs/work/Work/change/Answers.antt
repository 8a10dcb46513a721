use Rattle.std.proofs.Common.{IsTrue, All, sym, subst}
use Rattle.pk_schema.specs.Admits.{Admits}
use Rattle.pk_exec.specs.Drafts.{change_fits}
use Rattle.pk_exec.specs.Seen.{Fits, IsAdmitted}
use Rattle.pk_exec.proofs.SettleLemmas.{settled_others, settled_covers, settled_fits, ok_curried}
use Rattle.pk_exec.proofs.work.Work.change.Goals as goal

pub returns-clause-covers : goal.returns-clause-covers
returns-clause-covers g c =
    settled_covers c.args.table c.in_ok-draft.draft (g.V.View.rows c.args.view.now) c.args.self.now c.settle.new.self c.settle.result c.settle.ensures c.in_ok-draft.ensures.part

pub returns-clause-others : goal.returns-clause-others
returns-clause-others g c = settled_others c.args.table c.in_ok-draft.draft c.args.self.now c.settle.new.self c.settle.result c.settle.ensures

pub returns-clause-fits : goal.returns-clause-fits
returns-clause-fits g c =
    let w = c.args.self.now in
    let k = c.args.table in
    ok_curried c.settle.result (g.V.View.fits c.args.view.now) (λ s. Fits w s k) (λ s. IsTrue (change_fits s.columns c.args.change.now)) (λ s. Fits c.settle.new.self s k)
    (settled_fits k c.in_ok-draft.draft w c.settle.new.self c.settle.result
    (λ s. g.V.View.fits c.args.view.now s × Fits w s k × IsTrue (change_fits s.columns c.args.change.now)) c.settle.ensures
    (λ s p. c.in_ok-draft.ensures.edited s p.0 (subst (All (IsAdmitted s)) (sym c.edits_of.ensures.edited) p.1.0) p.2)
    (λ s p. c.in_ok-draft.ensures.added s (subst (All (Admits s)) (sym c.edits_of.ensures.added) p.1.1) p.2))
