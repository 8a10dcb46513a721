use Rattle.std.proofs.Common.{◌≡◌, sym, subst, true}
use Rattle.pk_bind.specs.Fitting.{cond_fits}
use Rattle.pk_bind.proofs.FitLemmas.{deleted_fits, deleted_words}
use Rattle.pk_bind.proofs.deleting.ready.Goals as goal

pub cond_asked-requires : goal.cond_asked-requires
cond_asked-requires c = deleted_words c.args.schema.now c.args.delete.now c.requires.texts c.requires.unrefused

pub returns-clause-fits : goal.returns-clause-fits
returns-clause-fits c =
    subst (λ cond. cond_fits c.args.schema.now.columns cond ≡ true) (sym c.in_ok-cond_asked.ensures)
    (deleted_fits c.args.schema.now c.args.delete.now c.requires.texts c.requires.unrefused)
