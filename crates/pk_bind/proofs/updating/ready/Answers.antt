use Rattle.std.proofs.Common.{◌≡◌, sym, subst, true}
use Rattle.pk_bind.specs.Fitting.{edit_fits}
use Rattle.pk_bind.proofs.FitLemmas.{edited_fits, edited_words}
use Rattle.pk_bind.proofs.updating.ready.Goals as goal

pub edit_of-requires-clause-sets : goal.edit_of-requires-clause-sets
edit_of-requires-clause-sets c =
    (edited_words c.args.schema.now c.args.update.now c.requires.shape c.requires.texts c.requires.unrefused).0

pub edit_of-requires-clause-cond : goal.edit_of-requires-clause-cond
edit_of-requires-clause-cond c =
    (edited_words c.args.schema.now c.args.update.now c.requires.shape c.requires.texts c.requires.unrefused).1

pub returns-clause-fits : goal.returns-clause-fits
returns-clause-fits c =
    subst (λ edit. edit_fits c.args.schema.now.columns edit ≡ true) (sym c.in_ok-edit_of.ensures)
    (edited_fits c.args.schema.now c.args.update.now c.requires.texts c.requires.unrefused)
