use Rattle.std.proofs.Common.{◌≡◌, sym, subst, true}
use Rattle.pk_bind.specs.Fitting.{selection_fits}
use Rattle.pk_bind.proofs.FitLemmas.{selected_fits, selected_words}
use Rattle.pk_bind.proofs.selecting.ready.Goals as goal

pub selection_of-requires : goal.selection_of-requires
selection_of-requires c = selected_words c.args.schema.now c.args.select.now c.requires.texts c.requires.unrefused

pub returns-clause-fits : goal.returns-clause-fits
returns-clause-fits c =
    subst (λ selection. selection_fits c.args.schema.now.columns selection ≡ true) (sym c.in_ok-selection_of.ensures)
    (selected_fits c.args.schema.now c.args.select.now c.requires.texts c.requires.unrefused)
