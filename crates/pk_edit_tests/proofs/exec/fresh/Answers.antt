use Rattle.pk_edit_tests.proofs.exec.fresh.Goals as goal

pub returns-clause-fits : goal.returns-clause-fits
returns-clause-fits c = c.new.ensures.fits c.args.schema.now 7
