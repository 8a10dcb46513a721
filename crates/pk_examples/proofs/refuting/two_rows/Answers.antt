use Rattle.std.proofs.Common.{sym, subst}
use Rattle.pk_schema.specs.Admits.{Admits}
use Rattle.pk_examples.proofs.AdmitLemmas.{low_admitted, high_admitted}
use Rattle.pk_examples.proofs.EntryLemmas.{low_is, high_is}
use Rattle.pk_examples.proofs.RefuteLemmas.{refuted}
use Rattle.pk_examples.proofs.refuting.two_rows.Goals as goal

pub returns-clause-low : goal.returns-clause-low
returns-clause-low c =
    low_is c.args.schema.now c.args.key _ _ _ _ c.columns.ensures.columns c.left_null-nulls.ensures.members c.empty.ensures.set c.empty.ensures.none c.in_ok-row_of.ensures

pub returns-clause-high : goal.returns-clause-high
returns-clause-high c =
    high_is c.args.schema.now c.args.key _ _ _ _ c.columns-2.ensures.columns c.left_null-nulls.ensures.members c.outside.ensures.members c.in_ok-row_of-2.ensures

pub returns-clause-refute : goal.returns-clause-refute
returns-clause-refute c = refuted c.args.schema.now c.args.key _ _ c.columns.ensures.shape (returns-clause-low c) (returns-clause-high c)

pub returns-clause-low_admitted : goal.returns-clause-low_admitted
returns-clause-low_admitted c = subst (Admits c.args.schema.now) (sym (returns-clause-low c)) (low_admitted c.args.schema.now c.args.key c.columns.ensures.shape)

pub returns-clause-high_admitted : goal.returns-clause-high_admitted
returns-clause-high_admitted c = subst (Admits c.args.schema.now) (sym (returns-clause-high c)) (high_admitted c.args.schema.now c.args.key c.columns.ensures.shape)
