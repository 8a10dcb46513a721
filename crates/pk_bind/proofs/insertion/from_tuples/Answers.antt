use Rattle.std.proofs.Common.{sym, ◌∙◌}
use Rattle.pk_bind.specs.Insert.{literals_refusals}
use Rattle.pk_bind.proofs.FoundLemmas.{none_stand}
use Rattle.pk_bind.proofs.WordsLemmas.{rows_words}
use Rattle.pk_bind.proofs.insertion.from_tuples.Goals as goal

pub made_rows-requires-clause-words : goal.made_rows-requires-clause-words
made_rows-requires-clause-words c =
    let listed = c.args.listed.now in
    let rows = c.args.rows.now in
    let none = none_stand (literals_refusals c.args.columns.now listed rows) (sym c.in_ok-refusal.ensures ∙ c.in_default.is) in
    rows_words listed rows c.requires.short c.requires.texts none.0 none.1.1.1.0
