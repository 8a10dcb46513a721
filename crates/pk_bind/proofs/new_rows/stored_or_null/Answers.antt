use Rattle.pk_bind.specs.Literals.{has_words}
use Rattle.pk_bind.proofs.WordsLemmas.{item_has}
use Rattle.pk_bind.proofs.new_rows.stored_or_null.Goals as goal

pub stored_value-requires : goal.stored_value-requires
stored_value-requires c = item_has has_words c.args.row.now c.args.place c.index-row-place.result c.requires c.if-place-row.true c.index-row-place.is
