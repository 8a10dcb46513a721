use Rattle.std.proofs.Common.{◌≡◌, List, sym, subst, true}
use Rattle.std.specs.List.{list_all}
use Rattle.pk_syntax.specs.declared.literal.Literal.{Literal}
use Rattle.pk_bind.specs.Literals.{has_words}
use Rattle.pk_bind.proofs.WordsLemmas.{item_has}
use Rattle.pk_bind.proofs.new_rows.rows_from.Goals as goal

pub made_row-requires-clause-words : goal.made_row-requires-clause-words
made_row-requires-clause-words c =
    subst (λ (row : List Literal). list_all has_words row ≡ true) (sym c.as_slice.ensures)
    (item_has (list_all has_words) c.args.rows.now c.loop-row.row-index c.row-item.result c.requires.words c.loop-row-test.true c.row-item.is)
