use Rattle.pk_engine.proofs.ValidLemmas.{empty_base_valid}
use Rattle.pk_engine.proofs.KeptLemmas.{answer_valid}
use Rattle.pk_engine.proofs.laws.answers_keep_bases_valid.Goals as goal

pub returns : goal.returns
returns c =
    record {
      empty = empty_base_valid;
      kept = answer_valid c.keys_hold_where_nothing_breaks.ensures c.declarations_make_shapes.ensures c.statements_make_entries.ensures;
    }
