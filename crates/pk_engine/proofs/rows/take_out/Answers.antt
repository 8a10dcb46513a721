use Rattle.std.proofs.Common.{rules, length, ◌∙◌, sym}
use Rattle.std.proofs.lemmas.Bool.{eqb-true}
use Rattle.std.proofs.lemmas.Fn.{filter_same}
use Rattle.pk_guard.specs.Changed.{stays}
use Rattle.pk_engine.proofs.RowLemmas.{none_out}
use Rattle.pk_engine.proofs.rows.take_out.Goals as goal

-- the closure keeps the rows whose ids aren't among these
pub returns-then-not-is_empty : goal.returns-then-not-is_empty
returns-then-not-is_empty c =
    filter_same _ (stays c.args.ids.now) _ (λ x b g called. (search rules, search rules)) _ _ c.retain.ensures.filtered

pub returns-else-not-is_empty : goal.returns-else-not-is_empty
returns-else-not-is_empty c = none_out c.args.ids.now c.args.rows.now.items (eqb-true (length c.args.ids.now) 0 (sym c.is_empty.ensures ∙ c.if-not-is_empty.false))
