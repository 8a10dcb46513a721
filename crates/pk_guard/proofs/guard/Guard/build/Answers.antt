use Rattle.std.specs.List.Sorted.{IsStrictlySortedBy}
use Rattle.std.proofs.Common.{sym, ◌∙◌, Some, None}
use Rattle.pk_guard.proofs.JudgeLemmas.{judged_alone}
use Rattle.pk_guard.proofs.guard.Guard.build.Goals as goal

pub first_break-requires-clause-rows_ascend : goal.first_break-requires-clause-rows_ascend
unfolding IsStrictlySortedBy
first_break-requires-clause-rows_ascend c = tt

pub first_break-requires-clause-gone_ascend : goal.first_break-requires-clause-gone_ascend
unfolding IsStrictlySortedBy
first_break-requires-clause-gone_ascend c = tt

pub returns-in-Ok-None : goal.returns-in-Ok-None
returns-in-Ok-None c = judged_alone c.args.schema.now c.args.rows.now None c.requires.ascend (sym c.in-Ok-None.field-0-is ∙ c.in-Ok-None.ensures)

pub returns-in-Ok-Some : goal.returns-in-Ok-Some
returns-in-Ok-Some c = judged_alone c.args.schema.now c.args.rows.now (Some c.in-Ok-Some.broken) c.requires.ascend (sym c.in-Ok-Some.field-0-is ∙ c.in-Ok-Some.ensures)
