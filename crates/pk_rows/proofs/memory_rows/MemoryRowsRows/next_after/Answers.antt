use Rattle.std.proofs.Common.{Some, None, sym, subst}
use Rattle.pk_rows.specs.Maps.{IsNextAbove}
use Rattle.pk_rows.proofs.NextLemmas.{next_found, next_none}
use Rattle.pk_rows.proofs.memory_rows.MemoryRowsRows.next_after.Goals as goal

pub returns-in-None : goal.returns-in-None
returns-in-None g c =
    λ station m is. subst (λ n. IsNextAbove n c.args.place None) (sym is)
    (next_none c.args.self.now.rows c.args.place c.range.result (c.range.ensures.in_range tt) c.in-None.ensures.steps.0)

pub returns-in-Some : goal.returns-in-Some
returns-in-Some g c =
    λ station m is. subst (λ n. IsNextAbove n c.args.place (Some c.in-Some.next.now)) (sym is)
    (next_found c.args.self.now.rows c.args.place c.range.result (c.in-Some.next.now, c.in-Some.field-0-1.now) c.next.new.self (c.range.ensures.in_range tt) c.in-Some.ensures.steps)
