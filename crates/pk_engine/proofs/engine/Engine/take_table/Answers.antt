use Rattle.std.proofs.Common.{◌≤◌, ◌-◌, ℕ, List, length, ◌∙◌, sym, ap, subst, refl}
use Rattle.pk_report.specs.declared.reply.Reply.TheVariants.{Dropped}
use Rattle.pk_engine.specs.Base.{Table}
use Rattle.pk_engine.proofs.CommitLemmas.{rows_left, dropped_stands, same_at, name_at}
use Rattle.pk_engine.proofs.OrderLemmas.{blank}
use Rattle.pk_engine.proofs.StandsLemmas.{place_within}
use Rattle.pk_engine.proofs.engine.Engine.take_table.Goals as goal

pub overflow_sub-self : goal.overflow_sub-self
overflow_sub-self c =
    subst (λ (n : ℕ). n ≤ c.args.self.now.rows) (sym c.row_count.ensures)
    (rows_left c.args.self.now c.requires.stands.0 c.args.place c.remove-table.result c.requires.stands.1 (place_within c.args.name.now c.args.self.now.tables.items c.args.place blank c.requires.found) c.remove-table.ensures.value)

pub returns-clause-reply : goal.returns-clause-reply
returns-clause-reply c = λ st t stands is.
    ap (λ (name : List ℕ). Dropped name) (c.in_ok-copy.ensures ∙ sym (name_at c.args.name.now c.args.self.now.tables.items c.args.place t c.requires.found is))

pub returns-clause-next : goal.returns-clause-next
returns-clause-next c = λ st t stands is.
    let same = same_at c.args.self.now.tables.items c.args.place t c.remove-table.result c.remove-table.ensures.value is in
    dropped_stands c.args.self.now _ st c.args.place t stands is c.requires.commits refl c.remove-table.ensures.items
    (ap (λ (n : ℕ). c.args.self.now.rows - n) (c.row_count.ensures ∙ ap (λ (u : Table). length u.rows) same))
