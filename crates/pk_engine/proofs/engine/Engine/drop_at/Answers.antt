use Rattle.std.proofs.Common.{◌≤◌, ℕ, length, sym, subst, ap, ◌∙◌}
use Rattle.pk_engine.specs.Base.{Table}
use Rattle.pk_engine.specs.Refusing.{Step}
use Rattle.pk_engine.specs.Stands.{StandsFor}
use Rattle.pk_engine.proofs.CommitLemmas.{drop_refused, drop_done, same_at}
use Rattle.pk_engine.proofs.StandsLemmas.{if_ok}
use Rattle.pk_engine.proofs.engine.Engine.drop_at.Goals as goal

pub returns-in-Some-clause-reply : goal.returns-in-Some-clause-reply
returns-in-Some-clause-reply c = λ st t stands is.
    let same = same_at c.args.self.now.tables.items c.args.place t c.index.result.now c.index.ensures is in
    let few = subst (λ (n : ℕ). n ≤ 20000) (c.row_count.ensures ∙ ap (λ (u : Table). length u.rows) same) c.if-row_count-gt-MOST_CHANGES.false in
    ap (λ (s : Step). s.reply) (sym (drop_refused st t c.in-Some.refusal few (sym (c.in-Some.ensures.stands st stands))))

pub returns-clause-reply : goal.returns-clause-reply
returns-clause-reply c =
    if_ok c.take_table.result c.take_table.ensures.reply (λ r replies st t stands is.
    let same = same_at c.args.self.now.tables.items c.args.place t c.index.result.now c.index.ensures is in
    let few = subst (λ (n : ℕ). n ≤ 20000) (c.row_count.ensures ∙ ap (λ (u : Table). length u.rows) same) c.if-row_count-gt-MOST_CHANGES.false in
    replies st t stands is ∙ ap (λ (s : Step). s.reply) (sym (drop_done st t few (sym (c.in_default.ensures.stands st stands)))))

pub returns-clause-next : goal.returns-clause-next
returns-clause-next c =
    if_ok c.take_table.result c.take_table.ensures.next (λ r moves st t stands is.
    let same = same_at c.args.self.now.tables.items c.args.place t c.index.result.now c.index.ensures is in
    let few = subst (λ (n : ℕ). n ≤ 20000) (c.row_count.ensures ∙ ap (λ (u : Table). length u.rows) same) c.if-row_count-gt-MOST_CHANGES.false in
    subst (λ (s : Step). StandsFor c.take_table.new.self s.next) (sym (drop_done st t few (sym (c.in_default.ensures.stands st stands)))) (moves st t stands is))
