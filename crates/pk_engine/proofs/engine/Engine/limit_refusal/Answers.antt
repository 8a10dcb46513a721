use Rattle.std.proofs.Common.{◌≡◌, ◌-◌, ◌+◌, ◌^◌, ◌<◌, ◌≤◌, ℕ, ap, ◌∙◌, sym, subst}
use Rattle.std.specs.Prelude.{min}
use Rattle.pk_engine.specs.Base.{Table, added_by}
use Rattle.pk_engine.specs.Limits.{most_ids}
use Rattle.pk_engine.proofs.CommitLemmas.{counted, rows_free, ids_refused, ids_free, same_at, valid_at}
use Rattle.pk_engine.proofs.engine.Engine.limit_refusal.Goals as goal

pub returns-then-saturating_add-gt-MOST_IDS-clause-stands : goal.returns-then-saturating_add-gt-MOST_IDS-clause-stands
returns-then-saturating_add-gt-MOST_IDS-clause-stands c = λ st t stands is.
    let e = c.args.self.now in
    let ch = c.args.changes.now in
    let same = same_at e.tables.items c.args.place t c.index-table.result.now c.index-table.ensures is in
    let sum : c.saturating_add.result ≡ min (t.next + added_by t ch) (2 ^ 64 - 1) =
    c.saturating_add.ensures ∙ ap (λ (a : ℕ). min (a + c.added.result) (2 ^ 64 - 1)) (c.next.ensures ∙ ap (λ (u : Table). u.next) same)
    ∙ ap (λ (b : ℕ). min (t.next + b) (2 ^ 64 - 1)) (c.added.ensures ∙ ap (λ (u : Table). added_by u ch) same) in
    ids_refused st t ch (counted t ch (valid_at e st c.args.place t stands is) (c.requires.of t is)) (subst (λ (n : ℕ). most_ids < n) sum c.if-saturating_add-gt-MOST_IDS.true)
    ∙ sym (rows_free st t ch c.args.rows (c.requires.rows st t stands is) c.if-rows-gt-MOST_ROWS.false)

pub returns-clause-stands : goal.returns-clause-stands
returns-clause-stands c = λ st t stands is.
    let e = c.args.self.now in
    let ch = c.args.changes.now in
    let same = same_at e.tables.items c.args.place t c.index-table.result.now c.index-table.ensures is in
    let sum : c.saturating_add.result ≡ min (t.next + added_by t ch) (2 ^ 64 - 1) =
    c.saturating_add.ensures ∙ ap (λ (a : ℕ). min (a + c.added.result) (2 ^ 64 - 1)) (c.next.ensures ∙ ap (λ (u : Table). u.next) same)
    ∙ ap (λ (b : ℕ). min (t.next + b) (2 ^ 64 - 1)) (c.added.ensures ∙ ap (λ (u : Table). added_by u ch) same) in
    c.commits_full.ensures.stands st stands
    ∙ sym (ids_free st t ch (counted t ch (valid_at e st c.args.place t stands is) (c.requires.of t is)) (subst (λ (n : ℕ). n ≤ most_ids) sum c.if-saturating_add-gt-MOST_IDS.false))
    ∙ sym (rows_free st t ch c.args.rows (c.requires.rows st t stands is) c.if-rows-gt-MOST_ROWS.false)
