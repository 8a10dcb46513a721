use Rattle.std.proofs.Common.{◌≡◌, ◌-◌, ◌+◌, ◌^◌, ℕ, List, length, ap, ◌∙◌}
use Rattle.std.specs.Prelude.{min}
use Rattle.pk_engine.specs.Base.{Table, added_by}
use Rattle.pk_engine.proofs.CommitLemmas.{counted, rows_with_is, same_at, valid_at}
use Rattle.pk_engine.proofs.engine.Engine.rows_with.Goals as goal

pub returns : goal.returns
returns c = λ st t stands is.
    let e = c.args.self.now in
    let ch = c.args.changes.now in
    let same = same_at e.tables.items c.args.place t c.index.result.now c.index.ensures is in
    let sub : c.saturating_sub.result ≡ e.rows - length ch.gone = c.saturating_sub.ensures ∙ ap (λ (xs : List ℕ). e.rows - length xs) c.as_slice.ensures in
    let add : c.added-added.result ≡ added_by t ch = c.added-added.ensures ∙ ap (λ (u : Table). added_by u ch) same in
    rows_with_is e st c.args.place t ch c.saturating_add.result stands is (counted t ch (valid_at e st c.args.place t stands is) (c.requires.of t is))
    (c.saturating_add.ensures ∙ ap (λ (a : ℕ). min (a + c.added-added.result) (2 ^ 64 - 1)) sub ∙ ap (λ (b : ℕ). min (e.rows - length ch.gone + b) (2 ^ 64 - 1)) add)
