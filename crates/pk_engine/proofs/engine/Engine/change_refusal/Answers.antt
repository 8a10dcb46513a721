use Rattle.std.proofs.Common.{[], ◌∷◌, sym, ap, ◌∙◌}
use Rattle.pk_engine.specs.Base.{Table, changed_by}
use Rattle.pk_engine.specs.Keys.{key_broken}
use Rattle.pk_engine.specs.Limits.{limit_refusals}
use Rattle.pk_engine.proofs.CommitLemmas.{keys_decide, same_at, some_at, valid_at}
use Rattle.pk_engine.proofs.StandsLemmas.{if_ok}
use Rattle.pk_engine.proofs.engine.Engine.change_refusal.Goals as goal
use Rattle.pk_values.proofs.RefusalLemmas.{first_before}

pub broken_key-requires-clause-valid : goal.broken_key-requires-clause-valid
broken_key-requires-clause-valid c =
    let is = some_at c.args.self.now.tables.items c.args.place c.index.result.now c.requires.within c.index.ensures in
    valid_at c.args.self.now c.requires.stands.0 c.args.place c.index.result.now c.requires.stands.1 is

pub broken_key-requires-clause-of : goal.broken_key-requires-clause-of
broken_key-requires-clause-of c =
    c.requires.of c.index.result.now (some_at c.args.self.now.tables.items c.args.place c.index.result.now c.requires.within c.index.ensures)

pub returns-in-Some-clause-stands : goal.returns-in-Some-clause-stands
returns-in-Some-clause-stands c = λ st t stands is.
    let ch = c.args.changes.now in
    sym (first_before (limit_refusals st t ch) (key_broken (changed_by ch t) ∷ []) c.in-Some.refusal (sym (c.in-Some.ensures.stands st t stands is)))

pub returns-clause-stands : goal.returns-clause-stands
returns-clause-stands c =
    if_ok c.broken_key.result c.broken_key.ensures (λ r is_broken st t stands is.
    let same = same_at c.args.self.now.tables.items c.args.place t c.index.result.now c.index.ensures is in
    is_broken ∙ ap (λ (u : Table). key_broken (changed_by c.args.changes.now u)) same
    ∙ sym (keys_decide st t c.args.changes.now (sym (c.in_default.ensures.stands st t stands is))))
