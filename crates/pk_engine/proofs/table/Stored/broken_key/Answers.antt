use Rattle.std.proofs.Common.{◌≡◌, ap, sym, subst, ◌∙◌}
use Rattle.std.specs.Option.{option_map}
use Rattle.std.specs.List.{All}
use Rattle.std.specs.List.Sorted.{IsStrictlySortedBy}
use Rattle.std.specs.Ordering.{nat_cmp}
use Rattle.pk_values.specs.declared.placed.Placed.{Placed}
use Rattle.pk_values.specs.declared.refusal.Refusal.TheVariants.{BrokenKey}
use Rattle.pk_schema.specs.Admits.{Admits}
use Rattle.pk_exec.specs.Rows.{ids_of}
use Rattle.pk_guard.specs.Breaks.{first_break}
use Rattle.pk_guard.specs.Changed.{changed_rows}
use Rattle.pk_engine.specs.Base.{Table}
use Rattle.pk_engine.specs.Keys.{KeepsKeys}
use Rattle.pk_engine.proofs.CommitLemmas.{counted}
use Rattle.pk_engine.proofs.KeyLemmas.{broken_by}
use Rattle.pk_engine.proofs.PutLemmas.{put_ascend, put_admitted}
use Rattle.pk_engine.proofs.StandsLemmas.{if_ok}
use Rattle.pk_engine.proofs.table.Stored.broken_key.Goals as goal

pub first_break-requires-clause-ascend : goal.first_break-requires-clause-ascend
first_break-requires-clause-ascend c =
    rw c.as_slice-rows.ensures.value (subst (λ (t : Table). IsStrictlySortedBy nat_cmp (ids_of t.rows)) (sym c.self.view_is) c.requires.valid.ids.0)

pub first_break-requires-clause-admitted : goal.first_break-requires-clause-admitted
first_break-requires-clause-admitted c =
    rw c.as_slice-rows.ensures.value (subst (λ (t : Table). All (λ (p : Placed). Admits t.shape p.row) t.rows) (sym c.self.view_is) c.requires.valid.rows)

pub first_break-requires-clause-hold : goal.first_break-requires-clause-hold
first_break-requires-clause-hold c = rw c.as_slice-rows.ensures.value (subst KeepsKeys (sym c.self.view_is) c.requires.valid.keys)

pub first_break-requires-clause-gone_ascend : goal.first_break-requires-clause-gone_ascend
first_break-requires-clause-gone_ascend c = (counted c.args.self.now c.args.changes.now c.requires.valid c.requires.of).ascend

pub first_break-requires-clause-put_ascend : goal.first_break-requires-clause-put_ascend
first_break-requires-clause-put_ascend c = put_ascend c.args.self.now c.args.changes.now c.requires.valid c.requires.of

pub first_break-requires-clause-put_admitted : goal.first_break-requires-clause-put_admitted
first_break-requires-clause-put_admitted c =
    subst (λ (t : Table). All (λ (p : Placed). Admits t.shape p.row) c.args.changes.now.put) (sym c.self.view_is) (put_admitted c.args.self.now c.args.changes.now c.requires.of)

pub returns : goal.returns
returns c =
    let t = c.args.self.now in
    let ch = c.args.changes.now in
    if_ok c.refusal_of.result c.refusal_of.ensures (λ r is.
    is ∙ ap (λ (u : Table). option_map (BrokenKey u.name) c.in_ok-broken.broken) c.self.view_is
    ∙ broken_by t ch c.in_ok-broken.broken
    (subst (λ (u : Table). c.in_ok-broken.broken ≡ first_break u.shape (changed_rows ch u.rows)) c.self.view_is (rw c.as_slice-rows.ensures.value at c.in_ok-broken.ensures)))
