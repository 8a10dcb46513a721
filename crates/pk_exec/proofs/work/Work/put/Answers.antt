use Rattle.std.proofs.Common.{◌∙◌, List, ap, sym, subst, rules}
use Rattle.pk_exec.specs.Works.{IsWork, TableEdits}
use Rattle.pk_exec.proofs.WorkLemmas.{put_is_work}
use Rattle.pk_exec.proofs.PlaceLemmas.{put_set, put_insert, put_within}
use Rattle.pk_exec.proofs.work.Work.put.Goals as goal

pub invariant_of-self : goal.invariant_of-self
invariant_of-self c =
    let w = c.args.self.now in
    let e = c.args.edits in
    let put = put_set e w c.self.inside.tables.items _ c.place_of-place.result c.is_at.result c.self.view_is (ap (λ (t : TableEdits). t.table) c.edits.view_is)
    c.place_of-place.ensures c.is_at.ensures c.if-is_at.true in
    subst (λ (ts : List TableEdits). IsWork (record { tables = ts })) (sym put)
    (put_is_work e w (subst IsWork c.self.view_is c.self.invariant) c.requires)

pub returns-then-is_at : goal.returns-then-is_at
returns-then-is_at c =
    ap (λ (ts : List TableEdits). record { tables = ts })
    (put_set c.args.edits c.args.self.now c.self.inside.tables.items _ c.place_of-place.result c.is_at.result c.self.view_is (ap (λ (t : TableEdits). t.table) c.edits.view_is)
    c.place_of-place.ensures c.is_at.ensures c.if-is_at.true)

pub insert-requires : goal.insert-requires
insert-requires c =
    let within = put_within c.args.self.now c.self.inside.tables.items _ c.place_of-place.result c.self.view_is c.place_of-place.ensures in
    search (rules, within)

pub invariant_of-self-2 : goal.invariant_of-self-2
invariant_of-self-2 c =
    let w = c.args.self.now in
    let e = c.args.edits in
    let put = put_insert e w c.self.inside.tables.items _ c.place_of-place.result c.is_at.result c.self.view_is (ap (λ (t : TableEdits). t.table) c.edits.view_is)
    c.place_of-place.ensures c.is_at.ensures c.if-is_at.false in
    subst (λ (ts : List TableEdits). IsWork (record { tables = ts })) (sym (c.in_ok-insert.ensures.items ∙ put))
    (put_is_work e w (subst IsWork c.self.view_is c.self.invariant) c.requires)

pub returns : goal.returns
returns c =
    ap (λ (ts : List TableEdits). record { tables = ts })
    (c.in_ok-insert.ensures.items
    ∙ put_insert c.args.edits c.args.self.now c.self.inside.tables.items _ c.place_of-place.result c.is_at.result c.self.view_is (ap (λ (t : TableEdits). t.table) c.edits.view_is)
    c.place_of-place.ensures c.is_at.ensures c.if-is_at.false)
