use Rattle.std.proofs.Common.{◌∙◌, sym, subst, refl}
use Rattle.pk_exec.specs.Works.{IsWork}
use Rattle.pk_exec.proofs.AppendLemmas.{edits_there, edits_absent, emptied_work, emptied_edits}
use Rattle.pk_exec.proofs.work.Work.take_edits.Goals as goal

pub invariant_of-self : goal.invariant_of-self
invariant_of-self c =
    emptied_work c.args.self.now c.self.inside.tables.items c.args.table c.place_of-place.result c.is_at.result c.replace.new.dest (c.replace.ensures.after ∙ c.none-none.ensures)
    c.self.view_is (subst IsWork c.self.view_is c.self.invariant) c.place_of-place.ensures c.is_at.ensures c.if-is_at.true

pub returns-then-is_at-clause-taken : goal.returns-then-is_at-clause-taken
returns-then-is_at-clause-taken c =
    let e = edits_there c.args.self.now c.self.inside.tables.items c.args.table c.place_of-place.result c.is_at.result c.index_mut.result.now c.self.view_is
    c.place_of-place.ensures c.is_at.ensures c.if-is_at.true in
    c.replace.ensures.value ∙ c.index_mut.ensures.value ∙ e.0

pub returns-then-is_at-clause-emptied : goal.returns-then-is_at-clause-emptied
returns-then-is_at-clause-emptied c =
    (emptied_edits c.args.self.now _ c.self.inside.tables.items c.args.table c.place_of-place.result c.is_at.result c.replace.new.dest (c.replace.ensures.after ∙ c.none-none.ensures)
    c.self.view_is c.place_of-place.ensures c.is_at.ensures c.if-is_at.true refl).0

pub returns-then-is_at-clause-others : goal.returns-then-is_at-clause-others
returns-then-is_at-clause-others c =
    (emptied_edits c.args.self.now _ c.self.inside.tables.items c.args.table c.place_of-place.result c.is_at.result c.replace.new.dest (c.replace.ensures.after ∙ c.none-none.ensures)
    c.self.view_is c.place_of-place.ensures c.is_at.ensures c.if-is_at.true refl).1

pub returns-clause-taken : goal.returns-clause-taken
returns-clause-taken c =
    let is = subst IsWork c.self.view_is c.self.invariant in
    c.none-none.ensures ∙ sym (edits_absent c.args.self.now c.args.table c.place_of-place.result c.is_at.result is c.place_of-place.ensures c.is_at.ensures c.if-is_at.false)

pub returns-clause-emptied : goal.returns-clause-emptied
returns-clause-emptied c =
    let is = subst IsWork c.self.view_is c.self.invariant in
    edits_absent c.args.self.now c.args.table c.place_of-place.result c.is_at.result is c.place_of-place.ensures c.is_at.ensures c.if-is_at.false
