use Rattle.std.proofs.Common.{◌≡◌, ◌∙◌, ◌++◌, List, ap, map, subst, sym, append-nil}
use Rattle.std.specs.List.{filter}
use Rattle.std.specs.List.Sorted.{IsStrictlySortedBy}
use Rattle.std.specs.Ordering.{nat_cmp}
use Rattle.std.proofs.lemmas.List.{drop_all}
use Rattle.pk_exec.specs.Works.{TableEdits, has_edits}
use Rattle.pk_exec.proofs.WorkLemmas.{rise_kept}
use Rattle.pk_exec.proofs.work.Work.tables.Goals as goal

pub returns-clause-ascend : goal.returns-clause-ascend
returns-clause-ascend c =
    let all = c.deref-edits-items.result.now in
    let told : c.loop-edits.tables.items ≡ map (λ (t : TableEdits). t.table) (filter has_edits all) =
    sym (append-nil c.loop-edits.tables.items)
    ∙ ap (λ (ts : List TableEdits). c.loop-edits.tables.items ++ map (λ (t : TableEdits). t.table) (filter has_edits ts)) (sym (drop_all c.loop-edits.edits-index all c.loop-edits-test.false))
    ∙ c.loop-edits.invariant in
    subst (IsStrictlySortedBy nat_cmp) (sym (told ∙ ap (λ (ts : List TableEdits). map (λ (t : TableEdits). t.table) (filter has_edits ts)) c.deref-edits-items.ensures.value))
    (rise_kept has_edits c.self.inside.tables.items c.self.invariant.ascend)
