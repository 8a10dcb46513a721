use Rattle.std.proofs.Common.{◌∙◌, rules}
use Rattle.std.specs.Ordering.{nat_cmp}
use Rattle.std.proofs.lemmas.Fn.{always_returns_same}
use Rattle.pk_values.specs.declared.placed.Placed.{Placed}
use Rattle.pk_engine.proofs.RowLemmas.{put_found, put_missed}
use Rattle.pk_engine.proofs.rows.put_row.Goals as goal

-- the closure compares a row's id
pub returns-in-Ok : goal.returns-in-Ok
returns-in-Ok c =
    let rows = c.args.rows.now.items in
    let facts = c.binary_search_by.ensures in
    let by_id = facts.position (λ (p : Placed). nat_cmp p.id c.args.placed.id) (always_returns_same _ _ _ (λ a r g called. search rules)) in
    put_found c.args.placed rows c.in-Ok.place c.binary_search_by.result c.requires (rw c.deref.ensures.value at by_id) c.in-Ok.is
    (rw c.deref.ensures.value at c.in-Ok.ensures.bound)

pub returns-in_ok-insert-in-Err : goal.returns-in_ok-insert-in-Err
returns-in_ok-insert-in-Err c =
    let rows = c.args.rows.now.items in
    let facts = c.binary_search_by.ensures in
    let by_id = facts.position (λ (p : Placed). nat_cmp p.id c.args.placed.id) (always_returns_same _ _ _ (λ a r g called. search rules)) in
    c.in_ok-insert-in-Err.ensures.items
    ∙ put_missed c.args.placed rows c.in-Err.place c.binary_search_by.result c.requires (rw c.deref.ensures.value at by_id) c.in-Err.is
    (rw c.deref.ensures.value at c.in-Err.ensures.bound)
