use Rattle.std.proofs.Common.{rules, suc, ◌+◌, ◌∙◌, ◌≡◌, arith}
use Rattle.std.specs.Ordering.{nat_cmp}
use Rattle.std.proofs.lemmas.Fn.{always_returns_same}
use Rattle.pk_values.specs.declared.placed.Placed.{Placed}
use Rattle.pk_guard.proofs.IdLemmas.{split_found, split_missed, rest_of}
use Rattle.pk_guard.proofs.by_id.split_at_id.Goals as goal

-- the closure compares a row's id
pub returns-in-Ok-clause-below : goal.returns-in-Ok-clause-below
returns-in-Ok-clause-below c =
    let by_id = c.binary_search_by.ensures.position (λ (p : Placed). nat_cmp p.id c.args.id) (always_returns_same _ _ _ (λ a r g called. search rules)) in
    (split_found c.args.rows.now c.args.id c.in-Ok.place c.binary_search_by.result c.requires c.in-Ok.ensures.bound by_id c.in-Ok.is).0

pub returns-in-Ok-clause-above : goal.returns-in-Ok-clause-above
returns-in-Ok-clause-above c =
    let by_id = c.binary_search_by.ensures.position (λ (p : Placed). nat_cmp p.id c.args.id) (always_returns_same _ _ _ (λ a r g called. search rules)) in
    let next : c.in-Ok.place + 1 ≡ suc c.in-Ok.place = omega arith in
    rest_of (c.in-Ok.place + 1) c.args.rows.now
    ∙ rw next (split_found c.args.rows.now c.args.id c.in-Ok.place c.binary_search_by.result c.requires c.in-Ok.ensures.bound by_id c.in-Ok.is).1

pub returns-in-Err-clause-below : goal.returns-in-Err-clause-below
returns-in-Err-clause-below c =
    let by_id = c.binary_search_by.ensures.position (λ (p : Placed). nat_cmp p.id c.args.id) (always_returns_same _ _ _ (λ a r g called. search rules)) in
    (split_missed c.args.rows.now c.args.id c.in-Err.place c.binary_search_by.result c.requires c.in-Err.ensures.bound by_id c.in-Err.is).0

pub returns-in-Err-clause-above : goal.returns-in-Err-clause-above
returns-in-Err-clause-above c =
    let by_id = c.binary_search_by.ensures.position (λ (p : Placed). nat_cmp p.id c.args.id) (always_returns_same _ _ _ (λ a r g called. search rules)) in
    rest_of c.in-Err.place c.args.rows.now
    ∙ (split_missed c.args.rows.now c.args.id c.in-Err.place c.binary_search_by.result c.requires c.in-Err.ensures.bound by_id c.in-Err.is).1
