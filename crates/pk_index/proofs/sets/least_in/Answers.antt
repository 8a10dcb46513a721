use Rattle.std.proofs.Common.{rules, arith, refl, sym, ◌∙◌, [], ◌∷◌, ◌++◌}
use Rattle.std.proofs.lemmas.List.{length-append}
use Rattle.pk_index.proofs.LeastLemmas.{first_is_least, none_is_least, passed_most, passed_next, split_next}
use Rattle.pk_index.proofs.sets.least_in.Goals as goal

pub loop-id-init : goal.loop-id-init
loop-id-init g c = ([], search rules, refl, search rules)

pub returns-then-not-is_outside-clause-least : goal.returns-then-not-is_outside-clause-least
returns-then-not-is_outside-clause-least g c =
    let i = c.loop-id.invariant in
    first_is_least c.args.outside.now c.args.ids.now.keys i.0 c.loop-id.id-iterator c.next.new.self c.in-Some.id.now c.iter-id-items.ensures.ordered i.1 c.in-Some.ensures.steps i.2
    (sym c.is_outside.ensures ∙ c.if-not-is_outside.true)

pub returns-then-not-is_outside-clause-some : goal.returns-then-not-is_outside-clause-some
returns-then-not-is_outside-clause-some g c =
    let counted = c.loop-id.invariant.3 in
    let next = c.tick.ensures in omega (arith, counted, next)

pub returns-then-not-is_outside-clause-most : goal.returns-then-not-is_outside-clause-most
returns-then-not-is_outside-clause-most g c =
    let i = c.loop-id.invariant in
    let counted = i.3 in
    let next = c.tick.ensures in
    let most = passed_most c.args.outside.now c.args.ids.now.keys i.0 c.loop-id.id-iterator c.iter-id-items.ensures.ordered i.1 i.2 in
    omega (arith, counted, next, most)

pub loop-id-preserved : goal.loop-id-preserved
loop-id-preserved g c =
    let i = c.loop-id.invariant in
    let counted = i.3 in
    let next = c.tick.ensures in
    let longer = length-append i.0 (c.in-Some.id.now ∷ []) in (
      i.0 ++ c.in-Some.id.now ∷ [],
      split_next c.args.ids.now.keys i.0 c.loop-id.id-iterator c.next.new.self c.in-Some.id.now i.1 c.in-Some.ensures.steps,
      passed_next c.args.outside.now i.0 c.in-Some.id.now i.2 (sym c.is_outside.ensures ∙ c.if-not-is_outside.false),
      omega (arith, counted, next, longer),
    )

pub returns-clause-least : goal.returns-clause-least
returns-clause-least g c =
    let i = c.loop-id.invariant in
    none_is_least c.args.outside.now c.args.ids.now.keys i.0 c.loop-id.id-iterator i.1 c.in-None.ensures.steps.0 i.2

pub returns-clause-some : goal.returns-clause-some
returns-clause-some g c = (let counted = c.loop-id.invariant.3 in omega (arith, counted))

pub returns-clause-most : goal.returns-clause-most
returns-clause-most g c =
    let i = c.loop-id.invariant in
    let counted = i.3 in
    let most = passed_most c.args.outside.now c.args.ids.now.keys i.0 c.loop-id.id-iterator c.iter-id-items.ensures.ordered i.1 i.2 in
    omega (arith, counted, most)
