use Rattle.std.proofs.Common.{rules, arith, refl, sym, ap, subst, ◌∙◌, [], ◌∷◌, ◌++◌, Some, None}
use Rattle.std.specs.List.{list_all}
use Rattle.std.specs.List.Sorted.{IsStrictlySortedBy}
use Rattle.std.proofs.lemmas.List.{length-append}
use Rattle.std.proofs.lemmas.List.Kept.{IsStrictlySortedBy-filter}
use Rattle.pk_index.specs.Shelves.{pair_cmp}
use Rattle.pk_index.proofs.LeastLemmas.{first_is_least, none_is_least, passed_most, passed_next, split_next}
use Rattle.pk_index.proofs.ShelfLemmas.{ids_of, is_from, ids_from, all_from, ids_ascend, next_id, rest_from, rest_ascends, ended, least_held, same_key, other_key}
use Rattle.pk_index.proofs.shelf.Shelf.least.Goals as goal

pub loop-pair-init : goal.loop-pair-init
loop-pair-init g c =
    let cmp = g.K.Ord.cmp in
    let keys = c.args.self.now.pairs.keys in
    let from = c.into_iter-pair-iterator.ensures.into_iter_gives ∙ c.range-pair-items.ensures.between tt in (
      [],
      sym (ap (λ ps. ids_of cmp ps c.args.key) from ∙ ids_from cmp keys c.args.key),
      refl,
      search rules,
      subst (IsStrictlySortedBy (pair_cmp cmp)) (sym from) (IsStrictlySortedBy-filter (pair_cmp cmp) (is_from cmp c.args.key) keys c.range-pair-items.ensures.ordered),
      ap (list_all (is_from cmp c.args.key)) from ∙ all_from cmp keys c.args.key,
    )

pub returns-then-ne-clause-least : goal.returns-then-ne-clause-least
returns-then-ne-clause-least g c =
    let cmp = g.K.Ord.cmp in
    let i = c.loop-pair.invariant in
    let left = c.loop-pair.pair-iterator in
    let keys = c.args.self.now.pairs.keys in
    let none = ended cmp g.met.K.Ord.total left c.next.new.self c.in-Some.pair.now c.args.key c.in-Some.ensures.steps i.4 i.5
    (other_key cmp _ g.met.K.Ord.matches_eq c.args.key c.in-Some.pair.now.0 (sym c.ne.ensures ∙ c.if-ne.true)) in
    least_held cmp keys c.args.key c.args.outside.now None (none_is_least c.args.outside.now (ids_of cmp keys c.args.key) i.0 (ids_of cmp left c.args.key) i.1 none i.2)

pub returns-then-not-is_outside-clause-least : goal.returns-then-not-is_outside-clause-least
returns-then-not-is_outside-clause-least g c =
    let cmp = g.K.Ord.cmp in
    let i = c.loop-pair.invariant in
    let left = c.loop-pair.pair-iterator in
    let keys = c.args.self.now.pairs.keys in
    let key = c.args.key in
    let ascend = ids_ascend cmp g.met.K.Ord.total keys key c.range-pair-items.ensures.ordered in
    let next = next_id cmp left c.next.new.self c.in-Some.pair.now key c.in-Some.ensures.steps
    (same_key cmp _ g.met.K.Ord.matches_eq key c.in-Some.pair.now.0 (sym c.ne.ensures ∙ c.if-ne.false)) in
    least_held cmp keys key c.args.outside.now (Some c.in-Some.pair.now.1)
    (first_is_least c.args.outside.now (ids_of cmp keys key) i.0 (ids_of cmp left key) (ids_of cmp c.next.new.self key) c.in-Some.pair.now.1 ascend i.1 next i.2
    (sym c.is_outside.ensures ∙ c.if-not-is_outside.true))

pub loop-pair-preserved : goal.loop-pair-preserved
loop-pair-preserved g c =
    let cmp = g.K.Ord.cmp in
    let i = c.loop-pair.invariant in
    let left = c.loop-pair.pair-iterator in
    let rest = c.next.new.self in
    let keys = c.args.self.now.pairs.keys in
    let key = c.args.key in
    let id = c.in-Some.pair.now.1 in
    let steps = c.in-Some.ensures.steps in
    let counted = i.3 in
    let ticked = c.tick.ensures in
    let longer = length-append i.0 (id ∷ []) in
    let next = next_id cmp left rest c.in-Some.pair.now key steps
    (same_key cmp _ g.met.K.Ord.matches_eq key c.in-Some.pair.now.0 (sym c.ne.ensures ∙ c.if-ne.false)) in (
      i.0 ++ id ∷ [],
      split_next (ids_of cmp keys key) i.0 (ids_of cmp left key) (ids_of cmp rest key) id i.1 next,
      passed_next c.args.outside.now i.0 id i.2 (sym c.is_outside.ensures ∙ c.if-not-is_outside.false),
      omega (arith, counted, ticked, longer),
      rest_ascends cmp left rest c.in-Some.pair.now steps i.4,
      rest_from cmp left rest c.in-Some.pair.now key steps i.5,
    )

pub returns-clause-least : goal.returns-clause-least
returns-clause-least g c =
    let cmp = g.K.Ord.cmp in
    let i = c.loop-pair.invariant in
    let left = c.loop-pair.pair-iterator in
    let keys = c.args.self.now.pairs.keys in
    least_held cmp keys c.args.key c.args.outside.now None
    (none_is_least c.args.outside.now (ids_of cmp keys c.args.key) i.0 (ids_of cmp left c.args.key) i.1 (ap (λ ps. ids_of cmp ps c.args.key) c.in-None.ensures.steps.0) i.2)

pub returns-then-ne-clause-most : goal.returns-then-ne-clause-most
returns-then-ne-clause-most g c =
    let cmp = g.K.Ord.cmp in
    let i = c.loop-pair.invariant in
    let counted = i.3 in
    let keys = c.args.self.now.pairs.keys in
    let key = c.args.key in
    let most = passed_most c.args.outside.now (ids_of cmp keys key) i.0 (ids_of cmp c.loop-pair.pair-iterator key)
    (ids_ascend cmp g.met.K.Ord.total keys key c.range-pair-items.ensures.ordered) i.1 i.2 in
    omega (arith, counted, most)

pub returns-then-not-is_outside-clause-most : goal.returns-then-not-is_outside-clause-most
returns-then-not-is_outside-clause-most g c =
    let cmp = g.K.Ord.cmp in
    let i = c.loop-pair.invariant in
    let counted = i.3 in
    let ticked = c.tick.ensures in
    let keys = c.args.self.now.pairs.keys in
    let key = c.args.key in
    let most = passed_most c.args.outside.now (ids_of cmp keys key) i.0 (ids_of cmp c.loop-pair.pair-iterator key)
    (ids_ascend cmp g.met.K.Ord.total keys key c.range-pair-items.ensures.ordered) i.1 i.2 in
    omega (arith, counted, ticked, most)

pub returns-clause-most : goal.returns-clause-most
returns-clause-most g c =
    let cmp = g.K.Ord.cmp in
    let i = c.loop-pair.invariant in
    let counted = i.3 in
    let keys = c.args.self.now.pairs.keys in
    let key = c.args.key in
    let most = passed_most c.args.outside.now (ids_of cmp keys key) i.0 (ids_of cmp c.loop-pair.pair-iterator key)
    (ids_ascend cmp g.met.K.Ord.total keys key c.range-pair-items.ensures.ordered) i.1 i.2 in
    omega (arith, counted, most)
