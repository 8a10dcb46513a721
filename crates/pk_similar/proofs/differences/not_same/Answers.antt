use Rattle.std.proofs.Common.{sym, ◌∙◌}
use Rattle.pk_similar.specs.Similarity.{strong_entries, not_same}
use Rattle.pk_similar.proofs.WalkLemmas.{found_none, found_more, found_passed, found_all, differ_read}
use Rattle.pk_values.proofs.WalkLemmas.{below_rest, walk_on, walk_shorter}
use Rattle.pk_similar.proofs.differences.not_same.Goals as goal

pub loop-c-init : goal.loop-c-init
loop-c-init c = record {
  found = found_none _ _ _ c.empty-found.ensures.set c.empty-found.ensures.none;
  found_set = c.empty-found.ensures.set;
  a_wide = c.requires.a_wide;
  b_wide = c.requires.b_wide;
}

pub loop-c-preserved-then-may_differ : goal.loop-c-preserved-then-may_differ
loop-c-preserved-then-may_differ c =
    let split = walk_on _ _ _ c.in-Some.ensures.least c.without-rest.ensures.members in
    record {
      found =
          found_more _ _ _ _ _ _ _ c.loop-c.invariant.found split
          (differ_read strong_entries c.args.a.now c.args.b.now c.in-Some.c _ _ _ c.value.ensures c.value-in-Some.ensures (sym c.may_differ.ensures ∙ c.if-may_differ.true))
          c.with-found.ensures.members;
      found_set = c.with-found.ensures.set;
      a_wide = below_rest _ _ _ _ c.loop-c.invariant.a_wide split;
      b_wide = below_rest _ _ _ _ c.loop-c.invariant.b_wide split;
    }

pub loop-c-preserved : goal.loop-c-preserved
loop-c-preserved c =
    let split = walk_on _ _ _ c.in-Some.ensures.least c.without-rest.ensures.members in
    record {
      found =
          found_passed _ _ _ _ _ _ c.loop-c.invariant.found split
          (differ_read strong_entries c.args.a.now c.args.b.now c.in-Some.c _ _ _ c.value.ensures c.value-in-Some.ensures (sym c.may_differ.ensures ∙ c.if-may_differ.false));
      found_set = c.loop-c.invariant.found_set;
      a_wide = below_rest _ _ _ _ c.loop-c.invariant.a_wide split;
      b_wide = below_rest _ _ _ _ c.loop-c.invariant.b_wide split;
    }

pub returns-clause-columns : goal.returns-clause-columns
unfolding not_same
returns-clause-columns c = found_all _ _ _ _ c.loop-c.invariant.found c.in_default.ensures.least

pub loop-c-smaller-then-may_differ : goal.loop-c-smaller-then-may_differ
loop-c-smaller-then-may_differ c = walk_shorter _ _ _ (walk_on _ _ _ c.in-Some.ensures.least c.without-rest.ensures.members)

pub loop-c-smaller : goal.loop-c-smaller
loop-c-smaller c = walk_shorter _ _ _ (walk_on _ _ _ c.in-Some.ensures.least c.without-rest.ensures.members)
