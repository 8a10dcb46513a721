use Rattle.std.proofs.Common.{sym, ◌∙◌}
use Rattle.pk_similar.specs.Similarity.{weak_entries, apart}
use Rattle.pk_similar.proofs.WalkLemmas.{found_none, found_more, found_passed, found_all, differ_read}
use Rattle.pk_values.proofs.WalkLemmas.{below_rest, walk_on, walk_shorter}
use Rattle.pk_similar.proofs.differences.apart.Goals as goal

pub loop-c-init : goal.loop-c-init
loop-c-init c = record {
  found = found_none _ _ _ c.empty-found.ensures.set c.empty-found.ensures.none;
  found_set = c.empty-found.ensures.set;
  a_wide = c.requires.a_wide;
  b_wide = c.requires.b_wide;
}

pub loop-c-preserved-then-are_apart : goal.loop-c-preserved-then-are_apart
loop-c-preserved-then-are_apart c =
    let split = walk_on _ _ _ c.in-Some.ensures.least c.without-rest.ensures.members in
    record {
      found =
          found_more _ _ _ _ _ _ _ c.loop-c.invariant.found split
          (differ_read weak_entries c.args.a.now c.args.b.now c.in-Some.c _ _ _ c.value.ensures c.value-in-Some.ensures (sym c.are_apart.ensures ∙ c.if-are_apart.true))
          c.with-found.ensures.members;
      found_set = c.with-found.ensures.set;
      a_wide = below_rest _ _ _ _ c.loop-c.invariant.a_wide split;
      b_wide = below_rest _ _ _ _ c.loop-c.invariant.b_wide split;
    }

pub loop-c-preserved : goal.loop-c-preserved
loop-c-preserved c =
    let split = walk_on _ _ _ c.in-Some.ensures.least c.without-rest.ensures.members in
    record {
      found =
          found_passed _ _ _ _ _ _ c.loop-c.invariant.found split
          (differ_read weak_entries c.args.a.now c.args.b.now c.in-Some.c _ _ _ c.value.ensures c.value-in-Some.ensures (sym c.are_apart.ensures ∙ c.if-are_apart.false));
      found_set = c.loop-c.invariant.found_set;
      a_wide = below_rest _ _ _ _ c.loop-c.invariant.a_wide split;
      b_wide = below_rest _ _ _ _ c.loop-c.invariant.b_wide split;
    }

pub returns-clause-columns : goal.returns-clause-columns
unfolding apart
returns-clause-columns c = found_all _ _ _ _ c.loop-c.invariant.found c.in_default.ensures.least

pub loop-c-smaller-then-are_apart : goal.loop-c-smaller-then-are_apart
loop-c-smaller-then-are_apart c = walk_shorter _ _ _ (walk_on _ _ _ c.in-Some.ensures.least c.without-rest.ensures.members)

pub loop-c-smaller : goal.loop-c-smaller
loop-c-smaller c = walk_shorter _ _ _ (walk_on _ _ _ c.in-Some.ensures.least c.without-rest.ensures.members)
