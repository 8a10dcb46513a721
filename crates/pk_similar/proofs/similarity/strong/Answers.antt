use Rattle.std.proofs.Common.{sym, ◌∙◌}
use Rattle.pk_similar.proofs.WalkLemmas.{strong_on, strong_off, strong_none}
use Rattle.pk_values.proofs.WalkLemmas.{below_rest, walk_on, walk_shorter}
use Rattle.pk_similar.proofs.similarity.strong.Goals as goal

-- the first column that decides
pub returns-then-not-are_known_equal : goal.returns-then-not-are_known_equal
returns-then-not-are_known_equal c =
    strong_off _ _ _ _ _ _ _ c.in-Some.ensures.least.1 c.value.ensures c.value-in-Some.ensures (sym c.are_known_equal.ensures ∙ c.if-not-are_known_equal.true)
    ∙ c.loop-c.invariant.decides

pub loop-c-preserved : goal.loop-c-preserved
loop-c-preserved c =
    let split = walk_on _ _ _ c.in-Some.ensures.least c.without-rest.ensures.members in
    record {
      decides =
          strong_on _ _ _ _ _ _ _ split c.value.ensures c.value-in-Some.ensures (sym c.are_known_equal.ensures ∙ c.if-not-are_known_equal.false)
          ∙ c.loop-c.invariant.decides;
      a_wide = below_rest _ _ _ _ c.loop-c.invariant.a_wide split;
      b_wide = below_rest _ _ _ _ c.loop-c.invariant.b_wide split;
    }

pub loop-c-smaller : goal.loop-c-smaller
loop-c-smaller c = walk_shorter _ _ _ (walk_on _ _ _ c.in-Some.ensures.least c.without-rest.ensures.members)

pub returns : goal.returns
returns c = strong_none _ _ _ c.in_default.ensures.least ∙ c.loop-c.invariant.decides
