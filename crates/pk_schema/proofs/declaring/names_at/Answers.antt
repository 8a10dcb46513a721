use Rattle.std.proofs.Common.{◌∙◌}
use Rattle.pk_schema.proofs.NameLemmas.{name_more}
use Rattle.pk_values.proofs.WalkLemmas.{walk_on, walk_shorter, below_first, below_rest}
use Rattle.pk_schema.proofs.declaring.names_at.Goals as goal

pub loop-c-smaller : goal.loop-c-smaller
loop-c-smaller c = walk_shorter _ _ _ (walk_on _ _ _ c.in-Some.ensures.least c.without-rest.ensures.members)

pub loop-c-preserved : goal.loop-c-preserved
loop-c-preserved c =
    let split = walk_on _ _ _ c.in-Some.ensures.least c.without-rest.ensures.members in
    record {
      names =
          name_more _ _ _ _ _ _ _ _ split (below_first _ _ _ _ c.loop-c.invariant.below split) c.in_ok-copy.ensures c.in_ok-push.ensures.items
          ∙ c.loop-c.invariant.names;
      below = below_rest _ _ _ _ c.loop-c.invariant.below split;
    }
