use Rattle.std.proofs.Common.{◌∙◌, ap, arith, ◌++◌}
use Rattle.pk_values.specs.ColumnSet.{columns}
use Rattle.pk_similar.specs.Filling.{fill_values}
use Rattle.pk_similar.proofs.WalkLemmas.{fill_on, fill_length, fill_done}
use Rattle.pk_values.proofs.WalkLemmas.{below_rest, walk_on, walk_shorter}
use Rattle.pk_similar.proofs.filling.fill.Goals as goal

pub loop-c-preserved : goal.loop-c-preserved
loop-c-preserved c =
    let split = walk_on _ _ _ c.in-Some.ensures.least c.without-rest.ensures.members in
    record {
      values =
          ap (λ xs. xs ++ fill_values c.args.kinds.now (columns c.without-rest.result) c.args.a.now c.args.b.now) c.in_ok-push.ensures.items
          ∙ fill_on _ _ _ _ _ _ _ _ _ _ split c.value.ensures c.value-in-Some.ensures c.in_ok-common_value.ensures
          ∙ c.loop-c.invariant.values;
      a_wide = below_rest _ _ _ _ c.loop-c.invariant.a_wide split;
      b_wide = below_rest _ _ _ _ c.loop-c.invariant.b_wide split;
      kinds_wide = below_rest _ _ _ _ c.loop-c.invariant.kinds_wide split;
    }

pub make-requires : goal.make-requires
make-requires c =
    let few = fill_length _ _ _ _ _ _ c.loop-c.invariant.values in omega (arith, few, c.len.ensures.columns, c.len.ensures.most)

pub returns : goal.returns
returns c = c.make.ensures ∙ fill_done _ _ _ _ _ _ c.in_default.ensures.least c.loop-c.invariant.values

pub loop-c-smaller : goal.loop-c-smaller
loop-c-smaller c = walk_shorter _ _ _ (walk_on _ _ _ c.in-Some.ensures.least c.without-rest.ensures.members)
