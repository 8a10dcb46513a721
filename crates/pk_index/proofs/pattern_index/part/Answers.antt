use Rattle.std.proofs.Common.{◌∙◌, ap, arith, ◌++◌}
use Rattle.pk_values.specs.ColumnSet.{columns}
use Rattle.pk_values.proofs.WalkLemmas.{below_rest, walk_on, walk_shorter}
use Rattle.pk_index.specs.Rows.{values_on}
use Rattle.pk_index.proofs.RowLemmas.{part_next, part_done, part_length}
use Rattle.pk_index.proofs.pattern_index.part.Goals as goal

pub loop-c-preserved : goal.loop-c-preserved
loop-c-preserved c =
    let split = walk_on _ _ _ c.in-Some.ensures.least c.without-rest.ensures.members in
    record {
      values =
          ap (λ xs. xs ++ values_on (columns c.without-rest.result) c.args.row.now) c.in_ok-push.ensures.items
          ∙ part_next _ _ _ _ _ _ _ split c.value.ensures c.in_ok-copy.ensures
          ∙ c.loop-c.invariant.values;
      wide = below_rest _ _ _ _ c.loop-c.invariant.wide split;
    }

pub make-requires : goal.make-requires
make-requires c =
    let few = part_length _ _ _ _ c.loop-c.invariant.values in omega (arith, few, c.len.ensures.columns, c.len.ensures.most)

pub returns : goal.returns
returns c = c.make.ensures ∙ part_done _ _ _ _ c.in_default.ensures.least c.loop-c.invariant.values

pub loop-c-smaller : goal.loop-c-smaller
loop-c-smaller c = walk_shorter _ _ _ (walk_on _ _ _ c.in-Some.ensures.least c.without-rest.ensures.members)
