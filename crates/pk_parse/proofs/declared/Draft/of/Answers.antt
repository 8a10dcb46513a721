use Rattle.pk_parse.specs.Create.{column_of_part, keys_of_part}
use Rattle.pk_parse.proofs.Marks.{one_more_kept, one_more_added}
use Rattle.pk_parse.proofs.declared.Draft.of.Goals as goal

pub loop-part-preserved : goal.loop-part-preserved
loop-part-preserved c = record {
  columns = one_more_kept column_of_part c.loop-part.yielded c.in-Some.part _ _ c.loop-part.invariant.columns c.in_ok-add.ensures.columns;
  keys = one_more_added keys_of_part c.loop-part.yielded c.in-Some.part _ _ c.loop-part.invariant.keys c.in_ok-add.ensures.keys;
}
