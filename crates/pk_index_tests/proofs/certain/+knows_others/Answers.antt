use Rattle.std.proofs.Common.{arith, ap, ◌∙◌, sym, ◌&&◌, ◌||◌, not}
use Rattle.pk_values.specs.ColumnSet.{has_column}
use Rattle.pk_values.specs.Values.{is_null, value_at}
use Rattle.pk_index.specs.Rows.{is_known_outside}
use Rattle.pk_values.proofs.RowLemmas.{value_read}
use Rattle.pk_values.proofs.WalkLemmas.{below_rest, walk_on, walk_shorter}
use Rattle.pk_index_tests.proofs.certain.+knows_others.Goals as goal

pub knows_others-others-requires : goal.knows_others-others-requires
knows_others-others-requires t c =
    let split = walk_on _ _ _ c.in-Some.ensures.least c.without.ensures.members in
    let shorter = walk_shorter _ _ _ split in
    (omega (arith, shorter, c.decreases), below_rest _ _ _ _ c.requires split)

pub returns : goal.returns
returns t c =
    let split = walk_on _ _ _ c.in-Some.ensures.least c.without.ensures.members in
    ap (λ b. (b || c.is_known.result) && c.knows_others-others.result) c.has.ensures
    ∙ ap (λ b. (has_column c.args.nullable c.in-Some.c || b) && c.knows_others-others.result)
    (c.is_known.ensures ∙ ap (λ v. not (is_null v)) (sym (value_read c.args.row.now c.in-Some.c c.value-value.result.now c.value-value.ensures)))
    ∙ ap (λ b. (has_column c.args.nullable c.in-Some.c || not (is_null (value_at c.args.row.now c.in-Some.c))) && b) c.knows_others-others.ensures
    ∙ sym (ap (λ cs. is_known_outside c.args.nullable cs c.args.row.now) split)
