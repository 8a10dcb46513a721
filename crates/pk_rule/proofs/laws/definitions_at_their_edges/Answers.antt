use Rattle.std.proofs.Common.{refl}
use Rattle.pk_values.specs.ColumnSet.{columns, is_subset}
use Rattle.pk_rule.specs.Rule.{is_implied}
use Rattle.pk_rule.proofs.laws.definitions_at_their_edges.Goals as goal

pub returns-clause-rule : goal.returns-clause-rule
unfolding columns is_subset is_implied
returns-clause-rule c = record {
  without_keys = refl;
  no_column_may_be_null = refl;
  no_column_implies_all = refl;
  none_of_32_may_be_null = refl;
  the_last_of_32_may_be_null = refl;
  more_columns = refl;
  strengthened_and_extended = refl;
  weakened_and_extended = refl;
  neither_columns_nor_sort = refl;
  none_of_two_alone = refl;
  one_of_two = refl;
}

pub returns-clause-rows : goal.returns-clause-rows
returns-clause-rows c = record {
  without_columns = refl;
  key_without_columns = refl;
  possible_over_all = refl;
  certain_over_all = refl;
  last_of_32 = refl;
}

pub returns-clause-known : goal.returns-clause-known
unfolding columns
returns-clause-known c = record {
  no_row = refl;
  no_column = refl;
  null = refl;
  behind_the_row = refl;
}
