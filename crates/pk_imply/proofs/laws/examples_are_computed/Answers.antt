use Rattle.std.proofs.Common.{refl}
use Rattle.pk_values.specs.ColumnSet.{columns, is_subset}
use Rattle.pk_rule.specs.Rule.{is_implied}
use Rattle.pk_imply.specs.Deriving.{rules_from}
use Rattle.pk_imply.specs.Cover.{cover_of}
use Rattle.pk_imply.proofs.laws.examples_are_computed.Goals as goal

pub returns : goal.returns
unfolding columns is_subset is_implied rules_from cover_of
returns c = record {
  possible_implies_certain_over_known = refl;
  the_same_key_takes_no_rule = refl;
  no_key_over_other_columns = refl;
  possible_implies_no_certain_over_null = refl;
  the_least_place_is_told = refl;
  certain_implies_possible = refl;
  no_columns_follow_from_some = refl;
  the_least_sets_are_the_cover = refl;
  no_keys_have_no_cover = refl;
}
