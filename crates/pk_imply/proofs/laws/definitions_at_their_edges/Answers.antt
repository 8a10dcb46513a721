use Rattle.std.proofs.Common.{refl}
use Rattle.pk_values.specs.ColumnSet.{columns, is_subset}
use Rattle.pk_schema.specs.Shapes.{place_of_column}
use Rattle.pk_rule.specs.Rule.{is_implied}
use Rattle.pk_imply.specs.Deriving.{rules_from}
use Rattle.pk_imply.specs.Cover.{cover_of}
use Rattle.pk_imply.proofs.laws.definitions_at_their_edges.Goals as goal

pub returns-clause-questions : goal.returns-clause-questions
unfolding place_of_column
returns-clause-questions c = record { no_column = refl; any_order = refl; first_missing = refl; first_twice = refl; missing_before_twice = refl }

pub returns-clause-rules : goal.returns-clause-rules
unfolding columns is_subset rules_from
returns-clause-rules c = record { no_key = refl; no_column = refl; weakened_and_extended = refl; last_of_32 = refl; first_of_two = refl }

pub returns-clause-covers : goal.returns-clause-covers
unfolding columns is_subset is_implied cover_of
returns-clause-covers c = record { twice = refl; no_column = refl; told_as_certain = refl; certain_first = refl; smaller_first = refl; by_columns = refl }
