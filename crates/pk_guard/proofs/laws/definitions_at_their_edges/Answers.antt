use Rattle.std.proofs.Common.{refl}
use Rattle.pk_values.specs.ColumnSet.{columns}
use Rattle.pk_values.specs.Values.{same_value}
use Rattle.pk_similar.specs.Filling.{fill_values}
use Rattle.pk_similar.specs.Similarity.{weak, strong}
use Rattle.pk_guard.specs.Breaks.{first_pair, first_broken, first_break}
use Rattle.pk_guard.specs.Changed.{put_row, put_rows}
use Rattle.pk_guard.proofs.laws.definitions_at_their_edges.Goals as goal

pub returns-clause-breaks : goal.returns-clause-breaks
unfolding columns same_value fill_values weak strong first_pair first_broken first_break
returns-clause-breaks c = record {
  no_row = refl;
  one_row = refl;
  no_key = refl;
  no_column = refl;
  nulls_of_a_certain_key = refl;
  nulls_of_a_possible_key = refl;
  last_of_32 = refl;
  first_key = refl;
  lower_row = refl;
  higher_row = refl;
}

pub returns-clause-changes : goal.returns-clause-changes
unfolding put_row put_rows
returns-clause-changes c = record {
  among_none = refl;
  nothing = refl;
  no_such_row = refl;
  all_go = refl;
  everywhere = refl;
  in_its_place = refl;
  the_last_counts = refl;
  gone_and_put = refl;
}
