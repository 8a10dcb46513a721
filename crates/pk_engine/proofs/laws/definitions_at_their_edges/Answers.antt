use Rattle.std.proofs.Common.{refl}
use Rattle.pk_values.specs.ColumnSet.{columns}
use Rattle.pk_values.specs.Values.{same_value, value_cmp}
use Rattle.pk_similar.specs.Filling.{fill_values}
use Rattle.pk_similar.specs.Similarity.{strong}
use Rattle.pk_schema.specs.Shapes.{place_of_column, set_where}
use Rattle.pk_schema.specs.Making.{no_column, declared_twice}
use Rattle.pk_exec.specs.Changes.{gone_ids}
use Rattle.pk_exec.specs.Selecting.{row_cmp, sorted_by}
use Rattle.pk_guard.specs.Breaks.{first_pair, first_broken, first_break}
use Rattle.pk_guard.specs.Changed.{put_row, put_rows}
use Rattle.pk_engine.specs.Answer.{answer}
use Rattle.pk_engine.specs.Base.{table_named, with_table, without_table, changed_by, change_table}
use Rattle.pk_engine.specs.Create.{table_exists}
use Rattle.pk_engine.specs.Keys.{key_broken}
use Rattle.pk_engine.specs.State.{after, current}
use Rattle.pk_engine.proofs.laws.definitions_at_their_edges.Goals as goal

pub returns-clause-tables : goal.returns-clause-tables
unfolding with_table without_table
returns-clause-tables c = record {
  no_byte_first = refl;
  fewer_bytes_first = refl;
  not_before_itself = refl;
  first_table = refl;
  between = refl;
  at_the_end = refl;
  last_dropped = refl;
  none_dropped = refl;
}

pub returns-clause-changes : goal.returns-clause-changes
unfolding gone_ids put_row put_rows changed_by
returns-clause-changes c = record {
  nothing = refl;
  all_gone = refl;
  in_its_place = refl;
  at_the_end = refl;
  gone_before_put = refl;
  between_others = refl;
  no_entry = refl;
  all_kept = refl;
  touched_as_it_was = refl;
  gone_touched_and_new = refl;
  no_commit = refl;
}

pub returns-clause-limits : goal.returns-clause-limits
unfolding columns same_value fill_values strong place_of_column set_where no_column declared_twice first_pair first_broken first_break table_named put_row put_rows changed_by change_table table_exists key_broken after current
returns-clause-limits c = record {
  the_last_row = refl;
  one_row_more = refl;
  ids = refl;
  the_last_table = refl;
  one_table_more = refl;
  exists_first = refl;
  the_last_commit = refl;
  one_commit_more = refl;
  the_last_id = refl;
  rows_before_ids = refl;
  ids_behind_rows = refl;
  ids_before_commits = refl;
  commits_before_keys = refl;
  a_key_at_last = refl;
  nothing_is_refused_without_a_change = refl;
  changes_20000 = refl;
  changes_20001 = refl;
}

pub returns-clause-rest : goal.returns-clause-rest
unfolding value_cmp row_cmp sorted_by answer
returns-clause-rest c = record { no_row = refl; no_order = refl; second_column = refl; unanswered = refl }
