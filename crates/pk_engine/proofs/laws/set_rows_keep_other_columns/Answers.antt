use Rattle.pk_engine.proofs.MadeLemmas.{other_columns, set_columns}
use Rattle.pk_engine.proofs.laws.set_rows_keep_other_columns.Goals as goal

pub returns : goal.returns
returns c = record { others = other_columns; set = set_columns }
