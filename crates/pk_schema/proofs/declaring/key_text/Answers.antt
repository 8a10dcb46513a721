use Rattle.pk_values.proofs.ColumnLemmas.{columns_below}
use Rattle.pk_schema.proofs.declaring.key_text.Goals as goal

pub names_at-requires : goal.names_at-requires
names_at-requires c = columns_below _ _ c.requires
