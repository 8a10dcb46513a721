use Rattle.pk_catalog.proofs.TableMaking.{short_columns, bounded_keys}
use Rattle.pk_catalog.proofs.table_record.put_table.Goals as goal

pub put_columns-requires-clause-short : goal.put_columns-requires-clause-short
put_columns-requires-clause-short c = short_columns _ _ c.columns.ensures.shape c.columns.ensures.columns

pub put_keys-requires-clause-sets : goal.put_keys-requires-clause-sets
put_keys-requires-clause-sets c = bounded_keys _ _ c.keys.ensures.shape c.keys.ensures.keys
