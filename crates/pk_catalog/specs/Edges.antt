-- The bytes of small records, computed.
use Rattle.std.specs.Prelude.{◌≡◌, ◌^◌, false, [], ◌∷◌, codes, pos}
use Rattle.pk_values.specs.declared.key.Sort.TheVariants.{Possible}
use Rattle.pk_values.specs.declared.kind.Kind.TheVariants.{Integer}
use Rattle.pk_values.specs.declared.value.Value.TheVariants as values
use Rattle.pk_values.specs.Records.{row_record}
use Rattle.pk_catalog.specs.declared.table_record.TableRecord.{TableRecord}
use Rattle.pk_catalog.specs.Records.{base_record, table_record}

-- the table t of a column a of numbers
abbrev pub small_table : TableRecord
small_table = record { name = codes "t"; schema = record { columns = record { name = codes "a"; kind = Integer; max = 0; not_null = false } ∷ []; keys = [] }; next = 1 }

-- the same with a possible key
abbrev pub keyed_table : TableRecord
keyed_table = record {
  name = codes "t";
  schema = record { columns = record { name = codes "a"; kind = Integer; max = 0; not_null = false } ∷ []; keys = record { sort = Possible; columns = 1 } ∷ [] };
  next = 2 ^ 62;
}

pub record RecordsAtTheirEdges : Type 0 where
  pub base : base_record 1 ≡ 1 ∷ 0 ∷ 0 ∷ 0 ∷ 0 ∷ 0 ∷ 0 ∷ 0 ∷ 1 ∷ []
  pub most_commits : base_record (2 ^ 62) ≡ 1 ∷ 64 ∷ 0 ∷ 0 ∷ 0 ∷ 0 ∷ 0 ∷ 0 ∷ 0 ∷ []
  pub table : table_record small_table ≡ 1 ∷ 0 ∷ 0 ∷ 0 ∷ 0 ∷ 0 ∷ 0 ∷ 0 ∷ 1 ∷ 1 ∷ 116 ∷ 1 ∷ 1 ∷ 97 ∷ 1 ∷ 0 ∷ 0 ∷ 0 ∷ []
  pub keyed : table_record keyed_table ≡ 1 ∷ 64 ∷ 0 ∷ 0 ∷ 0 ∷ 0 ∷ 0 ∷ 0 ∷ 0 ∷ 1 ∷ 116 ∷ 1 ∷ 1 ∷ 97 ∷ 1 ∷ 0 ∷ 0 ∷ 1 ∷ 2 ∷ 0 ∷ 0 ∷ 0 ∷ 1 ∷ []
  pub row : row_record (values.Integer (pos 1) ∷ values.Null ∷ values.Text (codes "ab") ∷ []) ≡ 1 ∷ 0 ∷ 0 ∷ 0 ∷ 0 ∷ 0 ∷ 0 ∷ 0 ∷ 1 ∷ 0 ∷ 2 ∷ 2 ∷ 97 ∷ 98 ∷ []
