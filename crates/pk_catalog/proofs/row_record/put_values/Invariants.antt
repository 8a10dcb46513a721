use Rattle.std.proofs.Common.{◌≡◌, ◌++◌}
use Rattle.std.specs.Prelude.{take}
use Rattle.pk_values.specs.Records.{row_record, AreStorable}
use Rattle.pk_catalog.proofs.row_record.put_values.Given as goal

-- the values so far are written
abbrev pub invariant-loop-value : goal.invariant-loop-value
invariant-loop-value l = record {
  spelled : l.out.items ≡ l.fn.out.items ++ row_record (take l.value-index l.values);
  storable : AreStorable (take l.value-index l.values);
}
