use Rattle.std.proofs.Common.{◌≡◌, ◌≤◌, ◌*◌, length, take}
use Rattle.pk_values.specs.Records.{row_record}
use Rattle.pk_values.proofs.row.Row.record_len.Given as goal

-- the bytes of the values so far, each of which has at most 257
abbrev pub invariant-loop-value : goal.invariant-loop-value
invariant-loop-value l =
    (l.bytes ≡ length (row_record (take l.value-index l.value-items))) × (l.bytes ≤ 257 * l.value-index)
