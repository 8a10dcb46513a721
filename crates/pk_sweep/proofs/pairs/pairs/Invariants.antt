use Rattle.std.proofs.Common.{◌-◌, length}
use Rattle.std.specs.List.{range_with_len}
use Rattle.pk_sweep.specs.Coding.{apart_at, not_same_at, place_pairs}
use Rattle.pk_sweep.specs.Meeting.{SameMembers}
use Rattle.pk_sweep.proofs.pairs.pairs.Given as goal

-- what was met is the sets of the places so far with those behind them
abbrev pub invariant-loop-i : goal.invariant-loop-i
invariant-loop-i l = record {
  apart : SameMembers (place_pairs (apart_at l.columns l.nulls) (length l.nulls) (range_with_len l.from (l.i - l.from))) l.apart;
  not_same : SameMembers (place_pairs (not_same_at l.columns l.nulls) (length l.nulls) (range_with_len l.from (l.i - l.from))) l.not_same;
}
