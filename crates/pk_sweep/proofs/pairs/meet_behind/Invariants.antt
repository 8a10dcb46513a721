use Rattle.std.proofs.Common.{◌+◌, ◌-◌, map}
use Rattle.std.specs.List.{range_with_len}
use Rattle.pk_sweep.specs.Coding.{apart_at, not_same_at}
use Rattle.pk_sweep.specs.Meeting.{Adds}
use Rattle.pk_sweep.proofs.pairs.meet_behind.Given as goal

-- the sets of this place and those behind it so far were added
abbrev pub invariant-loop-j : goal.invariant-loop-j
invariant-loop-j l = record {
  apart : Adds l.fn.apart (map (apart_at l.columns l.nulls l.i) (range_with_len (l.i + 1) (l.j - (l.i + 1)))) l.apart;
  not_same : Adds l.fn.not_same (map (not_same_at l.columns l.nulls l.i) (range_with_len (l.i + 1) (l.j - (l.i + 1)))) l.not_same;
}
