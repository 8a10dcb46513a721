use Rattle.std.proofs.Common.{◌≡◌, map, drop}
use Rattle.pk_logic.specs.Conditions.{is_judgeable, all_hold}
use Rattle.pk_logic.proofs.fitting.+fitting.Given as goal

-- so far all may be judged, so the rest decides
abbrev pub invariant-are_judgeable-loop-member : goal.invariant-are_judgeable-loop-member
invariant-are_judgeable-loop-member l =
    all_hold (map (is_judgeable l.row) l.members) ≡ all_hold (map (is_judgeable l.row) (drop l.member-index l.members))
