use Rattle.std.proofs.Common.{◌≡◌, IsTrue, map, drop}
use Rattle.pk_logic.specs.Truth.{lesser, greater, least, greatest}
use Rattle.pk_logic.specs.Conditions.{truth, is_judgeable, all_hold}
use Rattle.pk_logic.proofs.judging.+judging.Given as goal

-- what is still to be judged can be, and what came so far joined with it is the whole
abbrev pub invariant-judge_all-loop-member : goal.invariant-judge_all-loop-member
invariant-judge_all-loop-member l =
    IsTrue (all_hold (map (is_judgeable l.row) (drop l.member-index l.members)))
    × (least (map (truth l.row) l.members) ≡ lesser l.all (least (map (truth l.row) (drop l.member-index l.members))))

abbrev pub invariant-judge_any-loop-member : goal.invariant-judge_any-loop-member
invariant-judge_any-loop-member l =
    IsTrue (all_hold (map (is_judgeable l.row) (drop l.member-index l.members)))
    × (greatest (map (truth l.row) l.members) ≡ greater l.any (greatest (map (truth l.row) (drop l.member-index l.members))))
