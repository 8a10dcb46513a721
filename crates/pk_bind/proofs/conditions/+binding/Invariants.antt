use Rattle.std.proofs.Common.{◌≡◌, IsTrue, map, take, drop}
use Rattle.std.specs.List.{list_all}
use Rattle.pk_bind.specs.Conditions.{cond_of, test_has_words}
use Rattle.pk_bind.proofs.conditions.+binding.Given as goal

-- the texts of the members that are left are words, and these are the conditions of those so far
abbrev pub invariant-conds_of-loop-member : goal.invariant-conds_of-loop-member
invariant-conds_of-loop-member l =
    IsTrue (list_all (λ m. m) (map test_has_words (drop l.member-index l.members)))
    × (l.conds.items ≡ map (cond_of l.schema.columns) (take l.member-index l.members))
