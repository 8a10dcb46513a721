use Rattle.std.proofs.Common.{◌≡◌, ℕ, length, ◌+◌, ◌-◌, ◌*◌}
use Rattle.pk_parse.specs.declared.conditions.Joint.{Joint}
use Rattle.pk_parse.specs.declared.conditions.Joint.TheVariants.{And, Or}
use Rattle.pk_parse.specs.Conditions.{unit_at, word_of, member_at, members_at, with_first}
use Rattle.pk_parse.proofs.ListReading.{with_front}
use Rattle.pk_parse.proofs.conditions.+conditions.Given as goal

-- what OR joins is read by what reads what AND joins
abbrev rank : Joint → ℕ
rank And = 0
rank Or = 3

abbrev pub decreases-unit_of : goal.decreases-unit_of
decreases-unit_of l = 8 * l.levels

abbrev pub decreases-negation_of : goal.decreases-negation_of
decreases-negation_of l = 8 * l.levels + 1

abbrev pub decreases-member_of : goal.decreases-member_of
decreases-member_of l = 8 * l.levels + rank l.joint + 1

abbrev pub decreases-members_of : goal.decreases-members_of
decreases-members_of l = 8 * l.levels + rank l.joint + 2

abbrev pub decreases-joined_of : goal.decreases-joined_of
decreases-joined_of l = 8 * l.levels + rank l.joint + 3

abbrev pub decreases-inside_of : goal.decreases-inside_of
decreases-inside_of l = 8 * l.levels + 7

-- the members so far, and those that are left, are all members
abbrev pub invariant-members_of-loop : goal.invariant-members_of-loop
invariant-members_of-loop l =
    with_front l.members.items (members_at (word_of l.joint) (member_at l.joint (unit_at l.levels)) (l.end - l.counter) l.rest)
    ≡ with_first l.fn.first (members_at (word_of l.joint) (member_at l.joint (unit_at l.levels)) (length l.fn.tokens) l.fn.tokens)
