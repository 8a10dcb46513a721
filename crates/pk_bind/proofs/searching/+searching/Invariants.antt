use Rattle.std.proofs.Common.{◌≡◌, map, drop}
use Rattle.pk_values.specs.Refusals.{first_some}
use Rattle.pk_bind.specs.Conditions.{test_fault}
use Rattle.pk_bind.proofs.searching.+searching.Given as goal

-- the members that are left decide
abbrev pub invariant-members_fault-loop-member : goal.invariant-members_fault-loop-member
invariant-members_fault-loop-member l =
    first_some (map (test_fault l.search l.columns l.table) (drop l.member-index l.members))
    ≡ first_some (map (test_fault l.search l.columns l.table) l.members)
