use Rattle.std.proofs.Common.{◌≡◌, ◌++◌, drop, map}
use Rattle.pk_rule.specs.Plain.{plain_of}
use Rattle.pk_examples.specs.Family.{outside, case_over}
use Rattle.pk_examples.proofs.listing.push_cases.Given as goal

-- with the cases of the sets that are left they are all
abbrev pub invariant-loop-set : goal.invariant-loop-set
invariant-loop-set l =
    l.cases.items ++ map (λ t. case_over (plain_of l.schema) l.sort (outside (plain_of l.schema) t)) (drop l.set-index l.sets)
    ≡ l.fn.cases.items ++ map (λ t. case_over (plain_of l.schema) l.sort (outside (plain_of l.schema) t)) l.sets
