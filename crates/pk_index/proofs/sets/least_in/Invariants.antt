use Rattle.std.proofs.Common.{◌≡◌, ℕ, ◌+◌, true, List, ◌++◌, length}
use Rattle.std.specs.List.{list_all}
use Rattle.pk_index.specs.Rows.{is_listed}
use Rattle.pk_index.proofs.sets.least_in.Given as goal

-- the ids in front are outside, and each was a step
abbrev pub invariant-loop-id : goal.invariant-loop-id
invariant-loop-id g l =
    (front : List ℕ) × (l.ids.keys ≡ front ++ l.id-iterator) × (list_all (is_listed l.outside) front ≡ true) × (l.steps ≡ l.fn.steps + length front)
