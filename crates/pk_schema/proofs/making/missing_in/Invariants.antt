use Rattle.std.proofs.Common.{◌≡◌, not}
use Rattle.std.specs.Prelude.{drop}
use Rattle.std.specs.List.{find}
use Rattle.pk_values.specs.NameSets.{has_name as knows}
use Rattle.pk_schema.proofs.making.missing_in.Given as goal

-- the names that are left decide
abbrev pub invariant-loop-name : goal.invariant-loop-name
invariant-loop-name l = find (λ name. not (knows l.names name)) (drop l.name-index l.key) ≡ find (λ name. not (knows l.names name)) l.key
