use Rattle.std.proofs.Common.{◌≡◌, ◌-◌}
use Rattle.pk_catalog.specs.Reading.{all_at}
use Rattle.pk_catalog.proofs.Lists.{with_front}
use Rattle.pk_catalog.proofs.parts.all_of.Given as goal

-- the parts so far, and those that are left, are all parts
abbrev pub invariant-loop : goal.invariant-loop
invariant-loop g l = with_front l.parts.items (all_at g.T.Part.at (l.count - l.counter) l.rest) ≡ all_at g.T.Part.at l.count l.bytes
