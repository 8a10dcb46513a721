use Rattle.std.proofs.Common.{◌≡◌, ◌-◌}
use Rattle.pk_parse.specs.Lists.{list_at, more_at}
use Rattle.pk_parse.proofs.ListReading.{with_front}
use Rattle.pk_parse.proofs.lists.list_of.Given as goal

-- the parts so far, and those that are left, are all parts
abbrev pub invariant-loop : goal.invariant-loop
invariant-loop g l = with_front l.parts.items (more_at g.T.Part.at (l.end - l.counter) l.rest) ≡ list_at g.T.Part.at l.fn.tokens
