use Rattle.pk_rows.specs.Maps.{Map}
use Rattle.pk_rows.proofs.tests.listed.Given as goal

-- there is still a map that is stood for
abbrev pub invariant-loop : goal.invariant-loop
invariant-loop g l = (m : Map) × g.R.Rows.stands l.rows l.station m
