use Rattle.std.proofs.Common.{◌≡◌, map, take}
use Rattle.pk_bind.specs.Columns.{column_at}
use Rattle.pk_bind.proofs.selecting.places_of.Given as goal

-- the places so far
abbrev pub invariant-loop-name : goal.invariant-loop-name
invariant-loop-name l = l.places.items ≡ map (column_at l.schema.columns) (take l.name-index l.names)
