use Rattle.std.proofs.Common.{◌≡◌, map}
use Rattle.std.specs.Prelude.{drop}
use Rattle.pk_syntax.specs.Declarations.{has_name}
use Rattle.pk_schema.proofs.named.has_name.Given as goal

-- what is left has the name where all have it
abbrev pub invariant-loop-item : goal.invariant-loop-item
invariant-loop-item g l = has_name (map g.T.Named.name (drop l.item-index l.items)) l.name ≡ has_name (map g.T.Named.name l.items) l.name
