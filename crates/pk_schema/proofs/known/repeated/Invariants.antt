use Rattle.std.proofs.Common.{◌≡◌, ℕ, List, map, take}
use Rattle.std.specs.Prelude.{drop}
use Rattle.pk_values.specs.NameSets.{has_name as knows}
use Rattle.pk_syntax.specs.Declarations.{has_name, twice, twice_behind}
use Rattle.pk_schema.proofs.known.repeated.Given as goal

-- the names behind those that have stood decide, and those that have stood are known
abbrev pub invariant-loop-item : goal.invariant-loop-item
invariant-loop-item g l = record {
  decides : twice_behind (map g.T.Named.name (take l.item-index l.items)) (map g.T.Named.name (drop l.item-index l.items)) ≡ twice (map g.T.Named.name l.items);
  known : (name : List ℕ) → knows l.names name ≡ has_name (map g.T.Named.name (take l.item-index l.items)) name;
}
