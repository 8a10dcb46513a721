use Rattle.std.proofs.Common.{◌≡◌, map, take}
use Rattle.std.specs.Prelude.{drop}
use Rattle.pk_syntax.specs.Declarations.{twice, twice_behind}
use Rattle.pk_schema.proofs.named.twice.Given as goal

-- the names behind those that have stood decide
abbrev pub invariant-loop-i : goal.invariant-loop-i
invariant-loop-i g l =
    twice_behind (map g.T.Named.name (take l.i l.items)) (map g.T.Named.name (drop l.i l.items)) ≡ twice (map g.T.Named.name l.items)
