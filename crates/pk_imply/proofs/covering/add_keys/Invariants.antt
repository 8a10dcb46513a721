use Rattle.std.proofs.Common.{◌≡◌, ◌++◌, map, take}
use Rattle.pk_rule.specs.Laws.{key_over}
use Rattle.pk_imply.proofs.covering.add_keys.Given as goal

-- the keys so far are those over the sets so far
abbrev pub invariant-loop-set : goal.invariant-loop-set
invariant-loop-set l = l.keys.items ≡ l.fn.keys.items ++ map (key_over l.sort) (take l.set-index l.sets)
