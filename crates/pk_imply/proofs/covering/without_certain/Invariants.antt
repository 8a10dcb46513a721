use Rattle.std.proofs.Common.{◌≡◌, not, filter, take}
use Rattle.pk_values.specs.declared.key.Sort.TheVariants.{Certain}
use Rattle.pk_rule.specs.Laws.{key_over}
use Rattle.pk_rule.specs.Rule.{some_implies}
use Rattle.pk_imply.proofs.covering.without_certain.Given as goal

-- what is kept so far
abbrev pub invariant-loop-set : goal.invariant-loop-set
invariant-loop-set l = l.kept.items ≡ filter (λ x. not (some_implies l.known l.keys (key_over Certain x))) (take l.set-index l.sets)
