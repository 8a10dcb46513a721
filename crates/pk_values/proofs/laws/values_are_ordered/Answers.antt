use Rattle.std.proofs.Common.{◌≡◌, subst}
use Rattle.std.specs.declared.cmp.Ordering.TheVariants.{Equal}
use Rattle.pk_values.specs.Values.{value_cmp}
use Rattle.pk_values.proofs.ValueOrder.{value_cmp_total, equal_from_same, same_from_equal, tied_values, value_tied_itself}
use Rattle.pk_values.proofs.laws.values_are_ordered.Goals as goal

pub returns : goal.returns
returns c = (
  value_cmp_total,
  λ a b. (equal_from_same a b, same_from_equal a b),
  λ a b. (tied_values a b, λ same. subst (λ v. value_cmp a v ≡ Equal) same (value_tied_itself a)),
)
