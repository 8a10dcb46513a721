-- The order of numbers as `cmp` tells it.
use Rattle.std.proofs.Common.{◌≡◌, refl, ℕ, ◌<◌, Bool, true, false, ◌==◌, nat_lt, if◌then◌else◌}
use Rattle.std.specs.Ordering.{nat_cmp}
use Rattle.std.specs.declared.cmp.Ordering.TheVariants.{Less, Equal, Greater}
use Rattle.std.proofs.lemmas.Bool.{ltb-true}

pub less_numbers : (a b : ℕ) → nat_cmp a b ≡ Less → a < b
less_numbers a b is = by_order (nat_lt a b) refl is
  where
    by_same : (t : Bool) → (if t then Equal else Greater) ≡ Less → a < b
    by_same true is = absurd cc
    by_same false is = absurd cc

    by_order : (t : Bool) → nat_lt a b ≡ t → (if t then Less else (if a == b then Equal else Greater)) ≡ Less → a < b
    by_order true less is = ltb-true a b less
    by_order false less is = by_same (a == b) is
