-- Lists of refusals of which one stands, or none.
use Rattle.std.proofs.Common.{◌≡◌, refl, List, [], ◌∷◌, ◌++◌, Option, Some, None}
use Rattle.pk_values.specs.declared.refusal.Refusal.{Refusal}
use Rattle.pk_values.specs.Refusals.{first_some, or_else}

-- where none of the first stands, those behind them decide
pub first_behind : (front back : List (Option Refusal)) → first_some front ≡ None → first_some (front ++ back) ≡ first_some back
first_behind [] back free = refl
first_behind (None ∷ rs) back free = first_behind rs back free
first_behind (Some r ∷ rs) back free = absurd cc

-- one of the first stands before those behind them
pub first_before : (front back : List (Option Refusal)) (r : Refusal) → first_some front ≡ Some r → first_some (front ++ back) ≡ Some r
first_before [] back r stands = absurd cc
first_before (None ∷ rs) back r stands = first_before rs back r stands
first_before (Some q ∷ rs) back r stands = stands

-- where none of a list stands, none of its parts does
pub front_free : (front back : List (Option Refusal)) → first_some (front ++ back) ≡ None → (first_some front ≡ None) × (first_some back ≡ None)
front_free [] back free = (refl, free)
front_free (Some r ∷ rs) back free = absurd cc
front_free (None ∷ rs) back free = front_free rs back free

pub head_free : (o : Option Refusal) (rs : List (Option Refusal)) → first_some (o ∷ rs) ≡ None → (o ≡ None) × (first_some rs ≡ None)
head_free None rs free = (refl, free)
head_free (Some r) rs free = absurd cc

pub first_alone : (o : Option Refusal) → first_some (o ∷ []) ≡ o
first_alone None = refl
first_alone (Some r) = refl

-- neither of two stands
pub neither : (a b : Option Refusal) → or_else a b ≡ None → (a ≡ None) × (b ≡ None)
neither None b free = (refl, free)
neither (Some r) b free = absurd cc
