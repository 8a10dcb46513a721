-- The order in which refusals are tried.
use Rattle.std.specs.Prelude.{List, [], ◌∷◌, Option, Some, None}
use Rattle.pk_values.specs.declared.refusal.Refusal.{Refusal}

-- the first refusal that stands
abbrev pub first_some : List (Option Refusal) → Option Refusal
first_some [] = None
first_some (Some r ∷ rs) = Some r
first_some (None ∷ rs) = first_some rs

-- a refusal, or else what is behind it
abbrev pub or_else : Option Refusal → Option Refusal → Option Refusal
or_else (Some r) other = Some r
or_else None other = other

-- the first refusal that stands for an element, from left to right
abbrev pub first_by : {X : Type 0} → (X → Option Refusal) → List X → Option Refusal
first_by refusal [] = None
first_by refusal (x ∷ xs) = or_else (refusal x) (first_by refusal xs)
