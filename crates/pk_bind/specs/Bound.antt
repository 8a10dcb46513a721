-- What comes of a statement over a schema.
use Rattle.std.specs.Prelude.{◌≡◌, List, Option, Some, None}
use Rattle.pk_values.specs.declared.refusal.Refusal.{Refusal}
use Rattle.pk_values.specs.Refusals.{first_some}
use Rattle.pk_bind.specs.declared.bound.Bound.{Bound}
use Rattle.pk_bind.specs.declared.bound.Bound.TheVariants.{Ready, Refused}

-- the first of these refusals that stands, or this meaning where none does
abbrev pub IsBound : {A : Type 0} → List (Option Refusal) → A → Bound A → Type 0
IsBound refusals meaning (Ready x) = (first_some refusals ≡ None) × (x ≡ meaning)
IsBound refusals meaning (Refused r) = first_some refusals ≡ Some r

-- this holds of what is ready
abbrev pub IfReady : {A : Type 0} → Bound A → (A → Type 0) → Type 0
IfReady (Ready x) P = P x
IfReady (Refused r) P = Unit {0}
