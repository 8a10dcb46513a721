use Rattle.std.specs.Prelude.{◌≡◌, ℕ, List, Option, Some, None}
use Rattle.pk_values.specs.declared.changes.Changes.{Changes}
use Rattle.pk_values.specs.declared.refusal.Refusal.{Refusal}
use Rattle.pk_values.specs.Refusals.{first_some}
use Rattle.pk_engine.specs.declared.outcome.Outcome.{Outcome}
use Rattle.pk_engine.specs.declared.outcome.Outcome.TheVariants.{Done, Refused}

-- the first of these refusals that stands, or so many rows and these changes where none does
abbrev pub IsDone : List (Option Refusal) → ℕ → Changes → Outcome → Type 0
IsDone refusals n changes (Done m made) = (first_some refusals ≡ None) × (m ≡ n) × (made ≡ changes)
IsDone refusals n changes (Refused refusal) = first_some refusals ≡ Some refusal
