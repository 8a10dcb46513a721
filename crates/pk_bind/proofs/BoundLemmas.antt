-- What is bound behind refusals that don't stand.
use Rattle.std.proofs.Common.{◌≡◌, sym, ◌∙◌, subst, List, ◌++◌, Option, None, IfOk, Ok, Err}
use Rattle.std.specs.Prelude.{Result}
use Rattle.pk_values.specs.declared.refusal.Refusal.{Refusal}
use Rattle.pk_values.specs.Refusals.{first_some}
use Rattle.pk_bind.specs.declared.bound.Bound.{Bound}
use Rattle.pk_bind.specs.declared.bound.Bound.TheVariants.{Ready, Refused}
use Rattle.pk_bind.specs.Bound.{IsBound, IfReady}
use Rattle.pk_values.proofs.RefusalLemmas.{first_behind}

bound_behind : {A : Type 0} (front back : List (Option Refusal)) (meaning : A) (b : Bound A) → first_some front ≡ None
    → IsBound back meaning b → IsBound (front ++ back) meaning b
bound_behind front back meaning (Ready x) free is = (first_behind front back free ∙ is.0, is.1)
bound_behind front back meaning (Refused r) free is = first_behind front back free ∙ is

pub bound_if : {A E : Type 0} (front back : List (Option Refusal)) (meaning : A) (r : Result (Bound A) E) → first_some front ≡ None
    → IfOk r (λ b. IsBound back meaning b) → IfOk r (λ b. IsBound (front ++ back) meaning b)
bound_if front back meaning (Ok b) free is = bound_behind front back meaning b free is
bound_if front back meaning (Err e) free is = tt

ready_has : {A : Type 0} (refusals : List (Option Refusal)) (meaning : A) (b : Bound A) (P : A → Type 0) → (first_some refusals ≡ None → P meaning)
    → IsBound refusals meaning b → IfReady b P
ready_has refusals meaning (Ready x) P so is = subst P (sym is.1) (so is.0)
ready_has refusals meaning (Refused r) P so is = tt

-- what holds of the meaning where nothing is refused holds of what is ready
pub ready_if : {A E : Type 0} (refusals : List (Option Refusal)) (meaning : A) (r : Result (Bound A) E) (P : A → Type 0)
    → (first_some refusals ≡ None → P meaning) → IfOk r (λ b. IsBound refusals meaning b) → IfOk r (λ b. IfReady b P)
ready_if refusals meaning (Ok b) P so is = ready_has refusals meaning b P so is
ready_if refusals meaning (Err e) P so is = tt
