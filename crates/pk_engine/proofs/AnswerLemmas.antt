-- What an answer is where a refusal stands, and where none does.
use Rattle.std.proofs.Common.{◌≡◌, ℕ, List, [], ◌∷◌, ◌++◌, Option, Some, None, refl, ap}
use Rattle.pk_values.specs.declared.refusal.Refusal.{Refusal}
use Rattle.pk_values.specs.Refusals.{first_some}
use Rattle.pk_engine.specs.State.{State}
use Rattle.pk_engine.specs.Base.{Table}
use Rattle.pk_engine.specs.Refusing.{Step, refused, decided, refused_or, about, about_found, table_of}
use Rattle.pk_values.proofs.RefusalLemmas.{first_before, first_behind}

-- where a refusal stands, it is the answer
pub decided_refused : (st : State) (rs : List (Option Refusal)) (done : Step) (r : Refusal) → first_some rs ≡ Some r → decided st rs done ≡ refused st r
decided_refused st rs done r stands = rw stands refl

-- where none stands, what is done is the answer
pub decided_done : (st : State) (rs : List (Option Refusal)) (done : Step) → first_some rs ≡ None → decided st rs done ≡ done
decided_done st rs done free = rw free refl

-- a refusal of the first ones is the answer, whatever stands behind them
pub decided_front : (st : State) (xs ys : List (Option Refusal)) (done : Step) (r : Refusal) → first_some xs ≡ Some r → decided st (xs ++ ys) done ≡ refused st r
decided_front st xs ys done r stands = decided_refused st (xs ++ ys) done r (first_before xs ys r stands)

-- where none of the first ones stands, the others decide
pub decided_behind : (st : State) (xs ys : List (Option Refusal)) (done : Step) → first_some xs ≡ None → decided st (xs ++ ys) done ≡ decided st ys done
decided_behind st xs ys done free = ap (λ (r : Option Refusal). refused_or st r done) (first_behind xs ys free)

refused_some : (st : State) (r : Refusal) (o : Option Refusal) (done : Step) → o ≡ Some r → refused_or st o done ≡ refused st r
refused_some st r o done is = ap (λ (x : Option Refusal). refused_or st x done) is

-- of two refusals of which the first doesn't stand the second decides
pub second_refused : (st : State) (a b : Option Refusal) (done : Step) (r : Refusal) → a ≡ None → b ≡ Some r → decided st (a ∷ b ∷ []) done ≡ refused st r
second_refused st a b done r first second = rw (first, second) refl

pub both_free : (st : State) (a b : Option Refusal) (done : Step) → a ≡ None → b ≡ None → decided st (a ∷ b ∷ []) done ≡ done
both_free st a b done first second = rw (first, second) refl

-- a first refusal that doesn't stand is passed over
pub first_passed : (st : State) (a : Option Refusal) (rest : List (Option Refusal)) (done : Step) → a ≡ None → decided st (a ∷ rest) done ≡ decided st rest done
first_passed st a rest done none = rw none refl

pub first_refused : (st : State) (a : Option Refusal) (rest : List (Option Refusal)) (done : Step) (r : Refusal) → a ≡ Some r → decided st (a ∷ rest) done ≡ refused st r
first_refused st a rest done r some = rw some refl

-- ---- what leaves the state

left_or : (st : State) (o : Option Refusal) (done : Step) → done.next ≡ st → (refused_or st o done).next ≡ st
left_or st (Some r) done same = refl
left_or st None done same = same

left_found : (st : State) (name : List ℕ) (answer : Table → Step) (o : Option Table) → ((t : Table) → (answer t).next ≡ st) → (about_found st name answer o).next ≡ st
left_found st name answer (Some t) same = same t
left_found st name answer None same = refl

-- an answer that changes nothing of any table changes nothing
pub told_leaves : (st : State) (name : List ℕ) (step : Table → Step) → ((t : Table) → (step t).next ≡ st) → (about st name step).next ≡ st
unfolding about
told_leaves st name step same = left_found st name step (table_of st name) same

-- nor does one where a refusal may stand
pub about_leaves : (st : State) (name : List ℕ) (refusals : Table → List (Option Refusal)) (done : Table → Step) → ((t : Table) → (done t).next ≡ st)
    → (about st name (λ t. decided st (refusals t) (done t))).next ≡ st
about_leaves st name refusals done same = told_leaves st name _ (λ t. left_or st (first_some (refusals t)) (done t) (same t))
