use Rattle.std.proofs.Common.{◌≡◌, List, [], ◌∷◌, ◌++◌, refl, ap}
use Rattle.pk_lex.specs.declared.piece.Piece.{Piece}
use Rattle.pk_engine.specs.State.{State}
use Rattle.pk_engine.specs.Refusing.{Step}
use Rattle.pk_run.specs.Told.{step, run, state_after}
use Rattle.pk_run.proofs.laws.runs_in_halves.Goals as goal

run-append : (st : State) (first second : List Piece) → run st (first ++ second) ≡ run st first ++ run (state_after st first) second
run-append st [] second = refl
run-append st (piece ∷ first) second = ap (λ (steps : List Step). step st piece ∷ steps) (run-append (step st piece).next first second)

pub returns : goal.returns
returns c = run-append
