-- What is blamed at the exits of a walk.
use Rattle.std.proofs.Common.{◌≡◌, Err, ap, sym, ◌∙◌}
use Rattle.std.specs.Prelude.{Result, IsErrOf}
use Rattle.pk_world.specs.Rose.{Rose}
use Rattle.pk_world.specs.declared.store_err.StoreErr.{StoreErr}
use Rattle.pk_world.specs.declared.store_err.StoreErr.TheVariants as store_errs
use Rattle.pk_exec.specs.declared.exec_err.ExecErr.{ExecErr}
use Rattle.pk_exec.specs.declared.exec_err.ExecErr.TheVariants as exec_errs
use Rattle.pk_exec.specs.declared.view.View.{Ghosts as ViewGhosts}
use Rattle.pk_exec.specs.Answers.{exec_cause}
use Rattle.pk_exec.specs.Views.{IsLeft, HasCause, HasStoreCause}
use Rattle.pk_exec.proofs.Walks.{rose_since}

-- the error is no blame of the store
abbrev pub IsNoBlame : ExecErr → Type 0
IsNoBlame (exec_errs.Refused r) = Unit {0}
IsNoBlame exec_errs.Disk = ⊥
IsNoBlame exec_errs.Changed = ⊥
IsNoBlame exec_errs.Memory = Unit {0}

-- an error of the view is handed on
pub carried :
    {V X Y : Type 0} (g : ViewGhosts V) (v0 v v1 : V) (q : Result Y StoreErr) (s : StoreErr) (r : Result X ExecErr) (y : ExecErr) → IsLeft g v0 v
    → q ≡ Err s → (IsErrOf q store_errs.Disk → Rose (g.faults v) (g.faults v1)) → (IsErrOf q store_errs.Changed → Rose (g.strays v) (g.strays v1))
    → r ≡ Err y → y ≡ exec_cause s → HasCause g v0 v1 r
carried g v0 v v1 q store_errs.Disk r y left is disk changed told same =
    (λ e. rose_since _ _ _ left.faults (disk is), λ e. absurd (cc))
carried g v0 v v1 q store_errs.Changed r y left is disk changed told same =
    (λ e. absurd (cc), λ e. rose_since _ _ _ left.strays (changed is))
carried g v0 v v1 q store_errs.Memory r y left is disk changed told same =
    (λ e. absurd (cc), λ e. absurd (cc))

-- an error of the view is the walk's own
pub carried_on :
    {V X Y : Type 0} (g : ViewGhosts V) (v0 v v1 : V) (q : Result Y StoreErr) (s : StoreErr) (r : Result X StoreErr) → IsLeft g v0 v
    → q ≡ Err s → (IsErrOf q store_errs.Disk → Rose (g.faults v) (g.faults v1)) → (IsErrOf q store_errs.Changed → Rose (g.strays v) (g.strays v1))
    → r ≡ Err s → HasStoreCause g v0 v1 r
carried_on {X = X} g v0 v v1 q s r left is disk changed told = (
  λ e. rose_since _ _ _ left.faults (disk (is ∙ ap (λ x. Err x) (same_error s store_errs.Disk (sym told ∙ e)))),
  λ e. rose_since _ _ _ left.strays (changed (is ∙ ap (λ x. Err x) (same_error s store_errs.Changed (sym told ∙ e)))),
)
  where
    same_error : (a b : StoreErr) → ◌≡◌ {A = Result X StoreErr} (Err a) (Err b) → a ≡ b
    same_error a b same = cc

-- an error that blames nothing
pub no_blame : {V X : Type 0} (g : ViewGhosts V) (v0 v1 : V) (r : Result X ExecErr) (y : ExecErr) → r ≡ Err y → IsNoBlame y → HasCause g v0 v1 r
no_blame g v0 v1 r (exec_errs.Refused x) is none = (λ e. absurd (cc), λ e. absurd (cc))
no_blame g v0 v1 r exec_errs.Disk is none = absurd none
no_blame g v0 v1 r exec_errs.Changed is none = absurd none
no_blame g v0 v1 r exec_errs.Memory is none = (λ e. absurd (cc), λ e. absurd (cc))
