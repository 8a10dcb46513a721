-- What calls leave of a view.
use Rattle.std.specs.Prelude.{◌≡◌, ◌≤◌, Result, IsErrOf}
use Rattle.pk_world.specs.Rose.{Rose}
use Rattle.pk_schema.specs.Shapes.{Shape}
use Rattle.pk_world.specs.declared.store_err.StoreErr.{StoreErr}
use Rattle.pk_world.specs.declared.store_err.StoreErr.TheVariants as store_errs
use Rattle.pk_exec.specs.declared.exec_err.ExecErr.{ExecErr}
use Rattle.pk_exec.specs.declared.exec_err.ExecErr.TheVariants as exec_errs
use Rattle.pk_exec.specs.declared.view.View.{Ghosts as ViewGhosts}

-- a view as it is left by calls: it stands for the same rows, and its counts never fall
pub record IsLeft {V : Type 0} (g : ViewGhosts V) (old new : V) : Type 0 where
  pub rows : g.rows new ≡ g.rows old
  pub tells : g.tells new ≡ g.tells old
  pub fits : (s : Shape) → g.fits old s → g.fits new s
  pub held : g.held new ≡ g.held old
  pub faults : g.faults old ≤ g.faults new
  pub strays : g.strays old ≤ g.strays new

-- the disk is blamed only where the view's faults rose, and a change only where its strays did
abbrev pub HasStoreCause : {V X : Type 0} → ViewGhosts V → V → V → Result X StoreErr → Type 0
HasStoreCause g old new result =
    (IsErrOf result store_errs.Disk → Rose (g.faults old) (g.faults new))
    × (IsErrOf result store_errs.Changed → Rose (g.strays old) (g.strays new))

abbrev pub HasCause : {V X : Type 0} → ViewGhosts V → V → V → Result X ExecErr → Type 0
HasCause g old new result =
    (IsErrOf result exec_errs.Disk → Rose (g.faults old) (g.faults new))
    × (IsErrOf result exec_errs.Changed → Rose (g.strays old) (g.strays new))
