-- What is said of the station beside the rows.
use Rattle.std.specs.Prelude.{◌≡◌, ◌↔◌, IsTrue, IsErrOf, Result}
use Rattle.pk_world.specs.declared.store_err.StoreErr.{StoreErr}
use Rattle.pk_world.specs.declared.store_err.StoreErr.TheVariants.{Disk, Changed}
use Rattle.pk_world.specs.declared.station.Station.{Ghosts}
use Rattle.pk_world.specs.Files.{Files}

-- the station wasn't used, and the answer blames neither it nor its files
pub record IsLeftAlone {W T : Type 0} (old new : W) (answer : Result T StoreErr) : Type 0 where
  pub same : new ≡ old
  pub no_disk : ¬ IsErrOf answer Disk
  pub no_change : ¬ IsErrOf answer Changed

-- two moments of a station between which its files, and what a crash may leave of them, stay as they are
pub record HasSameFiles {W : Type 0} (g : Ghosts W) (old new : W) : Type 0 where
  pub tells : g.tells new ≡ g.tells old
  pub honest : g.honest old ↔ g.honest new
  pub content : g.content new ≡ g.content old
  pub left : g.honest old → IsTrue (g.tells old) → (f : Files) → g.may_leave new f → g.may_leave old f
