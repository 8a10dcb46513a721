-- What the station after a crash holds, a crash could leave.
use Rattle.std.proofs.Common.{◌≡◌, ℕ, ◌<◌, zero, suc, List, [], ◌∷◌, length, replicate, take, drop, Result, Ok, Err, IfOk, inl, refl, sym, ◌∙◌, ap, subst, arith}
use Rattle.std.proofs.lemmas.List.{length-replicate}
use Rattle.pk_values.specs.declared.memory.Memory.{Memory}
use Rattle.pk_world.specs.declared.call.Call.{Call}
use Rattle.pk_world.specs.declared.call.Call.TheVariants.{Look, Write, Sync, Tell}
use Rattle.pk_world.specs.declared.left.Left.{Left}
use Rattle.pk_world.specs.declared.left.Left.TheVariants.{Old, New, Fill}
use Rattle.pk_world.specs.declared.station.Which.TheVariants.{Log, Pages}
use Rattle.pk_world.specs.declared.memory_station.MemoryStation.{MemoryStation}
use Rattle.pk_world.specs.Files.{Files, file_of, overwritten, Torn}
use Rattle.pk_world.specs.History.{Written, Moment, step, after, begun, begun_first, Reaches, MayLeave, MayHaveTaken, LeftSince}
use Rattle.pk_world.specs.Crash.{marked, left_over, crashed}
use Rattle.pk_world.specs.MemoryStation.{files_of}
use Rattle.pk_world.specs.MemoryLaws.{torn_kept, torn_done, may_take}
use Rattle.pk_world.proofs.Recorded.{told_kept}

torn_marked : (left : Left) (file : List ℕ) (at : ℕ) (bytes : List ℕ) → Torn at (length bytes) file (marked left file at bytes)
torn_marked Old file at bytes = torn_kept at (length bytes) file
torn_marked New file at bytes = torn_done file at bytes
torn_marked (Fill byte) file at bytes =
    subst (λ (n : ℕ). Torn at n file (overwritten file at (replicate (length bytes) byte))) (length-replicate (length bytes) byte) (torn_done file at (replicate (length bytes) byte))

reaches_over : (left : Left) (synced : List ℕ) (writes : List Written) → Reaches synced writes (left_over left synced writes)
reaches_over left synced [] = refl
reaches_over left synced (w ∷ ws) = (left_over left synced ws, reaches_over left synced ws, torn_marked left (left_over left synced ws) w.at w.bytes)

pub crash_possible : (left : Left) (m : Moment) → MayLeave m (crashed left m)
crash_possible left m = record { log = reaches_over left m.log.synced m.log.writes; pages = reaches_over left m.pages.synced m.pages.writes }

taken_inside : (m : Moment) (c : Call) → MayHaveTaken m c (begun m c).told
taken_inside m Look = refl
taken_inside m (Write which at bytes done) = told_kept m which at bytes done
taken_inside m (Sync which done) = refl
taken_inside m (Tell bytes done) = may_take m (Tell bytes done)

-- what is left inside a call is left since the call's start
pub left_inside : (m : Moment) (cs : List Call) (k : ℕ) (f : Files) → k < length cs → MayLeave (begun_first (after m (take k cs)) (drop k cs)) f
    → LeftSince m cs k f (begun_first (after m (take k cs)) (drop k cs)).told
left_inside m [] k f within left = absurd (omega arith)
left_inside m (c ∷ cs) zero f within left = inl (record { files = left; told = taken_inside m c })
left_inside m (c ∷ cs) (suc k) f within left = left_inside (step m c) cs k f (omega arith) left

-- what these files have, a station over them has
pub over : (r : Result MemoryStation Memory) (log pages : List ℕ) (f : Files) (P : Files → Type 0)
    → IfOk r (λ s. file_of (files_of s) Log ≡ log) → IfOk r (λ s. file_of (files_of s) Pages ≡ pages) → log ≡ f.log → pages ≡ f.pages → P f → IfOk r (λ s. P (files_of s))
over (Ok s) log pages f P is_log is_pages log_so pages_so has =
    let same : files_of s ≡ f =
    ap (λ (b : List ℕ). let g : Files = record { log = b; pages = (files_of s).pages } in g) (is_log ∙ log_so)
    ∙ ap (λ (b : List ℕ). let g : Files = record { log = f.log; pages = b } in g) (is_pages ∙ pages_so) in
    subst P (sym same) has
over (Err e) log pages f P is_log is_pages log_so pages_so has = tt
