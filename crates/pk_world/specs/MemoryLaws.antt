-- The laws of a station, for one in memory: they follow from what its record of calls comes to.
use Rattle.std.proofs.Common.{◌≡◌, ◌⊎◌, ℕ, ◌≤◌, Bool, true, false, zero, suc, List, [], ◌∷◌, ◌++◌, length, refl, sym, ◌∙◌, subst, inl, inr, ⊎_elim, arith, IsTrue, if◌then◌else◌, append-nil, length-append, length-take, length-drop}
use Rattle.std.proofs.lemmas.List.{places}
use Rattle.pk_world.specs.declared.station.Which.TheVariants.{Log, Pages}
use Rattle.pk_world.specs.declared.call.Call.{Call}
use Rattle.pk_world.specs.declared.call.Call.TheVariants.{Look, Write, Sync, Tell}
use Rattle.pk_world.specs.declared.memory_station.MemoryStation.{MemoryStation}
use Rattle.pk_world.specs.Files.{Files, overwritten, Torn}
use Rattle.pk_world.specs.History.{Moment, first_moment, after, step, begun, seen_at, Reaches, MayLeave, MayHaveTaken, IsLeftAt, IsLeftIn, LeftFrom, LeftSince}
use Rattle.pk_world.specs.MemoryFiles.{held}
use Rattle.pk_world.specs.MemoryStation.{taken, files_of, call_count, moment_of, MayLeaveNow, MayHaveLeft}

-- Writes and moments.

-- a write that did nothing is a torn one
pub torn_kept : (at count : ℕ) (file : List ℕ) → Torn at count file file
torn_kept at count file = record { no_shorter = omega arith; no_longer = omega arith; before = λ i l b. refl; behind = λ i l b. refl }

-- and so is one that did all of its work
pub torn_done : (file : List ℕ) (at : ℕ) (bytes : List ℕ) → Torn at (length bytes) file (overwritten file at bytes)
torn_done file at bytes = record {
  no_shorter = simp (length-append, length-take, length-drop) (omega arith);
  no_longer = simp (length-append, length-take, length-drop) (omega arith);
  before = λ i l b. grind (arith, places);
  behind = λ i l b. grind (arith, places);
}

-- what a crash may leave before a call, it may leave inside it
pub may_begin : (m : Moment) (c : Call) (f : Files) → MayLeave m f → MayLeave (begun m c) f
may_begin m Look f left = left
may_begin m (Write Log at bytes done) f left = record { log = (f.log, left.log, torn_kept at (length bytes.items) f.log); pages = left.pages }
may_begin m (Write Pages at bytes done) f left = record { log = left.log; pages = (f.pages, left.pages, torn_kept at (length bytes.items) f.pages) }
may_begin m (Sync which done) f left = left
may_begin m (Tell bytes done) f left = left

pub may_take : (m : Moment) (c : Call) → MayHaveTaken m c m.told
may_take m Look = refl
may_take m (Write which at bytes done) = refl
may_take m (Sync which done) = refl
may_take m (Tell bytes done) = (0, omega arith, sym (append-nil m.told))

pub left_in : (m : Moment) (c : Call) (f : Files) (s : List ℕ) → IsLeftAt m f s → IsLeftIn m c f s
left_in m c f s left = record { files = may_begin m c f left.files; told = subst (λ (t : List ℕ). MayHaveTaken m c t) (sym left.told) (may_take m c) }

-- Moments of a list of calls, and of that list and one call more.

from_keeps : (m : Moment) (cs : List Call) (c : Call) (f : Files) (s : List ℕ) → LeftFrom m cs f s → LeftFrom m (cs ++ c ∷ []) f s
from_keeps m [] c f s left = inl (left_in m c f s left)
from_keeps m (d ∷ ds) c f s (inl now) = inl now
from_keeps m (d ∷ ds) c f s (inr later) = inr (from_keeps (step m d) ds c f s later)

pub since_keeps : (m : Moment) (cs : List Call) (c : Call) (t : ℕ) (f : Files) (s : List ℕ) → t ≤ length cs → LeftSince m cs t f s → LeftSince m (cs ++ c ∷ []) t f s
since_keeps m cs c zero f s le left = from_keeps m cs c f s left
since_keeps m [] c (suc t) f s le left = absurd (omega arith)
since_keeps m (d ∷ ds) c (suc t) f s le left = since_keeps (step m d) ds c t f s (omega arith) left

from_else : (m : Moment) (cs : List Call) (c : Call) (f : Files) (s : List ℕ) → LeftFrom m (cs ++ c ∷ []) f s → LeftFrom m cs f s ⊎ LeftSince m (cs ++ c ∷ []) (length cs) f s
from_else m [] c f s left = inr left
from_else m (d ∷ ds) c f s (inl now) = inl (inl now)
from_else m (d ∷ ds) c f s (inr later) = ⊎_elim (λ here. inl (inr here)) (λ later. inr later) (from_else (step m d) ds c f s later)

pub since_else : (m : Moment) (cs : List Call) (c : Call) (t : ℕ) (f : Files) (s : List ℕ) → t ≤ length cs → LeftSince m (cs ++ c ∷ []) t f s → LeftSince m cs t f s ⊎ LeftSince m (cs ++ c ∷ []) (length cs) f s
since_else m cs c zero f s le left = from_else m cs c f s left
since_else m [] c (suc t) f s le left = absurd (omega arith)
since_else m (d ∷ ds) c (suc t) f s le left = since_else (step m d) ds c t f s (omega arith) left

pub since_last : (m : Moment) (cs : List Call) (c : Call) (f : Files) (s : List ℕ) → LeftSince m (cs ++ c ∷ []) (length cs) f s → IsLeftIn (after m cs) c f s ⊎ IsLeftAt (step (after m cs) c) f s
since_last m [] c f s left = left
since_last m (d ∷ ds) c f s left = since_last (step m d) ds c f s left

-- The present moment, and earlier ones.

from_now : (m : Moment) (cs : List Call) (f : Files) (s : List ℕ) → IsLeftAt (after m cs) f s → LeftFrom m cs f s
from_now m [] f s left = left
from_now m (d ∷ ds) f s left = inr (from_now (step m d) ds f s left)

since_now : (m : Moment) (cs : List Call) (t : ℕ) (f : Files) (s : List ℕ) → t ≤ length cs → IsLeftAt (after m cs) f s → LeftSince m cs t f s
since_now m cs zero f s le left = from_now m cs f s left
since_now m [] (suc t) f s le left = absurd (omega arith)
since_now m (d ∷ ds) (suc t) f s le left = since_now (step m d) ds t f s (omega arith) left

pub now_since : (m : Moment) (cs : List Call) (f : Files) (s : List ℕ) → LeftSince m cs (length cs) f s → IsLeftAt (after m cs) f s
now_since m [] f s left = left
now_since m (d ∷ ds) f s left = now_since (step m d) ds f s left

from_start : (m : Moment) (cs : List Call) (u : ℕ) (f : Files) (s : List ℕ) → u ≤ length cs → LeftSince m cs u f s → LeftFrom m cs f s
from_start m cs zero f s le left = left
from_start m [] (suc u) f s le left = absurd (omega arith)
from_start m (d ∷ ds) (suc u) f s le left = inr (from_start (step m d) ds u f s (omega arith) left)

since_earlier : (m : Moment) (cs : List Call) (t u : ℕ) (f : Files) (s : List ℕ) → t ≤ u → u ≤ length cs → LeftSince m cs u f s → LeftSince m cs t f s
since_earlier m cs zero u f s le most left = from_start m cs u f s most left
since_earlier m cs (suc t) zero f s le most left = absurd (omega arith)
since_earlier m [] (suc t) (suc u) f s le most left = absurd (omega arith)
since_earlier m (d ∷ ds) (suc t) (suc u) f s le most left = since_earlier (step m d) ds t u f s (omega arith) (omega arith) left

-- What reads give is among what a crash may leave.

read_write : (seen : List ℕ) (at : ℕ) (bytes : List ℕ) (done : Bool) → Torn at (length bytes) seen (if done then overwritten seen at bytes else seen)
read_write seen at bytes true = torn_done seen at bytes
read_write seen at bytes false = torn_kept at (length bytes) seen

read_step : (m : Moment) (c : Call) → MayLeave m (seen_at m) → MayLeave (step m c) (seen_at (step m c))
read_step m Look left = left
read_step m (Write Log at bytes done) left = record { log = (m.log.seen, left.log, read_write m.log.seen at bytes.items done); pages = left.pages }
read_step m (Write Pages at bytes done) left = record { log = left.log; pages = (m.pages.seen, left.pages, read_write m.pages.seen at bytes.items done) }
read_step m (Sync Log true) left = record { log = refl; pages = left.pages }
read_step m (Sync Pages true) left = record { log = left.log; pages = refl }
read_step m (Sync which false) left = left
read_step m (Tell bytes done) left = record { log = left.log; pages = left.pages }

pub read_after : (m : Moment) (cs : List Call) → MayLeave m (seen_at m) → MayLeave (after m cs) (seen_at (after m cs))
read_after m [] left = left
read_after m (c ∷ cs) left = read_after (step m c) cs (read_step m c left)

-- The laws.

pub counts_now : (x : MemoryStation) (t : ℕ) (f : Files) → t ≤ call_count x → MayLeaveNow x f → MayHaveLeft x t f (taken x)
counts_now x t f le left = since_now (first_moment (held x.first)) x.calls.items t f (taken x) le (record { files = left; told = sym x.recorded.told })

pub only_now : (x : MemoryStation) (f : Files) (s : List ℕ) → Unit {0} → IsTrue true → MayHaveLeft x (call_count x) f s → MayLeaveNow x f × (s ≡ taken x)
only_now x f s honest tells left =
    let here = now_since (first_moment (held x.first)) x.calls.items f s left in
    (here.files, here.told ∙ x.recorded.told)

pub earlier : (x : MemoryStation) (t u : ℕ) (f : Files) (s : List ℕ) → t ≤ u → u ≤ call_count x → MayHaveLeft x u f s → MayHaveLeft x t f s
earlier x t u f s le most left = since_earlier (first_moment (held x.first)) x.calls.items t u f s le most left

pub as_read : (x : MemoryStation) → Unit {0} → IsTrue true → MayLeaveNow x (files_of x)
as_read x honest tells =
    let read = read_after (first_moment (held x.first)) x.calls.items (record { log = refl; pages = refl }) in
    let m = moment_of x in
    record {
      log = subst (λ (b : List ℕ). Reaches m.log.synced m.log.writes b) x.recorded.log read.log;
      pages = subst (λ (b : List ℕ). Reaches m.pages.synced m.pages.writes b) x.recorded.pages read.pages;
    }
