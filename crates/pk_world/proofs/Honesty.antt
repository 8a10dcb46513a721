-- What is reached by tearing what was synced, write by write, is what the disk model allows.
use Rattle.std.proofs.Common.{◌⊎◌, ℕ, ◌<◌, ◌≤◌, zero, suc, List, [], ◌∷◌, length, take, drop, refl, sym, ◌∙◌, subst, inl, inr, ⊎_elim, arith}
use Rattle.pk_world.specs.declared.call.Call.{Call}
use Rattle.pk_world.specs.Files.{Files}
use Rattle.pk_world.specs.Disk.{MayBeLeft}
use Rattle.pk_world.specs.History.{Written, Moment, step, after, begun_first, first_moment, Reaches, MayLeave, LeftFrom, LeftSince}
use Rattle.pk_world.specs.MemoryFiles.{held}
use Rattle.pk_world.specs.MemoryStation.{moment_of}
use Rattle.pk_world.specs.Laws.{ranges, AreAllowed, MemoryIsHonest}

reached : (synced : List ℕ) (writes : List Written) (left : List ℕ) → Reaches synced writes left → MayBeLeft synced (ranges writes) left
reached synced [] left same =
    subst (λ (b : List ℕ). MayBeLeft synced [] b) (sym same)
    (record { no_shorter = omega arith; no_longer = omega arith; untouched = λ i l outside. refl })
reached synced (w ∷ ws) left (d, before, torn) =
    let so_far = reached synced ws d before in
    record {
      no_shorter = omega (arith, so_far.no_shorter, torn.no_shorter);
      no_longer = omega (arith, so_far.no_longer, torn.no_longer);
      untouched = λ i l outside.
          let longer : i < length d = omega (arith, so_far.no_shorter, l) in
          ⊎_elim (λ front. torn.before i longer front) (λ back. torn.behind i longer back) outside.0 ∙ so_far.untouched i l outside.1;
    }

allowed : (m : Moment) (f : Files) → MayLeave m f → AreAllowed m f
allowed m f left = record { log = reached m.log.synced m.log.writes f.log left.log; pages = reached m.pages.synced m.pages.writes f.pages left.pages }

-- inside one of these calls from the t-th on, or behind the last
abbrev IsAt : Moment → List Call → ℕ → Files → Type 0
IsAt m cs t f = ((k : ℕ) × (t ≤ k) × (k < length cs) × AreAllowed (begun_first (after m (take k cs)) (drop k cs)) f) ⊎ AreAllowed (after m cs) f

-- one call earlier
moved : (m : Moment) (c : Call) (cs : List Call) (t u : ℕ) (f : Files) → u ≤ suc t → IsAt (step m c) cs t f → IsAt m (c ∷ cs) u f
moved m c cs t u f le (inl (k, least, most, is)) = inl (suc k, omega (arith, le, least), omega (arith, most), is)
moved m c cs t u f le (inr is) = inr is

from_moments : (m : Moment) (cs : List Call) (f : Files) (s : List ℕ) → LeftFrom m cs f s → IsAt m cs 0 f
from_moments m [] f s left = inr (allowed m f left.files)
from_moments m (c ∷ cs) f s (inl now) = inl (0, omega arith, omega arith, allowed _ f now.files)
from_moments m (c ∷ cs) f s (inr later) = moved m c cs 0 0 f (omega arith) (from_moments (step m c) cs f s later)

since_moments : (m : Moment) (cs : List Call) (t : ℕ) (f : Files) (s : List ℕ) → t ≤ length cs → LeftSince m cs t f s → IsAt m cs t f
since_moments m cs zero f s le left = from_moments m cs f s left
since_moments m [] (suc t) f s le left = absurd (omega arith)
since_moments m (c ∷ cs) (suc t) f s le left = moved m c cs t (suc t) f (omega arith) (since_moments (step m c) cs t f s (omega arith) left)

pub memory_is_honest : MemoryIsHonest
memory_is_honest = record {
  now = λ x f left. allowed (moment_of x) f left;
  since = λ x t f s le left. since_moments (first_moment (held x.first)) x.calls.items t f s le left;
}
