-- What a station in memory goes through, call by call, and what a crash may leave at each moment of it.
use Rattle.std.specs.Prelude.{◌≡◌, ◌⊎◌, ℕ, ◌≤◌, Bool, List, [], ◌∷◌, ◌++◌, length, take, drop, if◌then◌else◌}
use Rattle.pk_world.specs.declared.station.Which.{Which}
use Rattle.pk_world.specs.declared.station.Which.TheVariants.{Log, Pages}
use Rattle.pk_world.specs.declared.call.Call.{Call}
use Rattle.pk_world.specs.declared.call.Call.TheVariants.{Look, Write, Sync, Tell}
use Rattle.pk_world.specs.Files.{Files, overwritten, Torn}

-- bytes that were written from a place on
pub record Written : Type 0 where
  pub at : ℕ
  pub bytes : List ℕ

-- a file: what it held at its last sync, the writes since, the newest first, and what reads give
pub record FileState : Type 0 where
  pub synced : List ℕ
  pub writes : List Written
  pub seen : List ℕ

-- the two files, and what the sink has taken
pub record Moment : Type 0 where
  pub log : FileState
  pub pages : FileState
  pub told : List ℕ

-- one of the two files
abbrev pub state_of : Moment → Which → FileState
state_of m Log = m.log
state_of m Pages = m.pages

-- the moment with another state of one of the two files
abbrev pub with_state : Moment → Which → FileState → Moment
with_state m Log st = record { log = st; pages = m.pages; told = m.told }
with_state m Pages st = record { log = m.log; pages = st; told = m.told }

-- a file after a write; reads don't see one that failed
abbrev pub after_write : FileState → ℕ → List ℕ → Bool → FileState
after_write st at bytes done = record {
  synced = st.synced;
  writes = record { at = at; bytes = bytes } ∷ st.writes;
  seen = if done then overwritten st.seen at bytes else st.seen;
}

-- a file after a sync
abbrev pub after_sync : FileState → FileState
after_sync st = record { synced = st.seen; writes = []; seen = st.seen }

-- the moment after a call
abbrev pub step : Moment → Call → Moment
step m Look = m
step m (Write which at bytes done) = with_state m which (after_write (state_of m which) at bytes.items done)
step m (Sync which done) = if done then with_state m which (after_sync (state_of m which)) else m
step m (Tell bytes done) = record { log = m.log; pages = m.pages; told = if done then m.told ++ bytes.items else m.told }

-- the moment after these calls
abbrev pub after : Moment → List Call → Moment
after m [] = m
after m (c ∷ cs) = after (step m c) cs

-- a file that holds these bytes, with no write since its last sync
abbrev pub at_rest : List ℕ → FileState
at_rest bytes = record { synced = bytes; writes = []; seen = bytes }

-- the moment before the first call
abbrev pub first_moment : Files → Moment
first_moment files = record { log = at_rest files.log; pages = at_rest files.pages; told = [] }

-- the files as reads give them
abbrev pub seen_at : Moment → Files
seen_at m = record { log = m.log.seen; pages = m.pages.seen }

-- a crash may leave this of a file: what was synced, torn by each write since
abbrev pub Reaches : List ℕ → List Written → List ℕ → Type 0
Reaches synced [] left = left ≡ synced
Reaches synced (w ∷ ws) left = (d : List ℕ) × Reaches synced ws d × Torn w.at (length w.bytes) d left

-- a crash at this moment may leave these files
pub record MayLeave (m : Moment) (f : Files) : Type 0 where
  pub log : Reaches m.log.synced m.log.writes f.log
  pub pages : Reaches m.pages.synced m.pages.writes f.pages

-- a crash at this moment may leave these files, while the sink has taken these bytes
pub record IsLeftAt (m : Moment) (f : Files) (s : List ℕ) : Type 0 where
  pub files : MayLeave m f
  pub told : s ≡ m.told

-- the moment inside a call: a write may have done a part of its work, a sync none
abbrev pub begun : Moment → Call → Moment
begun m Look = m
begun m (Write which at bytes done) = step m (Write which at bytes done)
begun m (Sync which done) = m
begun m (Tell bytes done) = m

-- what the sink may have taken inside a call
abbrev pub MayHaveTaken : Moment → Call → List ℕ → Type 0
MayHaveTaken m Look s = s ≡ m.told
MayHaveTaken m (Write which at bytes done) s = s ≡ m.told
MayHaveTaken m (Sync which done) s = s ≡ m.told
MayHaveTaken m (Tell bytes done) s = (n : ℕ) × (n ≤ length bytes.items) × (s ≡ m.told ++ take n bytes.items)

-- a crash inside this call may leave these files, while the sink has taken these bytes
pub record IsLeftIn (m : Moment) (c : Call) (f : Files) (s : List ℕ) : Type 0 where
  pub files : MayLeave (begun m c) f
  pub told : MayHaveTaken m c s

-- a crash inside one of these calls, or behind the last, may leave these files
abbrev pub LeftFrom : Moment → List Call → Files → List ℕ → Type 0
LeftFrom m [] f s = IsLeftAt m f s
LeftFrom m (c ∷ cs) f s = IsLeftIn m c f s ⊎ LeftFrom (step m c) cs f s

-- the same for the calls behind the first t
abbrev pub LeftSince : Moment → List Call → ℕ → Files → List ℕ → Type 0
LeftSince m cs t f s = LeftFrom (after m (take t cs)) (drop t cs) f s

-- what a station holds is what its record of calls comes to
pub record IsRecorded (first : Files) (calls : List Call) (held : Files) (taken : List ℕ) : Type 0 where
  pub log : (after (first_moment first) calls).log.seen ≡ held.log
  pub pages : (after (first_moment first) calls).pages.seen ≡ held.pages
  pub told : (after (first_moment first) calls).told ≡ taken

-- the moment inside the first of these calls
abbrev pub begun_first : Moment → List Call → Moment
begun_first m [] = m
begun_first m (c ∷ cs) = begun m c

-- the moment inside the call that comes behind so many of these calls
abbrev pub inside : Files → List Call → ℕ → Moment
inside first calls before = begun_first (after (first_moment first) (take before calls)) (drop before calls)
