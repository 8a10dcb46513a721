use Rattle.std.specs.Prelude.{◌≡◌, ℕ, ◌+◌, ◌<◌, ◌≤◌, max, List, ◌++◌, length, take, drop, slice_index}
use Rattle.pk_world.specs.declared.station.Which.{Which}
use Rattle.pk_world.specs.declared.station.Which.TheVariants.{Log, Pages}

-- what the two files of a base hold
pub record Files : Type 0 where
  pub log : List ℕ
  pub pages : List ℕ

-- the bytes of one of them
abbrev pub file_of : Files → Which → List ℕ
file_of files Log = files.log
file_of files Pages = files.pages

-- the bytes of the other
abbrev pub other_of : Files → Which → List ℕ
other_of files Log = files.pages
other_of files Pages = files.log

-- the two, with other bytes in one of them
abbrev pub with_file : Files → Which → List ℕ → Files
with_file files Log bytes = record { log = bytes; pages = files.pages }
with_file files Pages bytes = record { log = files.log; pages = bytes }

-- a file with these bytes in place of as many from `at` on, and past its end where they reach there
abbrev pub overwritten : List ℕ → ℕ → List ℕ → List ℕ
overwritten old at bytes = take at old ++ (bytes ++ drop (at + length bytes) old)

-- new is old after a write of `count` bytes at `at` that was cut short: the bytes of the range may be any, it is no shorter
-- and ends no later than the range or the old end, and all other bytes are as they were
pub record Torn (at count : ℕ) (old new : List ℕ) : Type 0 where
  pub no_shorter : length old ≤ length new
  pub no_longer : length new ≤ max (length old) (at + count)
  pub before : (i : ℕ) → i < length old → i < at → slice_index new i ≡ slice_index old i
  pub behind : (i : ℕ) → i < length old → at + count ≤ i → slice_index new i ≡ slice_index old i

-- the same of one of the two files, while the other is as it was
pub record TornIn (which : Which) (at count : ℕ) (old new : Files) : Type 0 where
  pub torn : Torn at count (file_of old which) (file_of new which)
  pub other : other_of new which ≡ other_of old which
