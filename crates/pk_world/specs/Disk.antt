-- What a crash may leave of a file. All that counts is what the file held when it was last synced, and which ranges of it
-- were written since, whether those writes ended or not. No byte of what was synced is lost, and the file grows no further
-- than to the end of a range; a byte that was synced and that no range covers is as it was; every other byte may be any.
--
-- One that held `ab` when it was synced, with three bytes written from place 1 on, may be left as `a` and one byte, or as
-- `a` and two or three, whatever they are: the first byte was in no range, and the fourth place is the end of the range.
use Rattle.std.specs.Prelude.{◌≡◌, ℕ, ◌+◌, ◌<◌, ◌≤◌, max, ◌⊎◌, List, [], ◌∷◌, length, slice_index}

-- a range of a file: its first place, and how many bytes it has
pub record Range : Type 0 where
  pub at : ℕ
  pub count : ℕ

-- a place is in none of the ranges
abbrev pub IsOutside : ℕ → List Range → Type 0
IsOutside i [] = Unit {0}
IsOutside i (r ∷ rs) = ((i < r.at) ⊎ (r.at + r.count ≤ i)) × IsOutside i rs

-- the farthest end of the ranges, and of what was synced
abbrev pub farthest_end : ℕ → List Range → ℕ
farthest_end end [] = end
farthest_end end (r ∷ rs) = max (farthest_end end rs) (r.at + r.count)

-- a crash may leave this of a file that held `synced`, and of which these ranges were written since
pub record MayBeLeft (synced : List ℕ) (written : List Range) (left : List ℕ) : Type 0 where
  pub no_shorter : length synced ≤ length left
  pub no_longer : length left ≤ farthest_end (length synced) written
  pub untouched : (i : ℕ) → i < length synced → IsOutside i written → slice_index left i ≡ slice_index synced i
