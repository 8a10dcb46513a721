-- The files that a crash leaves when each byte that was written since the last sync comes out in one way.
use Rattle.std.specs.Prelude.{◌≡◌, ℕ, List, [], ◌∷◌, length, replicate}
use Rattle.pk_world.specs.declared.station.Which.{Which}
use Rattle.pk_world.specs.declared.left.Left.{Left}
use Rattle.pk_world.specs.declared.left.Left.TheVariants.{Old, New, Fill}
use Rattle.pk_world.specs.Files.{Files, overwritten}
use Rattle.pk_world.specs.History.{Written, Moment, state_of}

-- a file with one write that came out so
abbrev pub marked : Left → List ℕ → ℕ → List ℕ → List ℕ
marked Old file at bytes = file
marked New file at bytes = overwritten file at bytes
marked (Fill byte) file at bytes = overwritten file at (replicate (length bytes) byte)

-- what was synced, with each write since come out so; the newest stands first
abbrev pub left_over : Left → List ℕ → List Written → List ℕ
left_over left synced [] = synced
left_over left synced (w ∷ ws) = marked left (left_over left synced ws) w.at w.bytes

-- both files, as a crash at this moment leaves them
abbrev pub crashed : Left → Moment → Files
crashed left m = record {
  log = left_over left m.log.synced m.log.writes;
  pages = left_over left m.pages.synced m.pages.writes;
}

-- a file as a crash at this moment leaves it
abbrev pub IsKept : Left → Which → Moment → List ℕ → Type 0
IsKept left which m kept = kept ≡ left_over left (state_of m which).synced (state_of m which).writes

-- a file as reads give it, and as a crash leaves it, at this moment
pub record Tracks (left : Left) (which : Which) (m : Moment) (seen kept : List ℕ) : Type 0 where
  pub seen_so : seen ≡ (state_of m which).seen
  pub kept_so : IsKept left which m kept
