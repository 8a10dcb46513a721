use Rattle.std.specs.Prelude.{◌⊎◌, ℕ, ◌≤◌, List}
use Rattle.pk_world.specs.Files.{Files}

-- Time goes on from one clock to a later one. What a crash might have left since a moment before, it might still have left
-- since then, and besides only what it might have left since the earlier of the two clocks.
pub record Passes (before now : ℕ) (past since : ℕ → Files → List ℕ → Type 0) : Type 0 where
  pub later : before ≤ now
  pub keeps : (t : ℕ) (f : Files) (s : List ℕ) → t ≤ before → past t f s → since t f s
  pub nothing_else : (t : ℕ) (f : Files) (s : List ℕ) → t ≤ before → since t f s → past t f s ⊎ since before f s
