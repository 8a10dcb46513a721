-- Numbers that are met one by one, and kept at least once each.
use Rattle.std.specs.Prelude.{ℕ, List, ◌++◌, Option, All, Contains, IfSome}

-- the two lists have the same members
pub record SameMembers (xs ys : List ℕ) : Type 0 where
  pub to : (x : ℕ) → Contains xs x → Contains ys x
  pub from : (x : ℕ) → Contains ys x → Contains xs x

-- the numbers that were there and these are there now
abbrev pub Adds : List ℕ → List ℕ → List ℕ → Type 0
Adds before more now = SameMembers (before ++ more) now

-- what is remembered was kept
abbrev pub AreKept : List ℕ → List (Option ℕ) → Type 0
AreKept kept recent = All (λ one. IfSome one (Contains kept)) recent
