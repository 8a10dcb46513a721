use Rattle.std.specs.Prelude.{ℕ, Bool, false, ◌==◌, ◌||◌, ◌&&◌, List, [], ◌∷◌, map, Option, Some, None, if◌then◌else◌}
use Rattle.std.specs.List.{list_all}
use Rattle.std.specs.Char.{is_ascii_lowercase, is_ascii_digit, to_ascii_lowercase}

-- a small letter or `_`
abbrev pub begins_name : ℕ → Bool
begins_name b = is_ascii_lowercase b || b == 95

-- a small letter, `_` or a digit
abbrev pub continues_name : ℕ → Bool
continues_name b = begins_name b || is_ascii_digit b

-- at least one byte, each a small letter, `_` or a digit, and no digit first
abbrev pub is_name : List ℕ → Bool
is_name [] = false
is_name (b ∷ bs) = begins_name b && list_all continues_name bs

-- the word with A to Z as a to z
abbrev pub folded : List ℕ → List ℕ
folded word = map to_ascii_lowercase word

-- the name that a word spells
abbrev pub name_of : List ℕ → Option (List ℕ)
name_of word = if is_name (folded word) then Some (folded word) else None
