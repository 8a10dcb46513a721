use Rattle.std.specs.Prelude.{ℕ, Bool, false, List, [], ◌∷◌, codes}
use Rattle.std.specs.Str.{bytes_eq}

-- whether the words behind the program's name ask for something: so far `memory`, alone
abbrev pub is_plain_form : List (List ℕ) → Bool
is_plain_form [] = false
is_plain_form (word ∷ []) = bytes_eq word (codes "memory")
is_plain_form (word ∷ second ∷ words) = false
