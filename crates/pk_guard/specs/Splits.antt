-- Rows by their ids, and the first that break a key between two lists.
use Rattle.std.specs.Prelude.{ℕ, Bool, List, [], ◌∷◌, length, find, filter, nat_lt, Option, None, option_map, IsTrue}
use Rattle.std.specs.List.{list_all}
use Rattle.std.specs.Option.{option_or}
use Rattle.pk_values.specs.ColumnSet.{columns}
use Rattle.pk_values.specs.declared.key.KeyDecl.{KeyDecl}
use Rattle.pk_values.specs.declared.placed.Placed.{Placed}
use Rattle.pk_similar.specs.Similarity.{are_below}
use Rattle.pk_guard.specs.Breaks.{breaks}

-- the rows whose ids are below this one
abbrev pub below_id : ℕ → List Placed → List Placed
below_id id rows = filter (λ (p : Placed). nat_lt p.id id) rows

-- the rows whose ids are above this one
abbrev pub above_id : ℕ → List Placed → List Placed
above_id id rows = filter (λ (p : Placed). nat_lt id p.id) rows

-- the first row of one list that breaks the key with one of another, and the first of those
unfoldable pub first_between : KeyDecl → List Placed → List Placed → Option (Placed × Placed)
first_between k [] highs = None
first_between k (p ∷ ps) highs = option_or (option_map (λ q. (p, q)) (find (breaks k p) highs)) (first_between k ps highs)

-- the row has all columns of the key
abbrev pub is_wide : KeyDecl → Placed → Bool
is_wide k p = are_below (length p.row) (columns k.columns)

-- all rows have all columns of the key
abbrev pub AreWide : KeyDecl → List Placed → Type 0
AreWide k rows = IsTrue (list_all (is_wide k) rows)
