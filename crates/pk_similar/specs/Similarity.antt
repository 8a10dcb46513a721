-- Similarity of two rows on a list of columns, which decides keys without completing anything.
use Rattle.std.specs.Prelude.{ℕ, Bool, true, not, ◌&&◌, ◌||◌, ◌==◌, List, [], ◌∷◌, nat_lt}
use Rattle.std.specs.List.{filter, list_all, list_any}
use Rattle.pk_values.specs.declared.value.Value.{Value}
use Rattle.pk_values.specs.Values.{is_null, same_value, value_at}

-- all columns lie below the width
abbrev pub are_below : ℕ → List ℕ → Bool
are_below width cs = list_all (λ c. nat_lt c width) cs

-- the column is one of these
abbrev pub is_among : List ℕ → ℕ → Bool
is_among cs c = list_any (λ d. d == c) cs

-- the entries are the same, or one is null
abbrev pub weak_entries : Value → Value → Bool
weak_entries v w = is_null v || is_null w || same_value v w

-- neither entry is null, and they are the same
abbrev pub strong_entries : Value → Value → Bool
strong_entries v w = not (is_null v) && not (is_null w) && same_value v w

-- the rows may be equal on the columns: at each the entries are the same, or one is null
unfoldable pub weak : List ℕ → List Value → List Value → Bool
weak cs a b = list_all (λ c. weak_entries (value_at a c) (value_at b c)) cs

-- the rows are known to be equal on the columns: at each neither entry is null, and they are the same
unfoldable pub strong : List ℕ → List Value → List Value → Bool
strong cs a b = list_all (λ c. strong_entries (value_at a c) (value_at b c)) cs

-- the columns where neither entry is null and they differ
unfoldable pub apart : List ℕ → List Value → List Value → List ℕ
apart cs a b = filter (λ c. not (weak_entries (value_at a c) (value_at b c))) cs

-- the columns where the entries aren't known to be the same
unfoldable pub not_same : List ℕ → List Value → List Value → List ℕ
not_same cs a b = filter (λ c. not (strong_entries (value_at a c) (value_at b c))) cs

-- no two distinct places have rows that are related: none is related to one behind it
abbrev pub no_pair : (List Value → List Value → Bool) → List (List Value) → Bool
no_pair related [] = true
no_pair related (row ∷ rows) = not (list_any (related row) rows) && no_pair related rows
