-- Sets of columns that meet each of some edges, which are sets of columns too.
use Rattle.std.specs.Prelude.{◌≡◌, ℕ, suc, Bool, List, [], ◌∷◌, length, take, filter, find, nat_lt, Option, Some}
use Rattle.std.specs.List.{list_all, list_any, range_with_len}
use Rattle.std.specs.Int.Bits.{bit_or}
use Rattle.pk_values.specs.ColumnSet.{has_column, columns, is_subset}
use Rattle.pk_transversal.specs.declared.trans_err.TransErr.{TransErr}
use Rattle.pk_transversal.specs.declared.trans_err.TransErr.TheVariants.{TooMany, Memory}
use Rattle.pk_transversal.specs.Minimal.{minimal_of}

-- the two share a column
abbrev pub meets : ℕ → ℕ → Bool
meets set edge = list_any (has_column set) (columns edge)

-- the set shares a column with each edge
unfoldable pub meets_all : List ℕ → ℕ → Bool
meets_all edges set = list_all (meets set) edges

-- the columns of all edges
unfoldable pub union : List ℕ → ℕ
union [] = 0
union (edge ∷ edges) = bit_or edge (union edges)

-- all sets inside this one, none of which is the greater number
unfoldable pub parts : ℕ → List ℕ
parts set = filter (λ x. is_subset x set) (range_with_len 0 (suc set))

-- the minimal sets among those that meet every edge, in order: of the edges' columns, since no minimal set has another
unfoldable pub transversals : List ℕ → List ℕ
transversals edges = minimal_of (filter (meets_all edges) (parts (union edges)))

-- the first i of the edges have more minimal transversals than the limit
abbrev pub is_beyond : ℕ → List ℕ → ℕ → Bool
is_beyond limit edges i = nat_lt limit (length (transversals (take i edges)))

-- the least number of edges, from the first on, that have more minimal transversals than the limit
unfoldable pub first_beyond : ℕ → List ℕ → Option ℕ
first_beyond limit edges = find (is_beyond limit edges) (range_with_len 0 (suc (length edges)))

-- the same of the edges that contain no other edge, in their order, each once
unfoldable pub edge_limit : ℕ → List ℕ → Option ℕ
edge_limit limit edges = first_beyond limit (minimal_of edges)

-- too many exactly where there is such a number, unless memory ran out
abbrev pub IsTold : Option ℕ → TransErr → Type 0
IsTold number (TooMany edge) = number ≡ Some edge
IsTold number Memory = Unit {0}

-- too many at this number of edges, unless it can't be told
abbrev pub IsCount : ℕ → TransErr → Type 0
IsCount count (TooMany edge) = count ≡ edge
IsCount count Memory = Unit {0}
