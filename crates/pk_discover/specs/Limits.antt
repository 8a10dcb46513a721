-- Where rows or sets are too many for keys to be told.
use Rattle.std.specs.Prelude.{◌≡◌, ℕ, cond, nat_lt, List, length, Option, Some, option_map}
use Rattle.std.specs.Option.{option_or}
use Rattle.pk_values.specs.declared.key.Sort.{Sort}
use Rattle.pk_values.specs.declared.key.Sort.TheVariants.{Certain, Possible}
use Rattle.pk_values.specs.declared.value.Value.{Value}
use Rattle.pk_values.specs.ColumnSet.{columns}
use Rattle.pk_sweep.specs.Pairs.{apart_sets, not_same_sets}
use Rattle.pk_transversal.specs.Transversals.{edge_limit}
use Rattle.pk_discover.specs.declared.disc_err.DiscErr.{DiscErr}
use Rattle.pk_discover.specs.declared.disc_err.DiscErr.TheVariants.{TooManyRows, TooMany, Memory}

-- the sets of columns that keep two rows from being similar, for all pairs of places
abbrev pub edges_of : Sort → ℕ → List (List Value) → List ℕ
edges_of Certain all rows = apart_sets (columns all) rows
edges_of Possible all rows = not_same_sets (columns all) rows

-- these edges have more than 4,096 minimal transversals, at the least number of minimal edges that has
abbrev pub beyond : Sort → List ℕ → Option DiscErr
beyond sort edges = option_map (TooMany sort) (edge_limit 4096 edges)

-- those of certain keys have, or else those of possible keys
unfoldable pub either_beyond : List ℕ → List ℕ → Option DiscErr
either_beyond certain possible = option_or (beyond Certain certain) (beyond Possible possible)

-- why no keys are told, unless memory runs out
unfoldable pub refusal : ℕ → List (List Value) → Option DiscErr
refusal all rows =
    cond (nat_lt 8192 (length rows)) (Some (TooManyRows (length rows))) (either_beyond (edges_of Certain all rows) (edges_of Possible all rows))

-- what is told is why, or memory ran out
abbrev pub IsTold : Option DiscErr → DiscErr → Type 0
IsTold why (TooManyRows n) = why ≡ Some (TooManyRows n)
IsTold why (TooMany sort edge) = why ≡ Some (TooMany sort edge)
IsTold why Memory = Unit {0}
