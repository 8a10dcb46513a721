-- What a schema leaves open: for each sort the largest sets of columns whose key it doesn't imply, each with two rows that
-- refute the key.
use Rattle.std.specs.Prelude.{◌≡◌, ℕ, ◌-◌, ◌^◌, Bool, not, ◌||◌, List, ◌++◌, length, map, filter, Some, None}
use Rattle.std.specs.Int.Bits.{bit_and}
use Rattle.pk_values.specs.declared.key.KeyDecl.{KeyDecl}
use Rattle.pk_values.specs.declared.key.Sort.{Sort}
use Rattle.pk_values.specs.declared.key.Sort.TheVariants.{Certain, Possible}
use Rattle.pk_values.specs.ColumnSet.{is_subset}
use Rattle.pk_transversal.specs.Transversals.{transversals, edge_limit}
use Rattle.pk_syntax.specs.Declarations.{is_certain}
use Rattle.pk_rule.specs.Plain.{Plain}
use Rattle.pk_rule.specs.TwoRows.{low_row, high_row}
use Rattle.pk_rule.specs.Laws.{key_over}
use Rattle.pk_examples.specs.declared.case.Case.{Case}
use Rattle.pk_examples.specs.declared.family_err.FamilyErr.{FamilyErr}
use Rattle.pk_examples.specs.declared.family_err.FamilyErr.TheVariants.{TooMany, Memory}

-- the columns of the first set that aren't in the second
abbrev pub without : ℕ → ℕ → ℕ
without set other = bit_and set (4294967295 - other)

-- the columns of a schema, as a set
abbrev pub every_column : Plain → ℕ
every_column s = 2 ^ length s.kinds - 1

-- those of them outside a set
abbrev pub outside : Plain → ℕ → ℕ
outside s set = without (every_column s) set

-- A declared key alone implies the key of this sort over its own columns, and so over all sets with these columns. Of a possible key and
-- the sort of certain ones this is so where none of its columns may be null.
abbrev pub bears_on : Sort → ℕ → KeyDecl → Bool
bears_on sort known d = not (is_certain sort) || is_certain d.sort || is_subset d.columns known

-- the columns of the declared keys that bear on a sort
abbrev pub edges : Sort → Plain → List ℕ
edges sort s = map (λ (d : KeyDecl). d.columns) (filter (bears_on sort s.known) s.keys)

-- the case of a set of columns, with the two rows of its key
abbrev pub case_over : Plain → Sort → ℕ → Case
case_over s sort set = record { sort = sort; columns = set; low = low_row s (key_over sort set); high = high_row s (key_over sort set) }

-- The cases of a sort: of all columns outside each minimal set that meets every edge. These are the largest sets whose key isn't
-- implied (`ExamplesAreLargest`).
abbrev pub cases_of : Sort → Plain → List Case
cases_of sort s = map (λ t. case_over s sort (outside s t)) (transversals (edges sort s))

-- for certain keys, and then for possible ones
unfoldable pub examples : Plain → List Case
examples s = cases_of Certain s ++ cases_of Possible s

-- no number of the edges of a sort has more than 4,096 cases
abbrev pub IsFew : Sort → Plain → Type 0
IsFew sort s = edge_limit 4096 (edges sort s) ≡ None

-- an error of one sort: too many at the least such number, unless memory ran out
abbrev pub IsSortCause : Sort → Plain → FamilyErr → Type 0
IsSortCause sort s (TooMany told edge) = (told ≡ sort) × (edge_limit 4096 (edges sort s) ≡ Some edge)
IsSortCause sort s Memory = Unit {0}

-- an error: too many of the certain ones, or else of the possible ones, unless memory ran out
abbrev pub IsCause : Plain → FamilyErr → Type 0
IsCause s (TooMany Certain edge) = edge_limit 4096 (edges Certain s) ≡ Some edge
IsCause s (TooMany Possible edge) = IsFew Certain s × (edge_limit 4096 (edges Possible s) ≡ Some edge)
IsCause s Memory = Unit {0}
