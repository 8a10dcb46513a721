-- The keys that some rows have.
use Rattle.std.specs.Prelude.{ℕ, Bool, List, filter}
use Rattle.pk_values.specs.declared.key.Sort.{Sort}
use Rattle.pk_values.specs.declared.key.Sort.TheVariants.{Certain, Possible}
use Rattle.pk_values.specs.declared.value.Value.{Value}
use Rattle.pk_values.specs.ColumnSet.{columns}
use Rattle.pk_similar.specs.Similarity.{weak, strong, no_pair}
use Rattle.pk_transversal.specs.Minimal.{minimal_of}
use Rattle.pk_transversal.specs.Transversals.{parts}

-- a certain key fails for rows that may be equal on its columns, and a possible key for rows that are known to be
abbrev pub are_similar : Sort → List ℕ → List Value → List Value → Bool
are_similar Certain cs a b = weak cs a b
are_similar Possible cs a b = strong cs a b

-- no two distinct places have rows that are similar on the columns of the set
abbrev pub is_key : Sort → List (List Value) → ℕ → Bool
is_key sort rows x = no_pair (are_similar sort (columns x)) rows

-- the keys among the subsets of `all` inside which no other key lies, in the order of sets, each once
unfoldable pub minimal_keys : Sort → ℕ → List (List Value) → List ℕ
minimal_keys sort all rows = minimal_of (filter (is_key sort rows) (parts all))
