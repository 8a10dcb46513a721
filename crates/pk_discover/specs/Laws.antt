-- What minimal keys are, in words that don't retrace how they are computed.
use Rattle.std.specs.Prelude.{◌≡◌, ℕ, List, length, IsTrue}
use Rattle.pk_values.specs.declared.key.Sort.{Sort}
use Rattle.pk_values.specs.declared.key.Sort.TheVariants as sorts
use Rattle.pk_values.specs.declared.kind.Kind.{Kind}
use Rattle.pk_values.specs.declared.value.Value.{Value}
use Rattle.pk_values.specs.ColumnSet.{IsColumnSet, columns, is_subset}
use Rattle.pk_similar.specs.Completions.{Certain, Possible}
use Rattle.pk_similar.specs.Laws.{all_fit}
use Rattle.pk_similar.specs.Similarity.{are_below}
use Rattle.pk_sweep.specs.Pairs.{InOrder}
use Rattle.pk_transversal.specs.Minimal.{IsMinimal, Lists}
use Rattle.pk_transversal.specs.Transversals.{transversals, edge_limit}
use Rattle.pk_discover.specs.Keys.{is_key, minimal_keys}
use Rattle.pk_discover.specs.Limits.{edges_of}

-- a set of columns of `all` on which no two rows are similar
abbrev pub IsKeyWithin : Sort → ℕ → List (List Value) → ℕ → Type 0
IsKeyWithin sort all rows x = IsColumnSet x × IsTrue (is_subset x all) × IsTrue (is_key sort rows x)

-- The computed list has the minimal ones of these, in order, each once.
abbrev pub MinimalKeysAreListed : Type 0
MinimalKeysAreListed =
    (sort : Sort) (all : ℕ) (rows : List (List Value)) → IsColumnSet all → Lists (IsMinimal (IsKeyWithin sort all rows)) (minimal_keys sort all rows)

-- the key over these columns holds, in every completion of the rows or in some
abbrev pub Holds : Sort → List Kind → List (List Value) → List ℕ → Type 0
Holds sorts.Certain kinds rows cs = Certain kinds rows cs
Holds sorts.Possible kinds rows cs = Possible kinds rows cs

-- a set of columns of `all` over which the key holds
abbrev pub HoldsWithin : Sort → ℕ → List Kind → List (List Value) → ℕ → Type 0
HoldsWithin sort all kinds rows x = IsColumnSet x × IsTrue (is_subset x all) × Holds sort kinds rows (columns x)

-- In order, each once: the sets of columns of `all` over which the key holds, and over no proper subset of which it does.
abbrev pub AreMinimalKeys : Sort → ℕ → List Kind → List (List Value) → List ℕ → Type 0
AreMinimalKeys sort all kinds rows sets = Lists (IsMinimal (HoldsWithin sort all kinds rows)) sets

-- For rows that fit their kinds, among which all columns have one, the computed list has just these.
abbrev pub MinimalKeysHoldInCompletions : Type 0
MinimalKeysHoldInCompletions =
    (sort : Sort) (all : ℕ) (kinds : List Kind) (rows : List (List Value))
    → IsColumnSet all → IsTrue (all_fit kinds rows) → IsTrue (are_below (length kinds) (columns all))
    → AreMinimalKeys sort all kinds rows (minimal_keys sort all rows)

-- The sets in which two rows differ, in order, have the minimal keys as their minimal transversals, and pass a limit where all do.
-- No other list has just the minimal keys.
pub record MinimalKeysAreTransversals : Type 0 where
  pub one :
      (sort : Sort) (all : ℕ) (rows : List (List Value)) (sets : List ℕ) → IsColumnSet all
      → Lists (IsMinimal (IsKeyWithin sort all rows)) sets → sets ≡ minimal_keys sort all rows
  pub keys :
      (sort : Sort) (all : ℕ) (rows : List (List Value)) (edges : List ℕ) → IsColumnSet all → InOrder (edges_of sort all rows) edges
      → transversals edges ≡ minimal_keys sort all rows
  pub limit :
      (sort : Sort) (all : ℕ) (rows : List (List Value)) (edges : List ℕ) (most : ℕ) → InOrder (edges_of sort all rows) edges
      → edge_limit most edges ≡ edge_limit most (edges_of sort all rows)
