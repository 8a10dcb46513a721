-- What the two rows of a key, and the examples of what a schema leaves open, are to that schema.
use Rattle.std.specs.Prelude.{◌≡◌, ℕ, ◌^◌, ◌<◌, [], ◌∷◌, length, All, IsTrue}
use Rattle.pk_values.specs.declared.key.Sort.{Sort}
use Rattle.pk_values.specs.ColumnSet.{is_subset}
use Rattle.pk_transversal.specs.Minimal.{Lists}
use Rattle.pk_transversal.specs.Transversals.{transversals}
use Rattle.pk_values.specs.declared.key.KeyDecl.{KeyDecl}
use Rattle.pk_schema.specs.Shapes.{Shape, IsShape}
use Rattle.pk_schema.specs.Admits.{Admits}
use Rattle.pk_rule.specs.Plain.{Plain, IsPlain, plain_of}
use Rattle.pk_rule.specs.Tables.{KeyHolds, Implied, Refutes}
use Rattle.pk_rule.specs.Laws.{key_over}
use Rattle.pk_rule.specs.TwoRows.{low_row, high_row}
use Rattle.pk_examples.specs.declared.case.Case.{Case}
use Rattle.pk_examples.specs.Family.{outside, edges, examples}

-- The rows of any key are rows that the schema admits, so that they could be stored.
abbrev pub TwoRowsAreAdmitted : Type 0
TwoRowsAreAdmitted = (s : Shape) (k : KeyDecl) → IsShape s → Admits s (low_row (plain_of s) k) × Admits s (high_row (plain_of s) k)

-- The key of this sort over the set of columns fails in some table of the schema, and no other set with these columns is so.
pub record IsLargestOpen (s : Plain) (sort : Sort) (set : ℕ) : Type 0 where
  pub inside : set < 2 ^ length s.kinds
  pub open_here : ¬ Implied s (key_over sort set)
  pub largest : (other : ℕ) → other < 2 ^ length s.kinds → ¬ Implied s (key_over sort other) → IsTrue (is_subset set other) → other ≡ set

-- it is a set of columns of the schema, and the columns outside it are such a largest set
abbrev pub LeavesLargestOpen : Plain → Sort → ℕ → Type 0
LeavesLargestOpen s sort set = (set < 2 ^ length s.kinds) × IsLargestOpen s sort (outside s set)

-- The cases of a sort are those of its largest open sets, each once, in the order of the sets of columns outside.
abbrev pub ExamplesAreLargest : Type 0
ExamplesAreLargest = (s : Plain) (sort : Sort) → IsPlain s → Lists (LeavesLargestOpen s sort) (transversals (edges sort s))

-- the two rows of a case are a table of the schema in which the key of the case fails
abbrev pub IsRefuted : Plain → Case → Type 0
IsRefuted s case = Refutes s (key_over case.sort case.columns) (case.low ∷ case.high ∷ [])

-- Each example shows that its key isn't implied.
abbrev pub ExamplesRefute : Type 0
ExamplesRefute = (s : Plain) → IsPlain s → All (IsRefuted s) (examples s)

-- the key holds in the two rows of a case
abbrev pub HoldsInCase : Plain → KeyDecl → Case → Type 0
HoldsInCase s k case = KeyHolds s.kinds (case.low ∷ case.high ∷ []) k

-- A key over the columns of a schema holds in every table of the schema exactly where it holds in each of the examples.
abbrev pub ExamplesTellTheKeys : Type 0
ExamplesTellTheKeys =
    (s : Plain) (k : KeyDecl) → IsPlain s → k.columns < 2 ^ length s.kinds
    → (Implied s k → All (HoldsInCase s k) (examples s)) × (All (HoldsInCase s k) (examples s) → Implied s k)
