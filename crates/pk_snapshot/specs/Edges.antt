-- What the definitions give at their edges, computed. Rows are small numbers under small ids.
use Rattle.std.specs.Prelude.{◌≡◌, ℕ, pos, List, [], ◌∷◌, Option, Some, None}
use Rattle.pk_values.specs.declared.placed.Placed.{Placed}
use Rattle.pk_values.specs.declared.value.Value.{Value}
use Rattle.pk_values.specs.declared.value.Value.TheVariants.{Integer}
use Rattle.pk_txn.specs.declared.before.Before.{Before}
use Rattle.pk_txn.specs.Contents.{Contents, nothing_open, begun, noted}
use Rattle.pk_snapshot.specs.Begun.{rows_seen}

abbrev pub x : List ℕ
x = 120 ∷ []

abbrev pub y : List ℕ
y = 121 ∷ []

abbrev pub row : ℕ → List Value
row n = Integer (pos n) ∷ []

abbrev pub at : ℕ → ℕ → Placed
at id n = record { id = id; row = row n }

abbrev pub before : ℕ → ℕ → Option (List Value) → Before
before table id old = record { table = table; id = id; row = old }

-- x began at 1; commit 2 changed the rows 1 and 3 of table 1, removed row 2, and inserted row 4
abbrev pub first : Contents
first = noted 2 (before 1 1 (Some (row 10)) ∷ before 1 2 (Some (row 20)) ∷ before 1 3 (Some (row 30)) ∷ before 1 4 None ∷ []) (begun x 1 nothing_open)

abbrev pub after_first : List Placed
after_first = at 1 11 ∷ at 3 31 ∷ at 4 40 ∷ []

-- y began at 2; commit 3 removed row 1, changed row 4, inserted row 5, and changed row 1 of table 2
abbrev pub second : Contents
second = noted 3 (before 1 1 (Some (row 11)) ∷ before 1 4 (Some (row 40)) ∷ before 1 5 None ∷ before 2 1 (Some (row 70)) ∷ []) (begun y 2 first)

abbrev pub after_second : List Placed
after_second = at 3 31 ∷ at 4 41 ∷ at 5 50 ∷ []

pub record SnapshotsAtTheirEdges : Type 0 where
  pub one_commit : rows_seen x first 1 after_first ≡ at 1 10 ∷ at 2 20 ∷ at 3 30 ∷ []
  pub two_commits : rows_seen x second 1 after_second ≡ at 1 10 ∷ at 2 20 ∷ at 3 30 ∷ []
  pub later_begin : rows_seen y second 1 after_second ≡ after_first
  pub other_table : rows_seen y second 2 (at 1 71 ∷ at 2 80 ∷ []) ≡ at 1 70 ∷ at 2 80 ∷ []
  pub all_removed : rows_seen x second 1 [] ≡ at 1 10 ∷ at 2 20 ∷ at 3 30 ∷ []
  pub nothing_noted : rows_seen x (begun x 1 nothing_open) 1 after_first ≡ after_first
  pub not_open : rows_seen x nothing_open 1 after_first ≡ after_first
