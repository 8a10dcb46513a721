-- What the definitions give at their edges, computed. Sessions are x and y, and tables and rows are small numbers.
use Rattle.std.specs.Prelude.{◌≡◌, ℕ, pos, List, [], ◌∷◌, Option, Some, None}
use Rattle.pk_values.specs.declared.value.Value.{Value}
use Rattle.pk_values.specs.declared.value.Value.TheVariants.{Integer}
use Rattle.pk_txn.specs.declared.before.Before.{Before}
use Rattle.pk_txn.specs.Images.{row_before, changed_by, first_conflict}
use Rattle.pk_txn.specs.Contents.{Contents, nothing_open, begun, noted, finished, images_of, sessions, least_name}

abbrev pub x : List ℕ
x = 120 ∷ []

abbrev pub y : List ℕ
y = 121 ∷ []

-- the row (1, 0)
abbrev pub one : List Value
one = Integer (pos 1) ∷ Integer (pos 0) ∷ []

-- the row (1, 7)
abbrev pub two : List Value
two = Integer (pos 1) ∷ Integer (pos 7) ∷ []

abbrev pub before : ℕ → ℕ → Option (List Value) → Before
before table id row = record { table = table; id = id; row = row }

-- x began at 1; commit 2 changed row 1 of table 1 and inserted row 2
abbrev pub first : Contents
first = noted 2 (before 1 1 (Some one) ∷ before 1 2 None ∷ []) (begun x 1 nothing_open)

-- y began at 2; commit 3 changed both again
abbrev pub second : Contents
second = noted 3 (before 1 1 (Some two) ∷ before 1 2 (Some one) ∷ []) (begun y 2 first)

pub record BooksAtTheirEdges : Type 0 where
  pub changed_row : row_before (images_of x first) 1 1 ≡ Some (Some one)
  pub inserted_row : row_before (images_of x first) 1 2 ≡ Some None
  pub other_row : row_before (images_of x first) 1 3 ≡ None
  pub other_table : row_before (images_of x first) 2 1 ≡ None
  pub first_change_stays : row_before (images_of x second) 1 1 ≡ Some (Some one)
  pub each_sees_its_own : row_before (images_of y second) 1 1 ≡ Some (Some two)
  pub conflicts_name_the_first_commit : first_conflict (images_of x second) 1 (1 ∷ 2 ∷ []) ≡ Some (record { id = 1; commit = 2 })
  pub conflicts_pass_over_other_rows : first_conflict (images_of y second) 1 (0 ∷ 2 ∷ []) ≡ Some (record { id = 2; commit = 3 })
  pub no_conflict : first_conflict (images_of y second) 1 (3 ∷ 4 ∷ []) ≡ None
  pub commit_of_the_base_is_seen : changed_by (images_of y (noted 2 (before 1 1 None ∷ []) (begun y 2 nothing_open))) 1 1 ≡ None
  pub finish_leaves_the_other : images_of y (finished x second) ≡ images_of y second
  pub nothing_is_left : finished y (finished x second) ≡ record { opened = []; last = Some 3 }
  pub nothing_is_kept : noted 9 (before 1 1 None ∷ []) nothing_open ≡ record { opened = []; last = Some 9 }
  pub no_least : least_name (sessions nothing_open) ≡ None
  pub least : least_name (y ∷ x ∷ []) ≡ Some x
  pub shorter_is_less : least_name ((120 ∷ 120 ∷ []) ∷ x ∷ []) ≡ Some x
