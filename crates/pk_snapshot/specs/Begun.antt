-- The rows of a table as they stood when a transaction began.
use Rattle.std.specs.Prelude.{ℕ, nat_lt, ◌==◌, List, [], ◌∷◌, ◌++◌, map, Option, Some, None}
use Rattle.std.specs.List.{filter}
use Rattle.pk_values.specs.declared.placed.Placed.{Placed}
use Rattle.pk_values.specs.declared.value.Value.{Value}
use Rattle.pk_exec.specs.Rows.{row_of}
use Rattle.pk_txn.specs.declared.row_key.RowKey.{RowKey}
use Rattle.pk_txn.specs.Images.{image_at}
use Rattle.pk_txn.specs.Contents.{Contents, Opened, transaction_of}
use Rattle.pk_txn.specs.History.{as_begun}

-- the row under its id, where there is one
abbrev pub placed_at : ℕ → Option (List Value) → List Placed
placed_at id None = []
placed_at id (Some row) = record { id = id; row = row } ∷ []

-- rows in the order of their ids, with this row under the id in place of any other, or with none there
abbrev pub put_back : ℕ → Option (List Value) → List Placed → List Placed
put_back id row rows =
    filter (λ (p : Placed). nat_lt p.id id) rows ++ (placed_at id row ++ filter (λ (p : Placed). nat_lt id p.id) rows)

-- the rows with those that are given for the ids
abbrev pub all_put_back : (ℕ → Option (List Value)) → List ℕ → List Placed → List Placed
all_put_back row [] rows = rows
all_put_back row (id ∷ ids) rows = put_back id (row id) (all_put_back row ids rows)

-- the ids of the table's rows that there are images of
abbrev pub image_ids : {Image : Type 0} → ℕ → List (RowKey × Image) → List ℕ
image_ids table images = map (λ e. e.0.id) (filter (λ e. e.0.table == table) images)

-- the table's rows when the transaction began: of the rows of now those that no commit has changed since, and those that its
-- images give back, in the order of their ids
abbrev pub rows_begun : Opened → ℕ → List Placed → List Placed
rows_begun t table now = all_put_back (λ id. as_begun (image_at t.images table id) (row_of now id)) (image_ids table t.images) now

-- the rows that a session sees before its own edits: as its transaction began, and as they are now where it has none open
abbrev pub rows_by : Option Opened → ℕ → List Placed → List Placed
rows_by None table now = now
rows_by (Some t) table now = rows_begun t table now

abbrev pub rows_seen : List ℕ → Contents → ℕ → List Placed → List Placed
rows_seen session book table now = rows_by (transaction_of session book) table now
