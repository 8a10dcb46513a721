-- What the rows of a snapshot are, and that they are what the transaction found.
use Rattle.std.specs.Prelude.{◌≡◌, ℕ, ◌<◌, false, List, None}
use Rattle.pk_values.specs.declared.placed.Placed.{Placed}
use Rattle.pk_exec.specs.Rows.{AscendFrom, row_of}
use Rattle.pk_txn.specs.Images.{image_at, had_row}
use Rattle.pk_txn.specs.Contents.{Opened, begun_at, changed_by_all}
use Rattle.pk_txn.specs.History.{Note, Rows, after_notes, AreAfter, AreTold, IsTold, as_begun}
use Rattle.pk_snapshot.specs.Begun.{rows_begun}

-- rows in the order of their ids are known by the row under each id
abbrev pub RowsAreKnownByTheirIds : Type 0
RowsAreKnownByTheirIds = (least other : ℕ) (rows others : List Placed) → AscendFrom least rows → AscendFrom other others
    → ((id : ℕ) → row_of rows id ≡ row_of others id) → rows ≡ others

-- the rows begun are those that, in the order of their ids, have under each id the row as it stood
pub record RowsBegunAreByTheirIds : Type 0 where
  pub each : (t : Opened) (table : ℕ) (now : List Placed) (id : ℕ)
      → row_of (rows_begun t table now) id ≡ as_begun (image_at t.images table id) (row_of now id)
  pub ascend : (t : Opened) (table least : ℕ) (now : List Placed) → AscendFrom least now
      → ((id : ℕ) → id < least → had_row (image_at t.images table id) ≡ false) → AscendFrom least (rows_begun t table now)
  pub no_lower : (t : Opened) (table least : ℕ) (now : List Placed) → AscendFrom least now
      → AscendFrom least (rows_begun t table now) → (id : ℕ) → id < least → had_row (image_at t.images table id) ≡ false
  pub only : (t : Opened) (table least other : ℕ) (now rows : List Placed) → AscendFrom least now → AscendFrom other rows
      → ((id : ℕ) → row_of rows id ≡ as_begun (image_at t.images table id) (row_of now id)) → rows ≡ rows_begun t table now
  pub no_image : (t : Opened) (table least : ℕ) (now : List Placed) → AscendFrom least now
      → ((id : ℕ) → image_at t.images table id ≡ None) → rows_begun t table now ≡ now
  pub at_begin : (session : List ℕ) (base table : ℕ) (now : List Placed) → rows_begun (begun_at session base) table now ≡ now

-- these are the table's rows, in the order of their ids
pub record AreRowsOf (all : Rows) (table : ℕ) (rows : List Placed) : Type 0 where
  pub ascend : AscendFrom 1 rows
  pub each : (id : ℕ) → row_of rows id ≡ all (record { table = table; id = id })

-- what the commits since its begin made of a table's rows, its images turn back into the rows that it found
abbrev pub TransactionsSeeTheirBase : Type 0
TransactionsSeeTheirBase = (session : List ℕ) (base table : ℕ) (notes : List Note) (old now : Rows) (found rows : List Placed)
    → AreAfter base notes → AreTold notes old now → AreRowsOf old table found → AreRowsOf now table rows
    → rows_begun (after_notes notes (begun_at session base)) table rows ≡ found

-- a commit after its begin leaves what a transaction sees
abbrev pub CommitsLeaveWhatIsSeen : Type 0
CommitsLeaveWhatIsSeen = (t : Opened) (note : Note) (old now : Rows) (table : ℕ) (found rows : List Placed)
    → t.base < note.commit → IsTold note.befores old now → AreRowsOf old table found → AreRowsOf now table rows
    → rows_begun (changed_by_all note.commit note.befores t) table rows ≡ rows_begun t table found
