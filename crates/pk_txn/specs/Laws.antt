-- What the images of a book say of commits and of rows.
use Rattle.std.specs.Prelude.{◌≡◌, ℕ, false, List, Some, None}
use Rattle.std.specs.Option.{option_map}
use Rattle.std.specs.Str.{bytes_eq}
use Rattle.pk_txn.specs.declared.before.Before.{Before}
use Rattle.pk_txn.specs.declared.row_key.RowKey.{RowKey}
use Rattle.pk_txn.specs.Images.{image_of}
use Rattle.pk_txn.specs.Contents.{Contents, Opened, transaction_of, begun_at, begun, noted, finished, changed_by_all}
use Rattle.pk_txn.specs.History.{Note, Rows, change_at, image_or, first_change, after_notes, AreAfter, AreTold, as_begun}

-- what is kept of a row is what the first commit after the base changed there: after all commits, and after one more
pub record ImagesAreFirstChanges : Type 0 where
  pub all : (session : List ℕ) (base : ℕ) (notes : List Note) (key : RowKey)
      → image_of (after_notes notes (begun_at session base)).images key ≡ first_change base notes key
  pub one_more : (t : Opened) (note : Note) (key : RowKey)
      → image_of (changed_by_all note.commit note.befores t).images key ≡ image_or (image_of t.images key) (change_at t.base note key)

-- by what is kept and by the rows as they are now, each row is known as it stood when the transaction began
abbrev pub RowsStandAsTheyBegan : Type 0
RowsStandAsTheyBegan = (session : List ℕ) (base : ℕ) (notes : List Note) (old now : Rows) → AreAfter base notes → AreTold notes old now
    → (key : RowKey) → as_begun (image_of (after_notes notes (begun_at session base)).images key) (now key) ≡ old key

-- what a call does to one session's transaction, and that it leaves the other sessions'
pub record SessionsAreApart : Type 0 where
  pub begun_own : (session : List ℕ) (base : ℕ) (book : Contents) → transaction_of session book ≡ None
      → transaction_of session (begun session base book) ≡ Some (begun_at session base)
  pub begun_other : (session other : List ℕ) (base : ℕ) (book : Contents) → bytes_eq other session ≡ false
      → transaction_of other (begun session base book) ≡ transaction_of other book
  pub noted_each : (session : List ℕ) (commit : ℕ) (befores : List Before) (book : Contents)
      → transaction_of session (noted commit befores book) ≡ option_map (changed_by_all commit befores) (transaction_of session book)
  pub finished_own : (session : List ℕ) (book : Contents) → transaction_of session (finished session book) ≡ None
  pub finished_other : (session other : List ℕ) (book : Contents) → bytes_eq other session ≡ false
      → transaction_of other (finished session book) ≡ transaction_of other book
