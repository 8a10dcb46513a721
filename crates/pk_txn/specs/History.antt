-- Commits since a transaction began, and the rows that they changed.
use Rattle.std.specs.Prelude.{◌≡◌, ℕ, ◌<◌, nat_le, if◌then◌else◌, List, [], ◌∷◌, Option, Some, None}
use Rattle.std.specs.Option.{option_map}
use Rattle.std.specs.BTreeMap.{is_at}
use Rattle.pk_values.specs.declared.value.Value.{Value}
use Rattle.pk_txn.specs.declared.before.Before.{Before}
use Rattle.pk_txn.specs.declared.image.Image.{Image}
use Rattle.pk_txn.specs.declared.row_key.RowKey.{RowKey}
use Rattle.pk_txn.specs.Images.{key_cmp}
use Rattle.pk_txn.specs.Contents.{Opened, key_of, changed_by_all}

-- a commit: its number, and the rows that it changed as they were before it
pub record Note : Type 0 where
  pub commit : ℕ
  pub befores : List Before

-- the row before a commit, where the commit changed it
abbrev pub before_at : List Before → RowKey → Option (Option (List Value))
before_at [] key = None
before_at (before ∷ rest) key = if is_at (key_cmp key) (key_of before) then Some before.row else before_at rest key

-- what a commit after the base changed at a row
abbrev pub change_at : ℕ → Note → RowKey → Option Image
change_at base note key =
    if nat_le note.commit base then None else option_map (λ row. record { commit = note.commit; row = row }) (before_at note.befores key)

abbrev pub image_or : Option Image → Option Image → Option Image
image_or None other = other
image_or (Some image) other = Some image

-- what the first commit after the base that changed a row changed there
abbrev pub first_change : ℕ → List Note → RowKey → Option Image
first_change base [] key = None
first_change base (note ∷ notes) key = image_or (change_at base note key) (first_change base notes key)

-- a transaction after these commits
abbrev pub after_notes : List Note → Opened → Opened
after_notes [] t = t
after_notes (note ∷ notes) t = after_notes notes (changed_by_all note.commit note.befores t)

-- all commits are after the base
abbrev pub AreAfter : ℕ → List Note → Type 0
AreAfter base [] = Unit {0}
AreAfter base (note ∷ notes) = (base < note.commit) × AreAfter base notes

-- the rows of all tables, None where there is none
abbrev pub Rows : Type 0
Rows = RowKey → Option (List Value)

-- a row, by how it was before a commit, if that changed it, and how it is now
abbrev pub IsToldAt : Option (Option (List Value)) → Option (List Value) → Option (List Value) → Type 0
IsToldAt None old now = now ≡ old
IsToldAt (Some before) old now = old ≡ before

-- a commit changed the old rows to those of now, and told each row that it changed as it was
abbrev pub IsTold : List Before → Rows → Rows → Type 0
IsTold befores old now = (key : RowKey) → IsToldAt (before_at befores key) (old key) (now key)

-- the commits changed the old rows to those of now, one after the other
abbrev pub AreTold : List Note → Rows → Rows → Type 0
AreTold [] old now = (key : RowKey) → now key ≡ old key
AreTold (note ∷ notes) old now = (between : Rows) × (IsTold note.befores old between × AreTold notes between now)

-- a row as it stood, by the image that is kept of it and by how it is now
abbrev pub as_begun : Option Image → Option (List Value) → Option (List Value)
as_begun None now = now
as_begun (Some image) now = image.row
