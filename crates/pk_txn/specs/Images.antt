-- What a transaction keeps of rows that later commits changed.
use Rattle.std.specs.Prelude.{◌≡◌, ℕ, ◌<◌, ◌≤◌, Bool, true, false, List, [], ◌∷◌, Option, Some, None, is_some}
use Rattle.std.specs.Option.{option_map}
use Rattle.std.specs.Map.{lookup}
use Rattle.std.specs.BTreeMap.{is_at}
use Rattle.std.specs.Ordering.{nat_cmp, ordering_then}
use Rattle.std.specs.declared.cmp.Ordering.{Ordering}
use Rattle.pk_values.specs.declared.value.Value.{Value}
use Rattle.pk_txn.specs.declared.conflict.Conflict.{Conflict}
use Rattle.pk_txn.specs.declared.image.Image.{Image}
use Rattle.pk_txn.specs.declared.row_key.RowKey.{RowKey}
use Rattle.pk_txn.specs.declared.seen.Seen.{Seen}
use Rattle.pk_txn.specs.declared.seen.Seen.TheVariants.{Current, Was, Absent}

-- by table, and then by id
abbrev pub key_cmp : RowKey → RowKey → Ordering
key_cmp a b = ordering_then (nat_cmp a.table b.table) (nat_cmp a.id b.id)

-- the image that the list has at a row
abbrev pub image_of : List (RowKey × Image) → RowKey → Option Image
image_of images key = lookup (is_at (key_cmp key)) images

abbrev pub image_at : List (RowKey × Image) → ℕ → ℕ → Option Image
image_at images table id = image_of images (record { table = table; id = id })

-- the first commit since that changed the row, where one did
abbrev pub changed_by : List (RowKey × Image) → ℕ → ℕ → Option ℕ
changed_by images table id = option_map (λ image. image.commit) (image_at images table id)

-- the row before that commit, where one changed it: None where it wasn't there
abbrev pub row_before : List (RowKey × Image) → ℕ → ℕ → Option (Option (List Value))
row_before images table id = option_map (λ image. image.row) (image_at images table id)

-- whether a commit changed the row since, and it was there before
abbrev pub had_row : Option Image → Bool
had_row None = false
had_row (Some image) = is_some image.row

-- how a row stood, by what is kept of it
abbrev pub IsSeen : Seen → Option (Option (List Value)) → Type 0
IsSeen Current before = before ≡ None
IsSeen (Was row) before = before ≡ Some (Some row.now)
IsSeen Absent before = before ≡ Some None

-- the least higher id of the table whose row was there and was changed since
abbrev pub IsNextImage : List (RowKey × Image) → ℕ → ℕ → Option ℕ → Type 0
IsNextImage images table id None = (n : ℕ) → id < n → had_row (image_at images table n) ≡ false
IsNextImage images table id (Some next) =
    (id < next) × (had_row (image_at images table next) ≡ true)
    × ((n : ℕ) → id < n → n < next → had_row (image_at images table n) ≡ false)

-- the conflict at a row, where a commit changed it, and otherwise another
abbrev pub conflict_or : ℕ → Option ℕ → Option Conflict → Option Conflict
conflict_or id None other = other
conflict_or id (Some commit) other = Some (record { id = id; commit = commit })

-- the first of the ids whose row a commit changed since, with the first such commit
abbrev pub first_conflict : List (RowKey × Image) → ℕ → List ℕ → Option Conflict
first_conflict images table [] = None
first_conflict images table (id ∷ ids) = conflict_or id (changed_by images table id) (first_conflict images table ids)

-- the least number that the function gives, where it gives one
abbrev pub IsLeastOf : (ℕ → Option ℕ) → Option ℕ → Type 0
IsLeastOf f None = (k : ℕ) → f k ≡ None
IsLeastOf f (Some least) = ((k : ℕ) × (f k ≡ Some least)) × ((k n : ℕ) → f k ≡ Some n → least ≤ n)

-- the first commit that changed a row of the table
abbrev pub IsFirstChange : List (RowKey × Image) → ℕ → Option ℕ → Type 0
IsFirstChange images table commit = IsLeastOf (changed_by images table) commit
