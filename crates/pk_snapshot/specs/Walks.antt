-- How a walk finds the next row: the rows of now and the images, side by side.
use Rattle.std.specs.Prelude.{◌≡◌, ℕ, ◌≤◌, Bool, true, false, nat_le, List, [], ◌∷◌, length, drop, Option, Some, None, is_none, if◌then◌else◌}
use Rattle.std.proofs.Props.{props}
use Rattle.pk_values.specs.declared.placed.Placed.{Placed}
use Rattle.pk_exec.specs.Rows.{rows_above}
use Rattle.pk_txn.specs.Images.{row_before, IsNextImage}
use Rattle.pk_txn.specs.Contents.{Contents, Opened, images_of, seen_by}

-- no commit has changed the row since
abbrev pub is_unchanged : List ℕ → Contents → ℕ → ℕ → Bool
is_unchanged session book table id = is_none (row_before (images_of session book) table id)

-- the id isn't before that of the next image
abbrev pub is_reached : Option ℕ → ℕ → Bool
is_reached None id = false
is_reached (Some next) id = nat_le next id

-- the id of the first row, if it is before that of the next image
abbrev pub first_before : Option ℕ → List Placed → Option ℕ
first_before next [] = None
first_before next (p ∷ ps) = if is_reached next p.id then None else Some p.id

-- the id of the first row that is unchanged, if it is before that of the next image
abbrev pub standing_id : (ℕ → Bool) → Option ℕ → List Placed → Option ℕ
standing_id unchanged next [] = None
standing_id unchanged next (p ∷ ps) =
    if is_reached next p.id then None else (if unchanged p.id then Some p.id else standing_id unchanged next ps)

-- the rows from the place on are those behind the id
abbrev pub IsPlaceBehind : List Placed → ℕ → ℕ → Type 0
IsPlaceBehind rows id place = (place ≤ length rows) × (drop place rows ≡ rows_above id rows)

-- where an id is known, no commit has changed its row since
abbrev pub IsUnchangedAt : List ℕ → Contents → ℕ → Option ℕ → Type 0
IsUnchangedAt session book table None = Unit {0}
IsUnchangedAt session book table (Some id) = is_unchanged session book table id ≡ true

-- ---- facts of a snapshot, which have no two forms

pub IsNextImage-prop : (seen : Option Opened) (table id : ℕ) (next : Option ℕ) → IsProp (IsNextImage (seen_by seen) table id next)
IsNextImage-prop seen table id None = hlevel props
IsNextImage-prop seen table id (Some next) = hlevel props

pub IsUnchangedAt-prop : (session : List ℕ) (book : Contents) (table : ℕ) (id : Option ℕ) → IsProp (IsUnchangedAt session book table id)
IsUnchangedAt-prop session book table None = hlevel props
IsUnchangedAt-prop session book table (Some id) = hlevel props
