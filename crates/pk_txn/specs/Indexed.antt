-- What the two indexes beside a transaction's images say of these.
use Rattle.std.specs.Prelude.{◌≡◌, ℕ, min, Bool, ◌||◌, ◌&&◌, List, Option, Some, None}
use Rattle.std.specs.List.{list_any}
use Rattle.std.specs.Map.{lookup}
use Rattle.std.specs.BTreeMap.{is_at}
use Rattle.std.specs.Ordering.{nat_cmp}
use Rattle.pk_txn.specs.declared.image.Image.{Image}
use Rattle.pk_txn.specs.declared.row_key.RowKey.{RowKey}
use Rattle.pk_txn.specs.Images.{key_cmp, image_of, had_row, IsFirstChange}

-- the keys of the rows that were there, and for each table the first commit that changed it
pub record IsIndexed (images : List (RowKey × Image)) (rows : List RowKey) (changed : List (ℕ × ℕ)) : Type 0 where
  pub were_there : (key : RowKey) → list_any (is_at (key_cmp key)) rows ≡ had_row (image_of images key)
  pub first : (table : ℕ) → IsFirstChange images table (lookup (is_at (nat_cmp table)) changed)

-- the key is added to the rows that were there, if its row was
abbrev pub IsRowIndexed : RowKey → Bool → List RowKey → List RowKey → Type 0
IsRowIndexed key was_there rows after =
    (q : RowKey) → list_any (is_at (key_cmp q)) after ≡ ((was_there && is_at (key_cmp key) q) || list_any (is_at (key_cmp q)) rows)

-- the earlier of a commit and another, where there is another
abbrev pub earliest : ℕ → Option ℕ → ℕ
earliest commit None = commit
earliest commit (Some other) = min commit other
