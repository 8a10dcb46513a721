-- How the code compares rows: by numbers that stand for their values in each column, and by the set of each row's nulls.
use Rattle.std.specs.Prelude.{◌≡◌, ℕ, ◌+◌, ◌-◌, ◌<◌, ◌≤◌, ◌^◌, ◌==◌, cond, List, [], ◌∷◌, ◌++◌, length, map, filter, get_or, slice_get, Some, All, Contains}
use Rattle.std.specs.List.{AllZip, range_with_len}
use Rattle.std.specs.List.Sorted.{IsSorted}
use Rattle.std.specs.Int.Bits.{bit_and, bit_or}
use Rattle.std.specs.declared.cmp.Ordering.TheVariants.{Less}
use Rattle.pk_values.specs.declared.value.Value.{Value}
use Rattle.pk_values.specs.Values.{is_null, same_value, value_at, value_cmp}
use Rattle.pk_sweep.specs.declared.coding.CodedColumn.{CodedColumn}
use Rattle.pk_sweep.specs.declared.pairs.Met.{Met}
use Rattle.pk_sweep.specs.declared.sets.Sets.{Sets}
use Rattle.pk_sweep.specs.Pairs.{set_of, InOrder}
use Rattle.pk_sweep.specs.Meeting.{SameMembers}

-- ---- numbers for values

-- of the ordered values, those before the place are less than the value, and no other is
abbrev pub IsRank : List Value → Value → ℕ → Type 0
IsRank ordered value place =
    (place ≤ length ordered)
    × ((k : ℕ) (w : Value) → slice_get ordered k ≡ Some w → (k < place → value_cmp w value ≡ Less) × (place ≤ k → ¬ (value_cmp w value ≡ Less)))

-- the values of the rows in the column, in order
pub record IsOrdered (c : ℕ) (rows : List (List Value)) (values : List Value) : Type 0 where
  pub ordered : IsSorted value_cmp values
  pub all : (row : List Value) → Contains rows row → Contains values (value_at row c)

-- the number of the row at a place
abbrev pub code_at : List ℕ → ℕ → ℕ
code_at codes i = get_or codes i 0

-- the numbers of two rows are equal exactly where their values in the column are the same
pub record StandFor (rows : List (List Value)) (c : ℕ) (codes : List ℕ) : Type 0 where
  pub long : length codes ≡ length rows
  pub tell :
      (i j : ℕ) (a b : List Value) → slice_get rows i ≡ Some a → slice_get rows j ≡ Some b
      → (code_at codes i == code_at codes j) ≡ same_value (value_at a c) (value_at b c)

-- a column with its numbers, and the set of it alone
pub record IsCoded (rows : List (List Value)) (c : ℕ) (column : CodedColumn) : Type 0 where
  pub alone : column.bit ≡ 2 ^ c
  pub codes : StandFor rows c column.codes.items

-- the set of the columns in which the row is null
abbrev pub null_set : List ℕ → List Value → ℕ
null_set cs row = set_of (filter (λ c. is_null (value_at row c)) cs)

-- the columns by numbers, and the set of each row's nulls
pub record AreCoded (cs : List ℕ) (rows : List (List Value)) (columns : List CodedColumn) (nulls : List ℕ) : Type 0 where
  pub coded : AllZip (IsCoded rows) cs columns
  pub null : nulls ≡ map (null_set cs) rows

-- ---- pairs of places

-- the columns in which the numbers of two rows differ
unfoldable pub differing : List CodedColumn → ℕ → ℕ → ℕ
differing [] i j = 0
differing (k ∷ ks) i j = bit_or (cond (code_at k.codes.items i == code_at k.codes.items j) 0 k.bit) (differing ks i j)

-- those of them in which neither row is null
abbrev pub apart_at : List CodedColumn → List ℕ → ℕ → ℕ → ℕ
apart_at columns nulls i j = bit_and (differing columns i j) (4294967295 - bit_or (code_at nulls i) (code_at nulls j))

-- they, and those in which one of the rows is null
abbrev pub not_same_at : List CodedColumn → List ℕ → ℕ → ℕ → ℕ
not_same_at columns nulls i j = bit_or (differing columns i j) (bit_or (code_at nulls i) (code_at nulls j))

-- of each of these places and every place behind it, below n
unfoldable pub place_pairs : (ℕ → ℕ → ℕ) → ℕ → List ℕ → List ℕ
place_pairs f n [] = []
place_pairs f n (i ∷ is) = map (f i) (range_with_len (i + 1) (n - (i + 1))) ++ place_pairs f n is

-- what was met is the sets of each pair whose first place is one of these
pub record IsMet (columns : List CodedColumn) (nulls places : List ℕ) (met : Met) : Type 0 where
  pub apart : SameMembers (place_pairs (apart_at columns nulls) (length nulls) places) met.apart.items
  pub not_same : SameMembers (place_pairs (not_same_at columns nulls) (length nulls) places) met.not_same.items

-- the sets that either has, in order
pub record AreMerged (first second : Met) (sets : Sets) : Type 0 where
  pub apart : InOrder (first.apart.items ++ second.apart.items) sets.apart
  pub not_same : InOrder (first.not_same.items ++ second.not_same.items) sets.not_same

-- the sets of all pairs in order
pub record AreOfPairs (columns : List CodedColumn) (nulls : List ℕ) (sets : Sets) : Type 0 where
  pub apart : InOrder (place_pairs (apart_at columns nulls) (length nulls) (range_with_len 0 (length nulls))) sets.apart
  pub not_same : InOrder (place_pairs (not_same_at columns nulls) (length nulls) (range_with_len 0 (length nulls))) sets.not_same

-- all columns have a number for each row
abbrev pub AreLong : List CodedColumn → List ℕ → Type 0
AreLong columns nulls = All (λ (k : CodedColumn). length k.codes.items ≡ length nulls) columns
