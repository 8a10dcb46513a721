use Rattle.std.specs.Prelude.{◌≡◌, ℕ, true, ◌==◌, pos, List, [], ◌∷◌, ◌++◌, length}
use Rattle.std.specs.List.{list_any}
use Rattle.std.specs.List.Sorted.{IsStrictlySortedBy}
use Rattle.std.specs.Cmp.{IsTotalOrder}
use Rattle.std.specs.Cmp.Lexicographic.{slice_cmp}
use Rattle.std.specs.Ordering.{nat_cmp, on, then_cmp}
use Rattle.std.specs.declared.cmp.Ordering.TheVariants.{Equal}
use Rattle.pk_values.specs.declared.value.Value.{Value}
use Rattle.pk_values.specs.declared.value.Value.TheVariants.{Null, Integer, Text}
use Rattle.pk_values.specs.ColumnSet.{IsColumnSet, has_column, columns, is_subset, column_set_cmp}
use Rattle.pk_values.specs.Records.{value_record, row_record, AreStorable}
use Rattle.pk_values.specs.Values.{IsStorable, same_value, value_cmp}

-- the list of a set's columns has each of its members, no other number, and ascends, so it has each once
abbrev pub ColumnsAreTheMembers : Type 0
ColumnsAreTheMembers = (set : ℕ) → IsColumnSet set
    → ((k : ℕ) → list_any (λ c. c == k) (columns set) ≡ has_column set k) × IsStrictlySortedBy nat_cmp (columns set)

-- two sets with the same columns are one
abbrev pub SameColumnsAreOneSet : Type 0
SameColumnsAreOneSet = (a b : ℕ) → IsColumnSet a → IsColumnSet b → columns a ≡ columns b → a ≡ b

-- one set is inside another exactly where the other has each of its members
abbrev pub SubsetIsInclusion : Type 0
SubsetIsInclusion = (a b : ℕ) → IsColumnSet a
    → (is_subset a b ≡ true → (k : ℕ) → has_column a k ≡ true → has_column b k ≡ true)
    × (((k : ℕ) → has_column a k ≡ true → has_column b k ≡ true) → is_subset a b ≡ true)

-- the order of sets is total, and is that by size and then by the lists of columns
abbrev pub SetsAreOrdered : Type 0
SetsAreOrdered = IsTotalOrder column_set_cmp
    × ((a b : ℕ) → IsColumnSet a → IsColumnSet b
    → column_set_cmp a b ≡ then_cmp (on (λ set. length (columns set)) nat_cmp) (on columns (slice_cmp nat_cmp)) a b)

-- the order of values is total, and ties just what is the same entry
abbrev pub ValuesAreOrdered : Type 0
ValuesAreOrdered = IsTotalOrder value_cmp
    × ((a b : Value) → (same_value a b ≡ true → a ≡ b) × (a ≡ b → same_value a b ≡ true))
    × ((a b : Value) → (value_cmp a b ≡ Equal → a ≡ b) × (a ≡ b → value_cmp a b ≡ Equal))

-- the row (1, NULL, 'ab') is kept in 14 bytes
abbrev pub ExampleIsKept : Type 0
ExampleIsKept = row_record (Integer (pos 1) ∷ Null ∷ Text (97 ∷ 98 ∷ []) ∷ []) ≡ 1 ∷ 0 ∷ 0 ∷ 0 ∷ 0 ∷ 0 ∷ 0 ∷ 0 ∷ 1 ∷ 0 ∷ 2 ∷ 2 ∷ 97 ∷ 98 ∷ []

-- where the bytes of a value end is told by these bytes themselves, and they are those of no other value
abbrev pub ValueRecordsEnd : Type 0
ValueRecordsEnd = (v w : Value) (xs ys : List ℕ) → IsStorable v → IsStorable w
    → value_record v ++ xs ≡ value_record w ++ ys → (v ≡ w) × (xs ≡ ys)

-- rows are kept in the same bytes only where they are equal, whatever their widths
abbrev pub RowRecordsDiffer : Type 0
RowRecordsDiffer = (a b : List Value) → AreStorable a → AreStorable b → row_record a ≡ row_record b → a ≡ b
