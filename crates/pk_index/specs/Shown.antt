-- Which rows an index holds.
use Rattle.std.specs.Prelude.{◌≡◌, ℕ, List, length, Option, Some, None, IsTrue}
use Rattle.std.specs.Str.{bytes_eq}
use Rattle.std.specs.Ordering.{nat_cmp}
use Rattle.std.specs.BTreeMap as tree
use Rattle.std.specs.FinMap as rows
use Rattle.pk_values.specs.declared.value.Value.{Value}
use Rattle.pk_values.specs.ColumnSet.{columns}
use Rattle.pk_values.specs.Records.{AreStorable}
use Rattle.pk_index.specs.declared.pattern_index.PatternIndex.{PatternIndex}
use Rattle.pk_index.specs.declared.strong_index.StrongIndex.{StrongIndex}
use Rattle.pk_index.specs.Rows.{Rows, Marks, passes, are_known}
use Rattle.pk_index.specs.Filing.{has, is_filed, mark_record}

-- values of the code, one for each column of the key
abbrev pub AreOfKey : ℕ → List Value → Type 0
AreOfKey set vs = (length vs ≡ length (columns set)) × AreStorable vs

-- values of the code for each column of the key, none of them null, or the mark
abbrev pub IsOfKey : ℕ → Option (List Value) → Type 0
IsOfKey set None = Unit {0}
IsOfKey set (Some vs) = AreOfKey set vs × IsTrue (are_known vs)

-- the columns of the index's key, and those of them that are nullable
abbrev pub key_of : PatternIndex → ℕ
key_of index = index.columns

abbrev pub nullable_of : PatternIndex → ℕ
nullable_of index = index.nullable

-- The index holds these rows: it keeps their values, and has each id under just the bytes under which its row is filed.
pub record ShowsRows (index : PatternIndex) (held : Rows) : Type 0 where
  pub kept : (id : ℕ) → tree.get_by (nat_cmp id) index.held ≡ rows.get held id
  pub fits : (id : ℕ) (vs : List Value) → rows.get held id ≡ Some vs → AreOfKey index.columns vs
  pub filed : (bytes : List ℕ) (id : ℕ) → has index.filed bytes id ≡ passes (λ vs. is_filed index.nullable (columns index.columns) vs bytes) (rows.get held id)

-- the columns of the index's key
abbrev pub strong_key_of : StrongIndex → ℕ
strong_key_of index = index.columns

-- The index holds these marks: it has each id under just the bytes for its mark.
pub record ShowsMarks (index : StrongIndex) (held : Marks) : Type 0 where
  pub fits : (id : ℕ) (mark : Option (List Value)) → rows.get held id ≡ Some mark → IsOfKey index.columns mark
  pub filed : (bytes : List ℕ) (id : ℕ) → has index.filed bytes id ≡ passes (λ mark. bytes_eq (mark_record mark) bytes) (rows.get held id)
