-- Rows and what is asked of them.
use Rattle.std.proofs.Common.{◌≡◌, refl, sym, ◌∙◌, ap, subst, ℕ, suc, ◌+◌, ◌*◌, ◌≤◌, not, ◌&&◌, ◌||◌, List, [], ◌∷◌, ◌++◌, length, Some, arith}
use Rattle.std.specs.Prelude.{slice_get}
use Rattle.std.specs.List.{range_with_len}
use Rattle.std.proofs.lemmas.List.Filters.{length-filter_both}
use Rattle.std.proofs.lemmas.List.FromFn.{length-range_with_len}
use Rattle.std.proofs.lemmas.List.{append_assoc, append-nil, length-append, length-map}
use Rattle.pk_values.specs.declared.value.Value.{Value}
use Rattle.pk_values.specs.ColumnSet.{has_column, columns}
use Rattle.pk_values.specs.Records.{value_record, row_record, AreStorable}
use Rattle.pk_values.specs.Values.{value_at, is_null, IsStorable}
use Rattle.pk_values.proofs.RowLemmas.{value_read}
use Rattle.pk_similar.specs.Similarity.{weak_entries, strong_entries, weak, strong}
use Rattle.pk_index.specs.Rows.{values_on, all_weak, all_strong, are_known}
use Rattle.pk_index.specs.Filing.{open_record, may_open, asked_record, probe_record, is_filed_behind}
use Rattle.pk_index.proofs.FilingLemmas.{filed_split}

pub weak_of_values : (cs : List ℕ) (a b : List Value) → weak cs a b ≡ all_weak (values_on cs a) (values_on cs b)
unfolding weak
weak_of_values [] a b = refl
weak_of_values (c ∷ cs) a b = ap (λ t. weak_entries (value_at a c) (value_at b c) && t) (weak_of_values cs a b)

pub strong_of_values : (cs : List ℕ) (a b : List Value) → strong cs a b ≡ all_strong (values_on cs a) (values_on cs b)
unfolding strong
strong_of_values [] a b = refl
strong_of_values (c ∷ cs) a b = ap (λ t. strong_entries (value_at a c) (value_at b c) && t) (strong_of_values cs a b)

-- ---- a row's first column, and the others

module _ (row : List Value) (cs others : List ℕ) (c : ℕ) (v : Value) (split : cs ≡ c ∷ others) (here : slice_get row c ≡ Some v) where
  values_split : values_on cs row ≡ v ∷ values_on others row
  values_split = ap (λ zs. values_on zs row) split ∙ ap (λ w. w ∷ values_on others row) (value_read row c v here)

  pub record_split : row_record (values_on cs row) ≡ value_record v ++ row_record (values_on others row)
  record_split = ap row_record values_split

  pub storable_split : IsStorable v → AreStorable (values_on others row) → AreStorable (values_on cs row)
  storable_split first rest = subst AreStorable (sym values_split) (first, rest)

  pub known_split : are_known (values_on cs row) ≡ (not (is_null v) && are_known (values_on others row))
  known_split = ap are_known values_split

  pub asked_split : (pattern : ℕ) → probe_record pattern cs row ≡ asked_record (has_column pattern c) v ++ probe_record pattern others row
  asked_split pattern =
      ap (λ zs. probe_record pattern zs row) split ∙ ap (λ w. asked_record (has_column pattern c) w ++ probe_record pattern others row) (value_read row c v here)

  pub filed_by_column : (front : List ℕ) (nullable : ℕ) (bytes : List ℕ)
      → is_filed_behind front nullable cs (values_on cs row) bytes
      ≡ (is_filed_behind (front ++ value_record v) nullable others (values_on others row) bytes
      || (may_open nullable c v && is_filed_behind (front ++ open_record) nullable others (values_on others row) bytes))
  filed_by_column front nullable bytes =
      ap (λ zs. is_filed_behind front nullable zs (values_on cs row) bytes) split
      ∙ ap (λ vs. is_filed_behind front nullable (c ∷ others) vs bytes) values_split
      ∙ filed_split front nullable others (values_on others row) c v bytes

-- ---- values that are taken one by one

module _ (row : List Value) where
  pub part_next : (cs others : List ℕ) (c : ℕ) (v w : Value) (before : List Value) → cs ≡ c ∷ others → slice_get row c ≡ Some v → w ≡ v
      → (before ++ w ∷ []) ++ values_on others row ≡ before ++ values_on cs row
  part_next cs others c v w before split here copied =
      append_assoc before (w ∷ []) (values_on others row) ∙ ap (λ x. before ++ x ∷ values_on others row) copied ∙ ap (λ vs. before ++ vs) (sym (values_split row cs others c v split here))

  pub part_done : (cs all : List ℕ) (before : List Value) → cs ≡ [] → before ++ values_on cs row ≡ values_on all row → before ≡ values_on all row
  part_done cs all before none whole = sym (append-nil before) ∙ ap (λ zs. before ++ values_on zs row) (sym none) ∙ whole

  pub part_length : (cs all : List ℕ) (before : List Value) → before ++ values_on cs row ≡ values_on all row → length before ≤ length all
  part_length cs all before whole =
      let sum : length before + length (values_on cs row) ≡ length all = sym (length-append before (values_on cs row)) ∙ ap length whole ∙ length-map all (value_at row) in
      omega (arith, sum)

-- what is written behind what was written
pub written : (old mid new part rest whole : List ℕ) → mid ≡ old ++ part → new ≡ mid ++ rest → whole ≡ part ++ rest → new ≡ old ++ whole
written old mid new part rest whole first second parts =
    second ∙ ap (λ bytes. bytes ++ rest) first ∙ append_assoc old part rest ∙ ap (λ bytes. old ++ bytes) (sym parts)

-- the room that is left
pub room_left : (old mid part : List ℕ) (cs others : List ℕ) (c : ℕ) → length old + 257 * length cs ≤ 8224 → cs ≡ c ∷ others → mid ≡ old ++ part → length part ≤ 257
    → length mid + 257 * length others ≤ 8224
room_left old mid part cs others c room split first most =
    let longer : length cs ≡ suc (length others) = ap length split in
    let sum : length mid ≡ length old + length part = ap length first ∙ length-append old part in
    omega (arith, room, longer, sum, most)

pub room_here : (old : List ℕ) (cs others : List ℕ) (c : ℕ) → length old + 257 * length cs ≤ 8224 → cs ≡ c ∷ others → length old + 257 ≤ 8224
room_here old cs others c room split =
    let longer : length cs ≡ suc (length others) = ap length split in
    omega (arith, room, longer)

-- a set has at most 32 columns
few_columns : (set : ℕ) → length (columns set) ≤ 32
unfolding columns
few_columns set =
    let all = range_with_len 0 32 in
    let both = length-filter_both (has_column set) (λ c. not (has_column set c)) (λ c. refl) all in
    let whole = length-range_with_len 0 32 in
    omega (arith, both, whole)

-- a list without bytes has room for all columns of a set
pub all_room : (bytes : List ℕ) (set : ℕ) → bytes ≡ [] → length bytes + 257 * length (columns set) ≤ 8224
all_room bytes set none =
    let most = few_columns set in
    let empty : length bytes ≡ 0 = ap length none in
    omega (arith, most, empty)
