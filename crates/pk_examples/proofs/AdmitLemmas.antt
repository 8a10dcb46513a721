-- That a schema admits the two rows of a key.
use Rattle.std.proofs.Common.{◌≡◌, refl, ◌∙◌, ap, ℕ, suc, ◌+◌, ◌*◌, ◌≤◌, Bool, true, false, not, ◌&&◌, List, [], ◌∷◌, length, length-append, nat_le, if◌then◌else◌, arith}
use Rattle.std.specs.List.{list_all, zip}
use Rattle.std.proofs.lemmas.Bool.{and_parts, le-leb}
use Rattle.std.proofs.lemmas.List.{length-map}
use Rattle.pk_values.specs.declared.key.KeyDecl.{KeyDecl}
use Rattle.pk_values.specs.declared.kind.Kind.{Kind}
use Rattle.pk_values.specs.declared.kind.Kind.TheVariants as kinds
use Rattle.pk_values.specs.declared.value.Value.{Value}
use Rattle.pk_values.specs.declared.value.Value.TheVariants.{Null}
use Rattle.pk_values.specs.ColumnSet.{has_column}
use Rattle.pk_values.specs.Records.{row_record, value_record}
use Rattle.pk_values.specs.Values.{is_null, fits_kinds}
use Rattle.pk_syntax.specs.declared.declaration.ColumnDecl.{ColumnDecl}
use Rattle.pk_syntax.specs.Declarations.{is_plain_length}
use Rattle.pk_schema.specs.Shapes.{Shape, IsShape, kinds_of, not_null_of}
use Rattle.pk_schema.specs.Admits.{Admits, text_length, is_long, is_missing}
use Rattle.pk_schema.proofs.FitLemmas.{admitted_rows_fit}
use Rattle.pk_schema.proofs.SetLemmas.{has_first, has_next}
use Rattle.pk_values.specs.Values.{blank}
use Rattle.pk_rule.specs.Plain.{plain_of}
use Rattle.pk_rule.specs.TwoRows.{mark, is_left_null, low_entry, high_entry, row_from, low_row, high_row}
use Rattle.pk_rule.proofs.RowLemmas.{low_row_fits, high_row_fits, low_known, high_known}
use Rattle.pk_examples.proofs.EntryLemmas.{row_length}

-- ---- texts are short enough

entries_short :
    (entry : Kind → ℕ → Value) (i : ℕ) (cs : List ColumnDecl)
    → ((kind : Kind) (j max : ℕ) → is_plain_length kind max ≡ true → nat_le (text_length (entry kind j)) max ≡ true)
    → list_all (λ (c : ColumnDecl). is_plain_length c.kind c.max) cs ≡ true
    → list_all (λ pair. not (is_long pair.0 pair.1)) (zip cs (row_from entry i (kinds_of cs))) ≡ true
entries_short entry i [] short plain = refl
entries_short entry i (c ∷ cs) short plain =
    let parts = and_parts (is_plain_length c.kind c.max) (list_all (λ (d : ColumnDecl). is_plain_length d.kind d.max) cs) plain in
    rw (short c.kind i c.max parts.0, entries_short entry (suc i) cs short parts.1) refl

none_short : (max : ℕ) → nat_le 0 max ≡ true
none_short max = le-leb 0 max (omega arith)

low_short : (left : Bool) (kind : Kind) (max : ℕ) → nat_le (text_length (if left then Null else blank kind)) max ≡ true
low_short true kind max = none_short max
low_short false kinds.Integer max = none_short max
low_short false kinds.Text max = none_short max

mark_short : (kind : Kind) (max : ℕ) → is_plain_length kind max ≡ true → nat_le (text_length (mark kind)) max ≡ true
mark_short kinds.Integer max plain = none_short max
mark_short kinds.Text max plain = (and_parts (nat_le 1 max) (nat_le max 255) plain).0

high_short : (known : ℕ) (k : KeyDecl) (kind : Kind) (c max : ℕ) → is_plain_length kind max ≡ true → nat_le (text_length (high_entry known k kind c)) max ≡ true
high_short known k kind c max plain = either (has_column k.columns c)
  where
    either : (inside : Bool) → nat_le (text_length (if inside then low_entry known k kind c else mark kind)) max ≡ true
    either true = low_short (is_left_null known k c) kind max
    either false = mark_short kind max plain

-- ---- NOT NULL columns are known

entries_known :
    (entry : Kind → ℕ → Value) (known i : ℕ) (cs : List ColumnDecl) → ((kind : Kind) (j : ℕ) → has_column known j ≡ true → is_null (entry kind j) ≡ false)
    → ((j n : ℕ) → n ≡ j + i → has_column known n ≡ has_column (not_null_of cs) j)
    → list_all (λ pair. not (is_missing pair.0 pair.1)) (zip cs (row_from entry i (kinds_of cs))) ≡ true
entries_known entry known i [] kept same = refl
entries_known entry known i (c ∷ cs) kept same =
    let here : has_column known i ≡ c.not_null = same 0 i (omega arith) ∙ has_first (λ (d : ColumnDecl). d.not_null) c cs in
    rw (
      one c.not_null here,
      entries_known entry known (suc i) cs kept (λ j n is. same (suc j) n (omega (arith, is)) ∙ has_next (λ (d : ColumnDecl). d.not_null) c cs j),
    ) refl
  where
    one : (t : Bool) → has_column known i ≡ t → not (t && is_null (entry c.kind i)) ≡ true
    one true holds = rw (kept c.kind i holds) refl
    one false fails = refl

-- ---- the row is short enough

record_length : (entry : Kind → ℕ → Value) (i : ℕ) (ks : List Kind) → ((kind : Kind) (j : ℕ) → length (value_record (entry kind j)) ≤ 9)
    → length (row_record (row_from entry i ks)) ≤ 9 * length ks
record_length entry i [] short = omega arith
record_length entry i (kind ∷ ks) short =
    let here = short kind i in
    let rest = record_length entry (suc i) ks short in
    let whole = length-append (value_record (entry kind i)) (row_record (row_from entry (suc i) ks)) in
    omega (arith, here, rest, whole)

low_record : (left : Bool) (kind : Kind) → length (value_record (if left then Null else blank kind)) ≤ 9
low_record true kind = omega arith
low_record false kinds.Integer = omega arith
low_record false kinds.Text = omega arith

mark_record : (kind : Kind) → length (value_record (mark kind)) ≤ 9
mark_record kinds.Integer = omega arith
mark_record kinds.Text = omega arith

high_record : (known : ℕ) (k : KeyDecl) (kind : Kind) (c : ℕ) → length (value_record (high_entry known k kind c)) ≤ 9
high_record known k kind c = either (has_column k.columns c)
  where
    either : (inside : Bool) → length (value_record (if inside then low_entry known k kind c else mark kind)) ≤ 9
    either true = low_record (is_left_null known k c) kind
    either false = mark_record kind

-- ---- together

entries_admitted :
    (s : Shape) (entry : Kind → ℕ → Value) → IsShape s → fits_kinds (kinds_of s.columns) (row_from entry 0 (kinds_of s.columns)) ≡ true
    → ((kind : Kind) (j max : ℕ) → is_plain_length kind max ≡ true → nat_le (text_length (entry kind j)) max ≡ true)
    → ((kind : Kind) (j : ℕ) → has_column (not_null_of s.columns) j ≡ true → is_null (entry kind j) ≡ false)
    → ((kind : Kind) (j : ℕ) → length (value_record (entry kind j)) ≤ 9)
    → Admits s (row_from entry 0 (kinds_of s.columns))
entries_admitted s entry shape fits short kept records =
    let count = length-map s.columns (λ (c : ColumnDecl). c.kind) in
    let bytes = record_length entry 0 (kinds_of s.columns) records in
    let few = shape.few_columns in
    (admitted_rows_fit s (row_from entry 0 (kinds_of s.columns))).1 (record {
      width = row_length entry 0 (kinds_of s.columns) ∙ count;
      kinds = fits;
      lengths = entries_short entry 0 s.columns short shape.lengths;
      known = entries_known entry (not_null_of s.columns) 0 s.columns kept (λ j n is. ap (has_column (not_null_of s.columns)) (omega (arith, is)));
      size = omega (arith, count, bytes, few);
    })

pub low_admitted : (s : Shape) (k : KeyDecl) → IsShape s → Admits s (low_row (plain_of s) k)
low_admitted s k shape =
    entries_admitted s (low_entry (not_null_of s.columns) k) shape (low_row_fits (plain_of s) k)
    (λ kind j max plain. low_short (is_left_null (not_null_of s.columns) k j) kind max)
    (λ kind j holds. low_known (not_null_of s.columns) k kind j holds)
    (λ kind j. low_record (is_left_null (not_null_of s.columns) k j) kind)

pub high_admitted : (s : Shape) (k : KeyDecl) → IsShape s → Admits s (high_row (plain_of s) k)
high_admitted s k shape =
    entries_admitted s (high_entry (not_null_of s.columns) k) shape (high_row_fits (plain_of s) k)
    (λ kind j max plain. high_short (not_null_of s.columns) k kind j max plain)
    (λ kind j holds. high_known (not_null_of s.columns) k kind j holds)
    (λ kind j. high_record (not_null_of s.columns) k kind j)
