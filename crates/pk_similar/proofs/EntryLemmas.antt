-- Two entries: what completions make of them, and when they are the same.
use Rattle.std.proofs.Common.{◌≡◌, refl, sym, ◌∙◌, ap, ℕ, zero, suc, ◌<◌, true, false, length, pos, nat_abs, replicate, arith}
use Rattle.std.proofs.lemmas.Bool.{both_ways}
use Rattle.std.proofs.lemmas.List.{length-replicate}
use Rattle.pk_values.specs.declared.kind.Kind.{Kind}
use Rattle.pk_values.specs.declared.kind.Kind.TheVariants as kinds
use Rattle.pk_values.specs.declared.value.Value.{Value}
use Rattle.pk_values.specs.declared.value.Value.TheVariants.{Null, Integer, Text}
use Rattle.pk_values.specs.Values.{is_null, is_known_of, fits_kind, are_bytes, blank}
use Rattle.pk_values.proofs.ValueOrder.{equal_from_same, same_from_equal}
use Rattle.pk_similar.specs.Completions.{CompletesEntry}
use Rattle.pk_similar.specs.Similarity.{weak_entries, strong_entries}
use Rattle.pk_similar.specs.Filling.{known_or, fill_entry}

-- what is known stays in a completion
pub known_entry_stays : (kind : Kind) (v value : Value) → CompletesEntry kind v value → is_null v ≡ false → value ≡ v
known_entry_stays kind Null value completes known = cc
known_entry_stays kind (Integer x) value completes known = completes
known_entry_stays kind (Text xs) value completes known = completes

-- entries whose completions are equal are weakly similar
pub equal_entries_weak :
    (v w value other : Value) → (is_null v ≡ false → value ≡ v) → (is_null w ≡ false → other ≡ w) → value ≡ other → weak_entries v w ≡ true
equal_entries_weak Null w value other left right equal = refl
equal_entries_weak (Integer x) Null value other left right equal = refl
equal_entries_weak (Integer x) (Integer y) value other left right equal = same_from_equal _ _ (sym (left refl) ∙ equal ∙ right refl)
equal_entries_weak (Integer x) (Text ys) value other left right equal = same_from_equal _ _ (sym (left refl) ∙ equal ∙ right refl)
equal_entries_weak (Text xs) Null value other left right equal = refl
equal_entries_weak (Text xs) (Integer y) value other left right equal = same_from_equal _ _ (sym (left refl) ∙ equal ∙ right refl)
equal_entries_weak (Text xs) (Text ys) value other left right equal = same_from_equal _ _ (sym (left refl) ∙ equal ∙ right refl)

-- strongly similar entries are known
pub strong_entries_known : (v w : Value) → strong_entries v w ≡ true → (is_null v ≡ false) × (is_null w ≡ false) × (v ≡ w)
strong_entries_known Null w strong = absurd (both_ways false refl strong)
strong_entries_known (Integer x) Null strong = absurd (both_ways false refl strong)
strong_entries_known (Integer x) (Integer y) strong = (refl, refl, equal_from_same _ _ strong)
strong_entries_known (Integer x) (Text ys) strong = (refl, refl, equal_from_same _ _ strong)
strong_entries_known (Text xs) Null strong = absurd (both_ways false refl strong)
strong_entries_known (Text xs) (Integer y) strong = (refl, refl, equal_from_same _ _ strong)
strong_entries_known (Text xs) (Text ys) strong = (refl, refl, equal_from_same _ _ strong)

-- each kind's blank is a value of it
pub blank_known : (kind : Kind) → is_known_of kind (blank kind) ≡ true
blank_known kinds.Integer = refl
blank_known kinds.Text = refl

-- an entry is completed by itself, or by a known value where it is null
pub known_or_completes : (kind : Kind) (v other : Value) → (is_null v ≡ true → is_known_of kind other ≡ true) → CompletesEntry kind v (known_or v other)
known_or_completes kind Null other known = known refl
known_or_completes kind (Integer x) other known = refl
known_or_completes kind (Text xs) other known = refl

-- an entry of a kind, or its blank, is a known value of the kind
pub filled_known : (kind : Kind) (w : Value) → fits_kind kind w ≡ true → is_known_of kind (known_or w (blank kind)) ≡ true
filled_known kind Null fits = blank_known kind
filled_known kind (Integer y) fits = fits
filled_known kind (Text ys) fits = fits

-- weakly similar entries are filled alike from both sides
pub fill_entry_turned : (kind : Kind) (v w : Value) → weak_entries v w ≡ true → fill_entry kind v w ≡ fill_entry kind w v
fill_entry_turned kind Null Null weak = refl
fill_entry_turned kind Null (Integer y) weak = refl
fill_entry_turned kind Null (Text ys) weak = refl
fill_entry_turned kind (Integer x) Null weak = refl
fill_entry_turned kind (Integer x) (Integer y) weak = equal_from_same _ _ weak
fill_entry_turned kind (Integer x) (Text ys) weak = equal_from_same _ _ weak
fill_entry_turned kind (Text xs) Null weak = refl
fill_entry_turned kind (Text xs) (Integer y) weak = equal_from_same _ _ weak
fill_entry_turned kind (Text xs) (Text ys) weak = equal_from_same _ _ weak

-- a known entry is kept
pub known_or_kept : (v other : Value) → is_null v ≡ false → known_or v other ≡ v
known_or_kept Null other known = cc
known_or_kept (Integer x) other known = refl
known_or_kept (Text xs) other known = refl

-- How heavy an entry is: a number by its distance from 0, a text by its length. Equal entries are equally heavy.
abbrev pub weight : Value → ℕ
weight Null = 0
weight (Integer x) = nat_abs x
weight (Text xs) = length xs

-- a known value of a kind and a weight
abbrev pub fresh : Kind → ℕ → Value
fresh kinds.Integer n = Integer (pos n)
fresh kinds.Text n = Text (replicate n 97)

pub weight-fresh : (kind : Kind) (n : ℕ) → weight (fresh kind n) ≡ n
weight-fresh kinds.Integer n = refl
weight-fresh kinds.Text n = length-replicate n 97

pub fresh_known : (kind : Kind) (n : ℕ) → is_known_of kind (fresh kind n) ≡ true
fresh_known kinds.Integer n = refl
fresh_known kinds.Text n = letters n
  where
    letters : (n : ℕ) → are_bytes (replicate n 97) ≡ true
    letters zero = refl
    letters (suc n) = letters n

-- Entries are strongly similar that are equal once their nulls are replaced by values which are heavier than both, and of two
-- weights.
pub fresh_entries_strong :
    (kind : Kind) (v w : Value) (i j : ℕ) → weight v < i → weight w < i → i < j
    → known_or v (fresh kind i) ≡ known_or w (fresh kind j) → strong_entries v w ≡ true
fresh_entries_strong kind Null Null i j light_v light_w apart equal =
    let same : i ≡ j = sym (weight-fresh kind i) ∙ ap weight equal ∙ weight-fresh kind j in absurd (omega (arith, apart, same))
fresh_entries_strong kind Null (Integer y) i j light_v light_w apart equal =
    let same : i ≡ nat_abs y = sym (weight-fresh kind i) ∙ ap weight equal in absurd (omega (arith, light_w, same))
fresh_entries_strong kind Null (Text ys) i j light_v light_w apart equal =
    let same : i ≡ length ys = sym (weight-fresh kind i) ∙ ap weight equal in absurd (omega (arith, light_w, same))
fresh_entries_strong kind (Integer x) Null i j light_v light_w apart equal =
    let same : nat_abs x ≡ j = ap weight equal ∙ weight-fresh kind j in absurd (omega (arith, light_v, apart, same))
fresh_entries_strong kind (Integer x) (Integer y) i j light_v light_w apart equal = same_from_equal _ _ equal
fresh_entries_strong kind (Integer x) (Text ys) i j light_v light_w apart equal = same_from_equal _ _ equal
fresh_entries_strong kind (Text xs) Null i j light_v light_w apart equal =
    let same : length xs ≡ j = ap weight equal ∙ weight-fresh kind j in absurd (omega (arith, light_v, apart, same))
fresh_entries_strong kind (Text xs) (Integer y) i j light_v light_w apart equal = same_from_equal _ _ equal
fresh_entries_strong kind (Text xs) (Text ys) i j light_v light_w apart equal = same_from_equal _ _ equal
