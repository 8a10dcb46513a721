-- The marks of a possible key, and the bytes for them.
use Rattle.std.proofs.Common.{◌≡◌, refl, sym, ◌∙◌, ap, subst, Bool, true, false, not, cond, ◌&&◌, ℕ, List, [], ◌∷◌, Option, Some, None, length, arith}
use Rattle.std.specs.Str.{bytes_eq}
use Rattle.std.proofs.lemmas.Bool.{and_parts, false≢true}
use Rattle.std.proofs.lemmas.Slice.Eq.{bytes_eq-Decides}
use Rattle.std.proofs.Math.Bool.{and-false}
use Rattle.pk_values.specs.declared.value.Value.{Value}
use Rattle.pk_values.specs.declared.value.Value.TheVariants.{Null, Integer, Text}
use Rattle.pk_values.specs.Values.{same_value, is_null}
use Rattle.pk_values.specs.Records.{value_record, row_record, AreStorable}
use Rattle.pk_values.proofs.RecordLemmas.{row_records_differ}
use Rattle.pk_values.proofs.ValueOrder.{equal_from_same, same_from_equal}
use Rattle.pk_similar.specs.Similarity.{strong_entries}
use Rattle.pk_index.specs.Rows.{are_known, mark_of, all_strong, same_values, same_mark}
use Rattle.pk_index.specs.Filing.{mark_record}

same_lists : (vs ws : List Value) → same_values vs ws ≡ true → vs ≡ ws
same_lists [] [] same = refl
same_lists [] (w ∷ ws) same = absurd (false≢true same)
same_lists (v ∷ vs) [] same = absurd (false≢true same)
same_lists (v ∷ vs) (w ∷ ws) same =
    let parts = and_parts _ _ same in
    ap (λ z. z ∷ vs) (equal_from_same v w parts.0) ∙ ap (λ zs. w ∷ zs) (same_lists vs ws parts.1)

lists_same : (vs : List Value) → same_values vs vs ≡ true
lists_same [] = refl
lists_same (v ∷ vs) = ap (λ b. b && same_values vs vs) (same_from_equal v v refl) ∙ lists_same vs

both_true : (a b : Bool) → (a ≡ true → b ≡ true) → (b ≡ true → a ≡ true) → a ≡ b
both_true true b there back = sym (there refl)
both_true false true there back = back refl
both_true false false there back = refl

-- rows have the same bytes just where they have the same values
same_records : (vs ws : List Value) → AreStorable vs → AreStorable ws → bytes_eq (row_record vs) (row_record ws) ≡ same_values vs ws
same_records vs ws v_fits w_fits =
    both_true (bytes_eq (row_record vs) (row_record ws)) (same_values vs ws)
    (λ same. subst (λ z. same_values vs z ≡ true) (row_records_differ vs ws v_fits w_fits ((bytes_eq-Decides (row_record vs) (row_record ws)).0 same)) (lists_same vs))
    (λ same. subst (λ z. bytes_eq (row_record vs) (row_record z) ≡ true) (same_lists vs ws same) (same_bytes (row_record vs))) where
      same_bytes : (bytes : List ℕ) → bytes_eq bytes bytes ≡ true
      same_bytes bytes = (bytes_eq-Decides bytes bytes).1 refl

-- known values have other bytes than the mark
known_differ : (vs : List Value) → are_known vs ≡ true → bytes_eq (row_record vs) (value_record Null) ≡ false
known_differ [] known = refl
known_differ (Null ∷ vs) known = absurd (false≢true known)
known_differ (Integer z ∷ vs) known = refl
known_differ (Text bytes ∷ vs) known = refl

mark_differs : (vs : List Value) → are_known vs ≡ true → bytes_eq (value_record Null) (row_record vs) ≡ false
mark_differs [] known = refl
mark_differs (Null ∷ vs) known = absurd (false≢true known)
mark_differs (Integer z ∷ vs) known = refl
mark_differs (Text bytes ∷ vs) known = refl

-- beside known values the same is strongly similar
known_strong : (v w : Value) → is_null w ≡ false → same_value v w ≡ strong_entries v w
unfolding same_value
known_strong v Null known = absurd (false≢true (sym known))
known_strong Null (Integer y) known = refl
known_strong Null (Text y) known = refl
known_strong (Integer x) (Integer y) known = refl
known_strong (Integer x) (Text y) known = refl
known_strong (Text x) (Integer y) known = refl
known_strong (Text x) (Text y) known = refl

not_true : (b : Bool) → not b ≡ true → b ≡ false
not_true true is = sym is
not_true false is = refl

all_known_strong : (vs ws : List Value) → length vs ≡ length ws → are_known ws ≡ true → same_values vs ws ≡ all_strong vs ws
all_known_strong [] [] len known = refl
all_known_strong [] (w ∷ ws) len known = absurd (omega (arith, len))
all_known_strong (v ∷ vs) [] len known = absurd (omega (arith, len))
all_known_strong (v ∷ vs) (w ∷ ws) len known =
    let parts = and_parts _ _ known in
    ap (λ b. b && same_values vs ws) (known_strong v w (not_true (is_null w) parts.0))
    ∙ ap (λ b. strong_entries v w && b) (all_known_strong vs ws (omega (arith, len)) parts.1)

-- the values of a mark are those of a row
abbrev pub IsFitting : Option (List Value) → Type 0
IsFitting None = Unit {0}
IsFitting (Some vs) = AreStorable vs × (are_known vs ≡ true)

-- marks have the same bytes just where they are the same
pub same_marks : (m : Option (List Value)) (ws : List Value) → IsFitting m → AreStorable ws → bytes_eq (mark_record m) (mark_record (mark_of ws)) ≡ same_mark m (mark_of ws)
same_marks m ws m_fits w_fits = by_known m m_fits (are_known ws) refl where
  by_known : (m : Option (List Value)) → IsFitting m → (t : Bool) → are_known ws ≡ t
      → bytes_eq (mark_record m) (mark_record (cond t (Some ws) None)) ≡ same_mark m (cond t (Some ws) None)
  by_known None fits true known = mark_differs ws known
  by_known None fits false _ = refl
  by_known (Some vs) fits true known = same_records vs ws fits.0 w_fits
  by_known (Some vs) fits false _ = known_differ vs fits.1

-- the mark is strongly similar to the values
abbrev pub strong_mark : Option (List Value) → List Value → Bool
strong_mark None ws = false
strong_mark (Some vs) ws = all_strong vs ws

-- a mark has the bytes of a known probe just where it is strongly similar
pub strong_marks : (m : Option (List Value)) (ws : List Value) → IsFitting m → ((vs : List Value) → m ≡ Some vs → length vs ≡ length ws) → AreStorable ws → are_known ws ≡ true
    → bytes_eq (mark_record m) (row_record ws) ≡ strong_mark m ws
strong_marks None ws fits len w_fits known = mark_differs ws known
strong_marks (Some vs) ws fits len w_fits known = same_records vs ws fits.0 w_fits ∙ all_known_strong vs ws (len vs refl) known

-- what isn't known is strongly similar to nothing
pub unknown_strong : (vs ws : List Value) → length vs ≡ length ws → are_known ws ≡ false → all_strong vs ws ≡ false
unknown_strong [] [] len unknown = absurd (false≢true (sym unknown))
unknown_strong [] (w ∷ ws) len unknown = absurd (omega (arith, len))
unknown_strong (v ∷ vs) [] len unknown = absurd (omega (arith, len))
unknown_strong (v ∷ vs) (w ∷ ws) len unknown = by_first (is_null w) refl (λ rest. unknown_strong vs ws (omega (arith, len)) rest) unknown where
  null_strong : (v w : Value) → is_null w ≡ true → strong_entries v w ≡ false
  null_strong Null w null = refl
  null_strong (Integer x) Null null = refl
  null_strong (Text x) Null null = refl
  null_strong v (Integer y) null = absurd (false≢true null)
  null_strong v (Text y) null = absurd (false≢true null)

  by_first : (t : Bool) → is_null w ≡ t → (are_known ws ≡ false → all_strong vs ws ≡ false) → (not t && are_known ws) ≡ false → (strong_entries v w && all_strong vs ws) ≡ false
  by_first true null rest unknown = ap (λ b. b && all_strong vs ws) (null_strong v w null)
  by_first false known rest unknown = ap (λ b. strong_entries v w && b) (rest unknown) ∙ and-false (strong_entries v w)
