-- The bytes of values tell the values.
use Rattle.std.proofs.Common.{◌≡◌, refl, sym, ◌∙◌, ap, ℕ, ◌<◌, ◌^◌, ℤ, pos, negsuc, List, [], ◌∷◌, ◌++◌, length, arith, to_z-of_z}
use Rattle.std.specs.Prelude.{FitsSigned}
use Rattle.std.specs.Int.{w64, cast_unsigned, cast_signed, to_be_bytes, from_be_bytes}
use Rattle.std.proofs.lemmas.Nat.{from_be_bytes-to_be_bytes_8}
use Rattle.pk_values.specs.declared.value.Value.{Value}
use Rattle.pk_values.specs.declared.value.Value.TheVariants.{Null, Integer, Text}
use Rattle.pk_values.specs.Values.{IsStorable}
use Rattle.pk_values.specs.Records.{value_record, row_record, AreStorable}

-- two fronts of one length are the same where the lists are, and so are the rests
pub same_fronts : (a b xs ys : List ℕ) → length a ≡ length b → a ++ xs ≡ b ++ ys → (a ≡ b) × (xs ≡ ys)
same_fronts [] [] xs ys len same = (refl, same)
same_fronts [] (y ∷ b) xs ys len same = absurd (omega (arith, len))
same_fronts (x ∷ a) [] xs ys len same = absurd (omega (arith, len))
same_fronts (x ∷ a) (y ∷ b) xs ys len same =
    let head : x ≡ y = cc in
    let tail : a ++ xs ≡ b ++ ys = cc in
    let rest = same_fronts a b xs ys (omega (arith, len)) tail in
    (ap (λ z. z ∷ a) head ∙ ap (λ zs. y ∷ zs) rest.0, rest.1)

number_fits : (z : ℤ) → FitsSigned w64 z → cast_unsigned w64 z < 2 ^ 64
number_fits (pos n) fits = omega (arith, fits)
number_fits (negsuc n) fits = omega (arith, fits)

-- two numbers of 64 bits with the same bytes are one
same_numbers : (x y : ℤ) → FitsSigned w64 x → FitsSigned w64 y
    → to_be_bytes w64 (cast_unsigned w64 x) ≡ to_be_bytes w64 (cast_unsigned w64 y) → x ≡ y
same_numbers x y x_fits y_fits same =
    let bits : cast_unsigned w64 x ≡ cast_unsigned w64 y =
    sym (from_be_bytes-to_be_bytes_8 (cast_unsigned w64 x) (number_fits x x_fits)) ∙ ap (from_be_bytes w64) same
    ∙ from_be_bytes-to_be_bytes_8 (cast_unsigned w64 y) (number_fits y y_fits) in
    sym (to_z-of_z x_fits) ∙ ap (cast_signed w64) bits ∙ to_z-of_z y_fits

-- the bytes of a value tell it, and where they end
pub value_records_end : (v w : Value) (xs ys : List ℕ) → IsStorable v → IsStorable w
    → value_record v ++ xs ≡ value_record w ++ ys → (v ≡ w) × (xs ≡ ys)
value_records_end Null Null xs ys _ _ same = (refl, cc)
value_records_end Null (Integer y) xs ys _ _ same = absurd cc
value_records_end Null (Text b) xs ys _ _ same = absurd cc
value_records_end (Integer x) Null xs ys _ _ same = absurd cc
value_records_end (Integer x) (Integer y) xs ys x_fits y_fits same =
    let behind : to_be_bytes w64 (cast_unsigned w64 x) ++ xs ≡ to_be_bytes w64 (cast_unsigned w64 y) ++ ys = cc in
    let parts = same_fronts (to_be_bytes w64 (cast_unsigned w64 x)) (to_be_bytes w64 (cast_unsigned w64 y)) xs ys refl behind in
    (ap (λ z. Integer z) (same_numbers x y x_fits y_fits parts.0), parts.1)
value_records_end (Integer x) (Text b) xs ys _ _ same = absurd cc
value_records_end (Text a) Null xs ys _ _ same = absurd cc
value_records_end (Text a) (Integer y) xs ys _ _ same = absurd cc
value_records_end (Text a) (Text b) xs ys _ _ same =
    let len : length a ≡ length b = cc in
    let behind : a ++ xs ≡ b ++ ys = cc in
    let parts = same_fronts a b xs ys len behind in
    (ap (λ z. Text z) parts.0, parts.1)

nothing_begins : (v : Value) (xs : List ℕ) → [] ≡ value_record v ++ xs → ⊥
nothing_begins Null xs same = cc
nothing_begins (Integer z) xs same = cc
nothing_begins (Text bytes) xs same = cc

-- rows with the same bytes are equal
pub row_records_differ : (a b : List Value) → AreStorable a → AreStorable b → row_record a ≡ row_record b → a ≡ b
row_records_differ [] [] _ _ same = refl
row_records_differ [] (w ∷ ws) _ _ same = absurd (nothing_begins w (row_record ws) same)
row_records_differ (v ∷ vs) [] _ _ same = absurd (nothing_begins v (row_record vs) (sym same))
row_records_differ (v ∷ vs) (w ∷ ws) a b same =
    let parts = value_records_end v w (row_record vs) (row_record ws) a.0 b.0 same in
    ap (λ z. z ∷ vs) parts.0 ∙ ap (λ zs. w ∷ zs) (row_records_differ vs ws a.1 b.1 parts.1)
