-- The bits of the code's numbers are the columns of its sets.
use Rattle.std.proofs.Common.{◌≡◌, refl, sym, ◌∙◌, ap, subst, ℕ, zero, suc, ◌+◌, ◌-◌, ◌*◌, ◌/◌, ◌%◌, ◌^◌, ◌<◌, ◌≤◌, min, max, cond, false, not, ◌&&◌, ◌||◌, ◌==◌, inl, inr, nat_lt, bit_and, bit_or, arith, List, ◌∷◌, length}
use Rattle.std.specs.Int.{bit_at, w32}
use Rattle.std.specs.List.{filter, range_with_len}
use Rattle.std.proofs.lemmas.Bool.{cases_lt, cases_eq, eq-eqb, ne_eqb, lt-ltb, le-ltb}
use Rattle.std.proofs.lemmas.Nat.{ones_cat, div_below, mod_below, div-add-mod'}
use Rattle.std.proofs.Math.Nat.{div-div-eq-div-mul, div-one, pow-suc}
use Rattle.std.specs.Int.Count.{ones, ones-ones}
use Rattle.std.proofs.lemmas.Nat.Bits.{bit_at_and, bit_at_or, bit_at_not, bit_at-lt, bit_at_above, bit_at-zero, bit_at_set_same, bit_at_set_other, bit_at_clear_same, bit_at_clear_other, bit_at_ones, bit_at_ones_above, ones_shr}
use Rattle.pk_values.specs.ColumnSet.{IsColumnSet, has_column}

either_digit : (x y : ℕ) → x < 2 → y < 2 → (max x y == 1) ≡ (x == 1 || y == 1)
either_digit zero zero _ _ = refl
either_digit zero (suc zero) _ _ = refl
either_digit (suc zero) zero _ _ = refl
either_digit (suc zero) (suc zero) _ _ = refl
either_digit (suc (suc x)) y low _ = absurd (omega (arith, low))
either_digit x (suc (suc y)) _ low = absurd (omega (arith, low))

first_only : (x y : ℕ) → x < 2 → y < 2 → (min x (1 - y) == 1) ≡ (x == 1 && not (y == 1))
first_only zero zero _ _ = refl
first_only zero (suc zero) _ _ = refl
first_only (suc zero) zero _ _ = refl
first_only (suc zero) (suc zero) _ _ = refl
first_only (suc (suc x)) y low _ = absurd (omega (arith, low))
first_only x (suc (suc y)) _ low = absurd (omega (arith, low))

none_first : (y : ℕ) → (min 0 y == 1) ≡ false
none_first y = let none : min 0 y ≡ 0 = omega arith in rw none refl

-- no set has a column from 32 on
pub has_none_above : (set k : ℕ) → IsColumnSet set → 32 ≤ k → has_column set k ≡ false
has_none_above set k bounded high = rw (bit_at_above set 32 k bounded high) refl

pub has_nothing : (k : ℕ) → has_column 0 k ≡ false
has_nothing k = rw (bit_at-zero k) refl

pub has_or : (a b k : ℕ) → has_column (bit_or a b) k ≡ (has_column a k || has_column b k)
has_or a b k = rw (bit_at_or a b k) (either_digit (bit_at a k) (bit_at b k) (bit_at-lt a k) (bit_at-lt b k))

-- `a & !b`
pub has_and_not : (a b k : ℕ) → IsColumnSet a → IsColumnSet b → has_column (bit_and a (4294967295 - b)) k ≡ (has_column a k && not (has_column b k))
has_and_not a b k a_set b_set =
    elim (cases_lt k 32) [
      | inl low ↦ rw (bit_at_and a (4294967295 - b) k, bit_at_not w32 b k b_set low)
          (first_only (bit_at a k) (bit_at b k) (bit_at-lt a k) (bit_at-lt b k))
      | inr high ↦ rw (bit_at_and a (4294967295 - b) k, bit_at_above a 32 k a_set high) (none_first (bit_at (4294967295 - b) k))
    ]

-- `set | 1 << c`
pub has_with : (set c k : ℕ) → c < 32 → has_column (bit_or set (1 * 2 ^ c % 4294967296)) k ≡ (k == c || has_column set k)
has_with set c k low =
    elim (cases_eq k c) [
      | inl same ↦ subst (λ j. has_column (bit_or set (1 * 2 ^ c % 4294967296)) j ≡ (j == c || has_column set j)) (sym same)
          (rw (bit_at_set_same w32 set c low, eq-eqb c c refl) refl)
      | inr other ↦ rw (bit_at_set_other w32 set c low k other, ne_eqb k c other) refl
    ]

-- `set & !(1 << c)`
pub has_without : (set c k : ℕ) → IsColumnSet set → c < 32
    → has_column (bit_and set (4294967295 - 1 * 2 ^ c % 4294967296)) k ≡ (not (k == c) && has_column set k)
has_without set c k bounded low =
    elim (cases_eq k c) [
      | inl same ↦ subst (λ j. has_column (bit_and set (4294967295 - 1 * 2 ^ c % 4294967296)) j ≡ (not (j == c) && has_column set j)) (sym same)
          (rw (bit_at_clear_same w32 set c low, eq-eqb c c refl) refl)
      | inr other ↦ elim (cases_lt k 32) [
        | inl below ↦ rw (bit_at_clear_other w32 set c low k below other, ne_eqb k c other) refl
        | inr above ↦ rw (bit_at_and set (4294967295 - 1 * 2 ^ c % 4294967296) k, bit_at_above set 32 k bounded above, ne_eqb k c other)
            (none_first (bit_at (4294967295 - 1 * 2 ^ c % 4294967296) k))
      ]
    ]

-- `MAX >> (32 - n)`
pub has_below : (n k : ℕ) → n ≤ 32 → has_column (4294967295 / 2 ^ (32 - n)) k ≡ nat_lt k n
has_below n k most =
    let back : 32 - (32 - n) ≡ n = omega (arith, most) in
    let number : 4294967295 / 2 ^ (32 - n) ≡ 2 ^ n - 1 = ones_shr 32 (32 - n) (omega arith) ∙ ap (λ m. 2 ^ m - 1) back in
    rw number (elim (cases_lt k n) [
      | inl low ↦ rw (bit_at_ones n k low, lt-ltb k n low) refl
      | inr high ↦ rw (bit_at_ones_above n k high, le-ltb k n high) refl
    ])

one_digit : (digit a : ℕ) (xs : List ℕ) → digit < 2 → length (cond (digit == 1) (a ∷ xs) xs) ≡ length xs + ones digit
one_digit zero a xs _ = rw (ones-ones 0) (omega arith)
one_digit (suc zero) a xs _ = rw (ones-ones 1) (omega arith)
one_digit (suc (suc digit)) a xs low = absurd (omega (arith, low))

-- how many columns a range finds in a set is how many ones the number has there
ones_kept : (set i d x : ℕ) → set / 2 ^ i ≡ x → x < 2 ^ d → length (filter (has_column set) (range_with_len i d)) ≡ ones x
ones_kept set i zero x here low = let none : x ≡ 0 = omega (arith, low) in rw none (sym (ones-ones 0))
ones_kept set i (suc d) x here low =
    let half : set / 2 ^ (i + 1) ≡ x / 2 =
    ap (λ n. set / n) (ap (λ n. 2 ^ n) (omega arith) ∙ pow-suc 2 i) ∙ sym (div-div-eq-div-mul set (2 ^ i) 2) ∙ ap (λ n. n / 2) here in
    let small : x / 2 < 2 ^ d = div_below x 2 (2 ^ d) (omega arith) (subst (λ n. x < n) (pow-suc 2 d) low) in
    let rest = ones_kept set (i + 1) d (x / 2) half small in
    let digit : x % 2 < 2 = mod_below x 2 (omega arith) in
    let split : ones x ≡ ones (x / 2) + ones (x % 2) = ap ones (sym (div-add-mod' x 2)) ∙ ones_cat 1 (x / 2) (x % 2) digit in
    rw here (one_digit (x % 2) i (filter (has_column set) (range_with_len (i + 1) d)) digit)
    ∙ ap (λ n. n + ones (x % 2)) rest ∙ sym split

pub length_columns : (set : ℕ) → IsColumnSet set → length (filter (has_column set) (range_with_len 0 32)) ≡ ones set
length_columns set bounded = ones_kept set 0 32 set (div-one set) bounded
