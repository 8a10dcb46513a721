-- Of two sets with as many columns, the one with the first column at which they differ has the lesser list.
use Rattle.std.proofs.Common.{◌≡◌, refl, sym, ◌∙◌, ap, subst, ℕ, zero, suc, ◌+◌, ◌<◌, ◌≤◌, ◌%◌, Bool, true, false, cond, ◌==◌, List, [], ◌∷◌, length, inl, inr, bit_xor, arith}
use Rattle.std.specs.Int.{bit_at, trailing_zeros, w32}
use Rattle.std.specs.List.{filter, range_with_len, AllByRecursion}
use Rattle.std.specs.Ordering.{nat_cmp, ordering_then, ordering_reverse, on, then_cmp}
use Rattle.std.specs.Cmp.Lexicographic.{slice_cmp}
use Rattle.std.specs.declared.cmp.Ordering.{Ordering}
use Rattle.std.specs.declared.cmp.Ordering.TheVariants.{Less, Equal, Greater}
use Rattle.std.proofs.lemmas.Bool.{cases_eq}
use Rattle.std.proofs.lemmas.Cmp.{nat_cmp_total, nat_list_cmp_total, tied_itself, on_total, then_total}
use Rattle.std.specs.Cmp.{IsTotalOrder}
use Rattle.std.proofs.lemmas.Map.Lookups.{exact_bytes}
use Rattle.std.proofs.lemmas.Nat.{xor_of_32}
use Rattle.std.proofs.lemmas.Nat.Bits.{bit_at_xor, bit_at-lt, bit_at-zero, bit_at-trailing_zeros, same_from_bits}
use Rattle.pk_values.specs.ColumnSet.{IsColumnSet, has_column, columns, column_set_cmp}
use Rattle.pk_values.proofs.ColumnLemmas.{set_from_columns}
use Rattle.pk_values.proofs.RangeLemmas.{kept_from}

-- a list that is not empty and whose numbers are above t comes after one that begins with t
begins_lower : (t : ℕ) (xs ys : List ℕ) → AllByRecursion (λ y. nat_cmp t y ≡ Less) ys → length (t ∷ xs) ≡ length ys
    → slice_cmp nat_cmp (t ∷ xs) ys ≡ Less
begins_lower t xs [] above as_long = absurd (omega (arith, as_long))
begins_lower t xs (y ∷ ys) above as_long = rw above.0 refl

at_first : (p q : ℕ → Bool) (a m : ℕ) → p a ≡ true → q a ≡ false
    → length (filter p (range_with_len a (suc m))) ≡ length (filter q (range_with_len a (suc m)))
    → slice_cmp nat_cmp (filter p (range_with_len a (suc m))) (filter q (range_with_len a (suc m))) ≡ Less
at_first p q a m passes fails as_long =
    rw (passes, fails)
    (begins_lower a (filter p (range_with_len (a + 1) m)) (filter q (range_with_len (a + 1) m)) (kept_from q (a + 1) m a (omega arith))
    (subst (λ y. length (a ∷ filter p (range_with_len (a + 1) m)) ≡ length (cond y (a ∷ filter q (range_with_len (a + 1) m)) (filter q (range_with_len (a + 1) m)))) fails
    (subst (λ x. length (cond x (a ∷ filter p (range_with_len (a + 1) m)) (filter p (range_with_len (a + 1) m))) ≡ length (filter q (range_with_len a (suc m)))) passes as_long)))

suc_same : {m n : ℕ} → suc m ≡ suc n → m ≡ n
suc_same same = omega (arith, same)

both_true : (x y : Bool) → x ≡ true → y ≡ true → (a : ℕ) (xs ys : List ℕ)
    → length (cond x (a ∷ xs) xs) ≡ length (cond y (a ∷ ys) ys) → suc (length xs) ≡ suc (length ys)
both_true true true _ _ a xs ys as_long = as_long
both_true true false _ other a xs ys as_long = cc
both_true false y other _ a xs ys as_long = cc

both_false : (x y : Bool) → x ≡ false → y ≡ false → (a : ℕ) (xs ys : List ℕ)
    → length (cond x (a ∷ xs) xs) ≡ length (cond y (a ∷ ys) ys) → length xs ≡ length ys
both_false false false _ _ a xs ys as_long = as_long
both_false false true _ other a xs ys as_long = cc
both_false true y other _ a xs ys as_long = cc

further : (p q : ℕ → Bool) (a m : ℕ) (x : Bool) → p a ≡ x → q a ≡ p a
    → length (filter p (range_with_len a (suc m))) ≡ length (filter q (range_with_len a (suc m)))
    → (length (filter p (range_with_len (a + 1) m)) ≡ length (filter q (range_with_len (a + 1) m))
    → slice_cmp nat_cmp (filter p (range_with_len (a + 1) m)) (filter q (range_with_len (a + 1) m)) ≡ Less)
    → slice_cmp nat_cmp (filter p (range_with_len a (suc m))) (filter q (range_with_len a (suc m))) ≡ Less
further p q a m true p_is q_is as_long later =
    let q_too : q a ≡ true = q_is ∙ p_is in
    rw (p_is, q_too, tied_itself nat_cmp_total a)
    (later (suc_same (both_true (p a) (q a) p_is q_too a (filter p (range_with_len (a + 1) m)) (filter q (range_with_len (a + 1) m)) as_long)))
further p q a m false p_is q_is as_long later =
    let q_too : q a ≡ false = q_is ∙ p_is in
    rw (p_is, q_too)
    (later (both_false (p a) (q a) p_is q_too a (filter p (range_with_len (a + 1) m)) (filter q (range_with_len (a + 1) m)) as_long))

-- where two tests keep as many numbers and first differ at t, the one that keeps t has the lesser list
pub lesser_kept : (p q : ℕ → Bool) (a m t : ℕ) → a ≤ t → t < a + m → ((k : ℕ) → k < t → p k ≡ q k) → p t ≡ true → q t ≡ false
    → length (filter p (range_with_len a m)) ≡ length (filter q (range_with_len a m))
    → slice_cmp nat_cmp (filter p (range_with_len a m)) (filter q (range_with_len a m)) ≡ Less
lesser_kept p q a zero t from before same passes fails as_long = absurd (omega (arith, from, before))
lesser_kept p q a (suc m) t from before same passes fails as_long =
    elim (cases_eq a t) [
      | inl here ↦
          at_first p q a m (subst (λ k. p k ≡ true) (sym here) passes) (subst (λ k. q k ≡ false) (sym here) fails) as_long
      | inr other ↦
          further p q a m (p a) refl (sym (same a (omega (arith, from, other)))) as_long
          (lesser_kept p q (a + 1) m t (omega (arith, from, other)) (omega (arith, before)) same passes fails)
    ]

same_digits : (x y : ℕ) → x < 2 → y < 2 → (x + y) % 2 ≡ 0 → x ≡ y
same_digits zero zero _ _ _ = refl
same_digits (suc zero) (suc zero) _ _ _ = refl
same_digits zero (suc zero) _ _ even = cc
same_digits (suc zero) zero _ _ even = cc
same_digits (suc (suc x)) y low _ _ = absurd (omega (arith, low))
same_digits x (suc (suc y)) _ low _ = absurd (omega (arith, low))

pub column_set_cmp_total : IsTotalOrder column_set_cmp
column_set_cmp_total =
    then_total (on_total (λ set. length (columns set)) nat_cmp_total) (then_total (on_total columns nat_list_cmp_total) nat_cmp_total)

-- sets that differ in no digit are one, and tied
pub same_tied : (a b : ℕ) → bit_xor a b ≡ 0 → column_set_cmp a b ≡ Equal
same_tied a b none =
    let same : a ≡ b = same_from_bits a b (λ k. same_digits (bit_at a k) (bit_at b k) (bit_at-lt a k) (bit_at-lt b k)
    (sym (bit_at_xor a b k) ∙ ap (λ n. bit_at n k) none ∙ bit_at-zero k)) in
    subst (λ set. column_set_cmp a set ≡ Equal) same
    (tied_itself column_set_cmp_total a)

-- the place of the lowest digit at which two numbers differ
pub differing_lowest : (a b : ℕ) → IsColumnSet a → IsColumnSet b → (bit_xor a b ≡ 0 → ⊥)
    → (trailing_zeros w32 (bit_xor a b) < 32)
    × (bit_at (bit_xor a b) (trailing_zeros w32 (bit_xor a b)) ≡ 1)
    × ((k : ℕ) → k < trailing_zeros w32 (bit_xor a b) → has_column a k ≡ has_column b k)
differing_lowest a b a_set b_set differ =
    let lowest = bit_at-trailing_zeros w32 (bit_xor a b) (omega (arith, differ)) (xor_of_32 a b a_set b_set) in
    (lowest.0, lowest.1, λ k low. ap (λ n. n == 1) (same_digits (bit_at a k) (bit_at b k) (bit_at-lt a k) (bit_at-lt b k) (sym (bit_at_xor a b k) ∙ lowest.2 k low)))

other_digit : (x y : ℕ) → x < 2 → y < 2 → (x + y) % 2 ≡ 1 → ((x == 1) ≡ true → (y == 1) ≡ false) × ((x == 1) ≡ false → (y == 1) ≡ true)
other_digit zero zero _ _ odd = cc
other_digit (suc zero) (suc zero) _ _ odd = cc
other_digit zero (suc zero) _ _ odd = (λ h. sym h, λ h. refl)
other_digit (suc zero) zero _ _ odd = (λ h. refl, λ h. sym h)
other_digit (suc (suc x)) y low _ _ = absurd (omega (arith, low))
other_digit x (suc (suc y)) _ low _ = absurd (omega (arith, low))

lesser_columns : (a b t : ℕ) → t < 32 → ((k : ℕ) → k < t → has_column a k ≡ has_column b k) → has_column a t ≡ true → has_column b t ≡ false
    → length (columns a) ≡ length (columns b) → slice_cmp nat_cmp (columns a) (columns b) ≡ Less
unfolding columns
lesser_columns a b t low same holds fails as_long =
    lesser_kept (has_column a) (has_column b) 0 32 t (omega arith) (omega (arith, low)) same holds fails as_long

-- sets of one size are ordered as their lists are, where these differ
by_columns : (a b : ℕ) (o : Ordering) → length (columns a) ≡ length (columns b) → slice_cmp nat_cmp (columns a) (columns b) ≡ o
    → column_set_cmp a b ≡ ordering_then o (nat_cmp a b)
by_columns a b o as_long decides = rw (as_long, tied_itself nat_cmp_total (length (columns b)), decides) refl

-- the set that has the lowest column at which they differ comes first
pub has_lowest_first : (a b : ℕ) → IsColumnSet a → IsColumnSet b → (bit_xor a b ≡ 0 → ⊥) → length (columns a) ≡ length (columns b)
    → has_column a (trailing_zeros w32 (bit_xor a b)) ≡ true → column_set_cmp a b ≡ Less
has_lowest_first a b a_set b_set differ as_long holds =
    let lowest = differing_lowest a b a_set b_set differ in
    let t = trailing_zeros w32 (bit_xor a b) in
    let digits = other_digit (bit_at a t) (bit_at b t) (bit_at-lt a t) (bit_at-lt b t) (sym (bit_at_xor a b t) ∙ lowest.1) in
    by_columns a b Less as_long (lesser_columns a b t lowest.0 lowest.2 holds (digits.0 holds) as_long)

pub lacks_lowest_last : (a b : ℕ) → IsColumnSet a → IsColumnSet b → (bit_xor a b ≡ 0 → ⊥) → length (columns a) ≡ length (columns b)
    → has_column a (trailing_zeros w32 (bit_xor a b)) ≡ false → column_set_cmp a b ≡ Greater
lacks_lowest_last a b a_set b_set differ as_long fails =
    let lowest = differing_lowest a b a_set b_set differ in
    let t = trailing_zeros w32 (bit_xor a b) in
    let digits = other_digit (bit_at a t) (bit_at b t) (bit_at-lt a t) (bit_at-lt b t) (sym (bit_at_xor a b t) ∙ lowest.1) in
    by_columns a b Greater as_long
    (nat_list_cmp_total.antisymm (columns a) (columns b)
    ∙ ap ordering_reverse (lesser_columns b a t lowest.0 (λ k low. sym (lowest.2 k low)) (digits.1 fails) fails (sym as_long)))

-- sets that their lists tie are one, so the numbers decide nothing
pub numbers_decide_nothing : (a b : ℕ) → IsColumnSet a → IsColumnSet b
    → column_set_cmp a b ≡ then_cmp (on (λ set. length (columns set)) nat_cmp) (on columns (slice_cmp nat_cmp)) a b
numbers_decide_nothing a b a_set b_set =
    ap (ordering_then (nat_cmp (length (columns a)) (length (columns b))))
    (undecided (slice_cmp nat_cmp (columns a) (columns b)) (λ tied. set_from_columns a b a_set b_set (exact_bytes (columns a) (columns b) tied)))
  where
    undecided : (o : Ordering) → (o ≡ Equal → a ≡ b) → ordering_then o (nat_cmp a b) ≡ o
    undecided Less one = refl
    undecided Greater one = refl
    undecided Equal one = subst (λ set. nat_cmp a set ≡ Equal) (one refl) (tied_itself nat_cmp_total a)
