-- Sets of columns, and what is outside them in a whole set.
use Rattle.std.proofs.Common.{◌≡◌, refl, sym, ◌∙◌, ap, subst, ℕ, ◌-◌, ◌^◌, ◌<◌, ◌≤◌, Bool, true, false, not, ◌&&◌, nat_lt, inl, inr, arith}
use Rattle.std.proofs.lemmas.Bool.{cases_lt, lt-ltb, le-ltb, and_parts}
use Rattle.std.proofs.lemmas.Nat.{and_le_l, pow_pos}
use Rattle.std.proofs.lemmas.Nat.Bits.{bit_at_ones, bit_at_ones_above}
use Rattle.pk_values.specs.ColumnSet.{IsColumnSet, has_column, is_subset}
use Rattle.pk_values.proofs.BitLemmas.{has_and_not}
use Rattle.pk_values.proofs.ColumnLemmas.{same_set, subset_members, subset_from_members, set_bounded, member_below}
use Rattle.pk_examples.specs.Family.{without}

pub subset_trans : (a b c : ℕ) → IsColumnSet a → IsColumnSet b → is_subset a b ≡ true → is_subset b c ≡ true → is_subset a c ≡ true
subset_trans a b c a_set b_set first second =
    subset_from_members a c (λ k holds. subset_members b c k b_set second (subset_members a b k a_set first holds))

pub without_most : (a b : ℕ) → without a b ≤ a
without_most a b = and_le_l a (4294967295 - b)

pub without_set : (a b : ℕ) → IsColumnSet a → IsColumnSet (without a b)
without_set a b a_set = let most = without_most a b in omega (arith, most, a_set)

twice : (whole part : Bool) → (part ≡ true → whole ≡ true) → (whole && not (whole && not part)) ≡ part
twice true true h = refl
twice true false h = refl
twice false true h = h refl
twice false false h = refl

-- what is outside of what is outside a part is the part
pub without_twice : (a b : ℕ) → IsColumnSet a → IsColumnSet b → is_subset b a ≡ true → without a (without a b) ≡ b
without_twice a b a_set b_set part =
    same_set (without a (without a b)) b (λ k. has_and_not a (without a b) k a_set (without_set a b a_set)
    ∙ ap (λ h. has_column a k && not h) (has_and_not a b k a_set b_set)
    ∙ twice (has_column a k) (has_column b k) (subset_members b a k b_set part))

pub at_most : (a b : ℕ) → IsColumnSet a → IsColumnSet b → is_subset a b ≡ true → a ≤ b
at_most a b a_set b_set part = subst (λ n. n ≤ b) (without_twice b a b_set a_set part) (without_most b (without b a))

pub without_part : (a b : ℕ) → IsColumnSet a → IsColumnSet b → is_subset (without a b) a ≡ true
without_part a b a_set b_set =
    subset_from_members (without a b) a (λ k holds. (and_parts (has_column a k) (not (has_column b k)) (sym (has_and_not a b k a_set b_set) ∙ holds)).0)

fewer : (whole less more : Bool) → (less ≡ true → more ≡ true) → (whole && not more) ≡ true → (whole && not less) ≡ true
fewer true false more up h = refl
fewer true true true up h = h
fewer true true false up h = up refl
fewer false less more up h = h

-- more is left outside a smaller set
pub without_more : (a b c : ℕ) → IsColumnSet a → IsColumnSet b → IsColumnSet c → is_subset b c ≡ true → is_subset (without a c) (without a b) ≡ true
without_more a b c a_set b_set c_set part =
    subset_from_members (without a c) (without a b) (λ k holds. has_and_not a b k a_set b_set
    ∙ fewer (has_column a k) (has_column b k) (has_column c k) (subset_members b c k b_set part) (sym (has_and_not a c k a_set c_set) ∙ holds))

-- ---- the first n columns

pub has_every : (n k : ℕ) → has_column (2 ^ n - 1) k ≡ nat_lt k n
has_every n k =
    elim (cases_lt k n) [
      | inl low ↦ rw (bit_at_ones n k low, lt-ltb k n low) refl
      | inr high ↦ rw (bit_at_ones_above n k high, le-ltb k n high) refl
    ]

all_below : (n : ℕ) → 2 ^ n - 1 < 2 ^ n
all_below n = let some = pow_pos n in omega (arith, some)

pub every_set : (n : ℕ) → n ≤ 32 → IsColumnSet (2 ^ n - 1)
every_set n few = set_bounded (2 ^ n - 1) n few (all_below n)

pub part_of_every : (n t : ℕ) → t < 2 ^ n → is_subset t (2 ^ n - 1) ≡ true
part_of_every n t below = subset_from_members t (2 ^ n - 1) (λ k holds. has_every n k ∙ lt-ltb k n (member_below t n k below holds))

pub below_every : (n t : ℕ) → n ≤ 32 → IsColumnSet t → is_subset t (2 ^ n - 1) ≡ true → t < 2 ^ n
below_every n t few t_set part = let most = at_most t (2 ^ n - 1) t_set (every_set n few) part in let less = all_below n in omega (arith, most, less)

-- what is outside of what is outside a set is in the set
pub without_cut : (a b : ℕ) → IsColumnSet a → IsColumnSet b → is_subset (without a (without a b)) b ≡ true
without_cut a b a_set b_set =
    subset_from_members (without a (without a b)) b (λ k holds. cut (has_column a k) (has_column b k)
    (sym (has_and_not a (without a b) k a_set (without_set a b a_set) ∙ ap (λ h. has_column a k && not h) (has_and_not a b k a_set b_set)) ∙ holds))
  where
    cut : (whole part : Bool) → (whole && not (whole && not part)) ≡ true → part ≡ true
    cut true true h = refl
    cut true false h = h
    cut false part h = cc
