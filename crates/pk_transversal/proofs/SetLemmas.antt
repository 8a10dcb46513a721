-- Inclusion of sets of columns, and what two sets share.
use Rattle.std.proofs.Common.{◌≡◌, ◌⊎◌, refl, sym, ◌∙◌, ap, subst, ℕ, zero, suc, ◌<◌, ◌≤◌, ◌+◌, ◌^◌, min, Bool, true, false, cond, ◌&&◌, ◌||◌, ◌==◌, List, [], ◌∷◌, ◌++◌, length, take, get_or, inl, inr, bit_and, arith}
use Rattle.std.specs.List.{All, Contains, filter, range_with_len}
use Rattle.std.specs.Int.{bit_at}
use Rattle.std.specs.Cmp.{both_ways}
use Rattle.std.specs.Ordering.{nat_cmp, ordering_then}
use Rattle.std.specs.declared.cmp.Ordering.{Ordering}
use Rattle.std.specs.declared.cmp.Ordering.TheVariants.{Less, Greater}
use Rattle.std.proofs.lemmas.Bool.{cases_eq, and_parts, eq-eqb, eqb-true, ne_eqb, or_cases, or_left, or_right, le-ltb}
use Rattle.std.proofs.lemmas.Nat.{and_le_r, or_of_32}
use Rattle.std.proofs.lemmas.Nat.Bits.{bit_at_and, bit_at-lt, bit_at-pow_same, bit_at-pow_other}
use Rattle.std.proofs.lemmas.List.{take_more}
use Rattle.std.proofs.lemmas.List.Elements.{All-more}
use Rattle.std.proofs.Math.Bool.{or_comm}
use Rattle.std.proofs.Math.Pow.{pow_mono}
use Rattle.pk_values.specs.ColumnSet.{IsColumnSet, has_column, columns, is_subset, column_set_cmp}
use Rattle.pk_values.proofs.BitLemmas.{has_or}
use Rattle.pk_values.proofs.ColumnLemmas.{subset_members, subset_from_members, same_set, set_from_columns, listed_columns}
use Rattle.pk_transversal.specs.Steps.{with_column}
use Rattle.pk_transversal.proofs.ListLemmas.{any_at, kept_in, range_below}
use Rattle.pk_transversal.proofs.OrderLemmas.{not_itself}

pub subset_trans : (a b c : ℕ) → IsColumnSet a → IsColumnSet b → is_subset a b ≡ true → is_subset b c ≡ true → is_subset a c ≡ true
subset_trans a b c a_set b_set first second =
    subset_from_members a c (λ k holds. subset_members b c k b_set second (subset_members a b k a_set first holds))

pub subset_same : (a b : ℕ) → IsColumnSet a → IsColumnSet b → is_subset a b ≡ true → is_subset b a ≡ true → a ≡ b
subset_same a b a_set b_set up down =
    same_set a b (λ k. both_ways (has_column a k) (has_column b k) (subset_members a b k a_set up) (subset_members b a k b_set down))

-- a test that implies another keeps fewer, or the same
fewer_kept : (p q : ℕ → Bool) (xs : List ℕ) → ((k : ℕ) → p k ≡ true → q k ≡ true)
    → (length (filter p xs) < length (filter q xs)) ⊎ (filter p xs ≡ filter q xs)
fewer_kept p q [] up = inr refl
fewer_kept p q (x ∷ xs) up = step (p x) (q x) refl refl (fewer_kept p q xs up)
  where
    step : (b c : Bool) → p x ≡ b → q x ≡ c → (length (filter p xs) < length (filter q xs)) ⊎ (filter p xs ≡ filter q xs)
        → (length (cond b (x ∷ filter p xs) (filter p xs)) < length (cond c (x ∷ filter q xs) (filter q xs))) ⊎ (cond b (x ∷ filter p xs) (filter p xs) ≡ cond c (x ∷ filter q xs) (filter q xs))
    step true true _ _ (inl less) = inl (omega (arith, less))
    step true true _ _ (inr same) = inr (ap (λ ys. x ∷ ys) same)
    step false false _ _ (inl less) = inl less
    step false false _ _ (inr same) = inr same
    step false true _ _ (inl less) = inl (omega (arith, less))
    step false true _ _ (inr same) = inl (rw same (omega arith))
    step true false p_is q_is _ = cc (up x p_is)

-- a set inside another has fewer columns, or is the same
pub subset_smaller : (a b : ℕ) → IsColumnSet a → IsColumnSet b → is_subset a b ≡ true → (length (columns a) < length (columns b)) ⊎ (a ≡ b)
unfolding columns
subset_smaller a b a_set b_set inside =
    elim (fewer_kept (has_column a) (has_column b) (range_with_len 0 32) (λ k. subset_members a b k a_set inside)) [
      | inl less ↦ inl less
      | inr same ↦ inr (set_from_columns a b a_set b_set same)
    ]

-- a set with more columns isn't before one with fewer
more_not_before : (m n : ℕ) (o : Ordering) → n < m → ordering_then (nat_cmp m n) o ≡ Less → ⊥
more_not_before m n o more less = greater_less (sym (ap (λ r. ordering_then r o) after) ∙ less)
  where
    after : nat_cmp m n ≡ Greater
    after = rw (le-ltb m n (omega (arith, more)), ne_eqb m n (λ same. omega (arith, more, same))) refl

    greater_less : Greater ≡ Less → ⊥
    greater_less same = cc

-- a set isn't inside one that comes before it
pub not_inside_earlier : (x z : ℕ) → IsColumnSet x → IsColumnSet z → column_set_cmp z x ≡ Less → is_subset x z ≡ true → ⊥
not_inside_earlier x z x_set z_set less inside =
    elim (subset_smaller x z x_set z_set inside) [
      | inl fewer ↦ more_not_before (length (columns z)) (length (columns x)) _ fewer less
      | inr same ↦ not_itself x (subst (λ w. column_set_cmp w x ≡ Less) (sym same) less)
    ]

-- ---- columns of both

both_digits : (x y : ℕ) → x < 2 → y < 2 → (min x y == 1) ≡ (x == 1 && y == 1)
both_digits zero zero _ _ = refl
both_digits zero (suc zero) _ _ = refl
both_digits (suc zero) zero _ _ = refl
both_digits (suc zero) (suc zero) _ _ = refl
both_digits (suc (suc x)) y low _ = absurd (omega (arith, low))
both_digits x (suc (suc y)) _ low = absurd (omega (arith, low))

pub has_and : (a b k : ℕ) → has_column (bit_and a b) k ≡ (has_column a k && has_column b k)
has_and a b k = rw (bit_at_and a b k) (both_digits (bit_at a k) (bit_at b k) (bit_at-lt a k) (bit_at-lt b k))

pub and_left_part : (a b : ℕ) → is_subset (bit_and a b) a ≡ true
and_left_part a b = subset_from_members (bit_and a b) a (λ k holds. (and_parts (has_column a k) (has_column b k) (sym (has_and a b k) ∙ holds)).0)

pub and_right_part : (a b : ℕ) → is_subset (bit_and a b) b ≡ true
and_right_part a b = subset_from_members (bit_and a b) b (λ k holds. (and_parts (has_column a k) (has_column b k) (sym (has_and a b k) ∙ holds)).1)

pub and_set : (a b : ℕ) → IsColumnSet b → IsColumnSet (bit_and a b)
and_set a b b_set = let below = and_le_r a b in omega (arith, below, b_set)

-- a set inside another is what both have, and so the lesser number
and_of_part : (a b : ℕ) → IsColumnSet a → is_subset a b ≡ true → bit_and a b ≡ a
and_of_part a b a_set inside =
    same_set (bit_and a b) a (λ k. has_and a b k ∙ both_ways (has_column a k && has_column b k) (has_column a k)
    (λ both. (and_parts (has_column a k) (has_column b k) both).0)
    (λ holds. rw (holds, subset_members a b k a_set inside holds) refl))

pub subset_at_most : (a b : ℕ) → IsColumnSet a → is_subset a b ≡ true → a ≤ b
subset_at_most a b a_set inside = subst (λ n. n ≤ b) (and_of_part a b a_set inside) (and_le_r a b)

-- ---- the columns of a set

pub in_columns : (set c : ℕ) → IsColumnSet set → has_column set c ≡ true → Contains (columns set) c
in_columns set c a_set holds =
    let found = any_at (λ j. j == c) (columns set) (listed_columns set c a_set ∙ holds) in
    subst (Contains (columns set)) (eqb-true found.0 c found.2) found.1

pub column_of : (set c : ℕ) → Contains (columns set) c → has_column set c ≡ true
unfolding columns
column_of set c found = (kept_in (has_column set) (range_with_len 0 32) c found).1

pub column_below : (set c : ℕ) → Contains (columns set) c → c < 32
unfolding columns
column_below set c found = range_below 0 32 c (kept_in (has_column set) (range_with_len 0 32) c found).0

-- ---- one column more

one_column : (c k : ℕ) → has_column (2 ^ c) k ≡ (k == c)
one_column c k =
    elim (cases_eq k c) [
      | inl same ↦ subst (λ j. has_column (2 ^ c) j ≡ (j == c)) (sym same) (rw (bit_at-pow_same c, eq-eqb c c refl) refl)
      | inr other ↦ rw (bit_at-pow_other c k other, ne_eqb k c other) refl
    ]

pub has_with_column : (set c k : ℕ) → has_column (with_column set c) k ≡ (k == c || has_column set k)
has_with_column set c k = has_or set (2 ^ c) k ∙ ap (λ b. has_column set k || b) (one_column c k) ∙ or_comm (has_column set k) (k == c)

pub with_column_set : (set c : ℕ) → IsColumnSet set → c < 32 → IsColumnSet (with_column set c)
with_column_set set c a_set low =
    let within : c ≤ 31 = omega (arith, low) in
    let most : 2 ^ c ≤ 2 ^ 31 = pow_mono within in
    or_of_32 set (2 ^ c) a_set (omega (arith, most))

-- what has the members of the set with the column is that set
pub with_column_is : (larger set c : ℕ) → ((k : ℕ) → has_column larger k ≡ (k == c || has_column set k)) → larger ≡ with_column set c
with_column_is larger set c members = same_set larger (with_column set c) (λ k. members k ∙ sym (has_with_column set c k))

pub with_has_column : (set c : ℕ) → has_column (with_column set c) c ≡ true
with_has_column set c = has_with_column set c c ∙ or_left (c == c) (has_column set c) (eq-eqb c c refl)

pub with_has_others : (set c k : ℕ) → has_column set k ≡ true → has_column (with_column set c) k ≡ true
with_has_others set c k holds = has_with_column set c k ∙ or_right (k == c) (has_column set k) holds

pub with_contains : (set c : ℕ) → is_subset set (with_column set c) ≡ true
with_contains set c = subset_from_members set (with_column set c) (with_has_others set c)

pub with_cases : (set c k : ℕ) → has_column (with_column set c) k ≡ true → (k ≡ c) ⊎ (has_column set k ≡ true)
with_cases set c k holds =
    elim (or_cases (k == c) (has_column set k) (sym (has_with_column set c k) ∙ holds)) [
      | inl same ↦ inl (eqb-true k c same)
      | inr rest ↦ inr rest
    ]

-- the set with the column lies inside what has both
pub with_inside : (set c whole : ℕ) → IsColumnSet set → is_subset set whole ≡ true → has_column whole c ≡ true → is_subset (with_column set c) whole ≡ true
with_inside set c whole a_set inside has =
    subset_from_members (with_column set c) whole (λ k holds. elim (with_cases set c k holds) [
      | inl same ↦ subst (λ j. has_column whole j ≡ true) (sym same) has
      | inr rest ↦ subset_members set whole k a_set inside rest
    ])

-- ---- copies

-- a set joined to itself is that set
pub copied_more : (sets copies : List ℕ) (i x y : ℕ) → i < length sets → x ≡ get_or sets i x → IsColumnSet y
    → ((k : ℕ) → has_column y k ≡ (has_column x k || has_column x k)) → All IsColumnSet (take i sets) × (copies ≡ take i sets)
    → All IsColumnSet (take (i + 1) sets) × (copies ++ y ∷ [] ≡ take (i + 1) sets)
copied_more sets copies i x y below reads y_set members so_far =
    let same : y ≡ x = same_set y x (λ k. members k ∙ twice (has_column x k)) in (
      All-more IsColumnSet sets i x below so_far.0 (subst IsColumnSet (same ∙ reads) y_set),
      ap (λ xs. xs ++ y ∷ []) so_far.1 ∙ ap (λ z. take i sets ++ z ∷ []) (same ∙ reads) ∙ sym (take_more sets i x below),
    )
  where
    twice : (b : Bool) → (b || b) ≡ b
    twice true = refl
    twice false = refl
