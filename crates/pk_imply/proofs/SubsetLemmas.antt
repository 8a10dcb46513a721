-- Inclusion of sets of columns.
use Rattle.std.proofs.Common.{◌≡◌, ◌⊎◌, refl, ap, ℕ, ◌<◌, Bool, true, false, cond, List, [], ◌∷◌, length, inl, inr, arith}
use Rattle.std.specs.List.{filter, range_with_len}
use Rattle.pk_values.specs.ColumnSet.{IsColumnSet, has_column, columns, is_subset}
use Rattle.pk_values.proofs.ColumnLemmas.{subset_members, subset_from_members, same_set, set_from_columns}
use Rattle.std.specs.Cmp.{both_ways}

pub subset_trans : (a b c : ℕ) → IsColumnSet a → IsColumnSet b → is_subset a b ≡ true → is_subset b c ≡ true → is_subset a c ≡ true
subset_trans a b c a_set b_set first second =
    subset_from_members a c (λ k holds. subset_members b c k b_set second (subset_members a b k a_set first holds))

pub subset_same : (a b : ℕ) → IsColumnSet a → IsColumnSet b → is_subset a b ≡ true → is_subset b a ≡ true → a ≡ b
subset_same a b a_set b_set up down =
    same_set a b (λ k. both_ways (has_column a k) (has_column b k) (subset_members a b k a_set up) (subset_members b a k b_set down))

-- a test that implies another keeps fewer, or the same
fewer_kept : (p q : ℕ → Bool) (xs : List ℕ) → ((k : ℕ) → p k ≡ true → q k ≡ true)
    → (length (filter p xs) < length (filter q xs)) ⊎ (filter p xs ≡ filter q xs)
fewer_kept p q [] up = inr refl
fewer_kept p q (x ∷ xs) up = step (p x) (q x) refl refl (fewer_kept p q xs up)
  where
    step : (b c : Bool) → p x ≡ b → q x ≡ c → (length (filter p xs) < length (filter q xs)) ⊎ (filter p xs ≡ filter q xs)
        → (length (cond b (x ∷ filter p xs) (filter p xs)) < length (cond c (x ∷ filter q xs) (filter q xs))) ⊎ (cond b (x ∷ filter p xs) (filter p xs) ≡ cond c (x ∷ filter q xs) (filter q xs))
    step true true _ _ (inl less) = inl (omega (arith, less))
    step true true _ _ (inr same) = inr (ap (λ ys. x ∷ ys) same)
    step false false _ _ (inl less) = inl less
    step false false _ _ (inr same) = inr same
    step false true _ _ (inl less) = inl (omega (arith, less))
    step false true _ _ (inr same) = inl (rw same (omega arith))
    step true false p_is q_is _ = cc (up x p_is)

-- a set inside another has fewer columns, or is the same
pub subset_smaller : (a b : ℕ) → IsColumnSet a → IsColumnSet b → is_subset a b ≡ true → (length (columns a) < length (columns b)) ⊎ (a ≡ b)
unfolding columns
subset_smaller a b a_set b_set inside =
    elim (fewer_kept (has_column a) (has_column b) (range_with_len 0 32) (λ k. subset_members a b k a_set inside)) [
      | inl less ↦ inl less
      | inr same ↦ inr (set_from_columns a b a_set b_set same)
    ]
