-- A range with a test of its numbers, which is how sets list their columns.
use Rattle.std.proofs.Common.{◌≡◌, refl, sym, ap, subst, ℕ, zero, suc, ◌+◌, ◌<◌, ◌≤◌, Bool, true, false, not, ◌&&◌, ◌||◌, ◌==◌, List, [], ◌∷◌, inl, inr, nat_lt, arith}
use Rattle.std.specs.List.{filter, list_all, range_with_len, AllByRecursion}
use Rattle.std.specs.List.Sorted.{IsStrictlySortedBy}
use Rattle.std.specs.Ordering.{nat_cmp}
use Rattle.std.specs.declared.cmp.Ordering.TheVariants.{Less}
use Rattle.std.proofs.lemmas.Bool.{cases_Bool, cases_eq, lt-ltb, le-ltb, eq-eqb, eqb-true}
use Rattle.std.proofs.lemmas.Cmp.{ranked}

-- two tests that agree on all numbers keep the same
pub filter_same : (p q : ℕ → Bool) (xs : List ℕ) → ((k : ℕ) → p k ≡ q k) → filter p xs ≡ filter q xs
filter_same p q [] same = refl
filter_same p q (x ∷ xs) same = rw (same x, filter_same p q xs same) refl

-- a test after another is their conjunction
pub filter_twice : (p q : ℕ → Bool) (xs : List ℕ) → filter q (filter p xs) ≡ filter (λ k. p k && q k) xs
filter_twice p q [] = refl
filter_twice p q (x ∷ xs) =
    let rest = filter_twice p q xs in
    elim (cases_Bool (p x)) [ inl holds ↦ rw (holds, rest) refl | inr fails ↦ rw (fails, rest) refl ]

-- a test of what another keeps
pub all_kept : (p q : ℕ → Bool) (xs : List ℕ) → list_all q (filter p xs) ≡ list_all (λ k. not (p k) || q k) xs
all_kept p q [] = refl
all_kept p q (x ∷ xs) =
    let rest = all_kept p q xs in
    elim (cases_Bool (p x)) [ inl holds ↦ rw (holds, rest) refl | inr fails ↦ rw (fails, rest) refl ]

-- nothing from n on is below n
none_below : (n a m : ℕ) → n ≤ a → filter (λ k. nat_lt k n) (range_with_len a m) ≡ []
none_below n a zero high = refl
none_below n a (suc m) high = rw (le-ltb a n high, none_below n (a + 1) m (omega (arith, high))) refl

-- the numbers below n, where the range reaches n
pub below_kept : (n a m d : ℕ) → a + d ≡ n → d ≤ m → filter (λ k. nat_lt k n) (range_with_len a m) ≡ range_with_len a d
below_kept n a m zero sum fits = none_below n a m (omega (arith, sum))
below_kept n a zero (suc d) sum fits = absurd (omega (arith, fits))
below_kept n a (suc m) (suc d) sum fits =
    rw (lt-ltb a n (omega (arith, sum)), below_kept n (a + 1) m d (omega (arith, sum)) (omega (arith, fits))) refl

-- the first number that passes, where all before it fail
pub first_kept : (p : ℕ → Bool) (a m t : ℕ) → a ≤ t → t < a + m → p t ≡ true → ((k : ℕ) → a ≤ k → k < t → p k ≡ false)
    → (rest : List ℕ) × (filter p (range_with_len a m) ≡ t ∷ rest)
first_kept p a zero t from before passes fail = absurd (omega (arith, from, before))
first_kept p a (suc m) t from before passes fail =
    elim (cases_eq a t) [
      | inl same ↦
          let here : p a ≡ true = subst (λ k. p k ≡ true) (sym same) passes in
          (filter p (range_with_len (a + 1) m), rw here (ap (λ k. k ∷ filter p (range_with_len (a + 1) m)) same))
      | inr other ↦
          let fails : p a ≡ false = fail a (omega arith) (omega (arith, from, other)) in
          let found = first_kept p (a + 1) m t (omega (arith, from, other)) (omega (arith, before)) passes (λ k low high. fail k (omega (arith, low)) high) in
          (found.0, rw fails found.1)
    ]

-- each number that a range keeps is at least its start
pub kept_from : (p : ℕ → Bool) (a m low : ℕ) → low < a → AllByRecursion (λ y. nat_cmp low y ≡ Less) (filter p (range_with_len a m))
kept_from p a zero low before = tt
kept_from p a (suc m) low before =
    let later = kept_from p (a + 1) m low (omega (arith, before)) in
    elim (cases_Bool (p a)) [
      | inl holds ↦ rw holds (rw (lt-ltb low a before) refl, later)
      | inr fails ↦ rw fails later
    ]

-- what a range keeps ascends
pub kept_ascends : (p : ℕ → Bool) (a m : ℕ) → IsStrictlySortedBy nat_cmp (filter p (range_with_len a m))
unfolding IsStrictlySortedBy
kept_ascends p a zero = tt
kept_ascends p a (suc m) =
    let later = kept_ascends p (a + 1) m in
    elim (cases_Bool (p a)) [
      | inl holds ↦ rw holds (kept_from p (a + 1) m a (omega arith), later)
      | inr fails ↦ rw fails later
    ]

-- without its first number an ascending list is what is left of it
all_above : (c : ℕ) (xs : List ℕ) → AllByRecursion (λ y. nat_cmp c y ≡ Less) xs → filter (λ k. not (k == c)) xs ≡ xs
all_above c [] above = refl
all_above c (x ∷ xs) above =
    elim (cases_Bool (x == c)) [
      | inl same ↦ absurd (equal_not_less c x same above.0)
      | inr other ↦ rw (other, all_above c xs above.1) refl
    ]
  where
    equal_not_less : (c x : ℕ) → (x == c) ≡ true → nat_cmp c x ≡ Less → ⊥
    equal_not_less c x same less =
        let lower : c < x = ranked c x Less (sym less) in
        omega (arith, lower, eqb-true x c same)

pub rest_kept : (c : ℕ) (xs : List ℕ) → IsStrictlySortedBy nat_cmp (c ∷ xs) → filter (λ k. not (k == c)) (c ∷ xs) ≡ xs
unfolding IsStrictlySortedBy
rest_kept c xs ascends = rw (eq-eqb c c refl) (all_above c xs ascends.0)
