-- How many columns of a set pass a test.
use Rattle.std.proofs.Common.{◌≡◌, refl, ◌∙◌, ap, subst, ℕ, zero, suc, ◌+◌, ◌≤◌, Bool, false, not, ◌&&◌, List, [], ◌∷◌, length, inl, inr, slice_get, arith}
use Rattle.std.specs.Option.{option_map_or}
use Rattle.std.specs.List.{filter, range_with_len}
use Rattle.std.proofs.lemmas.Bool.{cases_Bool}
use Rattle.pk_values.specs.ColumnSet.{has_column, columns}
use Rattle.pk_values.proofs.RangeLemmas.{filter_twice}
use Rattle.pk_syntax.specs.declared.declaration.ColumnDecl.{ColumnDecl}
use Rattle.pk_schema.specs.Shapes.{set_where}
use Rattle.pk_schema.proofs.SetLemmas.{has_first, has_next, has_none}
use Rattle.std.proofs.Math.Bool.{and_comm}

-- whether there is a column at this place and it passes
abbrev pub passes_at : (ColumnDecl → Bool) → List ColumnDecl → ℕ → Bool
passes_at p [] k = false
passes_at p (c ∷ cs) zero = p c
passes_at p (c ∷ cs) (suc k) = passes_at p cs k

pub has_where : (p : ColumnDecl → Bool) (cs : List ColumnDecl) (k : ℕ) → has_column (set_where p cs) k ≡ passes_at p cs k
has_where p [] k = has_none p k
has_where p (c ∷ cs) zero = has_first p c cs
has_where p (c ∷ cs) (suc k) = has_next p c cs k ∙ has_where p cs k

-- of a range in which nothing passes nothing is kept
pub none_kept : (test : ℕ → Bool) (a m : ℕ) → ((k : ℕ) → test (a + k) ≡ false) → filter test (range_with_len a m) ≡ []
none_kept test a zero fails = refl
none_kept test a (suc m) fails =
    let here : test a ≡ false = subst (λ n. test n ≡ false) (omega arith) (fails 0) in
    rw here (none_kept test (a + 1) m (λ k. subst (λ n. test n ≡ false) (omega arith) (fails (suc k))))

-- a range keeps as many numbers as there are columns that pass
kept_count : (r : ColumnDecl → Bool) (cs : List ColumnDecl) (test : ℕ → Bool) (a m : ℕ) → length cs ≤ m → ((k : ℕ) → test (a + k) ≡ passes_at r cs k)
    → length (filter test (range_with_len a m)) ≡ length (filter r cs)
kept_count r [] test a m fits same = ap length (none_kept test a m same)
kept_count r (c ∷ cs) test a zero fits same = absurd (omega (arith, fits))
kept_count r (c ∷ cs) test a (suc m) fits same =
    let here : test a ≡ r c = subst (λ n. test n ≡ r c) (omega arith) (same 0) in
    let rest = kept_count r cs test (a + 1) m (omega (arith, fits)) (λ k. subst (λ n. test n ≡ passes_at r cs k) (omega arith) (same (suc k))) in
    elim (cases_Bool (r c)) [
      | inl holds ↦ rw (here, holds) (ap suc rest)
      | inr fails ↦ rw (here, fails) rest
    ]

both_at : (p q : ColumnDecl → Bool) (cs : List ColumnDecl) (k : ℕ) → (passes_at p cs k && not (passes_at q cs k)) ≡ passes_at (λ c. p c && not (q c)) cs k
both_at p q [] k = refl
both_at p q (c ∷ cs) zero = refl
both_at p q (c ∷ cs) (suc k) = both_at p q cs k

swapped : (p q : ColumnDecl → Bool) (cs : List ColumnDecl) → filter (λ c. p c && not (q c)) cs ≡ filter (λ c. not (q c) && p c) cs
swapped p q [] = refl
swapped p q (c ∷ cs) = rw (and_comm (p c) (not (q c)), swapped p q cs) refl

-- the columns of one set that another lacks are as many as the columns that pass the one test and not the other
pub count_without : (p q : ColumnDecl → Bool) (cs : List ColumnDecl) → length cs ≤ 32
    → length (filter (λ k. not (has_column (set_where q cs) k)) (columns (set_where p cs))) ≡ length (filter (λ c. not (q c) && p c) cs)
unfolding columns
count_without p q cs few =
    ap length (filter_twice (has_column (set_where p cs)) (λ k. not (has_column (set_where q cs) k)) (range_with_len 0 32))
    ∙ kept_count (λ c. p c && not (q c)) cs (λ k. has_column (set_where p cs) k && not (has_column (set_where q cs) k)) 0 32 few agree
    ∙ ap length (swapped p q cs)
  where
    agree : (k : ℕ) → (has_column (set_where p cs) (0 + k) && not (has_column (set_where q cs) (0 + k))) ≡ passes_at (λ c. p c && not (q c)) cs k
    agree k =
        let at : 0 + k ≡ k = omega arith in
        rw (at, has_where p cs k, has_where q cs k) (both_at p q cs k)

pub sets_hold : (p : ColumnDecl → Bool) (cs : List ColumnDecl) (k : ℕ) → has_column (set_where p cs) k ≡ option_map_or p (slice_get cs k) false
sets_hold p cs k = has_where p cs k ∙ at cs k
  where
    at : (cs : List ColumnDecl) (k : ℕ) → passes_at p cs k ≡ option_map_or p (slice_get cs k) false
    at [] k = cc
    at (c ∷ cs) zero = refl
    at (c ∷ cs) (suc k) = at cs k ∙ ap (λ o. option_map_or p o false) refl
