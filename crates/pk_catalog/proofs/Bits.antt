-- Numbers and the sets that they stand for.
use Rattle.std.proofs.Common.{◌≡◌, refl, sym, ◌∙◌, ap, ℕ, ◌+◌, ◌*◌, ◌%◌, ◌^◌, ◌<◌, ◌≤◌, Bool, true, false, ◌&&◌, ◌||◌, ◌==◌, nat_lt, inl, inr, arith, [], bit_or}
use Rattle.std.specs.List.{list_any}
use Rattle.std.proofs.lemmas.Bool.{cases_lt, cases_eq, lt-ltb, le-ltb, eq-eqb, ne_eqb}
use Rattle.pk_values.specs.ColumnSet.{IsColumnSet, has_column, columns}
use Rattle.pk_values.proofs.BitLemmas.{has_none_above, has_with}
use Rattle.pk_values.proofs.ColumnLemmas.{same_set, listed_columns}

-- the set so far has the columns below c of another
abbrev pub HasBelow : ℕ → ℕ → ℕ → Type 0
HasBelow part set c = (k : ℕ) → has_column part k ≡ (nat_lt k c && has_column set k)

-- one more
pub more_below : (part next set c : ℕ) (wanted : Bool) → HasBelow part set c → wanted ≡ has_column set c
    → ((k : ℕ) → has_column next k ≡ ((k == c && wanted) || has_column part k)) → HasBelow next set (c + 1)
more_below part next set c wanted so_far is members k =
    members k ∙ rw (so_far k) (elim (cases_eq k c) [
      | inl same ↦ rw (same, eq-eqb c c refl, is, lt-ltb c (c + 1) (omega arith), le-ltb c c (omega arith)) (or_nothing (has_column set c))
      | inr other ↦ rw (ne_eqb k c other) (elim (cases_lt k c) [
        | inl low ↦ rw (lt-ltb k c low, lt-ltb k (c + 1) (omega (arith, low))) refl
        | inr high ↦ rw (le-ltb k c high, le-ltb k (c + 1) (omega (arith, high, other))) refl
      ])
    ])
  where
    or_nothing : (b : Bool) → (b || false) ≡ b
    or_nothing true = refl
    or_nothing false = refl

-- all columns
pub all_below : (part set c : ℕ) → IsColumnSet set → 32 ≤ c → HasBelow part set c → part ≡ set
all_below part set c bounded all so_far = same_set part set (λ k. so_far k ∙ elim (cases_lt k 32) [
  | inl low ↦ rw (lt-ltb k c (omega (arith, low, all))) refl
  | inr high ↦ rw (has_none_above set k bounded high) (and_nothing (nat_lt k c))
])
  where
    and_nothing : (b : Bool) → (b && false) ≡ false
    and_nothing true = refl
    and_nothing false = refl

-- ---- single bits

both_true : (b wanted : Bool) → wanted ≡ true → (b && wanted) ≡ b
both_true true wanted is = is
both_true false wanted is = refl

-- a number with a bit that is wanted
pub with_wanted : (number c k : ℕ) (wanted : Bool) → c < 32 → wanted ≡ true → has_column (bit_or number (1 * 2 ^ c % 4294967296)) k ≡ ((k == c && wanted) || has_column number k)
with_wanted number c k wanted low is = has_with number c k low ∙ ap (λ b. b || has_column number k) (sym (both_true (k == c) wanted is))

-- a set of no column
pub empty_below : (part set : ℕ) → IsColumnSet part → columns part ≡ [] → HasBelow part set 0
empty_below part set is none k = sym (listed_columns part k is) ∙ ap (list_any (λ j. j == k)) none ∙ rw (le-ltb k 0 (omega arith)) refl
