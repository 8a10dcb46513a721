-- Numbers that are sought among others.
use Rattle.std.proofs.Common.{◌≡◌, refl, sym, ℕ, zero, suc, ◌≤◌, ◌<◌, true, false, ◌==◌, List, [], ◌∷◌, length, get_or, Result, Ok, Err, Ordering, inl, inr, arith}
use Rattle.std.specs.List.{list_any}
use Rattle.std.specs.List.Sorted.{IsBinarySearchResult, IsStrictlySortedBy}
use Rattle.std.specs.Ordering.{nat_cmp, ordering_index}
use Rattle.std.specs.Cmp.{nat_cmp_is}
use Rattle.std.specs.Result.{is_ok}
use Rattle.std.specs.declared.cmp.Ordering.TheVariants.{Less, Equal, Greater}
use Rattle.std.proofs.lemmas.Bool.{cases_lt, eq-eqb, ne_eqb, or_right}
use Rattle.std.proofs.lemmas.List.Sorted.{searched}
use Rattle.std.proofs.lemmas.Map.Keys.{below_from_sorted}
use Rattle.pk_values.proofs.NumberLemmas.{less_numbers}

-- ---- answers of a comparison

pub equal_numbers : (a b : ℕ) → nat_cmp a b ≡ Equal → a ≡ b
equal_numbers a b equal = elim (cases_lt a b) as (λ _. a ≡ b) [
  | inl lt ↦ absurd (less (nat_cmp a b) (nat_cmp_is a b Less lt) equal)
  | inr ge ↦ elim (cases_lt b a) as (λ _. a ≡ b) [
    | inl gt ↦ absurd (more (nat_cmp a b) (nat_cmp_is a b Greater gt) equal)
    | inr le ↦ omega arith
  ]
]
  where
    less : (o : Ordering) → Less ≡ o → o ≡ Equal → ⊥
    less o is equal = cc

    more : (o : Ordering) → Greater ≡ o → o ≡ Equal → ⊥
    more o is equal = cc

pub greater_numbers : (a b : ℕ) → nat_cmp a b ≡ Greater → b < a
greater_numbers a b greater = elim (cases_lt b a) as (λ _. b < a) [
  | inl gt ↦ gt
  | inr ge ↦ elim (cases_lt a b) as (λ _. b < a) [
    | inl lt ↦ absurd (less (nat_cmp a b) (nat_cmp_is a b Less lt) greater)
    | inr le ↦ absurd (same (nat_cmp a b) (nat_cmp_is a b Equal (omega (arith, ge, le))) greater)
  ]
]
  where
    less : (o : Ordering) → Less ≡ o → o ≡ Greater → ⊥
    less o is greater = cc

    same : (o : Ordering) → Equal ≡ o → o ≡ Greater → ⊥
    same o is greater = cc

pub index_least : (a b x : ℕ) → a ≤ b → ordering_index (nat_cmp a x) ≤ ordering_index (nat_cmp b x)
index_least a b x le = go (nat_cmp a x) (nat_cmp b x) refl refl
  where
    go : (o p : Ordering) → nat_cmp a x ≡ o → nat_cmp b x ≡ p → ordering_index o ≤ ordering_index p
    go Less p e f = omega arith
    go Equal Less e f = (let same = equal_numbers a x e in let less = less_numbers b x f in absurd (omega (arith, same, less, le)))
    go Equal Equal e f = omega arith
    go Equal Greater e f = omega arith
    go Greater Less e f = (let more = greater_numbers a x e in let less = less_numbers b x f in absurd (omega (arith, more, less, le)))
    go Greater Equal e f = (let more = greater_numbers a x e in let same = equal_numbers b x f in absurd (omega (arith, more, same, le)))
    go Greater Greater e f = omega arith

-- ---- a number among others

any_at : (ids : List ℕ) (id i : ℕ) → i < length ids → get_or ids i 0 ≡ id → list_any (λ k. k == id) ids ≡ true
any_at [] id i within same = absurd (omega (arith, within))
any_at (k ∷ ks) id zero within same = rw (eq-eqb k id same) refl
any_at (k ∷ ks) id (suc i) within same = or_right (k == id) _ (any_at ks id i (omega (arith, within)) same)

none_at : (ids : List ℕ) (id : ℕ) → ((i : ℕ) → i < length ids → get_or ids i 0 ≡ id → ⊥) → list_any (λ k. k == id) ids ≡ false
none_at [] id none = refl
none_at (k ∷ ks) id none = rw (ne_eqb k id (none 0 (omega arith))) (none_at ks id (λ i within same. none (suc i) (omega (arith, within)) same))

ids_not_below : (ids : List ℕ) → IsStrictlySortedBy nat_cmp ids → (i j : ℕ) → i ≤ j → j < length ids → get_or ids i 0 ≤ get_or ids j 0
ids_not_below ids ascend i j le within = elim (cases_lt i j) as (λ _. get_or ids i 0 ≤ get_or ids j 0) [
  | inl lt ↦ (let below = below_from_sorted ids i j 0 ascend lt within in omega (arith, below))
  | inr ge ↦ (let same : i ≡ j = omega (arith, le, ge) in rw same (omega arith))
]

-- a search finds a number exactly where it is among the others
pub among_searched : (ids : List ℕ) (id : ℕ) (r : Result ℕ ℕ) → IsBinarySearchResult (λ k. nat_cmp k id) ids r → IsStrictlySortedBy nat_cmp ids
    → is_ok r ≡ list_any (λ k. k == id) ids
among_searched ids id (Ok i) is ascend =
    let w = searched ids id (Ok i) is (ids_not_below ids ascend) in
    sym (any_at ids id i w.0 w.1)
among_searched ids id (Err i) is ascend =
    let w = searched ids id (Err i) is (ids_not_below ids ascend) in
    sym (none_at ids id (λ k within same. elim (cases_lt k i) as (λ _. ⊥) [
      | inl before ↦ (let less = w.1 k before in omega (arith, less, same))
      | inr behind ↦ (let more = w.2 k behind within in omega (arith, more, same))
    ]))
