-- The number of a new table.
use Rattle.std.proofs.Common.{◌≡◌, refl, ◌∙◌, sym, subst, ℕ, zero, suc, ◌+◌, ◌<◌, ◌≤◌, List, ◌∷◌, ◌++◌, length, Option, Some, None, inl, inr, arith}
use Rattle.std.specs.List.{range_with_len}
use Rattle.std.proofs.lemmas.Bool.{cases_eq, cases_lt}
use Rattle.std.proofs.lemmas.List.{length-map}
use Rattle.std.proofs.lemmas.List.FromFn.{length-range_with_len}
use Rattle.pk_catalog.specs.Bases.{Table, Numbered, IsLeastFree, AreDistinct, AreNumbers, numbers_of, table_of}
use Rattle.pk_catalog.specs.Laws.{NewTablesHaveNumbers}
use Rattle.pk_catalog.proofs.OneBase.{IsIn, found_number}
use Rattle.pk_catalog.proofs.Committing.{in_numbers}
use Rattle.pk_catalog.proofs.Members.{all_members, no_more_members}
use Rattle.pk_catalog.proofs.MapBases.{all_with, distinct_with}

-- the numbers of a range are from its first one on, and different
in_range_from : (from n k : ℕ) → IsIn k (range_with_len from n) → (from ≤ k) × (k < from + n)
in_range_from from zero k is_in = absurd is_in
in_range_from from (suc n) k (inl same) = (omega (arith, same), omega (arith, same))
in_range_from from (suc n) k (inr later) = let rest = in_range_from (from + 1) n k later in (omega (arith, rest.0), omega (arith, rest.1))

distinct_range : (from n : ℕ) → AreDistinct (range_with_len from n)
distinct_range from zero = tt
distinct_range from (suc n) = (
  all_members (λ k. from ≡ k → ⊥) (range_with_len (from + 1) n) (λ k is_in same. let rest = in_range_from (from + 1) n k is_in in omega (arith, rest.0, same)),
  distinct_range (from + 1) n,
)

abbrev HasUpTo : List Numbered → ℕ → Type 0
HasUpTo ts most = (n : ℕ) → 1 ≤ n → n ≤ most → (t : Table) × (table_of ts n ≡ Some t)

-- fewer than 256 tables don't have all 256 numbers
not_all : (ts : List Numbered) → length ts < 256 → HasUpTo ts 256 → ⊥
not_all ts few has =
    let no_more = no_more_members (range_with_len 1 256) (numbers_of ts) (distinct_range 1 256) (λ n is_in.
    let low = in_range_from 1 256 n is_in in
    let found = has n low.0 (omega (arith, low.1)) in
    found_number ts found.0 n found.1) in
    let numbers : length (numbers_of ts) ≡ length ts = length-map ts (λ (x : Numbered). x.number) in
    omega (arith, few, no_more, numbers, length-range_with_len 1 256)

least_inside : (ts : List Numbered) (number : ℕ) → length ts < 256 → IsLeastFree ts number → number ≤ 256
least_inside ts number few is =
    elim (cases_lt 256 number) [
      | inl high ↦ absurd (not_all ts few (λ n low most. is.least n low (omega (arith, most, high))))
      | inr low ↦ low
    ]

one_least : (ts : List Numbered) (a b : ℕ) → IsLeastFree ts a → IsLeastFree ts b → a ≡ b
one_least ts a b a_is b_is =
    elim (cases_eq a b) [
      | inl same ↦ same
      | inr other ↦
          elim (cases_lt a b) [
            | inl low ↦ let found = b_is.least a a_is.first low in let both = sym found.1 ∙ a_is.free in absurd cc
            | inr high ↦ let found = a_is.least b b_is.first (omega (arith, high, other)) in let both = sym found.1 ∙ b_is.free in absurd cc
          ]
    ]

-- one is sought among those that are left
some_from : (ts : List Numbered) → length ts < 256 → (left below : ℕ) → left + below ≡ 256 → HasUpTo ts below → (number : ℕ) × IsLeastFree ts number
some_from ts few zero below same has = absurd (not_all ts few (λ n low most. has n low (omega (arith, most, same))))
some_from ts few (suc left) below same has = by_next (λ has_more. some_from ts few left (suc below) (omega (arith, same)) has_more) (table_of ts (suc below)) refl
  where
    by_next : (HasUpTo ts (suc below) → (number : ℕ) × IsLeastFree ts number) → (o : Option Table) → table_of ts (suc below) ≡ o → (number : ℕ) × IsLeastFree ts number
    by_next on None none = (suc below, record { first = omega arith; free = none; least = λ n low high. has n low (omega (arith, high)) })
    by_next on (Some t) some = on (λ n low most. elim (cases_eq (suc below) n) [
      | inl same_number ↦ (t, subst (λ k. table_of ts k ≡ Some t) same_number some)
      | inr other ↦ has n low (omega (arith, most, other))
    ])

numbered : (front back : List Numbered) (number : ℕ) (t : Table) → length (front ++ back) < 256 → AreNumbers (numbers_of (front ++ back)) → IsLeastFree (front ++ back) number
    → AreNumbers (numbers_of (front ++ record { number = number; table = t } ∷ back))
numbered front back number t few numbers is = record {
  distinct = distinct_with (record { number = number; table = t }) front back (in_numbers (front ++ back) number is.free) numbers.distinct;
  inside = all_with (λ (x : Numbered). x.number) (λ n. (1 ≤ n) × (n ≤ 256)) (record { number = number; table = t }) front back (is.first, least_inside (front ++ back) number few is) numbers.inside;
}

pub new_tables_have_numbers : NewTablesHaveNumbers
new_tables_have_numbers = record {
  one = one_least;
  some = λ ts few. some_from ts few 256 0 refl (λ n low most. absurd (omega (arith, low, most)));
  numbered = numbered;
}
