-- Sets of columns by their lists and by their members.
use Rattle.std.proofs.Common.{◌≡◌, refl, sym, ◌∙◌, ap, subst, ℕ, zero, suc, ◌+◌, ◌<◌, ◌≤◌, Bool, true, false, not, ◌&&◌, ◌||◌, ◌==◌, List, [], ◌∷◌, inl, inr, bit_and, ◌-◌, ◌^◌, nat_lt, IsTrue, arith}
use Rattle.std.specs.List.{filter, list_all, list_any, range_with_len}
use Rattle.std.specs.List.Sorted.{IsStrictlySortedBy}
use Rattle.std.specs.Ordering.{nat_cmp}
use Rattle.std.proofs.lemmas.Bool.{cases_Bool, cases_lt, cases_eq, eq-eqb, ne_eqb, eqb-true, and_parts, lt-ltb, both_ways as not_both}
use Rattle.std.proofs.lemmas.Nat.Bits.{same_from_bits, bit_at-lt, bit_at_above}
use Rattle.std.specs.Int.{bit_at}
use Rattle.pk_values.specs.ColumnSet.{IsColumnSet, has_column, columns, is_subset}
use Rattle.pk_values.proofs.BitLemmas.{has_none_above, has_nothing, has_and_not}
use Rattle.pk_values.proofs.RangeLemmas.{filter_same, filter_twice, kept_ascends, rest_kept, first_kept}
use Rattle.std.specs.Cmp.{both_ways}
use Rattle.std.proofs.Math.Bool.{and_comm}
use Rattle.std.proofs.Math.Pow.{pow_mono}

-- sets with the same members have the same columns
pub same_columns : (a b : ℕ) → ((k : ℕ) → has_column a k ≡ has_column b k) → columns a ≡ columns b
unfolding columns
same_columns a b same = filter_same (has_column a) (has_column b) (range_with_len 0 32) same

-- the members of a set at which a test holds are the columns that it keeps
pub columns_kept : (a b : ℕ) (p : ℕ → Bool) → ((k : ℕ) → has_column a k ≡ (has_column b k && p k)) → columns a ≡ filter p (columns b)
unfolding columns
columns_kept a b p members =
    filter_same (has_column a) (λ k. has_column b k && p k) (range_with_len 0 32) members
    ∙ sym (filter_twice (has_column b) p (range_with_len 0 32))

pub columns_ascend : (set : ℕ) → IsStrictlySortedBy nat_cmp (columns set)
unfolding columns
columns_ascend set = kept_ascends (has_column set) 0 32

-- a set without its first column has the others
pub columns_rest : (set rest c : ℕ) (others : List ℕ) → columns set ≡ c ∷ others
    → ((k : ℕ) → has_column rest k ≡ (not (k == c) && has_column set k)) → columns rest ≡ others
columns_rest set rest c others first members =
    columns_kept rest set (λ k. not (k == c)) (λ k. members k ∙ and_comm (not (k == c)) (has_column set k))
    ∙ ap (filter (λ k. not (k == c))) first
    ∙ rest_kept c others (subst (IsStrictlySortedBy nat_cmp) first (columns_ascend set))

-- a number from the range's start on is found among those that it keeps where it is in the range and passes
none_before : (p : ℕ → Bool) (a m k : ℕ) → k < a → list_any (λ j. j == k) (filter p (range_with_len a m)) ≡ false
none_before p a zero k low = refl
none_before p a (suc m) k low =
    let later = none_before p (a + 1) m k (omega (arith, low)) in
    elim (cases_Bool (p a)) [
      | inl holds ↦ rw (holds, ne_eqb a k (λ same. omega (arith, low, same)), later) refl
      | inr fails ↦ rw (fails, later) refl
    ]

pub kept_listed : (p : ℕ → Bool) (a m k : ℕ) → a ≤ k → k < a + m → list_any (λ j. j == k) (filter p (range_with_len a m)) ≡ p k
kept_listed p a zero k from before = absurd (omega (arith, from, before))
kept_listed p a (suc m) k from before =
    elim (cases_eq a k) [
      | inl same ↦ subst (λ j. list_any (λ i. i == j) (filter p (range_with_len a (suc m))) ≡ p j) same (here (p a) refl)
      | inr other ↦
          let later = kept_listed p (a + 1) m k (omega (arith, from, other)) (omega (arith, before)) in
          elim (cases_Bool (p a)) [
            | inl holds ↦ rw (holds, ne_eqb a k other) later
            | inr fails ↦ rw fails later
          ]
    ]
  where
    here : (b : Bool) → p a ≡ b → list_any (λ i. i == a) (filter p (range_with_len a (suc m))) ≡ p a
    here true holds = rw (holds, eq-eqb a a refl) refl
    here false fails = rw fails (none_before p (a + 1) m a (omega arith))

-- the columns of a set are its members
pub listed_columns : (set k : ℕ) → IsColumnSet set → list_any (λ j. j == k) (columns set) ≡ has_column set k
unfolding columns
listed_columns set k bounded =
    elim (cases_lt k 32) [
      | inl low ↦ kept_listed (has_column set) 0 32 k (omega arith) (omega (arith, low))
      | inr high ↦ rw (has_none_above set k bounded high) (found_above (has_column set) 0 32 k (omega (arith, high)))
    ]
  where
    found_above : (p : ℕ → Bool) (a m k : ℕ) → a + m ≤ k → list_any (λ j. j == k) (filter p (range_with_len a m)) ≡ false
    found_above p a zero k high = refl
    found_above p a (suc m) k high =
        let later = found_above p (a + 1) m k (omega (arith, high)) in
        elim (cases_Bool (p a)) [
          | inl holds ↦ rw (holds, ne_eqb a k (λ same. omega (arith, high, same)), later) refl
          | inr fails ↦ rw (fails, later) refl
        ]

same_digit : (x y : ℕ) → x < 2 → y < 2 → (x == 1) ≡ (y == 1) → x ≡ y
same_digit zero zero _ _ _ = refl
same_digit (suc zero) (suc zero) _ _ _ = refl
same_digit zero (suc zero) _ _ same = cc
same_digit (suc zero) zero _ _ same = cc
same_digit (suc (suc x)) y low _ _ = absurd (omega (arith, low))
same_digit x (suc (suc y)) _ low _ = absurd (omega (arith, low))

-- two sets with the same members are one
pub same_set : (a b : ℕ) → ((k : ℕ) → has_column a k ≡ has_column b k) → a ≡ b
same_set a b same = same_from_bits a b (λ k. same_digit (bit_at a k) (bit_at b k) (bit_at-lt a k) (bit_at-lt b k) (same k))

-- two sets with the same columns are one
pub set_from_columns : (a b : ℕ) → IsColumnSet a → IsColumnSet b → columns a ≡ columns b → a ≡ b
set_from_columns a b a_set b_set same =
    same_set a b (λ k. sym (listed_columns a k a_set) ∙ ap (list_any (λ j. j == k)) same ∙ listed_columns b k b_set)

-- a set inside another has no member that the other lacks
pub subset_members : (a b k : ℕ) → IsColumnSet a → is_subset a b ≡ true → has_column a k ≡ true → has_column b k ≡ true
unfolding is_subset
subset_members a b k a_set inside holds =
    every (columns a) inside (listed_columns a k a_set ∙ holds)
  where
    every : (xs : List ℕ) → list_all (has_column b) xs ≡ true → list_any (λ j. j == k) xs ≡ true → has_column b k ≡ true
    every [] all found = cc
    every (x ∷ xs) all found =
        elim (cases_eq x k) [
          | inl same ↦ subst (λ j. has_column b j ≡ true) same (and_parts (has_column b x) (list_all (has_column b) xs) all).0
          | inr other ↦ every xs (and_parts (has_column b x) (list_all (has_column b) xs) all).1 (subst (λ t. (t || list_any (λ j. j == k) xs) ≡ true) (ne_eqb x k other) found)
        ]

-- what every member of a set passes, each of its columns does
pub all_members : (p : ℕ → Bool) (set : ℕ) → ((k : ℕ) → has_column set k ≡ true → p k ≡ true) → list_all p (columns set) ≡ true
unfolding columns
all_members p set members = each (range_with_len 0 32)
  where
    each : (xs : List ℕ) → list_all p (filter (has_column set) xs) ≡ true
    each [] = refl
    each (x ∷ xs) =
        elim (cases_Bool (has_column set x)) [
          | inl holds ↦ rw (holds, members x holds, each xs) refl
          | inr fails ↦ rw fails (each xs)
        ]

-- two tests that agree on the members of a set say the same of its columns
pub same_on_members : (p q : ℕ → Bool) (set : ℕ) → ((k : ℕ) → has_column set k ≡ true → p k ≡ q k) → list_all p (columns set) ≡ list_all q (columns set)
unfolding columns
same_on_members p q set members = each (range_with_len 0 32)
  where
    each : (xs : List ℕ) → list_all p (filter (has_column set) xs) ≡ list_all q (filter (has_column set) xs)
    each [] = refl
    each (x ∷ xs) =
        elim (cases_Bool (has_column set x)) [
          | inl holds ↦ rw (holds, members x holds, each xs) refl
          | inr fails ↦ rw fails (each xs)
        ]

-- a set whose members the other has is inside it
pub subset_from_members : (a b : ℕ) → ((k : ℕ) → has_column a k ≡ true → has_column b k ≡ true) → is_subset a b ≡ true
unfolding is_subset
subset_from_members a b members = all_members (has_column b) a members

-- `a & !b` is no column exactly where a lies inside b
pub subset_by_bits : (a b : ℕ) → IsColumnSet a → IsColumnSet b → (bit_and a (4294967295 - b) == 0) ≡ is_subset a b
subset_by_bits a b a_set b_set =
    both_ways (bit_and a (4294967295 - b) == 0) (is_subset a b)
    (λ none. subset_from_members a b (λ k holds. not_lacking (has_column b k) (lacks k (eqb-true (bit_and a (4294967295 - b)) 0 none) holds)))
    (λ inside. eq-eqb (bit_and a (4294967295 - b)) 0 (same_set (bit_and a (4294967295 - b)) 0 (λ k. has_and_not a b k a_set b_set ∙ covered k inside ∙ sym (has_nothing k))))
  where
    lacks : (k : ℕ) → bit_and a (4294967295 - b) ≡ 0 → has_column a k ≡ true → not (has_column b k) ≡ false
    lacks k none holds =
        ap (λ t. t && not (has_column b k)) (sym holds) ∙ sym (has_and_not a b k a_set b_set) ∙ ap (λ n. has_column n k) none ∙ has_nothing k

    not_lacking : (t : Bool) → not t ≡ false → t ≡ true
    not_lacking true _ = refl
    not_lacking false same = sym same

    covered : (k : ℕ) → is_subset a b ≡ true → (has_column a k && not (has_column b k)) ≡ false
    covered k inside =
        elim (cases_Bool (has_column a k)) [
          | inl holds ↦ rw (holds, subset_members a b k a_set inside holds) refl
          | inr fails ↦ rw fails refl
        ]

-- a set with a bit for each of at most 32 columns is one
pub set_bounded : (set width : ℕ) → width ≤ 32 → set < 2 ^ width → IsColumnSet set
set_bounded set width few small =
    let most : 2 ^ width ≤ 2 ^ 32 = pow_mono few in
    omega (arith, most, small)

-- a set with a bit for each column below a width has none from there on
pub member_below : (set width k : ℕ) → set < 2 ^ width → has_column set k ≡ true → k < width
member_below set width k small holds =
    elim (cases_lt k width) [
      | inl low ↦ low
      | inr high ↦ absurd (not_both (has_column set k) (rw (bit_at_above set width k small high) refl) holds)
    ]

pub columns_below : (set width : ℕ) → set < 2 ^ width → IsTrue (list_all (λ k. nat_lt k width) (columns set))
columns_below set width small = all_members (λ k. nat_lt k width) set (λ k holds. lt-ltb k width (member_below set width k small holds))

pub subset_itself : (set : ℕ) → is_subset set set ≡ true
subset_itself set = subset_from_members set set (λ k holds. holds)

pub columns_nothing : columns 0 ≡ []
unfolding columns
columns_nothing = refl

-- the least member of a set is its first column
pub columns_first : (set t : ℕ) → t < 32 → has_column set t ≡ true → ((k : ℕ) → k < t → has_column set k ≡ false)
    → (others : List ℕ) × (columns set ≡ t ∷ others)
unfolding columns
columns_first set t low holds fail = first_kept (has_column set) 0 32 t (omega arith) (omega (arith, low)) holds (λ k _ before. fail k before)
