-- Sets taken in their order: each is kept unless one that was kept before lies inside it.
use Rattle.std.proofs.Common.{◌≡◌, refl, sym, subst, ap, ℕ, ◌<◌, ◌≤◌, ◌+◌, Bool, true, false, cond, List, [], ◌∷◌, ◌++◌, ◌∙◌, append_assoc, append-nil, length, drop, get_or, inl, inr}
use Rattle.std.specs.List.{Contains}
use Rattle.std.specs.List.Retain.{IsFiltered, DiffersFromLast}
use Rattle.std.specs.List.Sorted.{IsPermutation, IsSorted}
use Rattle.std.specs.List.{dedup}
use Rattle.std.specs.Cmp.Rules.{comparing}
use Rattle.std.specs.Ordering.{eq_by_cmp}
use Rattle.std.specs.declared.cmp.Ordering.TheVariants.{Less}
use Rattle.std.proofs.Common.{◌==◌, rules}
use Rattle.std.proofs.lemmas.Bool.{both_ways}
use Rattle.std.proofs.lemmas.List.{drop_more, drop_all}
use Rattle.std.proofs.lemmas.List.Elements.{Contains-append_left, Contains-append_right, Contains-push, Contains-push_cases}
use Rattle.std.proofs.lemmas.List.Filters.{dedup_is}
use Rattle.std.proofs.lemmas.List.Kept.{Contains-dedup_nat, Contains-from_dedup, IsStrictlySortedBy-dedup}
use Rattle.std.proofs.lemmas.List.Sorted.{Contains-permutation, IsPermutation-sym}
use Rattle.pk_values.specs.ColumnSet.{IsColumnSet, is_subset, column_set_cmp}
use Rattle.pk_values.proofs.ColumnOrder.{column_set_cmp_total}
use Rattle.pk_values.proofs.ColumnLemmas.{subset_itself}
use Rattle.pk_transversal.specs.Minimal.{IsMinimal, Lists, minimal_of}
use Rattle.pk_transversal.specs.Steps.{has_inside, sifted}
use Rattle.pk_transversal.proofs.ListLemmas.{in_none, in_first, in_rest, any_at, any_from}
use Rattle.pk_transversal.proofs.OrderLemmas.{ascends, empty_ascends, first_below, rest_ascends, pushed_ascends, one_list, lists_same}
use Rattle.pk_transversal.proofs.SetLemmas.{subset_trans, not_inside_earlier}
use Rattle.pk_transversal.proofs.MinimalLemmas.{AreSets, minimal_listed}

-- ---- sorted, and each once

pub deduped : (xs sorted ys : List ℕ) → IsPermutation xs sorted → IsSorted column_set_cmp sorted → IsFiltered (DiffersFromLast ◌==◌) [] sorted ys → Lists (Contains xs) ys
deduped xs sorted ys moved ascend filtered =
    let is : ys ≡ dedup ◌==◌ sorted = dedup_is ◌==◌ sorted ys filtered in
    record {
      ascend = rw is (IsStrictlySortedBy-dedup column_set_cmp_total tied sorted ascend);
      only = λ x found. Contains-permutation sorted xs x (IsPermutation-sym xs sorted moved) (Contains-from_dedup ◌==◌ sorted x (rw is at found));
      every = λ x found. rw is (Contains-dedup_nat sorted x (Contains-permutation xs sorted x moved found));
    }
  where
    tied : (x y : ℕ) → (x == y) ≡ eq_by_cmp column_set_cmp x y
    tied = search (comparing, rules)

-- ---- the sifting

-- what is found of the sets in front: the minimal ones of them
record Found (front found : List ℕ) : Type 0 where
  ascend : ascends found
  among : (z : ℕ) → Contains found z → Contains front z
  below : (y : ℕ) → Contains front y → (z : ℕ) × Contains found z × (is_subset z y ≡ true)
  apart : (z y : ℕ) → Contains found z → Contains front y → is_subset y z ≡ true → y ≡ z

-- all in front come before x
abbrev Before : List ℕ → ℕ → Type 0
Before front x = (y : ℕ) → Contains front y → column_set_cmp y x ≡ Less

passed : (front found : List ℕ) (x : ℕ) → AreSets front → IsColumnSet x → Before front x → has_inside found x ≡ true → Found front found
    → Found (front ++ x ∷ []) found
passed front found x are_sets x_set before inside so_far = record {
  ascend = so_far.ascend;
  among = λ z there. Contains-append_left front (x ∷ []) z (so_far.among z there);
  below = λ y there. elim (Contains-push_cases front x y there) [
    | inl early ↦ so_far.below y early
    | inr same ↦
        let one = any_at (λ z. is_subset z x) found inside in
        (one.0, one.1, subst (λ w. is_subset one.0 w ≡ true) same one.2)
  ];
  apart = λ z y kept there part. elim (Contains-push_cases front x y there) [
    | inl early ↦ so_far.apart z y kept early part
    | inr same ↦
        absurd (not_inside_earlier x z x_set (are_sets z (so_far.among z kept)) (before z (so_far.among z kept))
        (subst (λ w. is_subset w z ≡ true) (sym same) part))
  ];
}

taken : (front found : List ℕ) (x : ℕ) → AreSets front → IsColumnSet x → Before front x → has_inside found x ≡ false → Found front found
    → Found (front ++ x ∷ []) (found ++ x ∷ [])
taken front found x are_sets x_set before none so_far = record {
  ascend = pushed_ascends found x so_far.ascend (λ z kept. before z (so_far.among z kept));
  among = λ z there. elim (Contains-push_cases found x z there) [
    | inl early ↦ Contains-append_left front (x ∷ []) z (so_far.among z early)
    | inr same ↦ subst (Contains (front ++ x ∷ [])) same (Contains-push front x)
  ];
  below = λ y there. elim (Contains-push_cases front x y there) [
    | inl early ↦ let one = so_far.below y early in (one.0, Contains-append_left found (x ∷ []) one.0 one.1, one.2)
    | inr same ↦ (x, Contains-push found x, subst (λ w. is_subset x w ≡ true) same (subset_itself x))
  ];
  apart = λ z y kept there part. elim (Contains-push_cases found x z kept) [
    | inl early ↦ elim (Contains-push_cases front x y there) [
      | inl also ↦ so_far.apart z y early also part
      | inr same ↦
          absurd (not_inside_earlier x z x_set (are_sets z (so_far.among z early)) (before z (so_far.among z early))
          (subst (λ w. is_subset w z ≡ true) (sym same) part))
    ]
    | inr last ↦ elim (Contains-push_cases front x y there) [
      | inl also ↦ absurd (smaller_found y also (subst (λ w. is_subset y w ≡ true) (sym last) part))
      | inr same ↦ sym same ∙ last
    ]
  ];
}
  where
    smaller_found : (y : ℕ) → Contains front y → is_subset y x ≡ true → ⊥
    smaller_found y there part =
        let one = so_far.below y there in
        let inside : is_subset one.0 x ≡ true = subset_trans one.0 y x (are_sets one.0 (so_far.among one.0 one.1)) (are_sets y there) one.2 part in
        both_ways (has_inside found x) none (any_from (λ z. is_subset z x) found one.0 one.1 inside)

all_sifted : (front found rest : List ℕ) → AreSets (front ++ rest) → ascends rest → ((x : ℕ) → Contains rest x → Before front x) → Found front found
    → Found (front ++ rest) (sifted found rest)
unfolding sifted
all_sifted front found [] are_sets up before so_far = subst (λ all. Found all found) (sym (append-nil front)) so_far
all_sifted front found (x ∷ rest) are_sets up before so_far =
    subst (λ all. Found all (sifted (cond (has_inside found x) found (found ++ x ∷ [])) rest)) whole
    (all_sifted (front ++ x ∷ []) (cond (has_inside found x) found (found ++ x ∷ [])) rest (subst AreSets (sym whole) are_sets) (rest_ascends x rest up) later
    (step (has_inside found x) refl))
  where
    whole : (front ++ x ∷ []) ++ rest ≡ front ++ x ∷ rest
    whole = append_assoc front (x ∷ []) rest

    later : (y : ℕ) → Contains rest y → Before (front ++ x ∷ []) y
    later y there z in_front =
        elim (Contains-push_cases front x z in_front) [
          | inl early ↦ before y (in_rest x rest y there) z early
          | inr same ↦ subst (λ w. column_set_cmp w y ≡ Less) same (first_below x rest y up there)
        ]

    front_sets : AreSets front
    front_sets z there = are_sets z (Contains-append_left front (x ∷ rest) z there)

    x_set : IsColumnSet x
    x_set = are_sets x (Contains-append_right front (x ∷ rest) x (in_first x rest))

    step : (test : Bool) → has_inside found x ≡ test → Found (front ++ x ∷ []) (cond test found (found ++ x ∷ []))
    step true inside = passed front found x front_sets x_set (before x (in_first x rest)) inside so_far
    step false none = taken front found x front_sets x_set (before x (in_first x rest)) none so_far

-- sets in order are sifted into the minimal ones
sifted_listed : (sets : List ℕ) → AreSets sets → ascends sets → Lists (IsMinimal (Contains sets)) (sifted [] sets)
sifted_listed sets are_sets up =
    let all = all_sifted [] [] sets are_sets up (λ x there y none. absurd (in_none y none)) nothing in
    record {
      ascend = all.ascend;
      only = λ x there. record { holds = all.among x there; least = λ y found inside. all.apart x y there found inside };
      every = λ x minimal.
          let one = all.below x minimal.holds in
          subst (Contains (sifted [] sets)) (minimal.least one.0 (all.among one.0 one.1) one.2) one.1;
    }
  where
    nothing : Found [] []
    nothing = record {
      ascend = empty_ascends;
      among = λ z none. none;
      below = λ y none. absurd (in_none y none);
      apart = λ z y none there part. absurd (in_none z none);
    }

-- what is sifted from the same sets in order is their minimal ones
pub sifted_is : (sets copies ordered found : List ℕ) → AreSets sets → copies ≡ sets → Lists (Contains copies) ordered → found ≡ sifted [] ordered → found ≡ minimal_of sets
sifted_is sets copies ordered found are_sets copied listed is =
    let same : Lists (Contains sets) ordered = subst (λ xs. Lists (Contains xs) ordered) copied listed in
    is
    ∙ one_list (IsMinimal (Contains sets)) (sifted [] ordered) (minimal_of sets)
    (lists_same (IsMinimal (Contains ordered)) (IsMinimal (Contains sets)) (sifted [] ordered)
    (λ x minimal. record { holds = same.only x minimal.holds; least = λ y there inside. minimal.least y (same.every y there) inside })
    (λ x minimal. record { holds = same.every x minimal.holds; least = λ y there inside. minimal.least y (same.only y there) inside })
    (sifted_listed ordered (λ x there. are_sets x (same.only x there)) same.ascend))
    (minimal_listed sets)

-- ---- the loop

pub sifted_on : (found after ordered whole : List ℕ) (i x : ℕ) → i < length ordered → x ≡ get_or ordered i x
    → after ≡ cond (has_inside found x) found (found ++ x ∷ []) → sifted found (drop i ordered) ≡ whole → sifted after (drop (i + 1) ordered) ≡ whole
unfolding sifted
sifted_on found after ordered whole i x below reads is so_far =
    ap (λ xs. sifted xs (drop (i + 1) ordered)) is
    ∙ sym (ap (sifted found) (drop_more ordered i x below ∙ ap (λ y. y ∷ drop (i + 1) ordered) (sym reads)))
    ∙ so_far

pub sifted_done : (found ordered whole : List ℕ) (i : ℕ) → length ordered ≤ i → sifted found (drop i ordered) ≡ whole → found ≡ whole
unfolding sifted
sifted_done found ordered whole i reached so_far = sym (ap (sifted found) (drop_all i ordered reached)) ∙ so_far
