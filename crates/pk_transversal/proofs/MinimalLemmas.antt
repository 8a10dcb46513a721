-- The minimal ones of some sets, by the test that a definition makes.
use Rattle.std.proofs.Common.{◌≡◌, ◌⊎◌, refl, ℕ, zero, suc, ◌<◌, ◌≤◌, Bool, true, false, not, ◌&&◌, ◌==◌, List, length, inl, inr, arith}
use Rattle.std.specs.List.{Contains, filter}
use Rattle.std.proofs.lemmas.Bool.{cases_Bool, and_parts, eqb-true, eq-eqb, both_ways}
use Rattle.pk_values.specs.ColumnSet.{IsColumnSet, columns, is_subset}
use Rattle.pk_values.proofs.ColumnLemmas.{subset_itself}
use Rattle.pk_transversal.specs.Minimal.{IsMinimal, Lists, has_part, minimal_of}
use Rattle.pk_transversal.proofs.ListLemmas.{in_kept, kept_in, any_at, any_from}
use Rattle.pk_transversal.proofs.OrderLemmas.{lists_same}
use Rattle.pk_transversal.proofs.InsertLemmas.{in_order_lists}
use Rattle.pk_transversal.proofs.SetLemmas.{subset_trans, subset_smaller}

-- all of the list are sets
abbrev pub AreSets : List ℕ → Type 0
AreSets sets = (x : ℕ) → Contains sets x → IsColumnSet x

part_test : (y x : ℕ) → (is_subset y x && not (y == x)) ≡ true → y ≡ x → ⊥
part_test y x holds same =
    let other : not (y == x) ≡ true = (and_parts (is_subset y x) (not (y == x)) holds).1 in
    let equal : (y == x) ≡ true = eq-eqb y x same in
    both_ways (not (y == x)) (rw equal refl) other

minimal_from_test : (sets : List ℕ) (x : ℕ) → Contains (filter (λ y. not (has_part sets y)) sets) x → IsMinimal (Contains sets) x
minimal_from_test sets x found =
    let kept = kept_in (λ y. not (has_part sets y)) sets x found in
    record { holds = kept.0; least = λ y there inside. same y there inside kept.1 }
  where
    same : (y : ℕ) → Contains sets y → is_subset y x ≡ true → not (has_part sets x) ≡ true → y ≡ x
    same y there inside none =
        elim (cases_Bool (y == x)) [
          | inl equal ↦ eqb-true y x equal
          | inr other ↦
              let part : has_part sets x ≡ true = any_from (λ z. is_subset z x && not (z == x)) sets y there (rw (inside, other) refl) in
              cc
        ]

test_from_minimal : (sets : List ℕ) (x : ℕ) → IsMinimal (Contains sets) x → Contains (filter (λ y. not (has_part sets y)) sets) x
test_from_minimal sets x minimal =
    in_kept (λ y. not (has_part sets y)) sets x minimal.holds
    (elim (cases_Bool (has_part sets x)) [
      | inl part ↦
          let found = any_at (λ z. is_subset z x && not (z == x)) sets part in
          absurd (part_test found.0 x found.2 (minimal.least found.0 found.1 (and_parts (is_subset found.0 x) (not (found.0 == x)) found.2).0))
      | inr none ↦ rw none refl
    ])

pub minimal_listed : (sets : List ℕ) → Lists (IsMinimal (Contains sets)) (minimal_of sets)
unfolding minimal_of
minimal_listed sets =
    lists_same (Contains (filter (λ x. not (has_part sets x)) sets)) (IsMinimal (Contains sets)) _ (minimal_from_test sets) (test_from_minimal sets)
    (in_order_lists (filter (λ x. not (has_part sets x)) sets))

-- ---- there is one inside each

smaller : (x y : ℕ) → (length (columns y) < length (columns x)) ⊎ (y ≡ x) → (is_subset y x && not (y == x)) ≡ true → length (columns y) < length (columns x)
smaller x y (inl less) _ = less
smaller x y (inr same) holds = absurd (part_test y x holds same)

-- a minimal one of the sets that lies inside this one
abbrev pub MinimalInside : List ℕ → ℕ → Type 0
MinimalInside sets x = (w : ℕ) × (is_subset w x ≡ true) × IsMinimal (Contains sets) w

-- where one that is smaller has a minimal one inside, so has this
through_part : (sets : List ℕ) (x : ℕ) (test : Bool) → has_part sets x ≡ test → AreSets sets → Contains sets x
    → ((y : ℕ) → Contains sets y → length (columns y) < length (columns x) → MinimalInside sets y)
    → MinimalInside sets x
through_part sets x false none are_sets found deeper =
    (x, subset_itself x, minimal_from_test sets x (in_kept (λ y. not (has_part sets y)) sets x found (rw none refl)))
through_part sets x true part are_sets found deeper =
    let other = any_at (λ z. is_subset z x && not (z == x)) sets part in
    let inside : is_subset other.0 x ≡ true = (and_parts (is_subset other.0 x) (not (other.0 == x)) other.2).0 in
    let fewer : length (columns other.0) < length (columns x) =
    smaller x other.0 (subset_smaller other.0 x (are_sets other.0 other.1) (are_sets x found) inside) other.2 in
    let below = deeper other.0 other.1 fewer in
    (below.0, subset_trans below.0 other.0 x (are_sets below.0 below.2.holds) (are_sets other.0 other.1) below.1 inside, below.2)

minimal_within : (sets : List ℕ) (n x : ℕ) → AreSets sets → Contains sets x → length (columns x) ≤ n → MinimalInside sets x
minimal_within sets zero x are_sets found small =
    through_part sets x (has_part sets x) refl are_sets found (λ y there fewer. absurd (omega (arith, fewer, small)))
minimal_within sets (suc n) x are_sets found small =
    through_part sets x (has_part sets x) refl are_sets found (λ y there fewer. minimal_within sets n y are_sets there (omega (arith, fewer, small)))

pub minimal_inside : (sets : List ℕ) (x : ℕ) → AreSets sets → Contains sets x → MinimalInside sets x
minimal_inside sets x are_sets found = minimal_within sets (length (columns x)) x are_sets found (omega arith)

pub minimal_are_sets : (sets : List ℕ) → AreSets sets → AreSets (minimal_of sets)
minimal_are_sets sets are_sets x found = are_sets x ((minimal_listed sets).only x found).holds
