-- The least of some sets, by a test that the code makes.
use Rattle.std.proofs.Common.{◌≡◌, ◌⊎◌, refl, ℕ, zero, suc, ◌<◌, ◌≤◌, Bool, true, false, not, ◌&&◌, ◌==◌, List, [], length, inl, inr, rules, arith}
use Rattle.std.specs.List.{Contains, filter, dedup}
use Rattle.std.specs.List.Retain.{IsFiltered, DiffersFromLast}
use Rattle.std.specs.List.Sorted.{IsPermutation, IsSorted}
use Rattle.std.specs.Cmp.Rules.{comparing}
use Rattle.std.specs.Ordering.{eq_by_cmp}
use Rattle.std.proofs.lemmas.Bool.{cases_Bool, and_parts, eqb-true, eq-eqb, both_ways}
use Rattle.std.proofs.lemmas.List.Filters.{dedup_is}
use Rattle.std.proofs.lemmas.List.Kept.{Contains-dedup_nat, Contains-from_dedup, IsStrictlySortedBy-dedup}
use Rattle.std.proofs.lemmas.List.Sorted.{Contains-permutation, IsPermutation-sym}
use Rattle.pk_values.specs.ColumnSet.{IsColumnSet, columns, is_subset, column_set_cmp}
use Rattle.pk_values.proofs.ColumnOrder.{column_set_cmp_total}
use Rattle.pk_imply.specs.Cover.{ListsAll}
use Rattle.pk_imply.specs.Candidates.{has_part, IsLeast}
use Rattle.pk_imply.proofs.ListLemmas.{in_kept, kept_in, any_at, any_from}
use Rattle.pk_imply.proofs.SubsetLemmas.{subset_trans, subset_smaller}
use Rattle.pk_values.proofs.ColumnLemmas.{subset_itself}

-- what lists all that have P lists all that have what is the same
pub lists_same : (P Q : ℕ → Type 0) (xs : List ℕ) → ((x : ℕ) → P x → Q x) → ((x : ℕ) → Q x → P x) → ListsAll P xs → ListsAll Q xs
lists_same P Q xs to from listed = record {
  ascend = listed.ascend;
  only = λ x found. to x (listed.only x found);
  every = λ x holds. listed.every x (from x holds);
}

-- ---- sorted, and each once

pub deduped : (xs sorted ys : List ℕ) → IsPermutation xs sorted → IsSorted column_set_cmp sorted → IsFiltered (DiffersFromLast ◌==◌) [] sorted ys → ListsAll (Contains xs) ys
deduped xs sorted ys moved ascend filtered =
    let is : ys ≡ dedup ◌==◌ sorted = dedup_is ◌==◌ sorted ys filtered in
    record {
      ascend = rw is (IsStrictlySortedBy-dedup column_set_cmp_total tied sorted ascend);
      only = λ x found. Contains-permutation sorted xs x (IsPermutation-sym xs sorted moved) (Contains-from_dedup ◌==◌ sorted x (rw is at found));
      every = λ x found. rw is (Contains-dedup_nat sorted x (Contains-permutation xs sorted x moved found));
    }
  where
    tied : (x y : ℕ) → (x == y) ≡ eq_by_cmp column_set_cmp x y
    tied = search (comparing, rules)

-- ---- no other lies inside

part_test : (y x : ℕ) → (is_subset y x && not (y == x)) ≡ true → y ≡ x → ⊥
part_test y x holds same =
    let other : not (y == x) ≡ true = (and_parts (is_subset y x) (not (y == x)) holds).1 in
    let equal : (y == x) ≡ true = eq-eqb y x same in
    both_ways (not (y == x)) (rw equal refl) other

pub least_from_test : (sets : List ℕ) (x : ℕ) → Contains (filter (λ y. not (has_part sets y)) sets) x → IsLeast sets x
least_from_test sets x found =
    let kept = kept_in (λ y. not (has_part sets y)) sets x found in
    record { among = kept.0; least = λ y there inside. same y there inside kept.1 }
  where
    same : (y : ℕ) → Contains sets y → is_subset y x ≡ true → not (has_part sets x) ≡ true → y ≡ x
    same y there inside none =
        elim (cases_Bool (y == x)) [
          | inl equal ↦ eqb-true y x equal
          | inr other ↦
              let part : has_part sets x ≡ true = any_from (λ z. is_subset z x && not (z == x)) sets y there (rw (inside, other) refl) in
              cc
        ]

pub test_from_least : (sets : List ℕ) (x : ℕ) → IsLeast sets x → Contains (filter (λ y. not (has_part sets y)) sets) x
test_from_least sets x least =
    in_kept (λ y. not (has_part sets y)) sets x least.among
    (elim (cases_Bool (has_part sets x)) [
      | inl part ↦
          let found = any_at (λ z. is_subset z x && not (z == x)) sets part in
          absurd (part_test found.0 x found.2 (least.least found.0 found.1 (and_parts (is_subset found.0 x) (not (found.0 == x)) found.2).0))
      | inr none ↦ rw none refl
    ])

pub least_listed : (sets least ordered : List ℕ) → least ≡ filter (λ x. not (has_part sets x)) sets → ListsAll (Contains least) ordered → ListsAll (IsLeast sets) ordered
least_listed sets least ordered is listed =
    lists_same (Contains (filter (λ x. not (has_part sets x)) sets)) (IsLeast sets) ordered (least_from_test sets) (test_from_least sets) (rw is at listed)

-- ---- there is one inside each

smaller : (x y : ℕ) → (length (columns y) < length (columns x)) ⊎ (y ≡ x) → (is_subset y x && not (y == x)) ≡ true → length (columns y) < length (columns x)
smaller x y (inl less) _ = less
smaller x y (inr same) holds = absurd (part_test y x holds same)

-- where one that is smaller has a least inside, so has this
through_part : (sets : List ℕ) (x : ℕ) (test : Bool) → has_part sets x ≡ test → ((y : ℕ) → Contains sets y → IsColumnSet y) → Contains sets x
    → ((y : ℕ) → Contains sets y → length (columns y) < length (columns x) → (w : ℕ) × (is_subset w y ≡ true) × IsLeast sets w)
    → (w : ℕ) × (is_subset w x ≡ true) × IsLeast sets w
through_part sets x false none are_sets found deeper =
    (x, subset_itself x, least_from_test sets x (in_kept (λ y. not (has_part sets y)) sets x found (rw none refl)))
through_part sets x true part are_sets found deeper =
    let other = any_at (λ z. is_subset z x && not (z == x)) sets part in
    let inside : is_subset other.0 x ≡ true = (and_parts (is_subset other.0 x) (not (other.0 == x)) other.2).0 in
    let fewer : length (columns other.0) < length (columns x) =
    smaller x other.0 (subset_smaller other.0 x (are_sets other.0 other.1) (are_sets x found) inside) other.2 in
    let below = deeper other.0 other.1 fewer in
    (below.0, subset_trans below.0 other.0 x (are_sets below.0 below.2.among) (are_sets other.0 other.1) below.1 inside, below.2)

least_within : (sets : List ℕ) (n x : ℕ) → ((y : ℕ) → Contains sets y → IsColumnSet y) → Contains sets x → length (columns x) ≤ n
    → (w : ℕ) × (is_subset w x ≡ true) × IsLeast sets w
least_within sets zero x are_sets found small =
    through_part sets x (has_part sets x) refl are_sets found (λ y there fewer. absurd (omega (arith, fewer, small)))
least_within sets (suc n) x are_sets found small =
    through_part sets x (has_part sets x) refl are_sets found (λ y there fewer. least_within sets n y are_sets there (omega (arith, fewer, small)))

pub least_inside : (sets : List ℕ) (x : ℕ) → ((y : ℕ) → Contains sets y → IsColumnSet y) → Contains sets x
    → (w : ℕ) × (is_subset w x ≡ true) × IsLeast sets w
least_inside sets x are_sets found = least_within sets (length (columns x)) x are_sets found (omega arith)
