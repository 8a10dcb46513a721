-- Looking through ids that ascend for the first that isn't outside.
use Rattle.std.proofs.Common.{◌≡◌, refl, sym, ◌∙◌, ap, subst, ℕ, ◌<◌, ◌≤◌, Bool, true, false, ◌&&◌, ◌||◌, ◌==◌, List, [], ◌∷◌, ◌++◌, length, arith}
use Rattle.std.specs.List.{list_all, list_any, AllByRecursion}
use Rattle.std.specs.List.Sorted.{IsStrictlySortedBy}
use Rattle.std.specs.Ordering.{nat_cmp, is_eq}
use Rattle.std.specs.declared.cmp.Ordering.TheVariants.{Less}
use Rattle.std.specs.BTreeMap.{is_at}
use Rattle.std.proofs.lemmas.Bool.{and_parts, lt-ltb, eqb-true, false≢true, both_ways}
use Rattle.std.proofs.lemmas.Cmp.{nat_cmp_total, eq_by_cmp_equiv}
use Rattle.std.proofs.lemmas.List.{append_assoc, append-nil}
use Rattle.std.proofs.lemmas.Map.Keys.{sorted_head, sorted_tail, IsDistinct-from_sorted}
use Rattle.std.proofs.lemmas.Map.Made.{length-le_from_is_member}
use Rattle.pk_values.proofs.NumberLemmas.{less_numbers}
use Rattle.pk_index.specs.Rows.{is_listed, IsLeast}
use Rattle.pk_index.proofs.ShownLemmas.{same_id}
use Rattle.std.specs.Prelude.{Some, None}
use Rattle.std.proofs.Math.Bool.{or-true}

-- a number below another isn't it
below_differs : (j k : ℕ) → j < k → is_eq (nat_cmp j k) ≡ false
below_differs j k low = rw (lt-ltb j k low) refl

at_itself : (j : ℕ) → is_at (nat_cmp j) j ≡ true
at_itself j = (eq_by_cmp_equiv nat_cmp_total).refl j

-- an id is listed where one of the ids is at it
listed_as_member : (ids : List ℕ) (j : ℕ) → is_listed ids j ≡ true → list_any (is_at (nat_cmp j)) ids ≡ true
listed_as_member [] j found = absurd (false≢true found)
listed_as_member (i ∷ ids) j found = by_first (i == j) refl (listed_as_member ids j) found where
  by_first : (t : Bool) → (i == j) ≡ t → (is_listed ids j ≡ true → list_any (is_at (nat_cmp j)) ids ≡ true) → (t || is_listed ids j) ≡ true
      → (is_at (nat_cmp j) i || list_any (is_at (nat_cmp j)) ids) ≡ true
  by_first true same others found = subst (λ z. (is_at (nat_cmp j) z || list_any (is_at (nat_cmp j)) ids) ≡ true) (sym (eqb-true i j same))
      (ap (λ t. t || list_any (is_at (nat_cmp j)) ids) (at_itself j))
  by_first false differ others found = ap (λ t. is_at (nat_cmp j) i || t) (others found) ∙ or-true (is_at (nat_cmp j) i)

-- among ids above k, none is below it
none_below : (k j : ℕ) (ks : List ℕ) → j < k → AllByRecursion (λ y. nat_cmp k y ≡ Less) ks → list_any (is_at (nat_cmp j)) ks ≡ false
none_below k j [] low above = refl
none_below k j (y ∷ ks) low above =
    ap (λ t. t || list_any (is_at (nat_cmp j)) ks) (below_differs j y (let first = less_numbers k y above.0 in omega (arith, low, first)))
    ∙ none_below k j ks low above.1

-- what holds of all ids holds of one among them
among_all : (p : ℕ → Bool) (ids : List ℕ) (j : ℕ) → list_all p ids ≡ true → list_any (is_at (nat_cmp j)) ids ≡ true → p j ≡ true
among_all p [] j all found = absurd (false≢true found)
among_all p (i ∷ ids) j all found = by_first (is_at (nat_cmp j) i) refl (among_all p ids j (and_parts _ _ all).1) found where
  by_first : (t : Bool) → is_at (nat_cmp j) i ≡ t → (list_any (is_at (nat_cmp j)) ids ≡ true → p j ≡ true) → (t || list_any (is_at (nat_cmp j)) ids) ≡ true → p j ≡ true
  by_first true same others found = subst (λ z. p z ≡ true) (sym (same_id j i same)) (and_parts _ _ all).0
  by_first false differ others found = others found

-- where the ids in front are outside, so is each below the next
lower_outside : (outside front rest : List ℕ) (id : ℕ) → IsStrictlySortedBy nat_cmp (front ++ (id ∷ rest))
    → list_all (is_listed outside) front ≡ true → (j : ℕ) → j < id → list_any (is_at (nat_cmp j)) (front ++ (id ∷ rest)) ≡ true → is_listed outside j ≡ true
lower_outside outside [] rest id ascend passed j low found =
    absurd (both_ways _ (ap (λ t. t || list_any (is_at (nat_cmp j)) rest) (below_differs j id low) ∙ none_below id j rest low (sorted_head nat_cmp id rest ascend)) found)
lower_outside outside (k ∷ front) rest id ascend passed j low found =
    by_first (is_at (nat_cmp j) k) refl (lower_outside outside front rest id (sorted_tail nat_cmp k (front ++ (id ∷ rest)) ascend) (and_parts _ _ passed).1 j low) found where
      by_first : (t : Bool) → is_at (nat_cmp j) k ≡ t → (list_any (is_at (nat_cmp j)) (front ++ (id ∷ rest)) ≡ true → is_listed outside j ≡ true)
          → (t || list_any (is_at (nat_cmp j)) (front ++ (id ∷ rest))) ≡ true → is_listed outside j ≡ true
      by_first true same others found = subst (λ z. is_listed outside z ≡ true) (sym (same_id j k same)) (and_parts _ _ passed).0
      by_first false differ others found = others found

has_next : (front rest : List ℕ) (id : ℕ) → list_any (is_at (nat_cmp id)) (front ++ (id ∷ rest)) ≡ true
has_next [] rest id = ap (λ t. t || list_any (is_at (nat_cmp id)) rest) (at_itself id)
has_next (k ∷ front) rest id = ap (λ t. is_at (nat_cmp id) k || t) (has_next front rest id) ∙ or-true (is_at (nat_cmp id) k)

-- the next id is the least, where those in front of it are outside and it isn't
pub first_is_least : (outside ids front left rest : List ℕ) (id : ℕ) → IsStrictlySortedBy nat_cmp ids → ids ≡ front ++ left → left ≡ id ∷ rest
    → list_all (is_listed outside) front ≡ true → is_listed outside id ≡ false → IsLeast (λ j. list_any (is_at (nat_cmp j)) ids) outside (Some id)
first_is_least outside ids front left rest id ascend split next passed inside =
    let whole : ids ≡ front ++ (id ∷ rest) = split ∙ ap (λ more. front ++ more) next in (
      ap (list_any (is_at (nat_cmp id))) whole ∙ has_next front rest id,
      inside,
      λ j low found. lower_outside outside front rest id (subst (IsStrictlySortedBy nat_cmp) whole ascend) passed j low (sym (ap (list_any (is_at (nat_cmp j))) whole) ∙ found),
    )

-- where all are outside, there is no least
pub none_is_least : (outside ids front left : List ℕ) → ids ≡ front ++ left → left ≡ [] → list_all (is_listed outside) front ≡ true
    → IsLeast (λ j. list_any (is_at (nat_cmp j)) ids) outside None
none_is_least outside ids front left split end passed =
    let whole : ids ≡ front = split ∙ ap (λ more. front ++ more) end ∙ append-nil front in
    λ j found. among_all (is_listed outside) front j passed (sym (ap (list_any (is_at (nat_cmp j))) whole) ∙ found)

all_front : (P : ℕ → Type 0) (front left : List ℕ) → AllByRecursion P (front ++ left) → AllByRecursion P front
all_front P [] left all = tt
all_front P (k ∷ front) left all = (all.0, all_front P front left all.1)

front_ascends : (front left : List ℕ) → IsStrictlySortedBy nat_cmp (front ++ left) → IsStrictlySortedBy nat_cmp front
unfolding IsStrictlySortedBy
front_ascends [] left ascend = tt
front_ascends (k ∷ front) left ascend = (all_front _ front left ascend.0, front_ascends front left ascend.1)

-- no more ids are passed than are listed outside
pub passed_most : (outside ids front left : List ℕ) → IsStrictlySortedBy nat_cmp ids → ids ≡ front ++ left → list_all (is_listed outside) front ≡ true → length front ≤ length outside
passed_most outside ids front left ascend split passed =
    length-le_from_is_member (eq_by_cmp_equiv nat_cmp_total) front outside
    (IsDistinct-from_sorted nat_cmp front (front_ascends front left (subst (IsStrictlySortedBy nat_cmp) split ascend)))
    (λ q found. listed_as_member outside q (among_all (is_listed outside) front q passed found))

-- one id more is passed
pub passed_next : (outside front : List ℕ) (id : ℕ) → list_all (is_listed outside) front ≡ true → is_listed outside id ≡ true → list_all (is_listed outside) (front ++ id ∷ []) ≡ true
passed_next outside [] id passed here = ap (λ t. t && true) here
passed_next outside (k ∷ front) id passed here =
    let parts = and_parts _ _ passed in
    ap (λ t. t && list_all (is_listed outside) (front ++ id ∷ [])) parts.0 ∙ passed_next outside front id parts.1 here

pub split_next : (ids front left rest : List ℕ) (id : ℕ) → ids ≡ front ++ left → left ≡ id ∷ rest → ids ≡ (front ++ id ∷ []) ++ rest
split_next ids front left rest id split next = split ∙ ap (λ more. front ++ more) next ∙ sym (append_assoc front (id ∷ []) rest)
