-- Members of lists, and how many different ones there are.
use Rattle.std.proofs.Common.{◌≡◌, refl, sym, ap, subst, ◌≤◌, List, [], ◌∷◌, ◌++◌, length, All, inl, inr, ◌⊎◌, arith}
use Rattle.std.proofs.lemmas.List.{length-append}
use Rattle.std.proofs.lemmas.List.Elements.{All-nil, All-cons, All-append}
use Rattle.pk_catalog.specs.Bases.{AreDistinct}
use Rattle.pk_catalog.proofs.OneBase.{IsIn, member_has}

pub in_front : {A : Type 0} (x : A) (front back : List A) → IsIn x front → IsIn x (front ++ back)
in_front x [] back is = absurd is
in_front x (y ∷ front) back (inl same) = inl same
in_front x (y ∷ front) back (inr later) = inr (in_front x front back later)

pub in_back : {A : Type 0} (x : A) (front back : List A) → IsIn x back → IsIn x (front ++ back)
in_back x [] back is = is
in_back x (y ∷ front) back is = inr (in_back x front back is)

pub all_members : {A : Type 0} (P : A → Type 0) (xs : List A) → ((x : A) → IsIn x xs → P x) → All P xs
all_members P [] each = All-nil P
all_members P (x ∷ xs) each = All-cons P x xs (each x (inl refl)) (all_members P xs (λ y is. each y (inr is)))

-- what stands before and behind a member
split_member : {A : Type 0} (x : A) (ys : List A) → IsIn x ys → (front : List A) × (back : List A) × (ys ≡ front ++ x ∷ back)
split_member x [] is = absurd is
split_member x (y ∷ ys) (inl same) = ([], ys, ap (λ z. z ∷ ys) (sym same))
split_member x (y ∷ ys) (inr later) = let parts = split_member x ys later in (y ∷ parts.0, parts.1, ap (λ zs. y ∷ zs) parts.2)

in_parts : {A : Type 0} (x y : A) (front back : List A) → (x ≡ y → ⊥) → IsIn x (front ++ y ∷ back) → IsIn x (front ++ back)
in_parts x y [] back other (inl same) = absurd (other same)
in_parts x y [] back other (inr later) = later
in_parts x y (z ∷ front) back other (inl same) = inl same
in_parts x y (z ∷ front) back other (inr later) = inr (in_parts x y front back other later)

-- different members of a list are no more than all
pub no_more_members : {A : Type 0} (xs ys : List A) → AreDistinct xs → ((x : A) → IsIn x xs → IsIn x ys) → length xs ≤ length ys
no_more_members [] ys distinct inside = omega arith
no_more_members (x ∷ xs) ys distinct inside =
    let parts = split_member x ys (inside x (inl refl)) in
    let rest = no_more_members xs (parts.0 ++ parts.1) distinct.1 (λ z is.
    in_parts z x parts.0 parts.1 (λ same. member_has (λ y. x ≡ y → ⊥) z xs distinct.0 is (sym same)) (subst (IsIn z) parts.2 (inside z (inr is)))) in
    omega (arith, rest, ap length parts.2, length-append parts.0 (x ∷ parts.1), length-append parts.0 parts.1)

pub in_either : {A : Type 0} (x : A) (front back : List A) → IsIn x (front ++ back) → IsIn x front ⊎ IsIn x back
in_either x [] back is = inr is
in_either x (y ∷ front) back (inl same) = inl (inl same)
in_either x (y ∷ front) back (inr later) = elim (in_either x front back later) [ inl one ↦ inl (inr one) | inr other ↦ inr other ]

all_both : {A : Type 0} (P : A → Type 0) (xs ys : List A) → All P xs → ((y : A) → IsIn y ys → P y) → All P (xs ++ ys)
all_both P xs ys all each = All-append P xs ys all (all_members P ys each)

-- different members of each, and none of both
pub distinct_both : {A : Type 0} (xs ys : List A) → AreDistinct xs → AreDistinct ys → ((x : A) → IsIn x xs → IsIn x ys → ⊥) → AreDistinct (xs ++ ys)
distinct_both [] ys xs_distinct ys_distinct apart = ys_distinct
distinct_both (x ∷ xs) ys xs_distinct ys_distinct apart = (
  all_both (λ y. x ≡ y → ⊥) xs ys xs_distinct.0 (λ y is same. apart x (inl refl) (subst (λ z. IsIn z ys) (sym same) is)),
  distinct_both xs ys xs_distinct.1 ys_distinct (λ y is. apart y (inr is)),
)
