-- Lists in the strict order of sets: there is one with the same members.
use Rattle.std.proofs.Common.{◌≡◌, refl, sym, ◌∙◌, ap, subst, ℕ, List, [], ◌∷◌, ◌++◌, inl, inr}
use Rattle.std.specs.List.{Contains, AllByRecursion}
use Rattle.std.specs.List.Sorted.{IsStrictlySortedBy}
use Rattle.std.specs.Ordering.{ordering_reverse}
use Rattle.std.specs.declared.cmp.Ordering.TheVariants.{Less, Equal, Greater}
use Rattle.std.proofs.lemmas.Cmp.{tied_itself}
use Rattle.std.proofs.lemmas.List.Elements.{All-from_recursion, All-contains}
use Rattle.pk_values.specs.ColumnSet.{column_set_cmp}
use Rattle.pk_values.proofs.ColumnOrder.{column_set_cmp_total}
use Rattle.pk_transversal.specs.Minimal.{Lists}
use Rattle.pk_transversal.proofs.ListLemmas.{in_none, in_first, in_rest, in_cases}

abbrev pub ascends : List ℕ → Type 0
ascends xs = IsStrictlySortedBy column_set_cmp xs

pub empty_ascends : ascends []
unfolding IsStrictlySortedBy
empty_ascends = tt

pub first_below : (x : ℕ) (xs : List ℕ) (y : ℕ) → ascends (x ∷ xs) → Contains xs y → column_set_cmp x y ≡ Less
unfolding IsStrictlySortedBy
first_below x xs y up found = All-contains (λ z. column_set_cmp x z ≡ Less) xs y (All-from_recursion (λ z. column_set_cmp x z ≡ Less) xs up.0) found

pub rest_ascends : (x : ℕ) (xs : List ℕ) → ascends (x ∷ xs) → ascends xs
unfolding IsStrictlySortedBy
rest_ascends x xs up = up.1

pub not_itself : (x : ℕ) → column_set_cmp x x ≡ Less → ⊥
not_itself x less = equal_less (sym (tied_itself column_set_cmp_total x) ∙ less)
  where
    equal_less : Equal ≡ Less → ⊥
    equal_less same = cc

pub not_both : (x y : ℕ) → column_set_cmp x y ≡ Less → column_set_cmp y x ≡ Less → ⊥
not_both x y one other = less_greater (sym one ∙ column_set_cmp_total.antisymm x y ∙ ap ordering_reverse other)
  where
    less_greater : Less ≡ Greater → ⊥
    less_greater same = cc

-- ---- one more at the end

below_pushed : (y : ℕ) (xs : List ℕ) (x : ℕ) → AllByRecursion (λ z. column_set_cmp y z ≡ Less) xs → column_set_cmp y x ≡ Less
    → AllByRecursion (λ z. column_set_cmp y z ≡ Less) (xs ++ x ∷ [])
below_pushed y [] x below less = (less, tt)
below_pushed y (z ∷ zs) x below less = (below.0, below_pushed y zs x below.1 less)

pub pushed_ascends : (xs : List ℕ) (x : ℕ) → ascends xs → ((z : ℕ) → Contains xs z → column_set_cmp z x ≡ Less) → ascends (xs ++ x ∷ [])
unfolding IsStrictlySortedBy
pushed_ascends [] x up above = (tt, tt)
pushed_ascends (y ∷ ys) x up above = (
  below_pushed y ys x up.0 (above y (in_first y ys)),
  pushed_ascends ys x up.1 (λ z found. above z (in_rest y ys z found)),
)

-- ---- one list has these members

same_head : (x y : ℕ) (xs ys : List ℕ) → ascends (x ∷ xs) → ascends (y ∷ ys) → Contains (y ∷ ys) x → Contains (x ∷ xs) y → x ≡ y
same_head x y xs ys up down x_in y_in =
    elim (in_cases y ys x x_in) [
      | inl same ↦ sym same
      | inr later ↦ elim (in_cases x xs y y_in) [
        | inl same ↦ same
        | inr also ↦ absurd (not_both x y (first_below x xs y up also) (first_below y ys x down later))
      ]
    ]

-- what is behind the first of one is behind the first of the other
in_tail : (x y : ℕ) (xs ys : List ℕ) → ascends (x ∷ xs) → x ≡ y → ((z : ℕ) → Contains (x ∷ xs) z → Contains (y ∷ ys) z) → (z : ℕ) → Contains xs z → Contains ys z
in_tail x y xs ys up same to z found =
    elim (in_cases y ys z (to z (in_rest x xs z found))) [
      | inl head ↦ absurd (not_itself x (subst (λ w. column_set_cmp x w ≡ Less) (sym (same ∙ head)) (first_below x xs z up found)))
      | inr later ↦ later
    ]

same_list : (xs ys : List ℕ) → ascends xs → ascends ys → ((z : ℕ) → Contains xs z → Contains ys z) → ((z : ℕ) → Contains ys z → Contains xs z) → xs ≡ ys
same_list [] [] up down to from = refl
same_list [] (y ∷ ys) up down to from = absurd (in_none y (from y (in_first y ys)))
same_list (x ∷ xs) [] up down to from = absurd (in_none x (to x (in_first x xs)))
same_list (x ∷ xs) (y ∷ ys) up down to from =
    let head : x ≡ y = same_head x y xs ys up down (to x (in_first x xs)) (from y (in_first y ys)) in
    let rest : xs ≡ ys =
    same_list xs ys (rest_ascends x xs up) (rest_ascends y ys down) (in_tail x y xs ys up head to) (in_tail y x ys xs down (sym head) from) in
    ap (λ w. w ∷ xs) head ∙ ap (λ ws. y ∷ ws) rest

pub one_list : (P : ℕ → Type 0) (xs ys : List ℕ) → Lists P xs → Lists P ys → xs ≡ ys
one_list P xs ys one other =
    same_list xs ys one.ascend other.ascend (λ z found. other.every z (one.only z found)) (λ z found. one.every z (other.only z found))

-- what lists all that have P lists all that have what is the same
pub lists_same : (P Q : ℕ → Type 0) (xs : List ℕ) → ((x : ℕ) → P x → Q x) → ((x : ℕ) → Q x → P x) → Lists P xs → Lists Q xs
lists_same P Q xs to from listed = record {
  ascend = listed.ascend;
  only = λ x found. to x (listed.only x found);
  every = λ x holds. listed.every x (from x holds);
}
