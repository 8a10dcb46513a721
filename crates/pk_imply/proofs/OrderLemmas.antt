-- Lists in the strict order of sets: there is one with the same members, and none has a member twice.
use Rattle.std.proofs.Common.{◌≡◌, refl, sym, ◌∙◌, ap, subst, ℕ, List, [], ◌∷◌, ◌++◌, map, inl, inr}
use Rattle.std.specs.List.{Contains}
use Rattle.std.specs.List.Sorted.{IsStrictlySortedBy}
use Rattle.std.specs.Ordering.{ordering_reverse}
use Rattle.std.specs.declared.cmp.Ordering.TheVariants.{Less, Equal, Greater}
use Rattle.std.proofs.lemmas.Cmp.{tied_itself}
use Rattle.std.proofs.lemmas.List.Elements.{All-from_recursion, All-contains, Contains-append_cases, Contains-append_left, Contains-append_right}
use Rattle.pk_values.specs.declared.key.KeyDecl.{KeyDecl}
use Rattle.pk_values.specs.declared.key.Sort.{Sort}
use Rattle.pk_values.specs.ColumnSet.{column_set_cmp}
use Rattle.pk_values.proofs.ColumnOrder.{column_set_cmp_total}
use Rattle.pk_rule.specs.Laws.{key_over}
use Rattle.pk_imply.specs.Cover.{ListsAll}
use Rattle.pk_imply.proofs.ListLemmas.{in_none, in_first, in_rest, in_cases, map_in}

abbrev pub ascends : List ℕ → Type 0
ascends xs = IsStrictlySortedBy column_set_cmp xs

first_below : (x : ℕ) (xs : List ℕ) (y : ℕ) → ascends (x ∷ xs) → Contains xs y → column_set_cmp x y ≡ Less
unfolding IsStrictlySortedBy
first_below x xs y up found = All-contains (λ z. column_set_cmp x z ≡ Less) xs y (All-from_recursion (λ z. column_set_cmp x z ≡ Less) xs up.0) found

rest_ascends : (x : ℕ) (xs : List ℕ) → ascends (x ∷ xs) → ascends xs
unfolding IsStrictlySortedBy
rest_ascends x xs up = up.1

not_itself : (x : ℕ) → column_set_cmp x x ≡ Less → ⊥
not_itself x less = equal_less (sym (tied_itself column_set_cmp_total x) ∙ less)
  where
    equal_less : Equal ≡ Less → ⊥
    equal_less same = cc

not_both : (x y : ℕ) → column_set_cmp x y ≡ Less → column_set_cmp y x ≡ Less → ⊥
not_both x y one other = less_greater (sym one ∙ column_set_cmp_total.antisymm x y ∙ ap ordering_reverse other)
  where
    less_greater : Less ≡ Greater → ⊥
    less_greater same = cc

-- ---- one list has these members

same_head : (x y : ℕ) (xs ys : List ℕ) → ascends (x ∷ xs) → ascends (y ∷ ys) → Contains (y ∷ ys) x → Contains (x ∷ xs) y → x ≡ y
same_head x y xs ys up down x_in y_in =
    elim (in_cases y ys x x_in) [
      | inl same ↦ sym same
      | inr later ↦ elim (in_cases x xs y y_in) [
        | inl same ↦ same
        | inr also ↦ absurd (not_both x y (first_below x xs y up also) (first_below y ys x down later))
      ]
    ]

-- what is behind the first of one is behind the first of the other
in_tail : (x y : ℕ) (xs ys : List ℕ) → ascends (x ∷ xs) → x ≡ y → ((z : ℕ) → Contains (x ∷ xs) z → Contains (y ∷ ys) z) → (z : ℕ) → Contains xs z → Contains ys z
in_tail x y xs ys up same to z found =
    elim (in_cases y ys z (to z (in_rest x xs z found))) [
      | inl head ↦ absurd (not_itself x (subst (λ w. column_set_cmp x w ≡ Less) (sym (same ∙ head)) (first_below x xs z up found)))
      | inr later ↦ later
    ]

same_list : (xs ys : List ℕ) → ascends xs → ascends ys → ((z : ℕ) → Contains xs z → Contains ys z) → ((z : ℕ) → Contains ys z → Contains xs z) → xs ≡ ys
same_list [] [] up down to from = refl
same_list [] (y ∷ ys) up down to from = absurd (in_none y (from y (in_first y ys)))
same_list (x ∷ xs) [] up down to from = absurd (in_none x (to x (in_first x xs)))
same_list (x ∷ xs) (y ∷ ys) up down to from =
    let head : x ≡ y = same_head x y xs ys up down (to x (in_first x xs)) (from y (in_first y ys)) in
    let rest : xs ≡ ys =
    same_list xs ys (rest_ascends x xs up) (rest_ascends y ys down) (in_tail x y xs ys up head to) (in_tail y x ys xs down (sym head) from) in
    ap (λ w. w ∷ xs) head ∙ ap (λ ws. y ∷ ws) rest

pub one_list : (P : ℕ → Type 0) (xs ys : List ℕ) → ListsAll P xs → ListsAll P ys → xs ≡ ys
one_list P xs ys one other =
    same_list xs ys one.ascend other.ascend (λ z found. other.every z (one.only z found)) (λ z found. one.every z (other.only z found))

-- ---- nothing stands twice

pub Distinct : {X : Type 0} → List X → Type 0
Distinct [] = Unit {0}
Distinct (x ∷ xs) = (Contains xs x → ⊥) × Distinct xs

distinct_sets : (xs : List ℕ) → ascends xs → Distinct xs
unfolding Distinct
distinct_sets [] up = tt
distinct_sets (x ∷ xs) up = (λ found. not_itself x (first_below x xs x up found), distinct_sets xs (rest_ascends x xs up))

distinct_keys : (sort : Sort) (xs : List ℕ) → Distinct xs → Distinct (map (key_over sort) xs)
unfolding Distinct
distinct_keys sort [] once = tt
distinct_keys sort (x ∷ xs) once = (
  λ found.
      let from = map_in (key_over sort) xs (key_over sort x) found in
      once.0 (subst (Contains xs) (ap (λ (k : KeyDecl). k.columns) from.2) from.1),
  distinct_keys sort xs once.1,
)

pub keys_once : (sort : Sort) (xs : List ℕ) → IsStrictlySortedBy column_set_cmp xs → Distinct (map (key_over sort) xs)
keys_once sort xs up = distinct_keys sort xs (distinct_sets xs up)

pub joined_once : {X : Type 0} (xs ys : List X) → Distinct xs → Distinct ys → ((x : X) → Contains xs x → Contains ys x → ⊥) → Distinct (xs ++ ys)
unfolding Distinct
joined_once [] ys one other apart = other
joined_once (x ∷ xs) ys one other apart = (
  λ found. elim (Contains-append_cases xs ys x found) [ inl first ↦ one.0 first | inr second ↦ apart x (in_first x xs) second ],
  joined_once xs ys one.1 other (λ z first second. apart z (in_rest x xs z first) second),
)

-- an element of a list without repeats isn't among the others
pub not_among_others : {X : Type 0} (front rest : List X) (x : X) → Distinct (front ++ (x ∷ rest)) → Contains (front ++ rest) x → ⊥
unfolding Distinct
not_among_others [] rest x once found = once.0 found
not_among_others (y ∷ front) rest x once found =
    elim (in_cases y (front ++ rest) x found) [
      | inl same ↦ once.0 (subst (Contains (front ++ (x ∷ rest))) (sym same) (Contains-append_right front (x ∷ rest) x (in_first x rest)))
      | inr later ↦ not_among_others front rest x once.1 later
    ]

pub others_among : {X : Type 0} (front rest : List X) (x y : X) → Contains (front ++ rest) y → Contains (front ++ (x ∷ rest)) y
others_among front rest x y found =
    elim (Contains-append_cases front rest y found) [
      | inl first ↦ Contains-append_left front (x ∷ rest) y first
      | inr second ↦ Contains-append_right front (x ∷ rest) y (in_rest x rest y second)
    ]
