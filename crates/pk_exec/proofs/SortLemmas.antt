-- Stable sorting: there is one list that is in order and keeps what ties as it stood.
use Rattle.std.proofs.Common.{◌≡◌, ℕ, ◌+◌, ◌<◌, Bool, true, false, not, ◌&&◌, List, [], ◌∷◌, length, get_or, suc, refl, ap, sym, ◌∙◌, subst, arith, if◌then◌else◌}
use Rattle.std.specs.List.{filter, AllByRecursion}
use Rattle.std.specs.List.Sorted.{IsSortedBy, ties}
use Rattle.std.specs.Cmp.{IsStrictWeakOrder}
use Rattle.std.proofs.lemmas.List.Sorted.{sorted_far}

module _ {X : Type 0} (lt : X → X → Bool) (o : IsStrictWeakOrder lt) where
  -- no element is less than one before it
  unfoldable pub InOrder : List X → Type 0
  InOrder [] = Unit {0}
  InOrder (x ∷ xs) = AllByRecursion (λ (y : X). lt y x ≡ false) xs × InOrder xs

  none_less : (x : X) → lt x x ≡ false
  none_less x = split (lt x x) refl
    where
      split : (b : Bool) → lt x x ≡ b → b ≡ false
      split true is = sym is ∙ o.one_way x x is
      split false is = refl

  ties_itself : (x : X) → ties lt x x ≡ true
  ties_itself x = rw (none_less x) refl

  -- ---- what a sort ensures, by recursion

  all_from : (x : X) (xs : List X) → ((k : ℕ) (d : X) → k < length xs → lt (get_or xs k d) x ≡ false) → AllByRecursion (λ (y : X). lt y x ≡ false) xs
  all_from x [] each = tt
  all_from x (y ∷ ys) each = (each 0 x (omega arith), all_from x ys (λ k d h. each (suc k) d (omega (arith, h))))

  pub in_order : (xs : List X) → IsSortedBy lt xs → InOrder xs
  unfolding InOrder
  in_order [] up = tt
  in_order (x ∷ xs) up = (
    all_from x xs (λ k d h. sorted_far lt o (x ∷ xs) up 0 (suc k) d (omega arith) (omega (arith, h))),
    in_order xs (λ k d low high. subst (λ (n : ℕ). lt (get_or xs (k + 1) d) (get_or (x ∷ xs) n d) ≡ false) (one_more k)
        (subst (λ (n : ℕ). lt (get_or (x ∷ xs) n d) (get_or (x ∷ xs) (k + 1) d) ≡ false) (two_more k) (up (k + 1) d (omega arith) (omega (arith, high))))),
  )
    where
      one_more : (k : ℕ) → k + 1 ≡ suc k
      one_more k = omega arith

      two_more : (k : ℕ) → (k + 1) + 1 ≡ suc (k + 1)
      two_more k = omega arith

  -- ---- there is one such list

  -- what stands first of those that pass is one of them, and has what all have
  first_passes : (p : X → Bool) (P : X → Type 0) (xs : List X) (a : X) (rest : List X) → AllByRecursion P xs → filter p xs ≡ a ∷ rest → P a
  first_passes p P [] a rest all is = absurd (cc)
  first_passes p P (x ∷ xs) a rest all is = split (p x) is (λ r. first_passes p P xs a rest all.1 r)
    where
      head_is : x ∷ filter p xs ≡ a ∷ rest → x ≡ a
      head_is same = cc

      split : (b : Bool) → (if b then x ∷ filter p xs else filter p xs) ≡ a ∷ rest → (filter p xs ≡ a ∷ rest → P a) → P a
      split true is deeper = subst P (head_is is) all.0
      split false is deeper = deeper is

  heads : (a b : X) (xs ys : List X) → a ∷ xs ≡ b ∷ ys → a ≡ b
  heads a b xs ys same = cc

  tails : (a b : X) (xs ys : List X) → a ∷ xs ≡ b ∷ ys → xs ≡ ys
  tails a b xs ys same = cc

  front : (x y : X) (xs : List X) → ties lt x y ≡ true → filter (ties lt x) (y ∷ xs) ≡ y ∷ filter (ties lt x) xs
  front x y xs tied = rw tied refl

  both_false : (a b : Bool) → a ≡ false → b ≡ false → (not a && not b) ≡ true
  both_false a b first second = rw (first, second) refl

  rest_same : (x y : X) (xs ys : List X) → filter (ties lt x) (y ∷ xs) ≡ filter (ties lt x) (y ∷ ys) → filter (ties lt x) xs ≡ filter (ties lt x) ys
  rest_same x y xs ys same = split (ties lt x y) same
    where
      split : (b : Bool) → (if b then y ∷ filter (ties lt x) xs else filter (ties lt x) xs) ≡ (if b then y ∷ filter (ties lt x) ys else filter (ties lt x) ys)
          → filter (ties lt x) xs ≡ filter (ties lt x) ys
      split true same = tails y y (filter (ties lt x) xs) (filter (ties lt x) ys) same
      split false same = same

  pub one_order : (xs ys : List X) → InOrder xs → InOrder ys → ((x : X) → filter (ties lt x) xs ≡ filter (ties lt x) ys) → xs ≡ ys
  unfolding InOrder
  one_order [] [] up down same = refl
  one_order [] (y ∷ ys) up down same = absurd (cc (same y, front y y ys (ties_itself y)))
  one_order (x ∷ xs) [] up down same = absurd (cc (same x, front x x xs (ties_itself x)))
  one_order (x ∷ xs) (y ∷ ys) up down same =
      let in_ys : lt x y ≡ false =
      first_passes (ties lt x) (λ (z : X). lt z y ≡ false) (y ∷ ys) x (filter (ties lt x) xs) (none_less y, down.0) (sym (same x) ∙ front x x xs (ties_itself x)) in
      let in_xs : lt y x ≡ false =
      first_passes (ties lt y) (λ (z : X). lt z x ≡ false) (x ∷ xs) y (filter (ties lt y) ys) (none_less x, up.0) (same y ∙ front y y ys (ties_itself y)) in
      let head : x ≡ y =
      heads x y (filter (ties lt x) xs) (filter (ties lt x) ys)
      (sym (front x x xs (ties_itself x)) ∙ same x ∙ front x y ys (both_false (lt x y) (lt y x) in_ys in_xs)) in
      let rest : xs ≡ ys =
      one_order xs ys up.1 down.1
      (λ z. rest_same z y xs ys (subst (λ (w : X). filter (ties lt z) (w ∷ xs) ≡ filter (ties lt z) (y ∷ ys)) head (same z))) in
      ap (λ (w : X). w ∷ xs) head ∙ ap (λ (zs : List X). y ∷ zs) rest
