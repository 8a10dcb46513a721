-- What is in a list.
use Rattle.std.proofs.Common.{◌≡◌, ◌⊎◌, refl, sym, subst, ℕ, zero, suc, ◌<◌, ◌≤◌, ◌+◌, Bool, true, false, cond, List, [], ◌∷◌, get_or, inl, inr, arith}
use Rattle.std.specs.List.{All, Contains, filter, list_any, list_all, range_with_len}
use Rattle.std.proofs.lemmas.Bool.{cases_Bool, cases_eq, and_parts, and_from}
use Rattle.std.proofs.lemmas.List.Elements.{Contains-append_left, Contains-append_right, Contains-append_cases, Contains-push_cases, Contains-get_or}

module _ {X : Type 0} where
  pub in_none : (x : X) → Contains [] x → ⊥
  in_none x (k, below, is) = omega (arith, below)

  in_first : (x : X) (xs : List X) → Contains (x ∷ xs) x
  in_first x xs = Contains-append_left (x ∷ []) xs x (0, omega arith, refl)

  in_rest : (y : X) (ys : List X) (x : X) → Contains ys x → Contains (y ∷ ys) x
  in_rest y ys x found = Contains-append_right (y ∷ []) ys x found

  in_cases : (y : X) (ys : List X) (x : X) → Contains (y ∷ ys) x → (y ≡ x) ⊎ Contains ys x
  in_cases y ys x found =
      elim (Contains-append_cases (y ∷ []) ys x found) [
        | inl first ↦ elim (Contains-push_cases [] y x first) [ inl none ↦ absurd (in_none x none) | inr same ↦ inl same ]
        | inr rest ↦ inr rest
      ]

  -- an element that passes is kept, and what is kept passes
  pub in_kept : (p : X → Bool) (xs : List X) (x : X) → Contains xs x → p x ≡ true → Contains (filter p xs) x
  in_kept p [] x found passes = absurd (in_none x found)
  in_kept p (y ∷ ys) x found passes =
      elim (in_cases y ys x found) [
        | inl same ↦ subst (λ z. Contains (filter p (y ∷ ys)) z) same (rw (subst (λ z. p z ≡ true) (sym same) passes) (in_first y (filter p ys)))
        | inr rest ↦
            let later = in_kept p ys x rest passes in
            elim (cases_Bool (p y)) [ inl holds ↦ rw holds (in_rest y (filter p ys) x later) | inr fails ↦ rw fails later ]
      ]

  kept_first : (p : X → Bool) (y : X) (ys : List X) (x : X) (b : Bool) → p y ≡ b → (Contains (filter p ys) x → Contains ys x × (p x ≡ true))
      → Contains (cond b (y ∷ filter p ys) (filter p ys)) x → Contains (y ∷ ys) x × (p x ≡ true)
  kept_first p y ys x true passes later found =
      elim (in_cases y (filter p ys) x found) [
        | inl same ↦ (subst (Contains (y ∷ ys)) same (in_first y ys), subst (λ z. p z ≡ true) same passes)
        | inr rest ↦ (in_rest y ys x (later rest).0, (later rest).1)
      ]
  kept_first p y ys x false fails later found = (in_rest y ys x (later found).0, (later found).1)

  pub kept_in : (p : X → Bool) (xs : List X) (x : X) → Contains (filter p xs) x → Contains xs x × (p x ≡ true)
  kept_in p [] x found = absurd (in_none x found)
  kept_in p (y ∷ ys) x found = kept_first p y ys x (p y) refl (kept_in p ys x) found

  -- a test that passes somewhere
  pub any_at : (p : X → Bool) (xs : List X) → list_any p xs ≡ true → (x : X) × Contains xs x × (p x ≡ true)
  any_at p [] none = cc
  any_at p (y ∷ ys) holds =
      elim (cases_Bool (p y)) [
        | inl passes ↦ (y, in_first y ys, passes)
        | inr fails ↦ let later = any_at p ys (rw fails at holds) in (later.0, in_rest y ys later.0 later.1, later.2)
      ]

  pub any_from : (p : X → Bool) (xs : List X) (x : X) → Contains xs x → p x ≡ true → list_any p xs ≡ true
  any_from p [] x found passes = absurd (in_none x found)
  any_from p (y ∷ ys) x found passes =
      elim (in_cases y ys x found) [
        | inl same ↦ rw (subst (λ z. p z ≡ true) (sym same) passes) refl
        | inr rest ↦ elim (cases_Bool (p y)) [ inl holds ↦ rw holds refl | inr fails ↦ rw fails (any_from p ys x rest passes) ]
      ]

  -- a test that passes everywhere
  pub all_at : (p : X → Bool) (xs : List X) (x : X) → list_all p xs ≡ true → Contains xs x → p x ≡ true
  all_at p [] x all found = absurd (in_none x found)
  all_at p (y ∷ ys) x all found =
      let parts = and_parts (p y) (list_all p ys) all in
      elim (in_cases y ys x found) [ inl same ↦ subst (λ z. p z ≡ true) same parts.0 | inr rest ↦ all_at p ys x parts.1 rest ]

  pub all_from : (p : X → Bool) (xs : List X) → ((x : X) → Contains xs x → p x ≡ true) → list_all p xs ≡ true
  all_from p [] each = refl
  all_from p (y ∷ ys) each =
      and_from (p y) (list_all p ys) (each y (in_first y ys)) (all_from p ys (λ x found. each x (in_rest y ys x found)))

  pub all_inside : (P : X → Type 0) (xs : List X) → ((x : X) → Contains xs x → P x) → All P xs
  all_inside P xs each = λ k d below. each (get_or xs k d) (Contains-get_or xs k d below)

-- the numbers of a range
pub range_in : (a n k : ℕ) → a ≤ k → k < a + n → Contains (range_with_len a n) k
range_in a zero k from to = absurd (omega (arith, from, to))
range_in a (suc n) k from to =
    elim (cases_eq a k) [
      | inl same ↦ subst (Contains (a ∷ range_with_len (a + 1) n)) same (in_first a (range_with_len (a + 1) n))
      | inr other ↦ in_rest a (range_with_len (a + 1) n) k (range_in (a + 1) n k (omega (arith, from, other)) (omega (arith, to)))
    ]

pub range_below : (a n k : ℕ) → Contains (range_with_len a n) k → k < a + n
range_below a zero k found = absurd (in_none k found)
range_below a (suc n) k found =
    elim (in_cases a (range_with_len (a + 1) n) k found) [
      | inl same ↦ omega (arith, same)
      | inr rest ↦ let later = range_below (a + 1) n k rest in omega (arith, later)
    ]
