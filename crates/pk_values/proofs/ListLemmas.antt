-- Lists and choices by a test or a function, whatever they hold.
use Rattle.std.proofs.Common.{◌≡◌, refl, sym, ◌∙◌, ap, subst, ℕ, suc, ◌+◌, ◌≤◌, Bool, true, false, cond, ◌&&◌, not, List, [], ◌∷◌, length, map, Option, Some, None, nat_lt, arith}
use Rattle.std.specs.List.{list_all, position, prefix_len}
use Rattle.std.specs.Option.{option_map}
use Rattle.std.proofs.lemmas.Bool.{and_parts, and_from, ltb-false, le-ltb}

pub map_none : {A B : Type 0} (f : A → B) (o : Option A) → option_map f o ≡ None → o ≡ None
map_none f None none = refl
map_none f (Some x) none = absurd cc

pub map_same : {A B : Type 0} (f g : A → B) → ((x : A) → f x ≡ g x) → (xs : List A) → map f xs ≡ map g xs
map_same f g same [] = refl
map_same f g same (x ∷ xs) = ap (λ y. y ∷ map f xs) (same x) ∙ ap (λ ys. g x ∷ ys) (map_same f g same xs)

-- tests that agree say the same of a list
pub all_same : {A : Type 0} (p q : A → Bool) → ((x : A) → p x ≡ q x) → (xs : List A) → list_all p xs ≡ list_all q xs
all_same p q same [] = refl
all_same p q same (x ∷ xs) = rw (same x, all_same p q same xs) refl

-- a test that follows from another passes where that does
pub all_weaker : {A : Type 0} (p q : A → Bool) → ((x : A) → p x ≡ true → q x ≡ true) → (xs : List A) → list_all p xs ≡ true → list_all q xs ≡ true
all_weaker p q so [] all = refl
all_weaker p q so (x ∷ xs) all =
    let parts = and_parts (p x) (list_all p xs) all in
    and_from (q x) (list_all q xs) (so x parts.0) (all_weaker p q so xs parts.1)

-- a test that always passes
pub all_true : {A : Type 0} (p : A → Bool) → ((x : A) → p x ≡ true) → (xs : List A) → list_all p xs ≡ true
all_true p so [] = refl
all_true p so (x ∷ xs) = and_from (p x) (list_all p xs) (so x) (all_true p so xs)

-- ---- the place of the first that passes

all_reached : {A : Type 0} (p : A → Bool) (xs : List A) → list_all p xs ≡ true → length xs ≤ prefix_len p xs
all_reached p [] all = omega arith
all_reached p (x ∷ xs) all =
    let parts = and_parts (p x) (list_all p xs) all in
    subst (λ b. length (x ∷ xs) ≤ cond b (1 + prefix_len p xs) 0) (sym parts.0) (omega (arith, all_reached p xs parts.1))

reached_step : (b others : Bool) (n m : ℕ) → (n ≤ m → others ≡ true) → suc n ≤ cond b (1 + m) 0 → (b && others) ≡ true
reached_step true others n m so far = so (omega (arith, far))
reached_step false others n m so far = absurd (omega (arith, far))

reached_all : {A : Type 0} (p : A → Bool) (xs : List A) → length xs ≤ prefix_len p xs → list_all p xs ≡ true
reached_all p [] far = refl
reached_all p (x ∷ xs) far = reached_step (p x) (list_all p xs) (length xs) (prefix_len p xs) (reached_all p xs) far

no_some : {A : Type 0} (b : Bool) (x : A) → cond b (Some x) None ≡ None → b ≡ false
no_some true x none = absurd cc
no_some false x none = refl

-- where the test fails at each, it passes nowhere
pub no_place : {A : Type 0} (p : A → Bool) (xs : List A) → list_all (λ x. not (p x)) xs ≡ true → position p xs ≡ None
no_place p xs all =
    let i = prefix_len (λ x. not (p x)) xs in
    ap (λ b. cond b (Some i) None) (le-ltb i (length xs) (all_reached (λ x. not (p x)) xs all))

-- where it passes nowhere, it fails at each
pub none_passes : {A : Type 0} (p : A → Bool) (xs : List A) → position p xs ≡ None → list_all (λ x. not (p x)) xs ≡ true
none_passes p xs none =
    let i = prefix_len (λ x. not (p x)) xs in
    reached_all (λ x. not (p x)) xs (ltb-false i (length xs) (no_some (nat_lt i (length xs)) i none))
