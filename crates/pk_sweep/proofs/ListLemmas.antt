-- What is in a list.
use Rattle.std.proofs.Common.{◌≡◌, ◌⊎◌, refl, sym, ◌∙◌, subst, ap, ℕ, zero, suc, ◌<◌, ◌≤◌, ◌+◌, Bool, true, false, cond, ◌&&◌, ◌==◌, List, [], ◌∷◌, ◌++◌, length, map, take, get_or, Some, slice_get, append_assoc, inl, inr, arith}
use Rattle.std.specs.List.{All, AllZip, Contains, filter, list_all, list_any, range_with_len}
use Rattle.std.proofs.lemmas.Bool.{cases_Bool, cases_eq, and_parts, eq-eqb, ne_eqb}
use Rattle.std.proofs.lemmas.List.{take_more, take_all, map_more}
use Rattle.std.proofs.lemmas.List.Elements.{All-nil, All-cons, Contains-append_left, Contains-append_right, Contains-append_cases, Contains-push_cases, Contains-get_or}

module _ {X : Type 0} where
  pub in_none : (x : X) → Contains [] x → ⊥
  in_none x (k, below, is) = omega (arith, below)

  pub in_first : (x : X) (xs : List X) → Contains (x ∷ xs) x
  in_first x xs = Contains-append_left (x ∷ []) xs x (0, omega arith, refl)

  pub in_rest : (y : X) (ys : List X) (x : X) → Contains ys x → Contains (y ∷ ys) x
  in_rest y ys x found = Contains-append_right (y ∷ []) ys x found

  pub in_cases : (y : X) (ys : List X) (x : X) → Contains (y ∷ ys) x → (y ≡ x) ⊎ Contains ys x
  in_cases y ys x found =
      elim (Contains-append_cases (y ∷ []) ys x found) [
        | inl first ↦ elim (Contains-push_cases [] y x first) [ inl none ↦ absurd (in_none x none) | inr same ↦ inl same ]
        | inr rest ↦ inr rest
      ]

  -- an element stands at some place
  pub in_place : (xs : List X) (x : X) → Contains xs x → (i : ℕ) × (slice_get xs i ≡ Some x)
  in_place [] x found = absurd (in_none x found)
  in_place (y ∷ ys) x found =
      elim (in_cases y ys x found) [
        | inl same ↦ (0, ap Some same)
        | inr rest ↦ let later = in_place ys x rest in (suc later.0, later.1)
      ]

  pub place_in : (xs : List X) (i : ℕ) (x : X) → slice_get xs i ≡ Some x → Contains xs x
  place_in [] i x is = absurd cc
  place_in (y ∷ ys) zero x is = subst (Contains (y ∷ ys)) (some_same y x is) (in_first y ys)
    where
      some_same : (a b : X) → Some a ≡ Some b → a ≡ b
      some_same a b same = cc
  place_in (y ∷ ys) (suc i) x is = in_rest y ys x (place_in ys i x is)

pub in_map : {X Y : Type 0} (f : X → Y) (xs : List X) (x : X) → Contains xs x → Contains (map f xs) (f x)
in_map f [] x found = absurd (in_none x found)
in_map f (y ∷ ys) x found =
    elim (in_cases y ys x found) [
      | inl same ↦ subst (λ z. Contains (map f (y ∷ ys)) (f z)) same (in_first (f y) (map f ys))
      | inr rest ↦ in_rest (f y) (map f ys) (f x) (in_map f ys x rest)
    ]

pub map_in : {X Y : Type 0} (f : X → Y) (xs : List X) (y : Y) → Contains (map f xs) y → (x : X) × Contains xs x × (f x ≡ y)
map_in f [] y found = absurd (in_none y found)
map_in f (x ∷ xs) y found =
    elim (in_cases (f x) (map f xs) y found) [
      | inl same ↦ (x, in_first x xs, same)
      | inr rest ↦ let later = map_in f xs y rest in (later.0, in_rest x xs later.0 later.1, later.2)
    ]

-- a number is among those that a test keeps where it is among all and passes
pub any_kept : (p : ℕ → Bool) (cs : List ℕ) (k : ℕ) → list_any (λ c. c == k) (filter p cs) ≡ (list_any (λ c. c == k) cs && p k)
any_kept p [] k = refl
any_kept p (c ∷ cs) k =
    elim (cases_eq c k) [
      | inl same ↦ elim (cases_Bool (p c)) [
        | inl holds ↦ rw (holds, eq-eqb c k same, subst (λ j. p j ≡ true) same holds) refl
        | inr fails ↦
            let later = any_kept p cs k in
            rw (fails, later, eq-eqb c k same, subst (λ j. p j ≡ false) same fails) (and_false (list_any (λ j. j == k) cs))
      ]
      | inr other ↦ elim (cases_Bool (p c)) [
        | inl holds ↦ rw (holds, ne_eqb c k other) (any_kept p cs k)
        | inr fails ↦ rw (fails, ne_eqb c k other) (any_kept p cs k)
      ]
    ]
  where
    and_false : (b : Bool) → (b && false) ≡ false
    and_false true = refl
    and_false false = refl

-- tests that agree on a range keep the same of it
pub filter_within : (p q : ℕ → Bool) (a m : ℕ) → ((k : ℕ) → a ≤ k → k < a + m → p k ≡ q k) → filter p (range_with_len a m) ≡ filter q (range_with_len a m)
filter_within p q a zero same = refl
filter_within p q a (suc m) same =
    rw (same a (omega arith) (omega arith), filter_within p q (a + 1) m (λ k low high. same k (omega (arith, low)) (omega (arith, high)))) refl

pub range_split : (a m n : ℕ) → range_with_len a (m + n) ≡ range_with_len a m ++ range_with_len (a + m) n
range_split a zero n =
    let start : zero + n ≡ n = omega arith in
    let here : a + zero ≡ a = omega arith in
    ap (range_with_len a) start ∙ ap (λ b. range_with_len b n) (sym here)
range_split a (suc m) n =
    let more : suc m + n ≡ suc (m + n) = omega arith in
    let moved : a + 1 + m ≡ a + suc m = omega arith in
    ap (range_with_len a) more
    ∙ ap (λ ks. a ∷ ks) (range_split (a + 1) m n ∙ ap (λ b. range_with_len (a + 1) m ++ range_with_len b n) moved)

pub kept_within : (p : ℕ → Bool) (xs : List ℕ) (c : ℕ) → Contains (filter p xs) c → Contains xs c
kept_within p [] c found = found
kept_within p (x ∷ xs) c found = step (p x) (kept_within p xs c) found
  where
    step : (t : Bool) → (Contains (filter p xs) c → Contains xs c) → Contains (cond t (x ∷ filter p xs) (filter p xs)) c → Contains (x ∷ xs) c
    step true later there = elim (in_cases x (filter p xs) c there) [
      | inl same ↦ subst (Contains (x ∷ xs)) same (in_first x xs)
      | inr rest ↦ in_rest x xs c (later rest)
    ]
    step false later there = in_rest x xs c (later there)

pub range_below : (a n k : ℕ) → Contains (range_with_len a n) k → k < a + n
range_below a zero k found = absurd (in_none k found)
range_below a (suc n) k found =
    elim (in_cases a (range_with_len (a + 1) n) k found) [
      | inl same ↦ omega (arith, same)
      | inr rest ↦ let low = range_below (a + 1) n k rest in omega (arith, low)
    ]

-- ---- two lists, element by element

pub zip_length : {A B : Type 0} (R : A → B → Type 0) (xs : List A) (ys : List B) → AllZip R xs ys → length xs ≡ length ys
zip_length R [] [] all = refl
zip_length R [] (y ∷ ys) all = absurd all
zip_length R (x ∷ xs) [] all = absurd all
zip_length R (x ∷ xs) (y ∷ ys) all = ap suc (zip_length R xs ys all.1)

pub zip_at : {A B : Type 0} (R : A → B → Type 0) (xs : List A) (ys : List B) (i : ℕ) (x : A) (d : B) → AllZip R xs ys → slice_get xs i ≡ Some x → R x (get_or ys i d)
zip_at R [] ys i x d all stands = absurd cc
zip_at R (y ∷ xs) [] i x d all stands = absurd all
zip_at {A} R (y ∷ xs) (z ∷ zs) zero x d all stands = subst (λ v. R v z) (some_same y x stands) all.0
  where
    some_same : (a b : A) → Some a ≡ Some b → a ≡ b
    some_same a b same = cc
zip_at R (y ∷ xs) (z ∷ zs) (suc i) x d all stands = zip_at R xs zs i x d all.1 stands

zip_pushed : {A B : Type 0} (R : A → B → Type 0) (xs : List A) (ys : List B) (x : A) (y : B) → AllZip R xs ys → R x y → AllZip R (xs ++ x ∷ []) (ys ++ y ∷ [])
zip_pushed R [] [] x y all one = (one, tt)
zip_pushed R [] (z ∷ zs) x y all one = absurd all
zip_pushed R (w ∷ ws) [] x y all one = absurd all
zip_pushed R (w ∷ ws) (z ∷ zs) x y all one = (all.0, zip_pushed R ws zs x y all.1 one)

-- one element more
pub zip_more : {A B : Type 0} (R : A → B → Type 0) (xs : List A) (ys : List B) (i : ℕ) (x : A) (y : B) → i < length xs → x ≡ get_or xs i x → AllZip R (take i xs) ys → R x y
    → AllZip R (take (i + 1) xs) (ys ++ y ∷ [])
zip_more R xs ys i x y within reads all one =
    subst (λ us. AllZip R us (ys ++ y ∷ [])) (sym (take_more xs i x within ∙ ap (λ z. take i xs ++ z ∷ []) (sym reads))) (zip_pushed R (take i xs) ys x y all one)

pub map_taken : {A B : Type 0} (f : A → B) (xs : List A) (ys : List B) (i : ℕ) (x : A) (y : B) → i < length xs → x ≡ get_or xs i x → ys ≡ map f (take i xs) → y ≡ f x
    → ys ++ y ∷ [] ≡ map f (take (i + 1) xs)
map_taken f xs ys i x y within reads so_far is =
    ap (λ zs. zs ++ y ∷ []) so_far ∙ ap (λ z. map f (take i xs) ++ z ∷ []) (is ∙ ap f reads) ∙ sym (map_more f xs i x within)

-- all of the list, once its end is reached
pub taken_all : {A : Type 0} (xs : List A) (i : ℕ) → length xs ≤ i → take i xs ≡ xs
taken_all xs i reached = take_all i xs reached

pub all_inside : {X : Type 0} (P : X → Type 0) (xs : List X) → ((x : X) → Contains xs x → P x) → All P xs
all_inside P xs each = λ k d below. each (get_or xs k d) (Contains-get_or xs k d below)

pub all_at : {X : Type 0} (p : X → Bool) (xs : List X) (x : X) → list_all p xs ≡ true → Contains xs x → p x ≡ true
all_at p [] x all found = absurd (in_none x found)
all_at p (y ∷ ys) x all found =
    let parts = and_parts (p y) (list_all p ys) all in
    elim (in_cases y ys x found) [ inl same ↦ subst (λ z. p z ≡ true) same parts.0 | inr rest ↦ all_at p ys x parts.1 rest ]

-- one column of a walk
pub walked_more : (listed more cs rest whole : List ℕ) (c : ℕ) → cs ≡ c ∷ rest → more ≡ listed ++ c ∷ [] → listed ++ cs ≡ whole → more ++ rest ≡ whole
walked_more listed more cs rest whole c split is so_far =
    ap (λ xs. xs ++ rest) is ∙ append_assoc listed (c ∷ []) rest ∙ ap (λ xs. listed ++ xs) (sym split) ∙ so_far

pub zip_each : {A B : Type 0} (R : A → B → Type 0) (P : B → Type 0) (xs : List A) (ys : List B) → ((x : A) (y : B) → R x y → P y) → AllZip R xs ys → All P ys
zip_each R P [] [] each all = All-nil P
zip_each R P [] (y ∷ ys) each all = absurd all
zip_each R P (x ∷ xs) [] each all = absurd all
zip_each R P (x ∷ xs) (y ∷ ys) each all = All-cons P y ys (each x y all.0) (zip_each R P xs ys each all.1)
