-- One more item behind those that were gone through.
use Rattle.std.proofs.Common.{◌≡◌, ℕ, ◌+◌, ◌<◌, List, [], ◌∷◌, ◌++◌, length, get_or, take, Option, Some, None, refl, sym, ap, ◌∙◌, append_assoc}
use Rattle.std.specs.Prelude.{option_to_list}
use Rattle.std.specs.List.{filter_map, flat_map, cons_option}
use Rattle.std.proofs.lemmas.Grind.{flat_map-append}
use Rattle.std.proofs.lemmas.List.{append-nil, take_more}
use Rattle.std.proofs.lemmas.List.Elements.{filter_map-append}

one_kept : {A : Type 0} (o : Option A) → cons_option o [] ≡ option_to_list o
one_kept None = refl
one_kept (Some x) = refl

filter_map_one : {A B : Type 0} (h : A → Option B) (xs : List A) (x : A) → filter_map h (xs ++ x ∷ []) ≡ filter_map h xs ++ option_to_list (h x)
filter_map_one h xs x = filter_map-append h xs (x ∷ []) ∙ ap (λ ys. filter_map h xs ++ ys) (one_kept (h x))

-- what is kept of one more item
pub one_more_kept : {A B : Type 0} (h : A → Option B) (xs : List A) (x : A) (kept new : List B) → kept ≡ filter_map h xs → new ≡ kept ++ option_to_list (h x) → new ≡ filter_map h (xs ++ x ∷ [])
one_more_kept h xs x kept new so_far next = next ∙ ap (λ ys. ys ++ option_to_list (h x)) so_far ∙ sym (filter_map_one h xs x)

-- the same at the next place of a list, behind what was there
pub one_more_kept_at : {A B : Type 0} (h : A → Option B) (xs : List A) (i : ℕ) (d : A) (before kept new : List B)
    → i < length xs → kept ≡ before ++ filter_map h (take i xs) → new ≡ kept ++ option_to_list (h (get_or xs i d)) → new ≡ before ++ filter_map h (take (i + 1) xs)
one_more_kept_at h xs i d before kept new lt so_far next =
    next ∙ ap (λ ys. ys ++ option_to_list (h (get_or xs i d))) so_far ∙ append_assoc before (filter_map h (take i xs)) (option_to_list (h (get_or xs i d)))
    ∙ ap (λ ys. before ++ ys) (sym (filter_map_one h (take i xs) (get_or xs i d))) ∙ ap (λ ys. before ++ filter_map h ys) (sym (take_more xs i d lt))

-- what one more item adds
pub one_more_added : {A B : Type 0} (f : A → List B) (xs : List A) (x : A) (added new : List B) → added ≡ flat_map f xs → new ≡ added ++ f x → new ≡ flat_map f (xs ++ x ∷ [])
one_more_added f xs x added new so_far next =
    next ∙ ap (λ ys. ys ++ f x) so_far ∙ ap (λ ys. flat_map f xs ++ ys) (sym (append-nil (f x))) ∙ sym (flat_map-append f xs (x ∷ []))
