use Rattle.std.proofs.Common.{◌≡◌, ℕ, ◌+◌, ◌<◌, Bool, List, [], ◌∷◌, ◌++◌, Some, None, length, take, get_or, arith, refl}
use Rattle.std.specs.List.{slice_get, find, position, position_or_len}
use Rattle.std.proofs.lemmas.List.{take_more}
use Rattle.std.proofs.lemmas.List.Sums.{position_or_len_is}
use Rattle.std.proofs.lemmas.List.Quantifiers.{position-Some}
use Rattle.std.proofs.lemmas.List.Folds.{find_at}
use Rattle.std.proofs.lemmas.Option.{slice_get_within, slice_get_past, slice_get-get_or, get_or_from_slice_get}
use Rattle.std.proofs.lemmas.Grind.{common_steps}

-- one element more, which is at this place
pub take_more_found : {X : Type 0} (xs : List X) (i : ℕ) (x : X) → slice_get xs i ≡ Some x → take (i + 1) xs ≡ take i xs ++ x ∷ []
take_more_found xs i x found =
    rw (take_more xs i x (slice_get_within xs i x found), get_or_from_slice_get xs i x x found)

-- a first place that passes is within the list, and as far as those before it that don't
pub first_place : {X : Type 0} (p : X → Bool) (xs : List X) (i : ℕ) (d : X) → position p xs ≡ Some i → (i < length xs) × (position_or_len p xs ≡ i)
first_place p xs i d at =
    let w = position-Some p xs i d at in
    (w.0, position_or_len_is p xs i d (omega (arith, w.0)) w.2 (λ _. w.1))

-- what is found stands at the first place that passes
pub find_found : {X : Type 0} (p : X → Bool) (xs : List X) (i : ℕ) (x : X) → position p xs ≡ Some i → x ≡ get_or xs i x → find p xs ≡ Some x
find_found p xs i x at is =
    let w = first_place p xs i x at in
    rw (find_at p xs, w.1, slice_get-get_or xs i x w.0, ← is) refl

-- nothing is found where no place passes
pub find_none : {X : Type 0} (p : X → Bool) (xs : List X) → position p xs ≡ None → find p xs ≡ None
find_none p xs at = grind (arith, common_steps, find_at p xs, slice_get_past xs (position_or_len p xs))

-- from how far those that don't pass reach, back to the place
pub position_at : {X : Type 0} (p : X → Bool) (xs : List X) (i : ℕ) → position_or_len p xs ≡ i → i < length xs → position p xs ≡ Some i
position_at p xs i first within = grind (arith, common_steps)

pub no_position : {X : Type 0} (p : X → Bool) (xs : List X) → position_or_len p xs ≡ length xs → position p xs ≡ None
no_position p xs all = grind (arith, common_steps)
