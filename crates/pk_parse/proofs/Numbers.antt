-- A number only grows as its digits are read.
use Rattle.std.proofs.Common.{◌≡◌, ℕ, ◌+◌, ◌<◌, ◌≤◌, List, [], ◌∷◌, length, add-one, get_or, drop, Some, None, refl, sym, ◌∙◌, arith}
use Rattle.std.specs.List.{fold}
use Rattle.std.proofs.lemmas.Bool.{lt-leb, le-leb}
use Rattle.std.proofs.lemmas.List.{at_drop_all}
use Rattle.std.proofs.Math.Seq.{drop-cons}
use Rattle.pk_parse.specs.Literals.{with_digit, number_within}

grows : (n : ℕ) (digits : List ℕ) → n ≤ fold with_digit n digits
grows n [] = omega arith
grows n (d ∷ digits) = let more = grows (with_digit n d) digits in omega arith

-- what passes the bound at a digit stays beyond it
pub passes : (most : ℕ) (digits : List ℕ) (i n total : ℕ) → i < length digits → fold with_digit n (drop i digits) ≡ total → most < with_digit n (get_or digits i 0) → number_within most total ≡ None
passes most digits i n total lt so_far large =
    let next : fold with_digit n (drop i digits) ≡ fold with_digit (with_digit n (get_or digits i 0)) (drop (i + 1) digits) = rw (add-one, drop-cons digits i 0 lt) refl in
    let more = grows (with_digit n (get_or digits i 0)) (drop (i + 1) digits) in
    rw (lt-leb total most (omega (arith, next, so_far, more))) refl

-- what hasn't passed the bound at the last digit is the number
pub is_within : (most : ℕ) (digits : List ℕ) (i n total : ℕ) → length digits ≤ i → fold with_digit n (drop i digits) ≡ total → n ≤ most → number_within most total ≡ Some n
is_within most digits i n total le so_far within =
    let same : n ≡ total = sym (at_drop_all (fold with_digit n) digits i le) ∙ so_far in
    rw (sym same, le-leb n most within) refl
