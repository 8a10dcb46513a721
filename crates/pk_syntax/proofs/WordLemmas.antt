-- A word is reserved where it is among the code's words of its own length.
use Rattle.std.proofs.Common.{◌≡◌, ◌+◌, ◌<◌, ℕ, zero, suc, Bool, true, false, List, [], ◌∷◌, length, map, Option, Some, None, refl, sym, ap, ◌∙◌, arith}
use Rattle.std.specs.Prelude.{◌==◌, ◌&&◌, not}
use Rattle.std.specs.List.{list_any, list_all, flat_map, slice_get}
use Rattle.std.specs.Str.{bytes_eq}
use Rattle.std.proofs.Math.Bool.{or-false}
use Rattle.std.proofs.lemmas.Bool.{eqb-true, eq-eqb, and_parts, false≢true}
use Rattle.std.proofs.lemmas.List.Folds.{list_any-append}
use Rattle.std.proofs.lemmas.Slice.Eq.{bytes_eq-Decides}
use Rattle.pk_syntax.specs.declared.words.TheConstants.{OF_TWO, OF_THREE, OF_FOUR, OF_FIVE, OF_SIX, OF_SEVEN, OF_EIGHT, OF_TEN, OF_TWELVE}
use Rattle.pk_syntax.specs.Words.{is_reserved, reserved}

-- the code's words by how many bytes they have, from none on
unfoldable pub reserved_by_length : List (List (List ℕ))
reserved_by_length =
    [] ∷ [] ∷ map (λ word. word.now) OF_TWO ∷ map (λ word. word.now) OF_THREE ∷ map (λ word. word.now) OF_FOUR ∷ map (λ word. word.now) OF_FIVE ∷ map (λ word. word.now) OF_SIX
    ∷ map (λ word. word.now) OF_SEVEN ∷ map (λ word. word.now) OF_EIGHT ∷ [] ∷ map (λ word. word.now) OF_TEN ∷ [] ∷ map (λ word. word.now) OF_TWELVE ∷ []

-- whether the word is one of these
abbrev is_among : List ℕ → List (List ℕ) → Bool
is_among word words = list_any (λ w. bytes_eq w word) words

-- whether all of these words have so many bytes
abbrev are_long : ℕ → List (List ℕ) → Bool
are_long n words = list_all (λ w. length w == n) words

-- whether the words of each list have so many bytes, one more at each list
abbrev are_by_length : ℕ → List (List (List ℕ)) → Bool
are_by_length n [] = true
are_by_length n (words ∷ lists) = are_long n words && are_by_length (suc n) lists

-- what is equal isn't told apart
no_other : (m n : ℕ) → m ≡ n → not (m == n) ≡ true → ⊥
no_other m n same other = false≢true (rw (eq-eqb m n same) at other)

-- a word of another length is none of these
differs : (n : ℕ) (word : List ℕ) (words : List (List ℕ)) → are_long n words ≡ true → (length word ≡ n → ⊥) → is_among word words ≡ false
differs n word [] all other = refl
differs n word (w ∷ ws) all other =
    let parts = and_parts (length w == n) (are_long n ws) all in
    first (bytes_eq w word) refl parts.0 (differs n word ws parts.1 other)
  where
    first : (b : Bool) → bytes_eq w word ≡ b → (length w == n) ≡ true → is_among word ws ≡ false → is_among word (w ∷ ws) ≡ false
    first false e long rest = rw e rest
    first true e long rest =
        let same : w ≡ word = (bytes_eq-Decides w word).0 e in
        absurd (other (ap length (sym same) ∙ eqb-true (length w) n long))

-- a shorter word is in none of the lists
shorter : (n : ℕ) (word : List ℕ) (lists : List (List (List ℕ))) → are_by_length n lists ≡ true → length word < n → is_among word (flat_map (λ words. words) lists) ≡ false
shorter n word [] all less = refl
shorter n word (words ∷ lists) all less =
    let parts = and_parts (are_long n words) (are_by_length (suc n) lists) all in
    let here = differs n word words parts.0 (λ e. omega (arith, e, less)) in
    let behind = shorter (suc n) word lists parts.1 (omega (arith, less)) in
    list_any-append (λ w. bytes_eq w word) words (flat_map (λ words. words) lists) ∙ rw (here, behind) refl

-- whether the word is one of the list, where there is one
abbrev is_among_some : List ℕ → Option (List (List ℕ)) → Bool
is_among_some word None = false
is_among_some word (Some words) = is_among word words

-- a word is in the lists where it is in the one of its length
in_its_list : (n k : ℕ) (word : List ℕ) (lists : List (List (List ℕ))) → are_by_length n lists ≡ true → length word ≡ n + k → is_among word (flat_map (λ words. words) lists) ≡ is_among_some word (slice_get lists k)
in_its_list n k word [] all long = refl
in_its_list n zero word (words ∷ lists) all long =
    let parts = and_parts (are_long n words) (are_by_length (suc n) lists) all in
    let behind = shorter (suc n) word lists parts.1 (omega (arith, long)) in
    list_any-append (λ w. bytes_eq w word) words (flat_map (λ words. words) lists) ∙ rw behind (or-false (is_among word words))
in_its_list n (suc k) word (words ∷ lists) all long =
    let parts = and_parts (are_long n words) (are_by_length (suc n) lists) all in
    let here = differs n word words parts.0 (λ e. omega (arith, e, long)) in
    list_any-append (λ w. bytes_eq w word) words (flat_map (λ words. words) lists) ∙ rw here (in_its_list (suc n) k word lists parts.1 (omega (arith, long)))

-- a reserved word is one of those of its length
pub reserved_of_length : (word : List ℕ) (n : ℕ) → length word ≡ n → is_among_some word (slice_get reserved_by_length n) ≡ is_reserved word
unfolding is_reserved reserved reserved_by_length
reserved_of_length word n long = sym (in_its_list 0 n word reserved_by_length refl (omega (arith, long)))

-- a word of another length than each of these is none of them
unlike : (word : List ℕ) (words : List (List ℕ)) → list_all (λ w. not (length word == length w)) words ≡ true → is_among word words ≡ false
unlike word [] all = refl
unlike word (w ∷ ws) all =
    let parts = and_parts (not (length word == length w)) (list_all (λ w. not (length word == length w)) ws) all in
    first (bytes_eq w word) refl parts.0 (unlike word ws parts.1)
  where
    first : (b : Bool) → bytes_eq w word ≡ b → not (length word == length w) ≡ true → is_among word ws ≡ false → is_among word (w ∷ ws) ≡ false
    first false e other rest = rw e rest
    first true e other rest =
        let same : w ≡ word = (bytes_eq-Decides w word).0 e in
        absurd (no_other (length word) (length w) (ap length (sym same)) other)

-- no reserved word has another length
pub no_length_else : (word : List ℕ) → (length word == 2) ≡ false → (length word == 3) ≡ false → (length word == 4) ≡ false → (length word == 5) ≡ false → (length word == 6) ≡ false → (length word == 7) ≡ false → (length word == 8) ≡ false → (length word == 10) ≡ false → (length word == 12) ≡ false → false ≡ is_reserved word
unfolding is_reserved reserved reserved_by_length
no_length_else word two three four five six seven eight ten twelve =
    sym (unlike word reserved (rw (two, three, four, five, six, seven, eight, ten, twelve) refl))
