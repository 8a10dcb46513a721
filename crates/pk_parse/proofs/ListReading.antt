-- Reading a list with commas item by item.
use Rattle.std.proofs.Common.{◌≡◌, ℕ, ◌+◌, ◌-◌, ◌<◌, ◌≤◌, suc, List, [], ◌∷◌, ◌++◌, Some, None, refl, sym, ap, ◌∙◌, append_assoc, arith}
use Rattle.std.proofs.lemmas.List.{append-nil}
use Rattle.pk_lex.specs.declared.token.Token.{Token}
use Rattle.pk_lex.specs.declared.token.Symbol.TheVariants.{Comma}
use Rattle.pk_parse.specs.declared.miss.Miss.{Miss}
use Rattle.pk_parse.specs.declared.miss.Miss.TheVariants.{NotStatement, Memory}
use Rattle.pk_parse.specs.Tokens.{Found, ◌>>=◌, after_symbol}
use Rattle.pk_parse.specs.Lists.{more_at}
use Rattle.pk_parse.specs.Reading.{Misses}

-- what is found, with these items before it
abbrev pub with_front : {A : Type 0} → List A → Found (List A) → Found (List A)
with_front front found = found >>= λ xs. Some (front ++ xs.0, xs.1)

regroup : {A : Type 0} (front : List A) (x : A) (found : Found (List A)) → with_front front (found >>= λ xs. Some (x ∷ xs.0, xs.1)) ≡ with_front (front ++ x ∷ []) found
regroup front x None = refl
regroup front x (Some xs) = ap (λ items. Some (items, xs.1)) (sym (append_assoc front (x ∷ []) xs.0))

-- one more item behind a comma
pub is_taken : {A : Type 0} (item : List Token → Found A) (front : List A) (end i : ℕ) (tokens behind after : List Token) (x : A) (all : Found (List A))
    → i < end → after_symbol Comma tokens ≡ Some behind → item behind ≡ Some (x, after)
    → with_front front (more_at item (end - i) tokens) ≡ all → with_front (front ++ x ∷ []) (more_at item (end - (i + 1)) after) ≡ all
is_taken item front end i tokens behind after x all lt comma found so_far =
    let left : end - i ≡ suc (end - (i + 1)) = omega arith in
    let one : with_front front (more_at item (end - i) tokens) ≡ with_front (front ++ x ∷ []) (more_at item (end - (i + 1)) after) = rw (left, comma, found) (regroup front x (more_at item (end - (i + 1)) after)) in
    sym one ∙ so_far

-- no item behind a comma
pub is_missed : {A : Type 0} (item : List Token → Found A) (front : List A) (end i : ℕ) (tokens behind : List Token) (miss : Miss) (all : Found (List A))
    → i < end → after_symbol Comma tokens ≡ Some behind → Misses miss (item behind)
    → with_front front (more_at item (end - i) tokens) ≡ all → Misses miss all
is_missed item front end i tokens behind Memory all lt comma missed so_far = tt
is_missed item front end i tokens behind NotStatement all lt comma missed so_far =
    let left : end - i ≡ suc (end - (i + 1)) = omega arith in
    let one : with_front front (more_at item (end - i) tokens) ≡ None = rw (left, comma, missed) refl in
    sym so_far ∙ one

-- no comma
pub is_done : {A : Type 0} (item : List Token → Found A) (front : List A) (end i : ℕ) (tokens : List Token) (all : Found (List A))
    → i < end → after_symbol Comma tokens ≡ None
    → with_front front (more_at item (end - i) tokens) ≡ all → all ≡ Some (front, tokens)
is_done item front end i tokens all lt comma so_far =
    let left : end - i ≡ suc (end - (i + 1)) = omega arith in
    let one : with_front front (more_at item (end - i) tokens) ≡ Some (front, tokens) = rw (left, comma) (ap (λ items. Some (items, tokens)) (append-nil front)) in
    sym so_far ∙ one

-- no turn is left
pub is_over : {A : Type 0} (item : List Token → Found A) (front : List A) (end i : ℕ) (tokens : List Token) (all : Found (List A))
    → end ≤ i
    → with_front front (more_at item (end - i) tokens) ≡ all → all ≡ Some (front, tokens)
is_over item front end i tokens all le so_far =
    let left : end - i ≡ 0 = omega arith in
    let one : with_front front (more_at item (end - i) tokens) ≡ Some (front, tokens) = rw left (ap (λ items. Some (items, tokens)) (append-nil front)) in
    sym so_far ∙ one
