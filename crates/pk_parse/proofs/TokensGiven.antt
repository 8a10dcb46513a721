-- The tokens of a piece are tokens, and so are those of each part of it.
use Rattle.std.proofs.Common.{◌≡◌, ℕ, Bool, true, not, List, [], ◌∷◌, ◌++◌, refl, sym, subst, ◌∙◌}
use Rattle.std.specs.List.{list_all}
use Rattle.std.proofs.lemmas.Bool.{and_parts}
use Rattle.std.proofs.lemmas.List.Folds.{list_all-append}
use Rattle.pk_lex.specs.declared.token.Token.{Token}
use Rattle.pk_lex.specs.declared.token.Token.TheVariants.{Word, Symbol as Sign}
use Rattle.pk_lex.specs.declared.token.Symbol.TheVariants.{RightParen, Comma}
use Rattle.pk_lex.specs.declared.piece.Body.TheVariants.{Tokens}
use Rattle.pk_lex.specs.Tokens.{is_token, ends_piece, stands_inside, is_body}
use Rattle.pk_parse.specs.Grammar.{Joined, InParens}

-- each is a token
abbrev pub AreTokens : List Token → Type 0
AreTokens tokens = list_all is_token tokens ≡ true

pub split_tokens : (front behind : List Token) → AreTokens (front ++ behind) → AreTokens front × AreTokens behind
split_tokens front behind are = let parts = and_parts (list_all is_token front) (list_all is_token behind) (sym (list_all-append is_token front behind) ∙ are) in (parts.0, parts.1)

-- behind a token
pub behind_token : (t : Token) (ts : List Token) → AreTokens (t ∷ ts) → AreTokens ts
behind_token t ts are = (and_parts (is_token t) (list_all is_token ts) are).1

-- behind words
pub behind_two : (a b : List ℕ) (ts : List Token) → AreTokens (Word a ∷ Word b ∷ ts) → AreTokens ts
behind_two a b ts are = behind_token (Word b) ts (behind_token (Word a) (Word b ∷ ts) are)

pub behind_three : (a b c : List ℕ) (ts : List Token) → AreTokens (Word a ∷ Word b ∷ Word c ∷ ts) → AreTokens ts
behind_three a b c ts are = behind_token (Word c) ts (behind_two a b (Word c ∷ ts) are)

inside_tokens : (tokens : List Token) → list_all stands_inside tokens ≡ true → AreTokens tokens
inside_tokens [] e = refl
inside_tokens (t ∷ ts) e =
    let parts = and_parts (stands_inside t) (list_all stands_inside ts) e in
    rw ((and_parts (is_token t) (not (ends_piece t)) parts.0).0) (inside_tokens ts parts.1)

pub piece_tokens : (tokens : List Token) → is_body (Tokens tokens) ≡ true → AreTokens tokens
piece_tokens [] e = refl
piece_tokens (t ∷ ts) e = inside_tokens (t ∷ ts) e

-- what is so of each item is so of all of a list
pub joined_given : {A : Type 0} (Is : List Token → A → Type 0) (good : A → Bool) → ((tokens : List Token) (x : A) → Is tokens x → AreTokens tokens → good x ≡ true)
    → (xs : List A) (tokens : List Token) → Joined Is tokens xs → AreTokens tokens → list_all good xs ≡ true
joined_given Is good each [] tokens joined are = absurd joined
joined_given Is good each (x ∷ []) tokens joined are = rw (each tokens x joined are) refl
joined_given Is good each (x ∷ y ∷ ys) tokens joined are =
    let parts = split_tokens joined.0 (Sign Comma ∷ joined.1) (subst AreTokens joined.2 are) in
    rw (each joined.0 x joined.3 parts.0) (joined_given Is good each (y ∷ ys) joined.1 joined.4 parts.1)

pub parens_given : {A : Type 0} (Is : List Token → A → Type 0) (good : A → Bool) → ((tokens : List Token) (x : A) → Is tokens x → AreTokens tokens → good x ≡ true)
    → (xs : List A) (tokens : List Token) → InParens Is tokens xs → AreTokens tokens → list_all good xs ≡ true
parens_given Is good each xs tokens parens are =
    let inside = split_tokens parens.0 (Sign RightParen ∷ []) (subst AreTokens parens.1 are) in
    joined_given Is good each xs parens.0 parens.2 inside.0
