-- What single tokens read as, and where from.
use Rattle.std.proofs.Common.{◌≡◌, ℕ, Bool, true, false, cond, List, [], ◌∷◌, Option, Some, None, ◌++◌, ◌⊎◌, inl, inr, refl, sym, ap, subst, ◌∙◌}
use Rattle.std.specs.Str.{bytes_eq}
use Rattle.std.proofs.lemmas.Option.{cond_some, some_pair_parts}
use Rattle.std.proofs.lemmas.Slice.Eq.{bytes_eq-Decides}
use Rattle.pk_lex.specs.declared.token.Token.{Token}
use Rattle.pk_lex.specs.declared.token.Token.TheVariants.{Word, Number, Text, Symbol as Sign}
use Rattle.pk_lex.specs.declared.token.Symbol.{Symbol}
use Rattle.pk_lex.specs.declared.token.Symbol.TheVariants.{LeftParen, RightParen, Comma, Semicolon, Star, Equal, Less, Greater, AtMost, AtLeast, UnequalAngle, UnequalBang, Minus}
use Rattle.pk_lex.specs.Symbols.{spelling, symbol_at}
use Rattle.pk_syntax.specs.Words.{is_reserved}
use Rattle.pk_parse.specs.Tokens.{Found, ◌>>=◌, behind_or, after_word, after_symbol, name_at, digits_at}
use Rattle.pk_parse.specs.LiteralGrammar.{IsFree}

-- a step that didn't miss
pub bind_some : {A B : Type 0} (o : Option A) (f : A → Option B) (y : B) → (o >>= f) ≡ Some y → (x : A) × (o ≡ Some x) × (f x ≡ Some y)
bind_some (Some x) f y e = (x, refl, e)
bind_some None f y e = absurd cc

-- which of the two was read
pub behind_cases : {A : Type 0} (o : Option (List Token)) (f : List Token → A) (other y : A) → behind_or o f other ≡ y → ((behind : List Token) × (o ≡ Some behind) × (f behind ≡ y)) ⊎ ((o ≡ None) × (other ≡ y))
behind_cases (Some behind) f other y e = inl (behind, refl, e)
behind_cases None f other y e = inr (refl, e)

-- the tokens are some that spell the thing, and the rest
abbrev pub Front : {A : Type 0} → (List Token → A → Type 0) → List Token → A → List Token → Type 0
Front Is tokens x rest = (front : List Token) × (tokens ≡ front ++ rest) × Is front x

-- what was made of a front is what was found
pub fronted : {A : Type 0} (Is : List Token → A → Type 0) (tokens front after rest : List Token) (y x : A) → tokens ≡ front ++ after → Is front y → ◌≡◌ {A = Found A} (Some (y, after)) (Some (x, rest)) → Front Is tokens x rest
fronted Is tokens front after rest y x split is made =
    let parts = some_pair_parts y x after rest made in
    (front, split ∙ ap (λ (ts : List Token). front ++ ts) parts.1, subst (Is front) parts.0 is)

-- no two symbols are spelled alike
spelled_back : (s : Symbol) → symbol_at (spelling s) ≡ Some s
unfolding symbol_at
spelled_back LeftParen = refl
spelled_back RightParen = refl
spelled_back Comma = refl
spelled_back Semicolon = refl
spelled_back Star = refl
spelled_back Equal = refl
spelled_back Less = refl
spelled_back Greater = refl
spelled_back AtMost = refl
spelled_back AtLeast = refl
spelled_back UnequalAngle = refl
spelled_back UnequalBang = refl
spelled_back Minus = refl

same_spelling : (s t : Symbol) → spelling s ≡ spelling t → s ≡ t
same_spelling s t e = let back : Some s ≡ Some t = sym (spelled_back s) ∙ ap symbol_at e ∙ spelled_back t in cc

-- ---- words

pub word_found : (word : List ℕ) (tokens behind : List Token) → after_word word tokens ≡ Some behind → tokens ≡ Word word ∷ behind
unfolding after_word
word_found word [] behind e = absurd cc
word_found word (Number digits ∷ ts) behind e = absurd cc
word_found word (Text bytes ∷ ts) behind e = absurd cc
word_found word (Sign s ∷ ts) behind e = absurd cc
word_found word (Word w ∷ ts) behind e =
    let found = cond_some (bytes_eq w word) ts behind e in
    let same : w ≡ word = (bytes_eq-Decides w word).0 found.0 in
    cc

pub word_again : (word : List ℕ) (behind : List Token) → after_word word (Word word ∷ behind) ≡ Some behind
unfolding after_word
word_again word behind = rw ((bytes_eq-Decides word word).1 refl) refl

pub word_missed : (word w : List ℕ) (tokens behind : List Token) → tokens ≡ Word w ∷ behind → bytes_eq w word ≡ false → after_word word tokens ≡ None
unfolding after_word
word_missed word w tokens behind first other = ap (after_word word) first ∙ rw other refl

-- ---- symbols

pub symbol_found : (symbol : Symbol) (tokens behind : List Token) → after_symbol symbol tokens ≡ Some behind → tokens ≡ Sign symbol ∷ behind
unfolding after_symbol
symbol_found symbol [] behind e = absurd cc
symbol_found symbol (Number digits ∷ ts) behind e = absurd cc
symbol_found symbol (Text bytes ∷ ts) behind e = absurd cc
symbol_found symbol (Word w ∷ ts) behind e = absurd cc
symbol_found symbol (Sign s ∷ ts) behind e =
    let found = cond_some (bytes_eq (spelling s) (spelling symbol)) ts behind e in
    let same : s ≡ symbol = same_spelling s symbol ((bytes_eq-Decides (spelling s) (spelling symbol)).0 found.0) in
    cc

pub symbol_again : (symbol : Symbol) (behind : List Token) → after_symbol symbol (Sign symbol ∷ behind) ≡ Some behind
unfolding after_symbol
symbol_again symbol behind = rw ((bytes_eq-Decides (spelling symbol) (spelling symbol)).1 refl) refl

-- ---- names

pub name_found : (tokens : List Token) (name : List ℕ) (behind : List Token) → name_at tokens ≡ Some (name, behind) → (tokens ≡ Word name ∷ behind) × IsFree name
unfolding name_at
name_found [] name behind e = absurd cc
name_found (Number digits ∷ ts) name behind e = absurd cc
name_found (Text bytes ∷ ts) name behind e = absurd cc
name_found (Sign s ∷ ts) name behind e = absurd cc
name_found (Word w ∷ ts) name behind e = free_found (is_reserved w) w ts name behind refl e
  where
    free_found : (b : Bool) (w : List ℕ) (ts : List Token) (name : List ℕ) (behind : List Token) → is_reserved w ≡ b → ◌≡◌ {A = Found (List ℕ)} (cond b None (Some (w, ts))) (Some (name, behind)) → (Word w ∷ ts ≡ Word name ∷ behind) × IsFree name
    free_found true w ts name behind is e = absurd cc
    free_found false w ts name behind is e =
        let parts = some_pair_parts w name ts behind e in
        (cc, subst IsFree parts.0 is)

pub name_again : (name : List ℕ) (behind : List Token) → IsFree name → name_at (Word name ∷ behind) ≡ Some (name, behind)
unfolding name_at
name_again name behind free = rw free refl

-- ---- numbers

pub digits_found : (tokens : List Token) (digits : List ℕ) (behind : List Token) → digits_at tokens ≡ Some (digits, behind) → tokens ≡ Number digits ∷ behind
unfolding digits_at
digits_found [] digits behind e = absurd cc
digits_found (Word w ∷ ts) digits behind e = absurd cc
digits_found (Text bytes ∷ ts) digits behind e = absurd cc
digits_found (Sign s ∷ ts) digits behind e = absurd cc
digits_found (Number ds ∷ ts) digits behind e = let parts = some_pair_parts ds digits ts behind e in cc
