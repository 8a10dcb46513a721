-- A list with commas reads as what it is joined of, for whatever stands between the commas.
use Rattle.std.proofs.Common.{◌≡◌, ℕ, zero, suc, ◌<◌, ◌≤◌, List, [], ◌∷◌, ◌++◌, length, Option, Some, None, refl, sym, ap, subst, ◌∙◌, append_assoc, arith}
use Rattle.std.proofs.lemmas.List.{append-nil, length-append}
use Rattle.std.proofs.lemmas.Option.{some_pair_parts}
use Rattle.pk_lex.specs.declared.token.Token.{Token}
use Rattle.pk_lex.specs.declared.token.Token.TheVariants.{Word, Symbol as Sign}
use Rattle.pk_lex.specs.declared.token.Symbol.TheVariants.{LeftParen, RightParen, Comma}
use Rattle.pk_parse.specs.Tokens.{Found, behind_or, after_symbol}
use Rattle.pk_parse.specs.Lists.{item_then, more_at, list_at, parens_at}
use Rattle.pk_parse.specs.Grammar.{Joined, InParens}
use Rattle.pk_parse.proofs.Fronts.{bind_some, symbol_found, symbol_again}

-- an item reads as what it is, where what follows it may do so
pub record ReadsExactly {A : Type 0} (item : List Token → Found A) (Is : List Token → A → Type 0) (May : List Token → Type 0) : Type 0 where
  pub found : (tokens : List Token) (x : A) (rest : List Token) → item tokens ≡ Some (x, rest) → (front : List Token) × (tokens ≡ front ++ rest) × Is front x
  pub again : (front : List Token) (x : A) (rest : List Token) → Is front x → May rest → item (front ++ rest) ≡ Some (x, rest)
  pub comma : (rest : List Token) → May (Sign Comma ∷ rest)
  pub close : (rest : List Token) → May (Sign RightParen ∷ rest)

-- any tokens
abbrev pub Anything : List Token → Type 0
Anything rest = Unit {0}

-- ---- found

-- what stands behind an item: a comma and further items, or nothing more
abbrev Followed : {A : Type 0} → (List Token → A → Type 0) → List Token → List A → Type 0
Followed Is tokens [] = tokens ≡ []
Followed Is tokens (x ∷ xs) = (behind : List Token) × (tokens ≡ Sign Comma ∷ behind) × Joined Is behind (x ∷ xs)

joined_then : {A : Type 0} (Is : List Token → A → Type 0) (front more : List Token) (x : A) (xs : List A) → Is front x → Followed Is more xs → Joined Is (front ++ more) (x ∷ xs)
joined_then Is front more x [] is rest = subst (λ (ts : List Token). Is ts x) (sym (ap (λ (ts : List Token). front ++ ts) rest ∙ append-nil front)) is
joined_then Is front more x (y ∷ ys) is rest = (front, rest.0, ap (λ (ts : List Token). front ++ ts) rest.1, is, rest.2)

-- the parts of an item with what follows it
item_parts : {A : Type 0} (found : Found A) (more : List Token → Found (List A)) (xs : List A) (rest : List Token) → item_then found more ≡ Some (xs, rest)
    → (x : A) × (after : List Token) × (ys : List A) × (found ≡ Some (x, after)) × (more after ≡ Some (ys, rest)) × (x ∷ ys ≡ xs)
item_parts found more xs rest e =
    let a = bind_some found _ (xs, rest) e in
    let b = bind_some (more a.0.1) _ (xs, rest) a.2 in
    let parts = some_pair_parts (a.0.0 ∷ b.0.0) xs b.0.1 rest b.2 in
    (a.0.0, a.0.1, b.0.0, a.1, b.1 ∙ ap (λ (ts : List Token). Some (b.0.0, ts)) parts.1, parts.0)

-- so many items at most, each behind a comma, are found where they stand
abbrev MoreFound : {A : Type 0} → (List Token → Found A) → (List Token → A → Type 0) → ℕ → Type 0
MoreFound {A} item Is n = (tokens : List Token) (xs : List A) (rest : List Token) → more_at item n tokens ≡ Some (xs, rest) → (front : List Token) × (tokens ≡ front ++ rest) × Followed Is front xs

nothing_more : {A : Type 0} (Is : List Token → A → Type 0) (tokens : List Token) (xs : List A) (rest : List Token) → ◌≡◌ {A = Found (List A)} (Some ([], tokens)) (Some (xs, rest))
    → (front : List Token) × (tokens ≡ front ++ rest) × Followed Is front xs
nothing_more {A} Is tokens xs rest e =
    let none : List A = [] in
    let parts = some_pair_parts none xs tokens rest e in
    ([], parts.1, subst (λ ys. Followed Is [] ys) parts.0 refl)

comma_found : {A : Type 0} (item : List Token → Found A) (Is : List Token → A → Type 0) → (May : List Token → Type 0) → ReadsExactly item Is May → (n : ℕ) → MoreFound item Is n
    → (o : Option (List Token)) (tokens : List Token) (xs : List A) (rest : List Token) → after_symbol Comma tokens ≡ o
    → behind_or o (λ behind. item_then (item behind) (more_at item n)) (Some ([], tokens)) ≡ Some (xs, rest) → (front : List Token) × (tokens ≡ front ++ rest) × Followed Is front xs
comma_found item Is May reads n shorter None tokens xs rest comma e = nothing_more Is tokens xs rest e
comma_found item Is May reads n shorter (Some behind) tokens xs rest comma e =
    let a = item_parts (item behind) (more_at item n) xs rest e in
    let first = reads.found behind a.0 a.1 a.3 in
    let others = shorter a.1 a.2 rest a.4 in
    let inside : behind ≡ (first.0 ++ others.0) ++ rest = first.1 ∙ ap (λ (ts : List Token). first.0 ++ ts) others.1 ∙ sym (append_assoc first.0 others.0 rest) in (
      Sign Comma ∷ first.0 ++ others.0,
      symbol_found Comma tokens behind comma ∙ ap (λ (ts : List Token). Sign Comma ∷ ts) inside,
      subst (λ ys. Followed Is (Sign Comma ∷ first.0 ++ others.0) ys) a.5 (first.0 ++ others.0, refl, joined_then Is first.0 others.0 a.0 a.2 first.2 others.2),
    )

more_found : {A : Type 0} (item : List Token → Found A) (Is : List Token → A → Type 0) → (May : List Token → Type 0) → ReadsExactly item Is May → (n : ℕ) → MoreFound item Is n
more_found item Is May reads zero tokens xs rest e = nothing_more Is tokens xs rest e
more_found item Is May reads (suc n) tokens xs rest e = comma_found item Is May reads n (more_found item Is May reads n) (after_symbol Comma tokens) tokens xs rest refl e

pub list_found : {A : Type 0} (item : List Token → Found A) (Is : List Token → A → Type 0) → (May : List Token → Type 0) → ReadsExactly item Is May → (tokens : List Token) (xs : List A) (rest : List Token)
    → list_at item tokens ≡ Some (xs, rest) → (front : List Token) × (tokens ≡ front ++ rest) × Joined Is front xs
unfolding list_at
list_found item Is May reads tokens xs rest e =
    let a = item_parts (item tokens) (λ behind. more_at item (length behind) behind) xs rest e in
    let first = reads.found tokens a.0 a.1 a.3 in
    let others = more_found item Is May reads (length a.1) a.1 a.2 rest a.4 in (
      first.0 ++ others.0,
      first.1 ∙ ap (λ (ts : List Token). first.0 ++ ts) others.1 ∙ sym (append_assoc first.0 others.0 rest),
      subst (λ ys. Joined Is (first.0 ++ others.0) ys) a.5 (joined_then Is first.0 others.0 a.0 a.2 first.2 others.2),
    )

parens_found : {A : Type 0} (item : List Token → Found A) (Is : List Token → A → Type 0) → (May : List Token → Type 0) → ReadsExactly item Is May → (tokens : List Token) (xs : List A) (rest : List Token)
    → parens_at item tokens ≡ Some (xs, rest) → (front : List Token) × (tokens ≡ front ++ rest) × InParens Is front xs
unfolding parens_at
parens_found item Is May reads tokens xs rest e =
    let a = bind_some (after_symbol LeftParen tokens) _ (xs, rest) e in
    let b = bind_some (list_at item a.0) _ (xs, rest) a.2 in
    let c = bind_some (after_symbol RightParen b.0.1) _ (xs, rest) b.2 in
    let parts = some_pair_parts b.0.0 xs c.0 rest c.2 in
    let inside = list_found item Is May reads a.0 b.0.0 b.0.1 b.1 in
    let close : b.0.1 ≡ Sign RightParen ∷ rest = symbol_found RightParen b.0.1 c.0 c.1 ∙ ap (λ (ts : List Token). Sign RightParen ∷ ts) parts.1 in
    let within : a.0 ≡ (inside.0 ++ Sign RightParen ∷ []) ++ rest = inside.1 ∙ ap (λ (ts : List Token). inside.0 ++ ts) close ∙ sym (append_assoc inside.0 (Sign RightParen ∷ []) rest) in (
      Sign LeftParen ∷ inside.0 ++ Sign RightParen ∷ [],
      symbol_found LeftParen tokens a.0 a.1 ∙ ap (λ (ts : List Token). Sign LeftParen ∷ ts) within,
      (inside.0, refl, subst (λ ys. Joined Is inside.0 ys) parts.0 inside.2),
    )

-- ---- again

-- a list ends where no comma follows it
abbrev pub Ends : List Token → Type 0
Ends rest = after_symbol Comma rest ≡ None

pub nothing_ends : Ends []
unfolding after_symbol
nothing_ends = refl

pub word_ends : (word : List ℕ) (rest : List Token) → Ends (Word word ∷ rest)
unfolding after_symbol
word_ends word rest = refl

nothing_again : {A : Type 0} (item : List Token → Found A) (n : ℕ) (rest : List Token) → Ends rest → more_at item n rest ≡ Some ([], rest)
nothing_again item zero rest ends = refl
nothing_again item (suc n) rest ends = rw ends refl

-- the first item again, with the comma and all that follows it
first_again : {A : Type 0} (item : List Token → Found A) (Is : List Token → A → Type 0) → (May : List Token → Type 0) → ReadsExactly item Is May → (tokens front behind rest : List Token) (x : A) → tokens ≡ front ++ Sign Comma ∷ behind → Is front x
    → (item (tokens ++ rest) ≡ Some (x, Sign Comma ∷ behind ++ rest)) × (length (behind ++ rest) < length (tokens ++ rest))
first_again item Is May reads tokens front behind rest x split is =
    let whole : tokens ++ rest ≡ front ++ (Sign Comma ∷ behind ++ rest) = ap (λ (ts : List Token). ts ++ rest) split ∙ append_assoc front (Sign Comma ∷ behind) rest in
    (ap item whole ∙ reads.again front x (Sign Comma ∷ behind ++ rest) is (reads.comma (behind ++ rest)), omega (arith, ap length whole, length-append front (Sign Comma ∷ behind ++ rest)))

more_again : {A : Type 0} (item : List Token → Found A) (Is : List Token → A → Type 0) → (May : List Token → Type 0) → ReadsExactly item Is May → (xs : List A) (n : ℕ) (tokens rest : List Token) → Ends rest → May rest → Joined Is tokens xs → length (tokens ++ rest) ≤ n
    → item_then (item (tokens ++ rest)) (more_at item n) ≡ Some (xs, rest)
more_again item Is May reads [] n tokens rest ends may joined le = absurd joined
more_again item Is May reads (x ∷ []) n tokens rest ends may joined le = rw (reads.again tokens x rest joined may, nothing_again item n rest ends) refl
more_again item Is May reads (x ∷ y ∷ ys) zero tokens rest ends may joined le =
    let first = first_again item Is May reads tokens joined.0 joined.1 rest x joined.2 joined.3 in absurd (omega (arith, first.1))
more_again item Is May reads (x ∷ y ∷ ys) (suc n) tokens rest ends may joined le =
    let first = first_again item Is May reads tokens joined.0 joined.1 rest x joined.2 joined.3 in
    rw (first.0, symbol_again Comma (joined.1 ++ rest), more_again item Is May reads (y ∷ ys) n joined.1 rest ends may joined.4 (omega (arith, first.1))) refl

pub list_again : {A : Type 0} (item : List Token → Found A) (Is : List Token → A → Type 0) → (May : List Token → Type 0) → ReadsExactly item Is May → (xs : List A) (tokens rest : List Token) → Ends rest → May rest → Joined Is tokens xs
    → list_at item (tokens ++ rest) ≡ Some (xs, rest)
unfolding list_at
list_again item Is May reads [] tokens rest ends may joined = absurd joined
list_again item Is May reads (x ∷ []) tokens rest ends may joined = rw (reads.again tokens x rest joined may, nothing_again item (length rest) rest ends) refl
list_again item Is May reads (x ∷ y ∷ ys) tokens rest ends may joined =
    let first = first_again item Is May reads tokens joined.0 joined.1 rest x joined.2 joined.3 in
    rw (first.0, symbol_again Comma (joined.1 ++ rest), more_again item Is May reads (y ∷ ys) (length (joined.1 ++ rest)) joined.1 rest ends may joined.4 (omega arith)) refl

closed : (rest : List Token) → Ends (Sign RightParen ∷ rest)
unfolding after_symbol
closed rest = refl

parens_again : {A : Type 0} (item : List Token → Found A) (Is : List Token → A → Type 0) → (May : List Token → Type 0) → ReadsExactly item Is May → (front : List Token) (xs : List A) (rest : List Token) → InParens Is front xs
    → Anything rest → parens_at item (front ++ rest) ≡ Some (xs, rest)
unfolding parens_at
parens_again item Is May reads front xs rest parens any =
    let whole : front ++ rest ≡ Sign LeftParen ∷ parens.0 ++ Sign RightParen ∷ rest = ap (λ (ts : List Token). ts ++ rest) parens.1 ∙ ap (λ (ts : List Token). Sign LeftParen ∷ ts) (append_assoc parens.0 (Sign RightParen ∷ []) rest) in
    ap (parens_at item) whole ∙ rw (symbol_again LeftParen (parens.0 ++ Sign RightParen ∷ rest), list_again item Is May reads xs parens.0 (Sign RightParen ∷ rest) (closed rest) (reads.close rest) parens.2, symbol_again RightParen rest) refl

-- a list in parentheses reads as such a list, whatever follows it
pub parens_read : {A : Type 0} (item : List Token → Found A) (Is : List Token → A → Type 0) → (May : List Token → Type 0) → ReadsExactly item Is May → ReadsExactly (parens_at item) (InParens Is) Anything
parens_read item Is May reads = record { found = parens_found item Is May reads; again = parens_again item Is May reads; comma = λ rest. tt; close = λ rest. tt }
