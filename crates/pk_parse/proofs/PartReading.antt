-- Names, literals, tuples and assignments read as what they are, whatever follows them.
use Rattle.std.proofs.Common.{◌≡◌, ℕ, List, [], ◌∷◌, ◌++◌, Some, None, inl, inr, refl, ap, ◌∙◌, append_assoc}
use Rattle.std.specs.Prelude.{codes}
use Rattle.pk_lex.specs.declared.token.Token.{Token}
use Rattle.pk_lex.specs.declared.token.Token.TheVariants.{Word, Number, Text, Symbol as Sign}
use Rattle.pk_lex.specs.declared.token.Symbol.TheVariants.{LeftParen, RightParen, Comma, Equal, Minus}
use Rattle.pk_syntax.specs.declared.literal.Literal.{Literal}
use Rattle.pk_syntax.specs.declared.literal.Literal.TheVariants as literals
use Rattle.pk_syntax.specs.declared.edit.SetPart.{SetPart}
use Rattle.pk_parse.specs.Tokens.{after_word, after_symbol, name_at, digits_at}
use Rattle.pk_parse.specs.Literals.{number_of, plain_number, negative_number, null_at, negative_at, literal_at}
use Rattle.pk_parse.specs.Lists.{parens_at, names_at}
use Rattle.pk_parse.specs.Edits.{tuple_at, set_at}
use Rattle.pk_parse.specs.LiteralGrammar.{IsLiteral, null, plain, negative, quoted}
use Rattle.pk_parse.specs.Grammar.{IsName, named, InParens, Joined, IsNames, no_names, some_names, IsTuple, IsSet, sets}
use Rattle.pk_parse.proofs.Fronts.{bind_some, behind_cases, Front, fronted, word_found, word_again, symbol_found, symbol_again, name_found, name_again, digits_found}
use Rattle.pk_parse.proofs.CommaLists.{ReadsExactly, Anything, parens_read}

-- ---- names

name_front : (tokens : List Token) (name : List ℕ) (rest : List Token) → name_at tokens ≡ Some (name, rest) → Front IsName tokens name rest
name_front tokens name rest e = let found = name_found tokens name rest e in (Word name ∷ [], found.0, named name found.1)

name_back : (front : List Token) (name : List ℕ) (rest : List Token) → IsName front name → Anything rest → name_at (front ++ rest) ≡ Some (name, rest)
name_back front name rest (named word free) any = name_again word rest free

pub name_read : ReadsExactly name_at IsName Anything
name_read = record { found = name_front; again = name_back; comma = λ rest. tt; close = λ rest. tt }

pub parens_name_read : ReadsExactly (parens_at name_at) (InParens IsName) Anything
parens_name_read = parens_read name_at IsName Anything name_read

names_front : (tokens : List Token) (names : List (List ℕ)) (rest : List Token) → names_at tokens ≡ Some (names, rest) → Front IsNames tokens names rest
unfolding names_at
names_front tokens names rest e =
    let a = bind_some (after_symbol LeftParen tokens) _ (names, rest) e in
    elim (behind_cases (after_symbol RightParen a.0) _ _ _ a.2) [
      | inl h ↦ fronted IsNames tokens (Sign LeftParen ∷ Sign RightParen ∷ []) h.0 rest [] names (cc (symbol_found LeftParen tokens a.0 a.1, symbol_found RightParen a.0 h.0 h.1)) no_names h.2
      | inr h ↦ let found = parens_name_read.found tokens names rest h.1 in (found.0, found.1, some_names found.0 names found.2)
    ]

-- a list of names begins with a word
names_begin : (inside : List Token) (names : List (List ℕ)) (rest : List Token) → Joined IsName inside names → after_symbol RightParen (inside ++ rest) ≡ None
unfolding after_symbol
names_begin inside [] rest joined = absurd joined
names_begin inside (x ∷ []) rest (named word free) = refl
names_begin inside (x ∷ y ∷ ys) rest joined = first joined.0 x joined.1 joined.3 (ap (λ (ts : List Token). ts ++ rest) joined.2)
  where
    first : (front : List Token) (x : List ℕ) (behind : List Token) → IsName front x → inside ++ rest ≡ (front ++ Sign Comma ∷ behind) ++ rest → after_symbol RightParen (inside ++ rest) ≡ None
    first front x behind (named word free) split = ap (after_symbol RightParen) split

names_back : (front : List Token) (names : List (List ℕ)) (rest : List Token) → IsNames front names → Anything rest → names_at (front ++ rest) ≡ Some (names, rest)
unfolding names_at
names_back front names rest no_names any = rw (symbol_again LeftParen (Sign RightParen ∷ rest), symbol_again RightParen rest) refl
names_back front names rest (some_names tokens ns parens) any =
    let whole : tokens ++ rest ≡ Sign LeftParen ∷ parens.0 ++ Sign RightParen ∷ rest = ap (λ (ts : List Token). ts ++ rest) parens.1 ∙ ap (λ (ts : List Token). Sign LeftParen ∷ ts) (append_assoc parens.0 (Sign RightParen ∷ []) rest) in
    let opens : after_symbol LeftParen (tokens ++ rest) ≡ Some (parens.0 ++ Sign RightParen ∷ rest) = ap (after_symbol LeftParen) whole ∙ symbol_again LeftParen (parens.0 ++ Sign RightParen ∷ rest) in
    rw (opens, names_begin parens.0 ns (Sign RightParen ∷ rest) parens.2, parens_name_read.again tokens ns rest parens tt) refl

pub names_read : ReadsExactly names_at IsNames Anything
names_read = record { found = names_front; again = names_back; comma = λ rest. tt; close = λ rest. tt }

-- ---- literals

literal_front : (tokens : List Token) (l : Literal) (rest : List Token) → literal_at tokens ≡ Some (l, rest) → Front IsLiteral tokens l rest
unfolding literal_at null_at negative_at
literal_front [] l rest e = absurd cc
literal_front (Word w ∷ ts) l rest e =
    let a = bind_some (after_word (codes "null") (Word w ∷ ts)) _ (l, rest) e in
    fronted IsLiteral (Word w ∷ ts) (Word (codes "null") ∷ []) a.0 rest literals.Null l (word_found (codes "null") (Word w ∷ ts) a.0 a.1) null a.2
literal_front (Number digits ∷ ts) l rest e = fronted IsLiteral (Number digits ∷ ts) (Number digits ∷ []) ts rest (plain_number (number_of digits)) l refl (plain digits) e
literal_front (Text bytes ∷ ts) l rest e = fronted IsLiteral (Text bytes ∷ ts) (Text bytes ∷ []) ts rest (literals.Text bytes) l refl (quoted bytes) e
literal_front (Sign s ∷ ts) l rest e =
    let a = bind_some (after_symbol Minus (Sign s ∷ ts)) _ (l, rest) e in
    let b = bind_some (digits_at a.0) _ (l, rest) a.2 in
    let spelled : Sign s ∷ ts ≡ Sign Minus ∷ Number b.0.0 ∷ b.0.1 = cc (symbol_found Minus (Sign s ∷ ts) a.0 a.1, digits_found a.0 b.0.0 b.0.1 b.1) in
    fronted IsLiteral (Sign s ∷ ts) (Sign Minus ∷ Number b.0.0 ∷ []) b.0.1 rest (negative_number (number_of b.0.0)) l spelled (negative b.0.0) b.2

literal_back : (front : List Token) (l : Literal) (rest : List Token) → IsLiteral front l → Anything rest → literal_at (front ++ rest) ≡ Some (l, rest)
unfolding literal_at null_at negative_at digits_at
literal_back front l rest null any = rw (word_again (codes "null") rest) refl
literal_back front l rest (plain digits) any = refl
literal_back front l rest (negative digits) any = rw (symbol_again Minus (Number digits ∷ rest)) refl
literal_back front l rest (quoted bytes) any = refl

pub literal_read : ReadsExactly literal_at IsLiteral Anything
literal_read = record { found = literal_front; again = literal_back; comma = λ rest. tt; close = λ rest. tt }

pub tuple_read : ReadsExactly tuple_at IsTuple Anything
unfolding tuple_at
tuple_read = parens_read literal_at IsLiteral Anything literal_read

-- ---- assignments

set_front : (tokens : List Token) (s : SetPart) (rest : List Token) → set_at tokens ≡ Some (s, rest) → Front IsSet tokens s rest
unfolding set_at
set_front tokens s rest e =
    let a = bind_some (name_at tokens) _ (s, rest) e in
    let b = bind_some (after_symbol Equal a.0.1) _ (s, rest) a.2 in
    let c = bind_some (literal_at b.0) _ (s, rest) b.2 in
    let name = name_found tokens a.0.0 a.0.1 a.1 in
    let value = literal_read.found b.0 c.0.0 c.0.1 c.1 in
    fronted IsSet tokens (Word a.0.0 ∷ Sign Equal ∷ value.0) c.0.1 rest (record { column = a.0.0; value = c.0.0 }) s
    (cc (name.0, symbol_found Equal a.0.1 b.0 b.1, value.1)) (sets a.0.0 value.0 c.0.0 name.1 value.2) c.2

set_back : (front : List Token) (s : SetPart) (rest : List Token) → IsSet front s → Anything rest → set_at (front ++ rest) ≡ Some (s, rest)
unfolding set_at
set_back front s rest (sets column tokens value free is) any =
    rw (name_again column (Sign Equal ∷ tokens ++ rest) free, symbol_again Equal (tokens ++ rest), literal_read.again tokens value rest is tt) refl

pub set_read : ReadsExactly set_at IsSet Anything
set_read = record { found = set_front; again = set_back; comma = λ rest. tt; close = λ rest. tt }
