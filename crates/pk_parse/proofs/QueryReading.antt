-- The parts of a SELECT read as what they are.
use Rattle.std.proofs.Common.{◌≡◌, ℕ, Bool, true, false, List, [], ◌∷◌, ◌++◌, Option, Some, None, ◌⊎◌, inl, inr, refl, sym, ap, subst, ◌∙◌}
use Rattle.std.specs.Prelude.{codes}
use Rattle.std.specs.Str.{bytes_eq}
use Rattle.std.proofs.lemmas.List.{append-nil}
use Rattle.std.proofs.lemmas.Slice.Eq.{bytes_eq-Decides}
use Rattle.pk_lex.specs.declared.token.Token.{Token}
use Rattle.pk_lex.specs.declared.token.Token.TheVariants.{Word, Symbol as Sign}
use Rattle.pk_lex.specs.declared.token.Symbol.TheVariants.{LeftParen, RightParen, Comma, Star}
use Rattle.pk_syntax.specs.declared.query.What.{What}
use Rattle.pk_syntax.specs.declared.query.What.TheVariants.{All, Columns, Count}
use Rattle.pk_syntax.specs.declared.query.OrderPart.{OrderPart}
use Rattle.pk_syntax.specs.Words.{is_reserved, reserved}
use Rattle.pk_parse.specs.Tokens.{behind_or, after_word, after_symbol, name_at}
use Rattle.pk_parse.specs.Lists.{list_at}
use Rattle.pk_parse.specs.Queries.{count_at, columns_at, what_at, direction_at, order_part_at, order_by_at, order_at, order_of_at}
use Rattle.pk_parse.specs.LiteralGrammar.{IsFree}
use Rattle.pk_parse.specs.Grammar as grammar
use Rattle.pk_parse.specs.Grammar.{IsName, Joined, IsWhat, IsDirection, IsOrderPart, IsOrder}
use Rattle.pk_parse.proofs.Fronts.{bind_some, behind_cases, Front, fronted, word_found, word_again, symbol_found, symbol_again, name_found, name_again}
use Rattle.pk_parse.proofs.CommaLists.{ReadsExactly, Anything, nothing_ends, word_ends, list_found, list_again}
use Rattle.pk_parse.proofs.PartReading.{name_read}

-- ---- what is asked for

pub what_front : (tokens : List Token) (w : What) (rest : List Token) → what_at tokens ≡ Some (w, rest) → Front IsWhat tokens w rest
unfolding what_at count_at columns_at
what_front tokens w rest e =
    elim (behind_cases (after_symbol Star tokens) _ _ _ e) [
      | inl h ↦ fronted IsWhat tokens (Sign Star ∷ []) h.0 rest All w (symbol_found Star tokens h.0 h.1) grammar.star h.2
      | inr h ↦ elim (behind_cases (after_word (codes "count") tokens) _ _ _ h.1) [
        | inl h ↦
            let a = bind_some (after_symbol LeftParen h.0) _ (w, rest) h.2 in
            let b = bind_some (after_symbol Star a.0) _ (w, rest) a.2 in
            let c = bind_some (after_symbol RightParen b.0) _ (w, rest) b.2 in
            fronted IsWhat tokens (Word (codes "count") ∷ Sign LeftParen ∷ Sign Star ∷ Sign RightParen ∷ []) c.0 rest Count w
            (cc (word_found (codes "count") tokens h.0 h.1, symbol_found LeftParen h.0 a.0 a.1, symbol_found Star a.0 b.0 b.1, symbol_found RightParen b.0 c.0 c.1)) grammar.count c.2
        | inr h ↦
            let a = bind_some (list_at name_at tokens) _ (w, rest) h.1 in
            let names = list_found name_at IsName Anything name_read tokens a.0.0 a.0.1 a.1 in
            fronted IsWhat tokens names.0 a.0.1 rest (Columns a.0.0) w names.1 (grammar.columns names.0 a.0.0 names.2) a.2
      ]
    ]

-- a reserved word isn't free
free_differs : (word free : List ℕ) → is_reserved word ≡ true → IsFree free → bytes_eq free word ≡ false
free_differs word free is not = go (bytes_eq free word) refl
  where
    go : (b : Bool) → bytes_eq free word ≡ b → b ≡ false
    go false e = refl
    go true e = let same : free ≡ word = (bytes_eq-Decides free word).0 e in absurd (let no : is_reserved word ≡ false = subst IsFree same not in cc)

-- a list of names begins with a free word
names_begin : (tokens : List Token) (names : List (List ℕ)) → Joined IsName tokens names → (word : List ℕ) × (behind : List Token) × (tokens ≡ Word word ∷ behind) × IsFree word
names_begin tokens [] joined = absurd joined
names_begin tokens (x ∷ []) (grammar.named word free) = (word, [], refl, free)
names_begin tokens (x ∷ y ∷ ys) joined = first joined.0 x joined.3 joined.2
  where
    first : (front : List Token) (x : List ℕ) → IsName front x → tokens ≡ front ++ Sign Comma ∷ joined.1 → (word : List ℕ) × (behind : List Token) × (tokens ≡ Word word ∷ behind) × IsFree word
    first front x (grammar.named word free) split = (word, Sign Comma ∷ joined.1, split, free)

count_is_reserved : is_reserved (codes "count") ≡ true
unfolding is_reserved reserved
count_is_reserved = refl

no_mark_before_names : (tokens : List Token) (names : List (List ℕ)) (rest : List Token) → Joined IsName tokens names → (after_symbol Star (tokens ++ rest) ≡ None) × (after_word (codes "count") (tokens ++ rest) ≡ None)
unfolding after_symbol after_word
no_mark_before_names tokens names rest joined =
    let begins = names_begin tokens names joined in
    let split = ap (λ (ts : List Token). ts ++ rest) begins.2 in
    (ap (after_symbol Star) split, ap (after_word (codes "count")) split ∙ rw (free_differs (codes "count") begins.0 count_is_reserved begins.3) refl)

no_star : (behind : List Token) → after_symbol Star (Word (codes "count") ∷ behind) ≡ None
unfolding after_symbol
no_star behind = refl

-- what follows it begins with a word
pub what_back : (front : List Token) (w : What) (word : List ℕ) (rest : List Token) → IsWhat front w → what_at (front ++ Word word ∷ rest) ≡ Some (w, Word word ∷ rest)
unfolding what_at count_at columns_at
what_back front w word rest grammar.star = rw (symbol_again Star (Word word ∷ rest)) refl
what_back front w word rest grammar.count =
    rw (no_star (Sign LeftParen ∷ Sign Star ∷ Sign RightParen ∷ Word word ∷ rest), word_again (codes "count") (Sign LeftParen ∷ Sign Star ∷ Sign RightParen ∷ Word word ∷ rest), symbol_again LeftParen (Sign Star ∷ Sign RightParen ∷ Word word ∷ rest), symbol_again Star (Sign RightParen ∷ Word word ∷ rest), symbol_again RightParen (Word word ∷ rest)) refl
what_back front w word rest (grammar.columns tokens names joined) =
    let begins = no_mark_before_names tokens names (Word word ∷ rest) joined in
    rw (begins.0, begins.1, list_again name_at IsName Anything name_read names tokens (Word word ∷ rest) (word_ends word rest) tt joined) refl

-- ---- order

direction_found : (tokens : List Token) → Front IsDirection tokens (direction_at tokens).0 (direction_at tokens).1
unfolding direction_at
direction_found tokens = go (after_word (codes "asc") tokens) (after_word (codes "desc") tokens) refl refl
  where
    go : (a d : Option (List Token)) → after_word (codes "asc") tokens ≡ a → after_word (codes "desc") tokens ≡ d
        → let found : Bool × List Token = behind_or a (λ behind. (false, behind)) (behind_or d (λ behind. (true, behind)) (false, tokens)) in Front IsDirection tokens found.0 found.1
    go (Some behind) d up down = (Word (codes "asc") ∷ [], word_found (codes "asc") tokens behind up, grammar.up)
    go None (Some behind) up down = (Word (codes "desc") ∷ [], word_found (codes "desc") tokens behind down, grammar.down)
    go None None up down = ([], refl, grammar.unsaid)

-- no direction stands there
abbrev pub NoDirection : List Token → Type 0
NoDirection rest = direction_at rest ≡ (false, rest)

direction_back : (front : List Token) (down : Bool) (rest : List Token) → IsDirection front down → NoDirection rest → direction_at (front ++ rest) ≡ (down, rest)
unfolding direction_at after_word
direction_back front down rest grammar.unsaid none = none
direction_back front down rest grammar.up none = refl
direction_back front down rest grammar.down none = refl

order_part_front : (tokens : List Token) (p : OrderPart) (rest : List Token) → order_part_at tokens ≡ Some (p, rest) → Front IsOrderPart tokens p rest
unfolding order_part_at
order_part_front tokens p rest e =
    let a = bind_some (name_at tokens) _ (p, rest) e in
    let name = name_found tokens a.0.0 a.0.1 a.1 in
    let direction = direction_found a.0.1 in
    fronted IsOrderPart tokens (Word a.0.0 ∷ direction.0) (direction_at a.0.1).1 rest (record { column = a.0.0; down = (direction_at a.0.1).0 }) p
    (name.0 ∙ ap (λ (ts : List Token). Word a.0.0 ∷ ts) direction.1) (grammar.orders a.0.0 direction.0 (direction_at a.0.1).0 name.1 direction.2) a.2

order_part_back : (front : List Token) (p : OrderPart) (rest : List Token) → IsOrderPart front p → NoDirection rest → order_part_at (front ++ rest) ≡ Some (p, rest)
unfolding order_part_at
order_part_back front p rest (grammar.orders column tokens down free is) none =
    rw (name_again column (tokens ++ rest) free, direction_back tokens down rest is none) refl

comma_undirected : (rest : List Token) → NoDirection (Sign Comma ∷ rest)
unfolding direction_at after_word
comma_undirected rest = refl

close_undirected : (rest : List Token) → NoDirection (Sign RightParen ∷ rest)
unfolding direction_at after_word
close_undirected rest = refl

end_undirected : NoDirection []
unfolding direction_at after_word
end_undirected = refl

order_part_read : ReadsExactly order_part_at IsOrderPart NoDirection
order_part_read = record { found = order_part_front; again = order_part_back; comma = comma_undirected; close = close_undirected }

-- what an order is, where it may be asked for
abbrev Orders : List Token → List OrderPart → Type 0
Orders tokens parts = ((tokens ≡ []) × (parts ≡ [])) ⊎ ((behind : List Token) × (tokens ≡ Word (codes "order") ∷ Word (codes "by") ∷ behind) × Joined IsOrderPart behind parts)

order_front : (tokens : List Token) (parts : List OrderPart) (rest : List Token) → order_at tokens ≡ Some (parts, rest) → Front Orders tokens parts rest
unfolding order_at order_by_at
order_front tokens parts rest e =
    elim (behind_cases (after_word (codes "order") tokens) _ _ _ e) [
      | inl h ↦
          let a = bind_some (after_word (codes "by") h.0) _ (parts, rest) h.2 in
          let joined = list_found order_part_at IsOrderPart NoDirection order_part_read a.0 parts rest a.2 in
          (Word (codes "order") ∷ Word (codes "by") ∷ joined.0, cc (word_found (codes "order") tokens h.0 h.1, word_found (codes "by") h.0 a.0 a.1, joined.1), inr (joined.0, refl, joined.2))
      | inr h ↦ fronted Orders tokens [] tokens rest [] parts refl (inl (refl, refl)) h.1
    ]

pub order_found : (what : What) (tokens : List Token) (parts : List OrderPart) (rest : List Token) → order_of_at what tokens ≡ Some (parts, rest) → Front (IsOrder what) tokens parts rest
order_found Count tokens parts rest e = fronted (IsOrder Count) tokens [] tokens rest [] parts refl (grammar.no_order Count) e
order_found All tokens parts rest e = let found = order_front tokens parts rest e in (found.0, found.1, ordered found.0 parts found.2)
  where
    ordered : (front : List Token) (parts : List OrderPart) → Orders front parts → IsOrder All front parts
    ordered front parts (inl h) = subst (λ (ts : List Token). IsOrder All ts parts) (sym h.0) (subst (λ ps. IsOrder All [] ps) (sym h.1) (grammar.no_order All))
    ordered front parts (inr h) = subst (λ (ts : List Token). IsOrder All ts parts) (sym h.1) (grammar.all_order h.0 parts h.2)
order_found (Columns names) tokens parts rest e = let found = order_front tokens parts rest e in (found.0, found.1, ordered found.0 parts found.2)
  where
    ordered : (front : List Token) (parts : List OrderPart) → Orders front parts → IsOrder (Columns names) front parts
    ordered front parts (inl h) = subst (λ (ts : List Token). IsOrder (Columns names) ts parts) (sym h.0) (subst (λ ps. IsOrder (Columns names) [] ps) (sym h.1) (grammar.no_order (Columns names)))
    ordered front parts (inr h) = subst (λ (ts : List Token). IsOrder (Columns names) ts parts) (sym h.1) (grammar.columns_order names h.0 parts h.2)

order_back : (tokens : List Token) (parts : List OrderPart) → Joined IsOrderPart tokens parts → order_at (Word (codes "order") ∷ Word (codes "by") ∷ tokens) ≡ Some (parts, [])
unfolding order_at order_by_at
order_back tokens parts joined =
    let all : list_at order_part_at tokens ≡ Some (parts, []) = ap (list_at order_part_at) (sym (append-nil tokens)) ∙ list_again order_part_at IsOrderPart NoDirection order_part_read parts tokens [] nothing_ends end_undirected joined in
    rw (word_again (codes "order") (Word (codes "by") ∷ tokens), word_again (codes "by") tokens, all) refl

pub order_again : (what : What) (tokens : List Token) (parts : List OrderPart) → IsOrder what tokens parts → order_of_at what tokens ≡ Some (parts, [])
unfolding order_at after_word
order_again what tokens parts (grammar.no_order All) = refl
order_again what tokens parts (grammar.no_order (Columns names)) = refl
order_again what tokens parts (grammar.no_order Count) = refl
order_again what tokens parts (grammar.all_order behind ps joined) = order_back behind ps joined
order_again what tokens parts (grammar.columns_order names behind ps joined) = order_back behind ps joined
