-- Which bytes spell which tokens, where nothing is known of what follows but its first byte.
use Rattle.std.proofs.Common.{◌≡◌, ℕ, ◌+◌, Bool, true, false, cond, not, ◌==◌, List, [], ◌∷◌, ◌++◌, length, map, filter, take, drop, take_while, refl, sym, ap, subst, ◌∙◌, append_assoc, arith, add-zero}
use Rattle.std.specs.Prelude.{codes, Some, None}
use Rattle.std.specs.List.{list_all, prefix_len, flat_map, filter_map, join_by, slice_split}
use Rattle.std.specs.Char.{is_ascii_digit, to_ascii_lowercase}
use Rattle.std.proofs.lemmas.List.{map-append}
use Rattle.std.proofs.lemmas.Bool.{and_parts, and_from, not-true}
use Rattle.std.proofs.lemmas.Bool.Decides.{nat_tests}
use Rattle.std.proofs.Math.Seq.{take-append_seam, drop-append_seam}
use Rattle.std.proofs.lemmas.List.Sums.{take_while-cons, sum_by-cons}
use Rattle.pk_values.specs.Name.{begins_name, continues_name, is_name, folded}
use Rattle.pk_lex.specs.declared.token.Token.{Token}
use Rattle.pk_lex.specs.declared.token.Token.TheVariants.{Word, Number, Symbol as Sign}
use Rattle.pk_lex.specs.declared.token.Symbol.TheVariants.{Comma, Semicolon}
use Rattle.pk_lex.specs.declared.lexeme.Lexeme.{Lexeme}
use Rattle.pk_lex.specs.declared.lexeme.Lexeme.TheVariants.{Known}
use Rattle.pk_lex.specs.declared.piece.Body.TheVariants.{Tokens}
use Rattle.pk_lex.specs.Tokens.{ends_piece, is_number}
use Rattle.pk_lex.specs.Lexemes.{begins_word, continues_word, lexeme_at, more_at, front_of, line_feeds, lexemes_from, lexemes}
use Rattle.pk_lex.specs.Symbols.{symbol_at}
use Rattle.pk_lex.specs.Pieces.{is_solid, is_end, first_fault, tokens_of, piece_of, pieces}
use Rattle.pk_lex.proofs.LexemeLemmas.{front_of_word, front_of_number, lexemes_from-front, continues_if_begins}

-- the lexemes of the bytes, without the gaps
abbrev pub solids : ℕ → List ℕ → List (ℕ × Lexeme)
solids line bytes = filter is_solid (lexemes_from line 0 bytes)

-- the tokens as lexemes of a line
abbrev pub on_line : ℕ → List Token → List (ℕ × Lexeme)
on_line line tokens = map (λ t. (line, Known t)) tokens

-- anything may follow
abbrev pub Anything : List ℕ → Type 0
Anything rest = Unit {0}

-- nothing, or a byte that continues no word
abbrev pub Breaks : List ℕ → Type 0
Breaks [] = Unit {0}
Breaks (b ∷ bs) = continues_word b ≡ false

-- where what follows may, the bytes spell the tokens, of which none is a `;`
pub record Spells (May : List ℕ → Type 0) (bytes : List ℕ) (tokens : List Token) : Type 0 where
  pub spelled : (line : ℕ) (rest : List ℕ) → May rest → solids line (bytes ++ rest) ≡ on_line line tokens ++ solids line rest
  pub goes_on : list_all (λ t. not (ends_piece t)) tokens ≡ true

-- ---- joining

all_in_both : (p : Token → Bool) (ts us : List Token) → list_all p ts ≡ true → list_all p us ≡ true → list_all p (ts ++ us) ≡ true
all_in_both p [] us left right = right
all_in_both p (t ∷ ts) us left right =
    let parts = and_parts (p t) (list_all p ts) left in and_from (p t) (list_all p (ts ++ us)) parts.0 (all_in_both p ts us parts.1 right)

-- what spells tokens, and what may follow it and spells others
pub spells_both : {May Then : List ℕ → Type 0} (a b : List ℕ) (ts us : List Token) → Spells May a ts → ((rest : List ℕ) → Then rest → May (b ++ rest)) → Spells Then b us → Spells Then (a ++ b) (ts ++ us)
spells_both a b ts us first may second = record {
  spelled = λ line rest then.
      ap (solids line) (append_assoc a b rest)
      ∙ first.spelled line (b ++ rest) (may rest then)
      ∙ ap (λ xs. on_line line ts ++ xs) (second.spelled line rest then)
      ∙ sym (append_assoc (on_line line ts) (on_line line us) (solids line rest))
      ∙ ap (λ xs. xs ++ solids line rest) (sym (map-append (λ t. (line, Known t)) ts us));
  goes_on = all_in_both (λ t. not (ends_piece t)) ts us first.goes_on second.goes_on;
}

-- no bytes spell no tokens
pub spells_nothing : {May : List ℕ → Type 0} → Spells May [] []
spells_nothing = record { spelled = λ line rest may. refl; goes_on = refl }

-- what is spelled whatever follows is spelled where it breaks
pub spells_less : {May : List ℕ → Type 0} (a : List ℕ) (ts : List Token) → Spells Anything a ts → Spells May a ts
spells_less a ts whole = record { spelled = λ line rest may. whole.spelled line rest tt; goes_on = whole.goes_on }

-- ---- names and numbers

-- nothing, or a byte that doesn't pass
abbrev Stops : (ℕ → Bool) → List ℕ → Type 0
Stops p [] = Unit {0}
Stops p (b ∷ bs) = p b ≡ false

all_taken : (p : ℕ → Bool) (xs rest : List ℕ) → list_all p xs ≡ true → Stops p rest → take_while p (xs ++ rest) ≡ xs
all_taken p [] [] all stops = refl
all_taken p [] (b ∷ bs) all stops = rw (take_while-cons, stops) refl
all_taken p (x ∷ xs) rest all stops =
    let parts = and_parts (p x) (list_all p xs) all in
    rw (take_while-cons p x (xs ++ rest), parts.0) (ap (λ (ys : List ℕ). x ∷ ys) (all_taken p xs rest parts.1 stops))

all_counted : (p : ℕ → Bool) (xs rest : List ℕ) → list_all p xs ≡ true → Stops p rest → prefix_len p (xs ++ rest) ≡ length xs
all_counted p [] [] all stops = refl
all_counted p [] (b ∷ bs) all stops = rw stops refl
all_counted p (x ∷ xs) rest all stops =
    let parts = and_parts (p x) (list_all p xs) all in
    let more = all_counted p xs rest parts.1 stops in
    rw (parts.0, more) (omega arith)

-- on one line
no_feeds : (p : ℕ → Bool) → ((b : ℕ) → p b ≡ true → (b == 10) ≡ false) → (xs : List ℕ) → list_all p xs ≡ true → line_feeds xs ≡ 0
no_feeds p none [] all = refl
no_feeds p none (x ∷ xs) all =
    let parts = and_parts (p x) (list_all p xs) all in
    sum_by-cons (λ b. cond (b == 10) 1 0) x xs ∙ rw (none x parts.0, no_feeds p none xs parts.1) refl

-- bytes that are one token, all of them, where what follows stops
one_token : (p : ℕ → Bool) → ((b : ℕ) → p b ≡ true → (b == 10) ≡ false) → (bytes rest : List ℕ) (t : Token) (line : ℕ) → list_all p bytes ≡ true → Stops p rest
    → front_of (bytes ++ rest) ≡ Some (record { lexeme = Known t; width = prefix_len p (bytes ++ rest) }) → solids line (bytes ++ rest) ≡ (line, Known t) ∷ solids line rest
one_token p none bytes rest t line all stops front =
    let width : prefix_len p (bytes ++ rest) ≡ length bytes = all_counted p bytes rest all stops in
    let taken : take (prefix_len p (bytes ++ rest)) (bytes ++ rest) ≡ bytes = ap (λ n. take n (bytes ++ rest)) width ∙ take-append_seam bytes rest in
    let left : drop (prefix_len p (bytes ++ rest)) (bytes ++ rest) ≡ rest = ap (λ n. drop n (bytes ++ rest)) width ∙ drop-append_seam bytes rest in
    let feeds : line + line_feeds (take (prefix_len p (bytes ++ rest)) (bytes ++ rest)) ≡ line = ap (λ bs. line + line_feeds bs) taken ∙ ap (λ n. line + n) (no_feeds p none bytes all) ∙ add-zero line in
    ap (filter is_solid) (lexemes_from-front line (bytes ++ rest) _ front)
    ∙ ap (λ n. (line, Known t) ∷ filter is_solid (lexemes_from n 0 (drop (prefix_len p (bytes ++ rest)) (bytes ++ rest)))) feeds
    ∙ ap (λ bs. (line, Known t) ∷ solids line bs) left

no_feed_in_word : (b : ℕ) → continues_word b ≡ true → (b == 10) ≡ false
no_feed_in_word b h = grind (arith, nat_tests)

no_feed_in_number : (b : ℕ) → is_ascii_digit b ≡ true → (b == 10) ≡ false
no_feed_in_number b h = grind (arith, nat_tests)

word_if_name : (b : ℕ) → begins_name b ≡ true → begins_word b ≡ true
word_if_name b h = grind (arith, nat_tests)

more_if_begins : (b : ℕ) → begins_name b ≡ true → continues_name b ≡ true
more_if_begins b h = grind (arith, nat_tests)

more_if_name : (b : ℕ) → continues_name b ≡ true → continues_word b ≡ true
more_if_name b h = grind (arith, nat_tests)

small_if_name : (b : ℕ) → continues_name b ≡ true → to_ascii_lowercase b ≡ b
small_if_name b h = grind (arith, nat_tests)

digit_is_more : (b : ℕ) → is_ascii_digit b ≡ true → continues_word b ≡ true
digit_is_more b h = grind (arith, nat_tests)

-- the bytes of a name are those of a word
name_is_word : (bs : List ℕ) → list_all continues_name bs ≡ true → list_all continues_word bs ≡ true
name_is_word [] all = refl
name_is_word (b ∷ bs) all =
    let parts = and_parts (continues_name b) (list_all continues_name bs) all in
    and_from (continues_word b) (list_all continues_word bs) (more_if_name b parts.0) (name_is_word bs parts.1)

-- a name is in small letters
name_is_folded : (bs : List ℕ) → list_all continues_name bs ≡ true → folded bs ≡ bs
name_is_folded [] all = refl
name_is_folded (b ∷ bs) all =
    let parts = and_parts (continues_name b) (list_all continues_name bs) all in
    rw (small_if_name b parts.0) (ap (λ (ys : List ℕ). b ∷ ys) (name_is_folded bs parts.1))

breaks_words : (rest : List ℕ) → Breaks rest → Stops continues_word rest
breaks_words [] breaks = tt
breaks_words (b ∷ bs) breaks = breaks

breaks_numbers : (rest : List ℕ) → Breaks rest → Stops is_ascii_digit rest
breaks_numbers [] breaks = tt
breaks_numbers (b ∷ bs) breaks = go (is_ascii_digit b) refl
  where
    go : (d : Bool) → is_ascii_digit b ≡ d → d ≡ false
    go false e = refl
    go true e = let more = digit_is_more b e in absurd cc

-- a word spells itself in small letters
pub spells_word : (b : ℕ) (bs : List ℕ) → begins_word b ≡ true → list_all continues_word bs ≡ true → Spells Breaks (b ∷ bs) (Word (folded (b ∷ bs)) ∷ [])
spells_word b bs begins more =
    let word : list_all continues_word (b ∷ bs) ≡ true = and_from (continues_word b) (list_all continues_word bs) (continues_if_begins b begins) more in
    record {
      spelled = λ line rest breaks.
          let taken : take_while continues_word ((b ∷ bs) ++ rest) ≡ b ∷ bs = all_taken continues_word (b ∷ bs) rest word (breaks_words rest breaks) in
          let front : front_of ((b ∷ bs) ++ rest) ≡ Some (record { lexeme = Known (Word (folded (b ∷ bs))); width = prefix_len continues_word ((b ∷ bs) ++ rest) }) =
          front_of_word ((b ∷ bs) ++ rest) begins ∙ ap (λ (w : List ℕ). Some (record { lexeme = Known (Word (folded w)); width = prefix_len continues_word ((b ∷ bs) ++ rest) })) taken
          in one_token continues_word no_feed_in_word (b ∷ bs) rest (Word (folded (b ∷ bs))) line word (breaks_words rest breaks) front;
      goes_on = refl;
    }

-- a name spells the word that it is
pub spells_name : (name : List ℕ) → is_name name ≡ true → Spells Breaks name (Word name ∷ [])
spells_name [] is = absurd cc
spells_name (b ∷ bs) is =
    let parts = and_parts (begins_name b) (list_all continues_name bs) is in
    let named : list_all continues_name (b ∷ bs) ≡ true = and_from (continues_name b) (list_all continues_name bs) (more_if_begins b parts.0) parts.1 in
    subst (λ (w : List ℕ). Spells Breaks (b ∷ bs) (Word w ∷ [])) (name_is_folded (b ∷ bs) named) (spells_word b bs (word_if_name b parts.0) (name_is_word bs parts.1))

-- digits spell a number
pub spells_number : (digits : List ℕ) → is_number digits ≡ true → Spells Breaks digits (Number digits ∷ [])
spells_number [] is = absurd cc
spells_number (b ∷ bs) is =
    let parts = and_parts (is_ascii_digit b) (list_all is_ascii_digit bs) is in
    record {
      spelled = λ line rest breaks.
          let taken : take_while is_ascii_digit ((b ∷ bs) ++ rest) ≡ b ∷ bs = all_taken is_ascii_digit (b ∷ bs) rest is (breaks_numbers rest breaks) in
          let front : front_of ((b ∷ bs) ++ rest) ≡ Some (record { lexeme = Known (Number (b ∷ bs)); width = prefix_len is_ascii_digit ((b ∷ bs) ++ rest) }) =
          front_of_number ((b ∷ bs) ++ rest) parts.0 ∙ ap (λ (w : List ℕ). Some (record { lexeme = Known (Number w); width = prefix_len is_ascii_digit ((b ∷ bs) ++ rest) })) taken
          in one_token is_ascii_digit no_feed_in_number (b ∷ bs) rest (Number (b ∷ bs)) line is (breaks_numbers rest breaks) front;
      goes_on = refl;
    }

-- ---- lists

pub spells_comma : {May : List ℕ → Type 0} → Spells May (codes ", ") (Sign Comma ∷ [])
unfolding lexeme_at more_at symbol_at
spells_comma = record { spelled = λ line rest may. refl; goes_on = refl }

-- each spells its tokens, where what follows breaks
abbrev pub EachSpells : {X : Type 0} → (X → List ℕ) → (X → List Token) → List X → Type 0
EachSpells f g [] = Unit {0}
EachSpells f g (x ∷ xs) = Spells Breaks (f x) (g x) × EachSpells f g xs

pub commas_break : {X : Type 0} (f : X → List ℕ) (xs : List X) (rest : List ℕ) → Breaks rest → Breaks (flat_map (λ x. codes ", " ++ f x) xs ++ rest)
commas_break f [] rest breaks = breaks
commas_break f (x ∷ xs) rest breaks = refl

-- each behind a comma
pub spells_behind : {X : Type 0} (f : X → List ℕ) (g : X → List Token) (xs : List X) → EachSpells f g xs → Spells Breaks (flat_map (λ x. codes ", " ++ f x) xs) (flat_map (λ x. Sign Comma ∷ g x) xs)
spells_behind f g [] each = spells_nothing
spells_behind f g (x ∷ xs) each =
    let one : Spells Breaks (codes ", " ++ f x) (Sign Comma ∷ g x) = spells_both (codes ", ") (f x) (Sign Comma ∷ []) (g x) (spells_comma {May = Anything}) (λ rest then. tt) each.0 in
    spells_both (codes ", " ++ f x) (flat_map (λ x. codes ", " ++ f x) xs) (Sign Comma ∷ g x) (flat_map (λ x. Sign Comma ∷ g x) xs) one (commas_break f xs) (spells_behind f g xs each.1)

-- a comma between each two
pub spells_joined : {X : Type 0} (f : X → List ℕ) (g : X → List Token) (xs : List X) → EachSpells f g xs → Spells Breaks (join_by f (codes ", ") xs) (join_by g (Sign Comma ∷ []) xs)
spells_joined f g [] each = spells_nothing
spells_joined f g (x ∷ xs) each =
    spells_both (f x) (flat_map (λ x. codes ", " ++ f x) xs) (g x) (flat_map (λ x. Sign Comma ∷ g x) xs) each.0 (commas_break f xs) (spells_behind f g xs each.1)

-- ---- pieces

split_at_end : (ts : List Token) → list_all (λ t. not (ends_piece t)) ts ≡ true → slice_split is_end (on_line 1 ts ++ (1, Known (Sign Semicolon)) ∷ []) ≡ on_line 1 ts ∷ [] ∷ []
split_at_end [] goes_on = refl
split_at_end (t ∷ ts) goes_on =
    let parts = and_parts (not (ends_piece t)) (list_all (λ t. not (ends_piece t)) ts) goes_on in
    let open_end : ends_piece t ≡ false = not-true (ends_piece t) parts.0 in
    rw (open_end, split_at_end ts parts.1) refl

no_fault : (ts : List Token) → first_fault (on_line 1 ts) ≡ None
no_fault [] = refl
no_fault (t ∷ ts) = no_fault ts

same_tokens : (ts : List Token) → tokens_of (on_line 1 ts) ≡ ts
same_tokens [] = refl
same_tokens (t ∷ ts) = ap (λ (us : List Token). t ∷ us) (same_tokens ts)

semicolon_alone : solids 1 (codes ";") ≡ (1, Known (Sign Semicolon)) ∷ []
unfolding lexeme_at more_at symbol_at
semicolon_alone = refl

-- what spells tokens, and a `;`, is the one piece of these tokens
pub spelled_piece : (bytes : List ℕ) (t : Token) (ts : List Token) → Spells Anything bytes (t ∷ ts) → pieces (bytes ++ codes ";") ≡ record { line = 1; body = Tokens (t ∷ ts) } ∷ []
unfolding pieces lexemes
spelled_piece bytes t ts spells =
    let all : solids 1 (bytes ++ codes ";") ≡ on_line 1 (t ∷ ts) ++ (1, Known (Sign Semicolon)) ∷ [] = spells.spelled 1 (codes ";") tt ∙ ap (λ xs. on_line 1 (t ∷ ts) ++ xs) semicolon_alone in
    ap (λ xs. filter_map piece_of (slice_split is_end xs)) all
    ∙ ap (filter_map piece_of) (split_at_end (t ∷ ts) spells.goes_on)
    ∙ rw (no_fault ts, same_tokens ts) refl
