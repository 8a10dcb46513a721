use Rattle.std.proofs.Common.{◌≡◌, ℕ, ◌+◌, ◌<◌, ◌≤◌, get_or, eqb, true, false, cond, List, [], ◌∷◌, take, drop, Some, None, length, refl, sym, ap, ◌∙◌, arith, zero, suc, take_while, add-zero, ◌==◌}
use Rattle.std.specs.List.{prefix_len, list_all}
use Rattle.std.specs.Char.{is_ascii_digit, to_ascii_lowercase}
use Rattle.std.proofs.lemmas.Bool.{and_from, and_parts, false≢true, cond_both}
use Rattle.std.proofs.lemmas.Bool.Decides.{nat_tests}
use Rattle.std.proofs.lemmas.Option.{none-some}
use Rattle.std.proofs.lemmas.List.Sums.{take_while-cons, prefix_len-le-length, sum_by-cons}
use Rattle.pk_values.specs.Name.{begins_name, continues_name, is_name, folded, name_of}
use Rattle.pk_lex.specs.declared.token.Token.TheVariants.{Word, Number}
use Rattle.pk_lex.specs.declared.lexeme.Lexeme.{Lexeme}
use Rattle.pk_lex.specs.declared.lexeme.Lexeme.TheVariants.{Gap, Known, Wrong}
use Rattle.pk_lex.specs.declared.lexeme.Fault.TheVariants.{Unclosed}
use Rattle.pk_lex.specs.declared.lexeme.Front.{Front}
use Rattle.pk_lex.specs.Symbols.{symbol_at}
use Rattle.pk_lex.specs.Lexemes.{is_blank, begins_comment, stays_on_line, begins_word, continues_word, symbol_lexeme, symbol_more, lexeme_at, more_at, front_of, line_feeds, line_behind, lexemes_from}
use Rattle.pk_lex.specs.Texts.{text_width, text_lexeme, text_more}
use Rattle.pk_lex.proofs.TextLemmas.{text_fits}
use Rattle.pk_lex.proofs.SymbolLemmas.{symbol_at_fits}

-- Bytes.

pub continues_if_begins : (b : ℕ) → begins_word b ≡ true → continues_word b ≡ true
continues_if_begins b h = grind (arith, nat_tests)

blank_if_begins : (b : ℕ) → begins_word b ≡ true → is_blank b ≡ false
blank_if_begins b h = grind (arith, nat_tests)

blank_if_digit : (b : ℕ) → is_ascii_digit b ≡ true → is_blank b ≡ false
blank_if_digit b h = grind (arith, nat_tests)

begins_if_digit : (b : ℕ) → is_ascii_digit b ≡ true → begins_word b ≡ false
begins_if_digit b h = grind (arith, nat_tests)

no_comment_if_begins : (b : ℕ) (bs : List ℕ) → begins_word b ≡ true → begins_comment (b ∷ bs) ≡ false
no_comment_if_begins b bs h = let e : eqb 45 b ≡ false = grind (arith, nat_tests) in rw e refl

no_comment_if_digit : (b : ℕ) (bs : List ℕ) → is_ascii_digit b ≡ true → begins_comment (b ∷ bs) ≡ false
no_comment_if_digit b bs h = let e : eqb 45 b ≡ false = grind (arith, nat_tests) in rw e refl

stays_if_comment : (b : ℕ) (bs : List ℕ) → begins_comment (b ∷ bs) ≡ true → stays_on_line b ≡ true
stays_if_comment b bs h =
    let first : eqb 45 b ≡ true = (and_parts (eqb 45 b) _ h).0 in grind (arith, nat_tests)

begins_name_if : (b : ℕ) → begins_word b ≡ true → begins_name (to_ascii_lowercase b) ≡ true
begins_name_if b h = grind (arith, nat_tests)

continues_name_if : (b : ℕ) → continues_word b ≡ true → continues_name (to_ascii_lowercase b) ≡ true
continues_name_if b h = grind (arith, nat_tests)

all_continue : (bs : List ℕ) → list_all continues_name (folded (take_while continues_word bs)) ≡ true
all_continue [] = refl
all_continue (b ∷ bs) = rw take_while-cons (elim (continues_word b) as (λ p. continues_word b ≡ p → list_all continues_name (folded (cond p (b ∷ take_while continues_word bs) [])) ≡ true) [ true ↦ λ e. and_from _ _ (continues_name_if b e) (all_continue bs) | false ↦ λ e. refl ] refl)

-- what begins a word and what goes on with it, in small letters
pub word_is_name : (b : ℕ) (behind : List ℕ) → begins_word b ≡ true → is_name (folded (b ∷ take_while continues_word behind)) ≡ true
word_is_name b behind h = and_from _ _ (begins_name_if b h) (all_continue behind)

pub is_name_if : (bytes : List ℕ) → begins_word (get_or bytes 0 0) ≡ true → is_name (folded (take_while continues_word bytes)) ≡ true
is_name_if [] h = h
is_name_if (b ∷ bs) h = let k = continues_if_begins b h in rw (take_while-cons, k) (word_is_name b bs h)

-- the name that a word spells
pub name_of_word : (bytes : List ℕ) → begins_word (get_or bytes 0 0) ≡ true → name_of (take_while continues_word bytes) ≡ Some (folded (take_while continues_word bytes))
name_of_word bytes h = rw (is_name_if bytes h) refl

-- The front of bytes, by what begins there.

pub front_of_blank : (bytes : List ℕ) → 0 < length bytes → is_blank (get_or bytes 0 0) ≡ true → front_of bytes ≡ Some (record { lexeme = Gap; width = 1 })
unfolding lexeme_at more_at
front_of_blank [] l h = absurd (omega arith)
front_of_blank (b ∷ bs) l h = rw h refl

pub front_of_comment : (bytes : List ℕ) → is_blank (get_or bytes 0 0) ≡ false → begins_comment bytes ≡ true → front_of bytes ≡ Some (record { lexeme = Gap; width = prefix_len stays_on_line bytes })
unfolding lexeme_at more_at
front_of_comment [] l h = absurd (false≢true h)
front_of_comment (b ∷ bs) l h = let stays = stays_if_comment b bs h in rw (stays, l, h) refl

pub front_of_word : (bytes : List ℕ) → begins_word (get_or bytes 0 0) ≡ true → front_of bytes ≡ Some (record { lexeme = Known (Word (folded (take_while continues_word bytes))); width = prefix_len continues_word bytes })
unfolding lexeme_at more_at
front_of_word [] h = absurd (false≢true h)
front_of_word (b ∷ bs) h =
    let blank = blank_if_begins b h in let comment = no_comment_if_begins b bs h in let more = continues_if_begins b h in
    rw (take_while-cons, blank, comment, h, more) refl

pub front_of_number : (bytes : List ℕ) → is_ascii_digit (get_or bytes 0 0) ≡ true → front_of bytes ≡ Some (record { lexeme = Known (Number (take_while is_ascii_digit bytes)); width = prefix_len is_ascii_digit bytes })
unfolding lexeme_at more_at
front_of_number [] h = absurd (false≢true h)
front_of_number (b ∷ bs) h =
    let blank = blank_if_digit b h in let comment = no_comment_if_digit b bs h in let begins = begins_if_digit b h in
    rw (take_while-cons, blank, comment, begins, h) refl

pub front_of_text : (bytes : List ℕ) → get_or bytes 0 0 ≡ 39 → front_of bytes ≡ Some (record { lexeme = text_lexeme (text_width false (drop 1 bytes)) (drop 1 bytes); width = 1 + text_more (text_width false (drop 1 bytes)) (drop 1 bytes) })
unfolding lexeme_at more_at
front_of_text [] h = absurd (omega (arith, h))
front_of_text (b ∷ bs) h = rw h refl

-- a text that no quote closes takes all bytes
pub front_of_open : (bytes : List ℕ) → get_or bytes 0 0 ≡ 39 → text_width false (drop 1 bytes) ≡ None → front_of bytes ≡ Some (record { lexeme = Wrong Unclosed; width = length bytes })
front_of_open [] h e = absurd (omega (arith, h))
front_of_open (b ∷ bs) h e =
    let whole : length (b ∷ bs) ≡ 1 + length bs = omega arith in
    let front = front_of_text (b ∷ bs) h in rw (front, e, whole) refl

pub front_of_symbol : (bytes : List ℕ) (front : Front) → 0 < length bytes → is_blank (get_or bytes 0 0) ≡ false → begins_comment bytes ≡ false → begins_word (get_or bytes 0 0) ≡ false → is_ascii_digit (get_or bytes 0 0) ≡ false → (get_or bytes 0 0 == 39) ≡ false → front.lexeme ≡ symbol_lexeme (symbol_at bytes) → front.width ≡ 1 + symbol_more (symbol_at bytes) → front_of bytes ≡ Some front
unfolding lexeme_at more_at
front_of_symbol [] front l b c w d t e f = absurd (omega arith)
front_of_symbol (x ∷ bs) front l b c w d t e f = rw (b, c, w, d, t, ← e, ← f) refl

-- How many bytes a front takes.

symbol_fits : (b : ℕ) (bs : List ℕ) → symbol_more (symbol_at (b ∷ bs)) ≤ length bs
symbol_fits b bs =
    elim (symbol_at (b ∷ bs)) as (λ o. symbol_at (b ∷ bs) ≡ o → symbol_more o ≤ length bs) [
      | Some s ↦ λ e. omega (arith, symbol_at_fits (b ∷ bs) s e)
      | None ↦ λ e. omega arith
    ]
    refl

pub more_fits : (b : ℕ) (bs : List ℕ) → more_at b bs ≤ length bs
unfolding more_at
more_fits b bs =
    let fits : ℕ → Type 0 = λ n. n ≤ length bs in
    cond_both (is_blank b) _ _ fits (λ _. omega arith)
    (λ _. cond_both (begins_comment (b ∷ bs)) _ _ fits (λ _. prefix_len-le-length stays_on_line bs)
    (λ _. cond_both (begins_word b) _ _ fits (λ _. prefix_len-le-length continues_word bs)
    (λ _. cond_both (is_ascii_digit b) _ _ fits (λ _. prefix_len-le-length is_ascii_digit bs)
    (λ _. cond_both (b == 39) _ _ fits (λ _. text_fits bs) (λ _. symbol_fits b bs)))))

pub front_fits : (bytes : List ℕ) (front : Front) → front_of bytes ≡ Some front → (0 < front.width) × (front.width ≤ length bytes)
front_fits [] front e = absurd (none-some front e)
front_fits (b ∷ bs) front e =
    let width : front.width ≡ 1 + more_at b bs = cc in
    let fits = more_fits b bs in (omega arith, omega arith)

-- The lexemes of bytes are their front and the lexemes of what stands behind it.

line_behind_is : (line b : ℕ) → line_behind line b ≡ line + cond (b == 10) 1 0
line_behind_is line b =
    elim (b == 10) as (λ p. cond p (line + 1) line ≡ line + cond p 1 0) [ true ↦ refl | false ↦ sym (add-zero line) ]

pub lines_behind : (line b : ℕ) (bs : List ℕ) → line_behind line b + line_feeds bs ≡ line + line_feeds (b ∷ bs)
lines_behind line b bs =
    let first = line_behind_is line b in
    let all = sum_by-cons (λ x. cond (x == 10) 1 0) b bs in omega arith

-- the bytes inside a lexeme only count lines
lexemes_from-inside : (line inside : ℕ) (bytes : List ℕ) → lexemes_from line inside bytes ≡ lexemes_from (line + line_feeds (take inside bytes)) 0 (drop inside bytes)
lexemes_from-inside line zero bytes = rw add-zero refl
lexemes_from-inside line (suc inside) [] = refl
lexemes_from-inside line (suc inside) (b ∷ bytes) =
    lexemes_from-inside (line_behind line b) inside bytes ∙ ap (λ n. lexemes_from n 0 (drop inside bytes)) (lines_behind line b (take inside bytes))

pub lexemes_from-front : (line : ℕ) (bytes : List ℕ) (front : Front) → front_of bytes ≡ Some front → lexemes_from line 0 bytes ≡ (line, front.lexeme) ∷ lexemes_from (line + line_feeds (take front.width bytes)) 0 (drop front.width bytes)
lexemes_from-front line [] front e = absurd (none-some front e)
lexemes_from-front line (b ∷ bs) front e =
    let known : front.lexeme ≡ lexeme_at b bs = cc in
    let width_is : front.width ≡ 1 + more_at b bs = cc in
    let width : front.width ≡ suc (more_at b bs) = omega arith in
    rw (known, width) (ap (λ rest. (line, lexeme_at b bs) ∷ rest) (lexemes_from-inside line (suc (more_at b bs)) (b ∷ bs)))

-- Each lexeme stands at a place, on its line.

abbrev StandsFrom : ℕ → List ℕ → ℕ × Lexeme → Type 0
StandsFrom line bytes entry =
    (place : ℕ) × (front : Front) × (front_of (drop place bytes) ≡ Some front) × (entry.1 ≡ front.lexeme) × (entry.0 ≡ line + line_feeds (take place bytes))

stands_behind : (line b : ℕ) (bs : List ℕ) (entry : ℕ × Lexeme) → StandsFrom (line_behind line b) bs entry → StandsFrom line (b ∷ bs) entry
stands_behind line b bs entry h = (suc h.0, h.1, h.2, h.3, h.4 ∙ lines_behind line b (take h.0 bs))

pub stands_at : (line inside : ℕ) (bytes : List ℕ) (k : ℕ) (d : ℕ × Lexeme) → k < length (lexemes_from line inside bytes) → StandsFrom line bytes (get_or (lexemes_from line inside bytes) k d)
stands_at line inside [] k d h = absurd (omega arith)
stands_at line (suc inside) (b ∷ bs) k d h =
    stands_behind line b bs _ (stands_at (line_behind line b) inside bs k d h)
stands_at line zero (b ∷ bs) zero d h =
    (0, record { lexeme = lexeme_at b bs; width = 1 + more_at b bs }, refl, refl, sym (add-zero line))
stands_at line zero (b ∷ bs) (suc k) d h =
    stands_behind line b bs _ (stands_at (line_behind line b) (more_at b bs) bs k d (omega arith))
