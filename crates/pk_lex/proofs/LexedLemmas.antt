use Rattle.std.proofs.Common.{◌≡◌, ℕ, true, false, cond, ◌==◌, List, [], ◌∷◌, take, take_while, Option, Some, None, Result, Ok, Err, refl, subst, ◌∙◌, sym, zero, suc, ◌-◌, Bool}
use Rattle.std.specs.List.{list_all, filter_map, onto_first, AllPass}
use Rattle.std.specs.Result.{IfOk}
use Rattle.std.specs.Char.{is_ascii_digit}
use Rattle.std.specs.Str.{is_utf8}
use Rattle.std.proofs.lemmas.Bool.{false≢true, and_from, and_parts, cond_both}
use Rattle.std.proofs.lemmas.Option.{none-some}
use Rattle.std.proofs.lemmas.List.Sums.{take_while-cons, AllPass-from_list_all}
use Rattle.pk_lex.specs.declared.lexeme.Lexeme.{Lexeme}
use Rattle.pk_lex.specs.declared.lexeme.Lexeme.TheVariants.{Gap, Known, Wrong}
use Rattle.pk_lex.specs.declared.lexeme.Fault.TheVariants.{Bad, Unclosed}
use Rattle.pk_lex.specs.declared.piece.Piece.{Piece}
use Rattle.pk_lex.specs.Symbols.{symbol_at}
use Rattle.pk_lex.specs.Texts.{text_width, text_lexeme, unpaired, closed_text}
use Rattle.pk_lex.specs.Lexemes.{is_blank, begins_comment, begins_word, symbol_lexeme, lexeme_at, more_at, line_behind, lexemes_from, lexemes}
use Rattle.pk_lex.specs.Tokens.{is_token, ends_piece, stands_inside, is_body, is_lexed}
use Rattle.pk_lex.specs.Pieces.{parts_of, first_fault, tokens_of, body_of, piece_of, pieces}
use Rattle.pk_lex.proofs.LexemeLemmas.{word_is_name}

-- Each token of a script is one.

abbrev holds_token : Lexeme → Bool
holds_token Gap = true
holds_token (Known t) = is_token t
holds_token (Wrong f) = true

digits_pass : (bs : List ℕ) → list_all is_ascii_digit (take_while is_ascii_digit bs) ≡ true
digits_pass [] = refl
digits_pass (b ∷ bs) = rw take_while-cons (elim (is_ascii_digit b) as (λ p. is_ascii_digit b ≡ p → list_all is_ascii_digit (cond p (b ∷ take_while is_ascii_digit bs) []) ≡ true) [ true ↦ λ e. and_from _ _ e (digits_pass bs) | false ↦ λ e. refl ] refl)

closed_holds : (bytes : List ℕ) → holds_token (closed_text bytes) ≡ true
closed_holds bytes =
    cond_both (is_utf8 bytes) _ _ (λ l. holds_token l ≡ true) (λ e. e) (λ e. refl)

text_holds : (width : Option ℕ) (behind : List ℕ) → holds_token (text_lexeme width behind) ≡ true
text_holds (Some width) behind = closed_holds (unpaired false (take (width - 1) behind))
text_holds None behind = refl

symbol_holds : (bytes : List ℕ) → holds_token (symbol_lexeme (symbol_at bytes)) ≡ true
symbol_holds bytes =
    elim (symbol_at bytes) as (λ o. holds_token (symbol_lexeme o) ≡ true) [ Some s ↦ refl | None ↦ refl ]

lexeme_holds : (b : ℕ) (behind : List ℕ) → holds_token (lexeme_at b behind) ≡ true
unfolding lexeme_at
lexeme_holds b behind =
    let holds : Lexeme → Type 0 = λ l. holds_token l ≡ true in
    cond_both (is_blank b) _ _ holds (λ _. refl)
    (λ _. cond_both (begins_comment (b ∷ behind)) _ _ holds (λ _. refl)
    (λ _. cond_both (begins_word b) _ _ holds (λ e. word_is_name b behind e)
    (λ _. cond_both (is_ascii_digit b) _ _ holds (λ e. and_from _ _ e (digits_pass behind))
    (λ _. cond_both (b == 39) _ _ holds (λ _. text_holds (text_width false behind) behind) (λ _. symbol_holds (b ∷ behind))))))

abbrev is_sound : ℕ × Lexeme → Bool
is_sound x = holds_token x.1

all_sound : (line inside : ℕ) (bytes : List ℕ) → list_all is_sound (lexemes_from line inside bytes) ≡ true
all_sound line inside [] = refl
all_sound line (suc inside) (b ∷ bytes) = all_sound (line_behind line b) inside bytes
all_sound line zero (b ∷ bytes) =
    and_from _ _ (lexeme_holds b bytes) (all_sound (line_behind line b) (more_at b bytes) bytes)

-- So are the tokens of its parts, and none is a `;`.

abbrev fits_part : ℕ × Lexeme → Bool
fits_part (line, Gap) = false
fits_part (line, Known t) = stands_inside t
fits_part (line, Wrong f) = true

abbrev part_fits : List (ℕ × Lexeme) → Bool
part_fits part = list_all fits_part part

onto_first_fits : (x : ℕ × Lexeme) (parts : List (List (ℕ × Lexeme))) → fits_part x ≡ true → list_all part_fits parts ≡ true → list_all part_fits (onto_first x parts) ≡ true
onto_first_fits x [] h k = and_from _ _ (and_from _ _ h refl) refl
onto_first_fits x (part ∷ parts) h k =
    let both = and_parts (part_fits part) (list_all part_fits parts) k in
    and_from _ _ (and_from _ _ h both.0) both.1

parts_fit : (xs : List (ℕ × Lexeme)) → list_all is_sound xs ≡ true → list_all part_fits (parts_of xs) ≡ true
parts_fit [] h = refl
parts_fit ((line, Gap) ∷ xs) h = parts_fit xs h
parts_fit ((line, Wrong f) ∷ xs) h = onto_first_fits (line, Wrong f) (parts_of xs) refl (parts_fit xs h)
parts_fit ((line, Known t) ∷ xs) h =
    let both = and_parts (is_token t) (list_all is_sound xs) h in
    elim (ends_piece t) as (λ p. ends_piece t ≡ p → list_all part_fits (cond p ([] ∷ parts_of xs) (onto_first (line, Known t) (parts_of xs))) ≡ true) [
      | true ↦ λ e. parts_fit xs both.1
      | false ↦ λ e. onto_first_fits (line, Known t) (parts_of xs) (and_from _ _ both.0 (rw e refl)) (parts_fit xs both.1)
    ]
    refl

-- So are the pieces.

tokens_fit : (part : List (ℕ × Lexeme)) → part_fits part ≡ true → list_all stands_inside (tokens_of part) ≡ true
tokens_fit [] h = refl
tokens_fit ((line, Gap) ∷ part) h = absurd (false≢true h)
tokens_fit ((line, Wrong f) ∷ part) h = tokens_fit part h
tokens_fit ((line, Known t) ∷ part) h =
    let both = and_parts (stands_inside t) (part_fits part) h in and_from _ _ both.0 (tokens_fit part both.1)

faultless_body : (x : ℕ × Lexeme) (part : List (ℕ × Lexeme)) → part_fits (x ∷ part) ≡ true → first_fault (x ∷ part) ≡ None → is_body (body_of None (tokens_of (x ∷ part))) ≡ true
faultless_body (line, Gap) part h e = absurd (false≢true h)
faultless_body (line, Wrong f) part h e = absurd (none-some (line, f) (sym e))
faultless_body (line, Known t) part h e = tokens_fit ((line, Known t) ∷ part) h

body_fits : (x : ℕ × Lexeme) (part : List (ℕ × Lexeme)) → part_fits (x ∷ part) ≡ true → is_body (body_of (first_fault (x ∷ part)) (tokens_of (x ∷ part))) ≡ true
body_fits x part h =
    elim (first_fault (x ∷ part)) as (λ o. first_fault (x ∷ part) ≡ o → is_body (body_of o (tokens_of (x ∷ part))) ≡ true) [
      | Some (line, Bad) ↦ λ e. refl
      | Some (line, Unclosed) ↦ λ e. refl
      | None ↦ λ e. faultless_body x part h e
    ]
    refl

pieces_fit : (parts : List (List (ℕ × Lexeme))) → list_all part_fits parts ≡ true → list_all is_lexed (filter_map piece_of parts) ≡ true
pieces_fit [] h = refl
pieces_fit ([] ∷ parts) h = pieces_fit parts h
pieces_fit ((x ∷ part) ∷ parts) h =
    let both = and_parts (part_fits (x ∷ part)) (list_all part_fits parts) h in
    and_from _ _ (body_fits x part both.0) (pieces_fit parts both.1)

pub pieces_are_lexed : (script : List ℕ) → AllPass is_lexed (pieces script)
unfolding lexemes pieces
pieces_are_lexed script =
    AllPass-from_list_all is_lexed (pieces script) (pieces_fit (parts_of (lexemes script)) (parts_fit (lexemes script) (all_sound 1 0 script)))

-- what a call gives, where its list is the pieces
pub lexed_if : {A E : Type 0} (r : Result A E) (list : A → List Piece) (script : List ℕ) (ps : List Piece) → ps ≡ pieces script → IfOk r (λ v. list v ≡ ps) → IfOk r (λ v. AllPass is_lexed (list v))
lexed_if (Ok v) list script ps e h =
    subst (λ xs. AllPass is_lexed xs) (sym (h ∙ e)) (pieces_are_lexed script)
lexed_if (Err e) list script ps same h = tt
