use Rattle.std.proofs.Common.{◌≡◌, ℕ, ◌<◌, true, false, cond, not, List, [], ◌∷◌, ◌++◌, filter, Option, Some, None, refl, sym, ap, ◌∙◌, arith, length}
use Rattle.std.specs.List.{flat_map, filter_map, cons_option, onto_first}
use Rattle.std.specs.Option.{option_or}
use Rattle.std.proofs.lemmas.Option.{none-some}
use Rattle.std.proofs.lemmas.List.Splits.{length-slice_split}
use Rattle.std.proofs.lemmas.List.Elements.{filter_map-append}
use Rattle.pk_lex.specs.declared.token.Token.{Token}
use Rattle.pk_lex.specs.declared.token.Token.TheVariants.{Symbol as Sign}
use Rattle.pk_lex.specs.declared.token.Symbol.TheVariants.{Semicolon}
use Rattle.pk_lex.specs.declared.lexeme.Lexeme.{Lexeme}
use Rattle.pk_lex.specs.declared.lexeme.Lexeme.TheVariants.{Gap, Known, Wrong}
use Rattle.pk_lex.specs.declared.lexeme.Fault.{Fault}
use Rattle.pk_lex.specs.declared.lexeme.Fault.TheVariants.{Bad, Unclosed}
use Rattle.pk_lex.specs.declared.piece.Piece.{Piece}
use Rattle.pk_lex.specs.Pieces.{is_solid, is_end, parts_of, first_fault, tokens_of, piece_with, piece_of, pieces_of}
use Rattle.pk_lex.specs.Tokens.{ends_piece}
use Rattle.pk_lex.specs.Laws.{body_tokens, first_told}

-- the tokens of the pieces of parts
abbrev joined : List (List (ℕ × Lexeme)) → List Token
joined parts = flat_map (λ (piece : Piece). body_tokens piece.body) (filter_map piece_of parts)

-- the first part, where there is one
abbrev first_part : List (List (ℕ × Lexeme)) → List (ℕ × Lexeme)
first_part [] = []
first_part (part ∷ parts) = part

joined-cons : (part : List (ℕ × Lexeme)) (parts : List (List (ℕ × Lexeme))) → first_fault part ≡ None → joined (part ∷ parts) ≡ tokens_of part ++ joined parts
joined-cons [] parts h = refl
joined-cons (x ∷ part) parts h = rw h refl

-- a part that a token begins
joined-onto_first : (line : ℕ) (t : Token) (parts : List (List (ℕ × Lexeme))) → first_fault (first_part parts) ≡ None → joined (onto_first (line, Known t) parts) ≡ t ∷ joined parts
joined-onto_first line t [] h = refl
joined-onto_first line t (part ∷ parts) h =
    joined-cons ((line, Known t) ∷ part) parts h ∙ ap (λ ts. t ∷ ts) (sym (joined-cons part parts h))

-- the first part of lexemes without faults has none
fault-onto_first : (line : ℕ) (t : Token) (parts : List (List (ℕ × Lexeme))) → first_fault (first_part (onto_first (line, Known t) parts)) ≡ first_fault (first_part parts)
fault-onto_first line t [] = refl
fault-onto_first line t (part ∷ parts) = refl

first_part_faultless : (xs : List (ℕ × Lexeme)) → first_fault xs ≡ None → first_fault (first_part (parts_of xs)) ≡ None
first_part_faultless [] h = refl
first_part_faultless ((line, Gap) ∷ xs) h = first_part_faultless xs h
first_part_faultless ((line, Wrong f) ∷ xs) h = absurd (none-some (line, f) (sym h))
first_part_faultless ((line, Known t) ∷ xs) h =
    elim (ends_piece t) as (λ p. first_fault (first_part (cond p ([] ∷ parts_of xs) (onto_first (line, Known t) (parts_of xs)))) ≡ None) [
      | true ↦ refl
      | false ↦ fault-onto_first line t (parts_of xs) ∙ first_part_faultless xs h
    ]

pub joined_is : (xs : List (ℕ × Lexeme)) → first_fault xs ≡ None → joined (parts_of xs) ≡ filter (λ t. not (ends_piece t)) (tokens_of xs)
joined_is [] h = refl
joined_is ((line, Gap) ∷ xs) h = joined_is xs h
joined_is ((line, Wrong f) ∷ xs) h = absurd (none-some (line, f) (sym h))
joined_is ((line, Known t) ∷ xs) h =
    let others : List Token = filter (λ u. not (ends_piece u)) (tokens_of xs) in
    elim (ends_piece t) as (λ p. joined (cond p ([] ∷ parts_of xs) (onto_first (line, Known t) (parts_of xs))) ≡ cond (not p) (t ∷ others) others) [
      | true ↦ joined_is xs h
      | false ↦ joined-onto_first line t (parts_of xs) (first_part_faultless xs h) ∙ ap (λ ts. t ∷ ts) (joined_is xs h)
    ]

-- the first fault that the pieces of parts tell
abbrev told : List (List (ℕ × Lexeme)) → Option (ℕ × Fault)
told parts = first_told (filter_map piece_of parts)

told-cons : (part : List (ℕ × Lexeme)) (parts : List (List (ℕ × Lexeme))) → told (part ∷ parts) ≡ option_or (first_fault part) (told parts)
told-cons [] parts = refl
told-cons (x ∷ part) parts =
    elim (first_fault (x ∷ part)) as (λ o. first_told (cons_option (piece_with (Some x.0) o (tokens_of (x ∷ part))) (filter_map piece_of parts)) ≡ option_or o (told parts)) [
      | Some (line, Bad) ↦ refl
      | Some (line, Unclosed) ↦ refl
      | None ↦ refl
    ]

told-onto_first : (line : ℕ) (t : Token) (parts : List (List (ℕ × Lexeme))) → told (onto_first (line, Known t) parts) ≡ told parts
told-onto_first line t [] = refl
told-onto_first line t (part ∷ parts) = told-cons ((line, Known t) ∷ part) parts ∙ sym (told-cons part parts)

told-onto_first_wrong : (line : ℕ) (f : Fault) (parts : List (List (ℕ × Lexeme))) → told (onto_first (line, Wrong f) parts) ≡ Some (line, f)
told-onto_first_wrong line Bad [] = refl
told-onto_first_wrong line Unclosed [] = refl
told-onto_first_wrong line Bad (part ∷ parts) = refl
told-onto_first_wrong line Unclosed (part ∷ parts) = refl

pub told_is : (xs : List (ℕ × Lexeme)) → told (parts_of xs) ≡ first_fault xs
told_is [] = refl
told_is ((line, Gap) ∷ xs) = told_is xs
told_is ((line, Wrong f) ∷ xs) = told-onto_first_wrong line f (parts_of xs)
told_is ((line, Known t) ∷ xs) =
    elim (ends_piece t) as (λ p. told (cond p ([] ∷ parts_of xs) (onto_first (line, Known t) (parts_of xs))) ≡ first_fault xs) [
      | true ↦ told_is xs
      | false ↦ told-onto_first line t (parts_of xs) ∙ told_is xs
    ]

-- A `;` cuts.

onto_first-append : (x : ℕ × Lexeme) (parts others : List (List (ℕ × Lexeme))) → 0 < length parts → onto_first x (parts ++ others) ≡ onto_first x parts ++ others
onto_first-append x [] others h = absurd (omega arith)
onto_first-append x (part ∷ parts) others h = refl

some_parts : (xs : List (ℕ × Lexeme)) → 0 < length (parts_of xs)
some_parts xs = omega (arith, length-slice_split is_end (filter is_solid xs))

parts_of-append : (xs ys : List (ℕ × Lexeme)) (line : ℕ) → parts_of (xs ++ (line, Known (Sign Semicolon)) ∷ ys) ≡ parts_of xs ++ parts_of ys
parts_of-append [] ys line = refl
parts_of-append ((at, Gap) ∷ xs) ys line = parts_of-append xs ys line
parts_of-append ((at, Wrong f) ∷ xs) ys line =
    ap (onto_first (at, Wrong f)) (parts_of-append xs ys line) ∙ onto_first-append (at, Wrong f) (parts_of xs) (parts_of ys) (some_parts xs)
parts_of-append ((at, Known t) ∷ xs) ys line =
    let whole : List (List (ℕ × Lexeme)) = parts_of (xs ++ (line, Known (Sign Semicolon)) ∷ ys) in
    elim (ends_piece t) as (λ p. cond p ([] ∷ whole) (onto_first (at, Known t) whole) ≡ cond p ([] ∷ parts_of xs) (onto_first (at, Known t) (parts_of xs)) ++ parts_of ys) [
      | true ↦ ap (λ parts. [] ∷ parts) (parts_of-append xs ys line)
      | false ↦ ap (onto_first (at, Known t)) (parts_of-append xs ys line) ∙ onto_first-append (at, Known t) (parts_of xs) (parts_of ys) (some_parts xs)
    ]

pub pieces_of-append : (xs ys : List (ℕ × Lexeme)) (line : ℕ) → pieces_of (xs ++ (line, Known (Sign Semicolon)) ∷ ys) ≡ pieces_of xs ++ pieces_of ys
pieces_of-append xs ys line = ap (filter_map piece_of) (parts_of-append xs ys line) ∙ filter_map-append piece_of (parts_of xs) (parts_of ys)
