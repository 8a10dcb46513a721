use Rattle.std.proofs.Common.{◌≡◌, ◌≢◌, ◌⊎◌, inl, inr, ℕ, ◌+◌, ◌-◌, get_or, Bool, true, false, cond, ◌==◌, List, [], ◌∷◌, ◌++◌, take, Option, Some, None, length, refl, sym, ap, ◌∙◌, arith, suc, length-append, append_assoc}
use Rattle.std.specs.List.{flat_map}
use Rattle.std.specs.Option.{option_map, is_some}
use Rattle.std.specs.Char.{is_ascii_digit}
use Rattle.std.proofs.lemmas.Bool.{false≢true, cond_both, eqb-true, ne_eqb, cases_eq}
use Rattle.std.proofs.lemmas.Option.{none-some}
use Rattle.std.proofs.lemmas.List.{take-append-le, take_all}
use Rattle.pk_lex.specs.declared.lexeme.Lexeme.{Lexeme}
use Rattle.pk_lex.specs.declared.lexeme.Lexeme.TheVariants.{Wrong}
use Rattle.pk_lex.specs.declared.lexeme.Fault.TheVariants.{Unclosed}
use Rattle.pk_lex.specs.declared.lexeme.Front.{Front}
use Rattle.pk_lex.specs.Symbols.{symbol_at}
use Rattle.pk_lex.specs.Texts.{text_width, unpaired, closed_text}
use Rattle.pk_lex.specs.Lexemes.{is_blank, begins_comment, begins_word, symbol_lexeme, lexeme_at, front_of}
use Rattle.pk_lex.specs.Laws.{quoted, is_text}
use Rattle.pk_lex.proofs.LexemeLemmas.{front_of_text, front_of_open}

abbrev doubled : List ℕ → List ℕ
doubled text = flat_map (λ b. cond (b == 39) (39 ∷ 39 ∷ []) (b ∷ [])) text

-- Quoted bytes are read as they are.

closes : (behind : List ℕ) → get_or behind 0 0 ≢ 39 → text_width true behind ≡ Some 0
closes [] h = refl
closes (b ∷ bs) h = let e = ne_eqb b 39 h in rw e refl

width_quoted : (text behind : List ℕ) → get_or behind 0 0 ≢ 39 → text_width false (doubled text ++ 39 ∷ behind) ≡ Some (suc (length (doubled text)))
width_quoted [] behind h = ap (option_map suc) (closes behind h)
width_quoted (b ∷ text) behind h =
    elim (b == 39) as (λ p. (b == 39) ≡ p → text_width false ((cond p (39 ∷ 39 ∷ []) (b ∷ []) ++ doubled text) ++ 39 ∷ behind) ≡ Some (suc (length (cond p (39 ∷ 39 ∷ []) (b ∷ []) ++ doubled text)))) [
      | true ↦ λ e. ap (λ o. option_map suc (option_map suc o)) (width_quoted text behind h)
      | false ↦ λ e. rw e (ap (option_map suc) (width_quoted text behind h))
    ]
    refl

unpaired_doubled : (text : List ℕ) → unpaired false (doubled text) ≡ text
unpaired_doubled [] = refl
unpaired_doubled (b ∷ text) =
    elim (b == 39) as (λ p. (b == 39) ≡ p → unpaired false (cond p (39 ∷ 39 ∷ []) (b ∷ []) ++ doubled text) ≡ b ∷ text) [
      | true ↦ λ e. let same = eqb-true b 39 e in rw same (ap (λ bs. 39 ∷ bs) (unpaired_doubled text))
      | false ↦ λ e. rw e (ap (λ bs. b ∷ bs) (unpaired_doubled text))
    ]
    refl

take_doubled : (text behind : List ℕ) → take (length (doubled text)) (doubled text ++ behind) ≡ doubled text
take_doubled text behind =
    take-append-le (length (doubled text)) (doubled text) behind (omega arith) ∙ take_all (length (doubled text)) (doubled text) (omega arith)

behind_quote : (text behind : List ℕ) → (doubled text ++ 39 ∷ []) ++ behind ≡ doubled text ++ 39 ∷ behind
behind_quote text behind = append_assoc (doubled text) (39 ∷ []) behind

front_of_closed : (bs : List ℕ) (width : ℕ) → text_width false bs ≡ Some width → front_of (39 ∷ bs) ≡ Some (record { lexeme = closed_text (unpaired false (take (width - 1) bs)); width = 1 + width })
front_of_closed bs width e = let front = front_of_text (39 ∷ bs) refl in rw (front, e) refl

pub front_of_quoted : (text behind : List ℕ) → get_or behind 0 0 ≢ 39 → front_of (quoted text ++ behind) ≡ Some (record { lexeme = closed_text text; width = length (quoted text) })
front_of_quoted text behind h =
    let closing = width_quoted text behind h in
    let less : suc (length (doubled text)) - 1 ≡ length (doubled text) = omega arith in
    let inner = take_doubled text (39 ∷ behind) in
    let read = unpaired_doubled text in
    let whole : 1 + suc (length (doubled text)) ≡ length (quoted text) = omega (arith, length-append (doubled text) (39 ∷ [])) in
    ap (λ bs. front_of (39 ∷ bs)) (behind_quote text behind) ∙ front_of_closed (doubled text ++ 39 ∷ behind) (suc (length (doubled text))) closing ∙ rw (less, inner, read, whole) refl

-- Where a quote stands.

abbrev IsQuoted : List ℕ → Type 0
IsQuoted bytes = (text behind : List ℕ) × (bytes ≡ quoted text ++ behind) × (get_or behind 0 0 ≢ 39)

-- what the bytes behind a first quote are, or those behind a quote that is in no pair yet
abbrev Closed : Bool → List ℕ → Type 0
Closed false bs = (text behind : List ℕ) × (bs ≡ doubled text ++ 39 ∷ behind) × (get_or behind 0 0 ≢ 39)
Closed true bs = (text behind : List ℕ) × (39 ∷ bs ≡ doubled text ++ 39 ∷ behind) × (get_or behind 0 0 ≢ 39)

some_before : (o : Option ℕ) → is_some (option_map suc o) ≡ true → is_some o ≡ true
some_before (Some n) h = refl
some_before None h = h

closed_if : (flag : Bool) (bs : List ℕ) → is_some (text_width flag bs) ≡ true → Closed flag bs
closed_if false [] h = absurd (false≢true h)
closed_if true [] h = ([], [], refl, λ e. omega (arith, e))
closed_if false (b ∷ bs) h =
    elim (b == 39) as (λ p. (b == 39) ≡ p → is_some (option_map suc (text_width p bs)) ≡ true → Closed false (b ∷ bs)) [
      | true ↦ λ e k. let same = eqb-true b 39 e in rw same (closed_if true bs (some_before (text_width true bs) k))
      | false ↦ λ e k. let c = closed_if false bs (some_before (text_width false bs) k) in (b ∷ c.0, c.1, rw e (ap (λ xs. b ∷ xs) c.2), c.3)
    ]
    refl h
closed_if true (b ∷ bs) h =
    elim (b == 39) as (λ p. (b == 39) ≡ p → is_some (cond p (option_map suc (text_width false bs)) (Some 0)) ≡ true → Closed true (b ∷ bs)) [
      | true ↦ λ e k. let same = eqb-true b 39 e in let c = closed_if false bs (some_before (text_width false bs) k) in (39 ∷ c.0, c.1, rw same (ap (λ xs. 39 ∷ 39 ∷ xs) c.2), c.3)
      | false ↦ λ e k. ([], b ∷ bs, refl, λ same. false≢true (sym e ∙ rw same refl))
    ]
    refl h

quote_begins : (bs : List ℕ) → IsQuoted (39 ∷ bs) ⊎ (front_of (39 ∷ bs) ≡ Some (record { lexeme = Wrong Unclosed; width = length (39 ∷ bs) }))
quote_begins bs =
    elim (text_width false bs) as (λ o. text_width false bs ≡ o → IsQuoted (39 ∷ bs) ⊎ (front_of (39 ∷ bs) ≡ Some (record { lexeme = Wrong Unclosed; width = length (39 ∷ bs) }))) [
      | Some width ↦ λ e. let c = closed_if false bs (rw e refl) in inl (c.0, c.1, ap (λ xs. 39 ∷ xs) (c.2 ∙ sym (behind_quote c.0 c.1)), c.3)
      | None ↦ λ e. inr (front_of_open (39 ∷ bs) refl e)
    ]
    refl

pub quote_begins_text : (bytes : List ℕ) → get_or bytes 0 0 ≡ 39 → IsQuoted bytes ⊎ (front_of bytes ≡ Some (record { lexeme = Wrong Unclosed; width = length bytes }))
quote_begins_text [] h = absurd (omega (arith, h))
quote_begins_text (b ∷ bs) h = rw h (quote_begins bs)

-- No text stands elsewhere.

no_symbol_text : (bytes : List ℕ) → is_text (symbol_lexeme (symbol_at bytes)) ≡ false
no_symbol_text bytes =
    elim (symbol_at bytes) as (λ o. is_text (symbol_lexeme o) ≡ false) [ Some s ↦ refl | None ↦ refl ]

no_text : (b : ℕ) (behind : List ℕ) → b ≢ 39 → is_text (lexeme_at b behind) ≡ false
unfolding lexeme_at
no_text b behind h =
    let other : Lexeme → Type 0 = λ l. is_text l ≡ false in
    let e = ne_eqb b 39 h in
    cond_both (is_blank b) _ _ other (λ _. refl)
    (λ _. cond_both (begins_comment (b ∷ behind)) _ _ other (λ _. refl)
    (λ _. cond_both (begins_word b) _ _ other (λ _. refl)
    (λ _. cond_both (is_ascii_digit b) _ _ other (λ _. refl)
    (λ _. rw e (no_symbol_text (b ∷ behind))))))

pub text_begins : (bytes : List ℕ) (front : Front) → front_of bytes ≡ Some front → is_text front.lexeme ≡ true → get_or bytes 0 0 ≡ 39
text_begins [] front e h = absurd (none-some front e)
text_begins (b ∷ bs) front e h =
    let known : front.lexeme ≡ lexeme_at b bs = cc in
    elim (cases_eq b 39) [
      | inl same ↦ same
      | inr other ↦ absurd (false≢true (sym (no_text b bs other) ∙ ap is_text (sym known) ∙ h))
    ]
