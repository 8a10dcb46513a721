-- The parts of a CREATE TABLE read as what they are, where no mark follows them.
use Rattle.std.proofs.Common.{◌≡◌, ℕ, zero, suc, ◌≤◌, true, false, leb, List, [], ◌∷◌, ◌++◌, length, Some, None, inl, inr, refl, sym, ap, subst, ◌∙◌, append_assoc, arith}
use Rattle.std.specs.Prelude.{codes, ◌&&◌}
use Rattle.std.proofs.lemmas.Bool.{leb-true, le-leb, and_parts}
use Rattle.std.proofs.lemmas.List.{length-append}
use Rattle.std.proofs.lemmas.Option.{some_pair_parts, cond_some}
use Rattle.pk_values.specs.declared.key.Sort.{Sort}
use Rattle.pk_values.specs.declared.key.Sort.TheVariants.{Certain, Possible}
use Rattle.pk_lex.specs.declared.token.Token.{Token}
use Rattle.pk_lex.specs.declared.token.Token.TheVariants.{Word, Number, Symbol as Sign}
use Rattle.pk_lex.specs.declared.token.Symbol.TheVariants.{LeftParen, RightParen, Comma}
use Rattle.pk_syntax.specs.declared.declaration.KeyText.{KeyText}
use Rattle.pk_parse.specs.declared.table_part.TablePart.{TablePart}
use Rattle.pk_parse.specs.declared.table_part.TablePart.TheVariants.{Column, Key}
use Rattle.pk_parse.specs.declared.table_part.ColumnForm.{ColumnForm}
use Rattle.pk_parse.specs.declared.table_part.KeyPart.{KeyPart}
use Rattle.pk_parse.specs.declared.table_part.Mark.{Mark}
use Rattle.pk_parse.specs.declared.table_part.Mark.TheVariants.{NotNull, Unique, Primary}
use Rattle.pk_syntax.specs.Words.{is_reserved, reserved}
use Rattle.pk_parse.specs.Tokens.{Found, after_word, after_symbol, name_at, digits_at}
use Rattle.pk_parse.specs.Literals.{number_of}
use Rattle.pk_parse.specs.Lists.{names_at}
use Rattle.pk_parse.specs.Create.{integer_form, text_form, length_within, varchar_at, form_at, mark_at, mark_then, marks_at, keyed_at, key_at, unique_at, primary_at, plain_key_at, key_part_at, column_behind, part_key_at, column_or_key, part_at}
use Rattle.pk_parse.specs.Grammar as grammar
use Rattle.pk_parse.specs.Grammar.{IsNames, IsForm, IsMark, AreMarks, IsKey, IsKeyPart, IsPart}
use Rattle.pk_parse.proofs.Fronts.{bind_some, behind_cases, Front, fronted, word_found, word_again, symbol_found, symbol_again, name_found, name_again, digits_found}
use Rattle.pk_parse.proofs.CommaLists.{ReadsExactly, Anything}
use Rattle.pk_parse.proofs.PartReading.{names_read}

-- ---- types

length_found : (n m : ℕ) → length_within n ≡ Some m → (1 ≤ n) × (n ≤ 255) × (n ≡ m)
length_found n m e =
    let within = cond_some (leb 1 n && leb n 255) n m e in
    let both = and_parts (leb 1 n) (leb n 255) within.0 in
    (leb-true 1 n both.0, leb-true n 255 both.1, within.1)

varchar_front : (tokens : List Token) (f : ColumnForm) (rest : List Token) → varchar_at tokens ≡ Some (f, rest) → Front (λ ts form. IsForm (Word (codes "varchar") ∷ ts) form) tokens f rest
unfolding varchar_at
varchar_front tokens f rest e =
    let a = bind_some (after_symbol LeftParen tokens) _ (f, rest) e in
    let b = bind_some (digits_at a.0) _ (f, rest) a.2 in
    let c = bind_some (length_within (number_of b.0.0)) _ (f, rest) b.2 in
    let d = bind_some (after_symbol RightParen b.0.1) _ (f, rest) c.2 in
    let within = length_found (number_of b.0.0) c.0 c.1 in
    fronted (λ ts form. IsForm (Word (codes "varchar") ∷ ts) form) tokens (Sign LeftParen ∷ Number b.0.0 ∷ Sign RightParen ∷ []) d.0 rest (text_form c.0) f
    (cc (symbol_found LeftParen tokens a.0 a.1, digits_found a.0 b.0.0 b.0.1 b.1, symbol_found RightParen b.0.1 d.0 d.1))
    (subst (λ n. IsForm (Word (codes "varchar") ∷ Sign LeftParen ∷ Number b.0.0 ∷ Sign RightParen ∷ []) (text_form n)) within.2 (grammar.varchar b.0.0 within.0 within.1)) d.2

form_front : (tokens : List Token) (f : ColumnForm) (rest : List Token) → form_at tokens ≡ Some (f, rest) → Front IsForm tokens f rest
unfolding form_at
form_front tokens f rest e =
    elim (behind_cases (after_word (codes "integer") tokens) _ _ _ e) [
      | inl h ↦ fronted IsForm tokens (Word (codes "integer") ∷ []) h.0 rest integer_form f (word_found (codes "integer") tokens h.0 h.1) grammar.integer h.2
      | inr h ↦ elim (behind_cases (after_word (codes "int") tokens) _ _ _ h.1) [
        | inl h ↦ fronted IsForm tokens (Word (codes "int") ∷ []) h.0 rest integer_form f (word_found (codes "int") tokens h.0 h.1) grammar.int h.2
        | inr h ↦ elim (behind_cases (after_word (codes "bigint") tokens) _ _ _ h.1) [
          | inl h ↦ fronted IsForm tokens (Word (codes "bigint") ∷ []) h.0 rest integer_form f (word_found (codes "bigint") tokens h.0 h.1) grammar.bigint h.2
          | inr h ↦ elim (behind_cases (after_word (codes "text") tokens) _ _ _ h.1) [
            | inl h ↦ fronted IsForm tokens (Word (codes "text") ∷ []) h.0 rest (text_form 255) f (word_found (codes "text") tokens h.0 h.1) grammar.text h.2
            | inr h ↦ elim (behind_cases (after_word (codes "varchar") tokens) _ _ _ h.1) [
              | inl h ↦ let length = varchar_front h.0 f rest h.2 in
                  (Word (codes "varchar") ∷ length.0, cc (word_found (codes "varchar") tokens h.0 h.1, length.1), length.2)
              | inr h ↦ absurd (none_is h.1)
            ]
          ]
        ]
      ]
    ]
  where
    none_is : ◌≡◌ {A = Found ColumnForm} None (Some (f, rest)) → ⊥
    none_is e = cc

varchar_back : (digits : List ℕ) (rest : List Token) → 1 ≤ number_of digits → number_of digits ≤ 255 → varchar_at (Sign LeftParen ∷ Number digits ∷ Sign RightParen ∷ rest) ≡ Some (text_form (number_of digits), rest)
unfolding varchar_at digits_at
varchar_back digits rest least most =
    rw (symbol_again LeftParen (Number digits ∷ Sign RightParen ∷ rest), le-leb 1 (number_of digits) least, le-leb (number_of digits) 255 most, symbol_again RightParen rest) refl

form_back : (front : List Token) (f : ColumnForm) (rest : List Token) → IsForm front f → form_at (front ++ rest) ≡ Some (f, rest)
unfolding form_at after_word
form_back front f rest grammar.integer = refl
form_back front f rest grammar.int = refl
form_back front f rest grammar.bigint = refl
form_back front f rest grammar.text = refl
form_back front f rest (grammar.varchar digits least most) = varchar_back digits rest least most

-- ---- marks

mark_front : (tokens : List Token) (m : Mark) (rest : List Token) → mark_at tokens ≡ Some (m, rest) → Front IsMark tokens m rest
unfolding mark_at
mark_front tokens m rest e =
    elim (behind_cases (after_word (codes "not") tokens) _ _ _ e) [
      | inl h ↦ elim (behind_cases (after_word (codes "null") h.0) _ _ _ h.2) [
        | inl k ↦ fronted IsMark tokens (Word (codes "not") ∷ Word (codes "null") ∷ []) k.0 rest NotNull m (cc (word_found (codes "not") tokens h.0 h.1, word_found (codes "null") h.0 k.0 k.1)) grammar.not_null k.2
        | inr k ↦ absurd (none_is k.1)
      ]
      | inr h ↦ elim (behind_cases (after_word (codes "unique") tokens) _ _ _ h.1) [
        | inl h ↦ fronted IsMark tokens (Word (codes "unique") ∷ []) h.0 rest Unique m (word_found (codes "unique") tokens h.0 h.1) grammar.unique h.2
        | inr h ↦ elim (behind_cases (after_word (codes "primary") tokens) _ _ _ h.1) [
          | inl h ↦ elim (behind_cases (after_word (codes "key") h.0) _ _ _ h.2) [
            | inl k ↦ fronted IsMark tokens (Word (codes "primary") ∷ Word (codes "key") ∷ []) k.0 rest Primary m (cc (word_found (codes "primary") tokens h.0 h.1, word_found (codes "key") h.0 k.0 k.1)) grammar.primary k.2
            | inr k ↦ absurd (none_is k.1)
          ]
          | inr h ↦ absurd (none_is h.1)
        ]
      ]
    ]
  where
    none_is : ◌≡◌ {A = Found Mark} None (Some (m, rest)) → ⊥
    none_is e = cc

mark_back : (front : List Token) (m : Mark) (rest : List Token) → IsMark front m → mark_at (front ++ rest) ≡ Some (m, rest)
unfolding mark_at after_word
mark_back front m rest grammar.not_null = refl
mark_back front m rest grammar.unique = refl
mark_back front m rest grammar.primary = refl

mark_long : (front : List Token) (m : Mark) → IsMark front m → 1 ≤ length front
mark_long front m grammar.not_null = omega arith
mark_long front m grammar.unique = omega arith
mark_long front m grammar.primary = omega arith

-- the marks that are found, and the tokens that spell them
abbrev MarksFound : List Token → List Mark × List Token → Type 0
MarksFound tokens found = Front AreMarks tokens found.0 found.1

marks_front : (n : ℕ) (tokens : List Token) → MarksFound tokens (marks_at n tokens)
marks_front zero tokens = ([], refl, grammar.no_mark)
marks_front (suc n) tokens = go (mark_at tokens) refl (λ behind. marks_front n behind)
  where
    go : (o : Found Mark) → mark_at tokens ≡ o → ((behind : List Token) → MarksFound behind (marks_at n behind)) → MarksFound tokens (mark_then tokens o (marks_at n))
    go None e others = ([], refl, grammar.no_mark)
    go (Some (m, behind)) e others =
        let one = mark_front tokens m behind e in
        let more = others behind in (
          one.0 ++ more.0,
          one.1 ∙ ap (λ (ts : List Token). one.0 ++ ts) more.1 ∙ sym (append_assoc one.0 more.0 (marks_at n behind).1),
          grammar.one_more one.0 more.0 m (marks_at n behind).0 one.2 more.2,
        )

-- no mark stands there
abbrev pub NoMark : List Token → Type 0
NoMark rest = mark_at rest ≡ None

marks_back : (n : ℕ) (front : List Token) (marks : List Mark) (rest : List Token) → AreMarks front marks → NoMark rest → length front ≤ n → marks_at n (front ++ rest) ≡ (marks, rest)
marks_back zero front marks rest grammar.no_mark none le = refl
marks_back (suc n) front marks rest grammar.no_mark none le = rw none refl
marks_back zero front marks rest (grammar.one_more one more m ms is are) none le = absurd (omega (arith, mark_long one m is, length-append one more))
marks_back (suc n) front marks rest (grammar.one_more one more m ms is are) none le =
    let others = marks_back n more ms rest are none (omega (arith, mark_long one m is, length-append one more)) in
    rw (append_assoc one more rest, mark_back one m (more ++ rest) is) (ap (λ (x : List Mark × List Token). (m ∷ x.0, x.1)) others)

-- ---- keys

-- KEY names, as a key of this sort
abbrev Keyed : Sort → List Token → KeyText → List Token → Type 0
Keyed sort tokens k rest = (names : List Token) × (columns : List (List ℕ)) × (tokens ≡ Word (codes "key") ∷ names ++ rest) × IsNames names columns × (record { sort = sort; columns = columns } ≡ k)

keyed_front : (sort : Sort) (tokens : List Token) (k : KeyText) (rest : List Token) → keyed_at sort tokens ≡ Some (k, rest) → Keyed sort tokens k rest
unfolding keyed_at
keyed_front sort tokens k rest e =
    let a = bind_some (after_word (codes "key") tokens) _ (k, rest) e in
    let b = bind_some (names_at a.0) _ (k, rest) a.2 in
    let made : KeyText = record { sort = sort; columns = b.0.0 } in
    let parts = some_pair_parts made k b.0.1 rest b.2 in
    let names = names_read.found a.0 b.0.0 b.0.1 b.1 in
    (names.0, b.0.0, cc (word_found (codes "key") tokens a.0 a.1, names.1, parts.1), names.2, parts.0)

keyed_back : (sort : Sort) (names : List Token) (columns : List (List ℕ)) (rest : List Token) → IsNames names columns → keyed_at sort (Word (codes "key") ∷ names ++ rest) ≡ Some (record { sort = sort; columns = columns }, rest)
unfolding keyed_at
keyed_back sort names columns rest is = rw (word_again (codes "key") (names ++ rest), names_read.again names columns rest is tt) refl

key_front : (tokens : List Token) (k : KeyText) (rest : List Token) → key_at tokens ≡ Some (k, rest) → Front IsKey tokens k rest
unfolding key_at
key_front tokens k rest e =
    elim (behind_cases (after_word (codes "certain") tokens) _ _ _ e) [
      | inl h ↦ let keyed = keyed_front Certain h.0 k rest h.2 in (
        Word (codes "certain") ∷ Word (codes "key") ∷ keyed.0,
        cc (word_found (codes "certain") tokens h.0 h.1, keyed.2),
        subst (IsKey (Word (codes "certain") ∷ Word (codes "key") ∷ keyed.0)) keyed.4 (grammar.certain keyed.0 keyed.1 keyed.3),
      )
      | inr h ↦ elim (behind_cases (after_word (codes "possible") tokens) _ _ _ h.1) [
        | inl h ↦ let keyed = keyed_front Possible h.0 k rest h.2 in (
          Word (codes "possible") ∷ Word (codes "key") ∷ keyed.0,
          cc (word_found (codes "possible") tokens h.0 h.1, keyed.2),
          subst (IsKey (Word (codes "possible") ∷ Word (codes "key") ∷ keyed.0)) keyed.4 (grammar.possible keyed.0 keyed.1 keyed.3),
        )
        | inr h ↦ absurd (none_is h.1)
      ]
    ]
  where
    none_is : ◌≡◌ {A = Found KeyText} None (Some (k, rest)) → ⊥
    none_is e = cc

key_back : (front : List Token) (k : KeyText) (rest : List Token) → IsKey front k → Anything rest → key_at (front ++ rest) ≡ Some (k, rest)
unfolding key_at after_word
key_back front k rest (grammar.certain names columns is) any = keyed_back Certain names columns rest is
key_back front k rest (grammar.possible names columns is) any = keyed_back Possible names columns rest is

pub key_read : ReadsExactly key_at IsKey Anything
key_read = record { found = key_front; again = key_back; comma = λ rest. tt; close = λ rest. tt }

key_part_front : (tokens : List Token) (k : KeyPart) (rest : List Token) → key_part_at tokens ≡ Some (k, rest) → Front IsKeyPart tokens k rest
unfolding key_part_at unique_at primary_at plain_key_at
key_part_front tokens k rest e =
    elim (behind_cases (after_word (codes "unique") tokens) _ _ _ e) [
      | inl h ↦
          let a = bind_some (names_at h.0) _ (k, rest) h.2 in
          let names = names_read.found h.0 a.0.0 a.0.1 a.1 in
          fronted IsKeyPart tokens (Word (codes "unique") ∷ names.0) a.0.1 rest (record { key = record { sort = Possible; columns = a.0.0 }; primary = false }) k
          (cc (word_found (codes "unique") tokens h.0 h.1, names.1)) (grammar.unique_key names.0 a.0.0 names.2) a.2
      | inr h ↦ elim (behind_cases (after_word (codes "primary") tokens) _ _ _ h.1) [
        | inl h ↦
            let a = bind_some (keyed_at Certain h.0) _ (k, rest) h.2 in
            let keyed = keyed_front Certain h.0 a.0.0 a.0.1 a.1 in
            fronted IsKeyPart tokens (Word (codes "primary") ∷ Word (codes "key") ∷ keyed.0) a.0.1 rest (record { key = a.0.0; primary = true }) k
            (cc (word_found (codes "primary") tokens h.0 h.1, keyed.2))
            (subst (λ (key : KeyText). IsKeyPart (Word (codes "primary") ∷ Word (codes "key") ∷ keyed.0) (record { key = key; primary = true })) keyed.4 (grammar.primary_key keyed.0 keyed.1 keyed.3)) a.2
        | inr h ↦
            let a = bind_some (key_at tokens) _ (k, rest) h.1 in
            let key = key_front tokens a.0.0 a.0.1 a.1 in
            fronted IsKeyPart tokens key.0 a.0.1 rest (record { key = a.0.0; primary = false }) k key.1 (grammar.plain_key key.0 a.0.0 key.2) a.2
      ]
    ]

-- a key begins with a word that is neither UNIQUE nor PRIMARY
key_begins : (front : List Token) (k : KeyText) (rest : List Token) → IsKey front k → (after_word (codes "unique") (front ++ rest) ≡ None) × (after_word (codes "primary") (front ++ rest) ≡ None) × (name_at (front ++ rest) ≡ None)
unfolding after_word name_at is_reserved reserved
key_begins front k rest (grammar.certain names columns is) = (refl, refl, refl)
key_begins front k rest (grammar.possible names columns is) = (refl, refl, refl)

primary_differs : (behind : List Token) → after_word (codes "unique") (Word (codes "primary") ∷ behind) ≡ None
unfolding after_word
primary_differs behind = refl

key_part_back : (front : List Token) (k : KeyPart) (rest : List Token) → IsKeyPart front k → key_part_at (front ++ rest) ≡ Some (k, rest)
unfolding key_part_at unique_at primary_at plain_key_at
key_part_back front k rest (grammar.plain_key tokens key is) =
    let begins = key_begins tokens key rest is in rw (begins.0, begins.1, key_back tokens key rest is tt) refl
key_part_back front k rest (grammar.unique_key names columns is) = rw (word_again (codes "unique") (names ++ rest), names_read.again names columns rest is tt) refl
key_part_back front k rest (grammar.primary_key names columns is) =
    rw (primary_differs (Word (codes "key") ∷ names ++ rest), word_again (codes "primary") (Word (codes "key") ∷ names ++ rest), keyed_back Certain names columns rest is) refl

-- no key begins with a name
key_is_no_name : (front : List Token) (k : KeyPart) (rest : List Token) → IsKeyPart front k → name_at (front ++ rest) ≡ None
unfolding name_at is_reserved reserved
key_is_no_name front k rest (grammar.plain_key tokens key is) = (key_begins tokens key rest is).2
key_is_no_name front k rest (grammar.unique_key names columns is) = refl
key_is_no_name front k rest (grammar.primary_key names columns is) = refl

-- ---- parts

part_front : (tokens : List Token) (p : TablePart) (rest : List Token) → part_at tokens ≡ Some (p, rest) → Front IsPart tokens p rest
unfolding part_at column_behind part_key_at
part_front tokens p rest e = go (name_at tokens) refl e
  where
    go : (o : Found (List ℕ)) → name_at tokens ≡ o → column_or_key o tokens ≡ Some (p, rest) → Front IsPart tokens p rest
    go None miss e =
        let a = bind_some (key_part_at tokens) _ (p, rest) e in
        let key = key_part_front tokens a.0.0 a.0.1 a.1 in
        fronted IsPart tokens key.0 a.0.1 rest (Key a.0.0) p key.1 (grammar.key key.0 a.0.0 key.2) a.2
    go (Some (name, behind)) found e =
        let first = name_found tokens name behind found in
        let a = bind_some (form_at behind) _ (p, rest) e in
        let form = form_front behind a.0.0 a.0.1 a.1 in
        let marks = marks_front (length a.0.1) a.0.1 in
        let after : List Token = (marks_at (length a.0.1) a.0.1).1 in
        let more : form.0 ++ a.0.1 ≡ (form.0 ++ marks.0) ++ after = ap (λ (ts : List Token). form.0 ++ ts) marks.1 ∙ sym (append_assoc form.0 marks.0 after) in
        fronted IsPart tokens (Word name ∷ form.0 ++ marks.0) after rest (Column (record { name = name; form = a.0.0; marks = (marks_at (length a.0.1) a.0.1).0 })) p
        (first.0 ∙ ap (λ (ts : List Token). Word name ∷ ts) (form.1 ∙ more)) (grammar.column name form.0 marks.0 a.0.0 (marks_at (length a.0.1) a.0.1).0 first.1 form.2 marks.2) a.2

part_back : (front : List Token) (p : TablePart) (rest : List Token) → IsPart front p → NoMark rest → part_at (front ++ rest) ≡ Some (p, rest)
unfolding part_at column_behind part_key_at
part_back front p rest (grammar.column name types more form marks free is are) none =
    rw (name_again name ((types ++ more) ++ rest) free, append_assoc types more rest, form_back types form (more ++ rest) is, marks_back (length (more ++ rest)) more marks rest are none (omega (arith, length-append more rest))) refl
part_back front p rest (grammar.key tokens k is) none = rw (key_is_no_name tokens k rest is, key_part_back tokens k rest is) refl

comma_unmarked : (rest : List Token) → NoMark (Sign Comma ∷ rest)
unfolding mark_at after_word
comma_unmarked rest = refl

close_unmarked : (rest : List Token) → NoMark (Sign RightParen ∷ rest)
unfolding mark_at after_word
close_unmarked rest = refl

pub part_read : ReadsExactly part_at IsPart NoMark
part_read = record { found = part_front; again = part_back; comma = comma_unmarked; close = close_unmarked }
