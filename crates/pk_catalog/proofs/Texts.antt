-- Which bytes are words, and which are names as they stand.
use Rattle.std.proofs.Common.{◌≡◌, refl, sym, ◌∙◌, ap, subst, ℕ, ◌<◌, ◌≤◌, true, false, cond, nat_le, List, [], ◌∷◌, length, Some, None, inl, inr, arith}
use Rattle.std.specs.List.{list_all}
use Rattle.std.specs.Char.{to_ascii_lowercase}
use Rattle.std.specs.Str.{bytes_eq, is_utf8, IsValidUpTo}
use Rattle.std.proofs.lemmas.Bool.{cases_Bool, cases_lt, and_parts, lt-ltb, le-ltb, leb-true, both_ways as not_both}
use Rattle.std.proofs.lemmas.Option.{same_Some, cond_some}
use Rattle.std.proofs.lemmas.Slice.Eq.{bytes_eq-Decides}
use Rattle.std.proofs.lemmas.Str.{IsUtf8-from_is_utf8, utf8_valid_len-IsUtf8, utf8_valid_len-IsValidUpTo}
use Rattle.pk_values.specs.Name.{begins_name, continues_name, is_name, folded, name_of}
use Rattle.pk_values.specs.Words.{is_words}

-- ---- words

pub short_words : (bytes : List ℕ) → is_words bytes ≡ true → length bytes < 256
short_words bytes is = let most : length bytes ≤ 255 = leb-true _ _ (and_parts (nat_le (length bytes) 255) (is_utf8 bytes) is).0 in omega (arith, most)

-- bytes of which only a shorter front is UTF-8 are no words
pub no_words : (bytes : List ℕ) (at : ℕ) → IsValidUpTo bytes at → cond (is_words bytes) (Some bytes) None ≡ None
no_words bytes at cut =
    elim (cases_Bool (is_words bytes)) [
      | inl is ↦
          let whole = utf8_valid_len-IsUtf8 bytes (IsUtf8-from_is_utf8 bytes (and_parts (nat_le (length bytes) 255) (is_utf8 bytes) is).1) in
          let front = utf8_valid_len-IsValidUpTo bytes at cut in
          let short = cut.short in
          absurd (omega (arith, whole, front, short))
      | inr is ↦ rw is refl
    ]

-- ---- names

-- a small letter stays as it is
letter_kept : (b : ℕ) → continues_name b ≡ true → to_ascii_lowercase b ≡ b
letter_kept b is =
    elim (cases_lt b 65) [
      | inl low ↦ rw (lt-ltb b 65 low) refl
      | inr high ↦ elim (cases_lt b 91) [
        | inl capital ↦ absurd (no_capital b high capital is)
        | inr other ↦ rw (le-ltb b 65 high, le-ltb b 91 other) refl
      ]
    ]
  where
    no_capital : (b : ℕ) → 65 ≤ b → b < 91 → continues_name b ≡ true → ⊥
    no_capital b high low is = grind (arith, high, low, is)

folded_letters : (bytes : List ℕ) → list_all continues_name bytes ≡ true → folded bytes ≡ bytes
folded_letters [] all = refl
folded_letters (b ∷ bytes) all =
    let parts = and_parts (continues_name b) (list_all continues_name bytes) all in
    ap (λ c. c ∷ folded bytes) (letter_kept b parts.0) ∙ ap (λ rest. b ∷ rest) (folded_letters bytes parts.1)

begin_continues : (b : ℕ) → begins_name b ≡ true → continues_name b ≡ true
begin_continues b is = rw is refl

-- a name is what it spells
pub name_kept : (bytes : List ℕ) → is_name bytes ≡ true → name_of bytes ≡ Some bytes
name_kept [] is = absurd cc
name_kept (b ∷ bytes) is =
    let parts = and_parts (begins_name b) (list_all continues_name bytes) is in
    let same : folded (b ∷ bytes) ≡ b ∷ bytes = ap (λ c. c ∷ folded bytes) (letter_kept b (begin_continues b parts.0)) ∙ ap (λ rest. b ∷ rest) (folded_letters bytes parts.1) in
    ap (λ name. cond (is_name name) (Some name) None) same ∙ rw is refl

-- bytes that spell no name, or another, are none
pub no_name : (bytes : List ℕ) → name_of bytes ≡ None → cond (is_name bytes) (Some bytes) None ≡ None
no_name bytes none =
    elim (cases_Bool (is_name bytes)) [
      | inl is ↦ let some = name_kept bytes is in absurd cc
      | inr is ↦ rw is refl
    ]

pub other_name : (bytes name : List ℕ) → name_of bytes ≡ Some name → (name ≡ bytes → ⊥) → cond (is_name bytes) (Some bytes) None ≡ None
other_name bytes name spells other =
    elim (cases_Bool (is_name bytes)) [
      | inl is ↦ absurd (other (same_Some name bytes (sym spells ∙ name_kept bytes is)))
      | inr is ↦ rw is refl
    ]

pub same_name : (bytes name : List ℕ) → name_of bytes ≡ Some name → name ≡ bytes → cond (is_name bytes) (Some bytes) None ≡ Some name
same_name bytes name spells same =
    let made = cond_some (is_name (folded bytes)) (folded bytes) name spells in
    let is : is_name bytes ≡ true = subst (λ b. is_name b ≡ true) (made.1 ∙ same) made.0 in
    rw is (ap (λ b. Some b) (sym same))

pub other_spelling : (bytes name : List ℕ) → name_of bytes ≡ Some name → bytes_eq name bytes ≡ false → cond (is_name bytes) (Some bytes) None ≡ None
other_spelling bytes name spells other = other_name bytes name spells (λ same. not_both (bytes_eq name bytes) other ((bytes_eq-Decides name bytes).1 same))
