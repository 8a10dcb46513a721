use Rattle.std.proofs.Common.{◌≡◌, ℕ, ◌+◌, ◌<◌, ◌≤◌, get_or, Bool, true, false, cond, not, ◌&&◌, ◌==◌, eqb, ◌≢◌, List, [], ◌∷◌, ◌++◌, drop, append_assoc, Option, Some, None, Result, Ok, Err, length, refl, sym, ap, subst, ◌∙◌, arith, suc}
use Rattle.std.specs.Option.{option_map}
use Rattle.std.specs.Result.{MatchResult, is_ok}
use Rattle.std.specs.Str.{IsUtf8, is_utf8}
use Rattle.std.proofs.lemmas.Str.{is_utf8-from_IsUtf8, IsUtf8-from_is_utf8}
use Rattle.std.proofs.lemmas.Bool.{false_from_ne_true}
use Rattle.std.proofs.lemmas.Bool.Decides.{nat_tests}
use Rattle.std.proofs.lemmas.List.{drop_more, drop_all}
use Rattle.std.proofs.lemmas.Option.{none-some, same_Some}
use Rattle.pk_lex.specs.Texts.{text_width, text_more, unpaired}

-- Where a text ends.

-- a width within so many bytes, where there is one
abbrev pub Within : ℕ → Option ℕ → Type 0
Within n (Some width) = width ≤ n
Within n None = Unit {0}

within_more : (n m : ℕ) (o : Option ℕ) → m ≡ 1 + n → Within n o → Within m (option_map suc o)
within_more n m (Some width) e h = omega arith
within_more n m None e h = tt

pub within : (flag : Bool) (bs : List ℕ) → Within (length bs) (text_width flag bs)
within false [] = tt
within false (b ∷ bs) = within_more (length bs) (length (b ∷ bs)) (text_width (b == 39) bs) (omega arith) (within (b == 39) bs)
within true [] = omega arith
within true (b ∷ bs) =
    elim (b == 39) as (λ p. Within (length (b ∷ bs)) (cond p (option_map suc (text_width false bs)) (Some 0))) [
      | true ↦ within_more (length bs) (length (b ∷ bs)) (text_width false bs) (omega arith) (within false bs)
      | false ↦ omega arith
    ]

-- a text takes no more than there is
pub text_fits : (bs : List ℕ) → text_more (text_width false bs) bs ≤ length bs
text_fits bs =
    elim (text_width false bs) as (λ o. Within (length bs) o → text_more o bs ≤ length bs) [
      | Some width ↦ λ h. h
      | None ↦ λ h. omega arith
    ]
    (within false bs)

above_zero : (o : Option ℕ) (width : ℕ) → option_map suc o ≡ Some width → 0 < width
above_zero (Some n) width e = let same = same_Some (suc n) width e in omega (arith, same)
above_zero None width e = absurd (none-some width e)

-- a closed text has at least its last quote
pub closed_within : (bs : List ℕ) (width : ℕ) → text_width false bs ≡ Some width → (0 < width) × (width ≤ length bs)
closed_within [] width e = absurd (none-some width e)
closed_within (b ∷ bs) width e =
    (above_zero (text_width (b == 39) bs) width e, subst (Within (length (b ∷ bs))) e (within false (b ∷ bs)))

-- A step over one byte.

-- the flag behind a byte
abbrev pub opens : Bool → ℕ → Bool
opens flag b = not flag && b == 39

abbrev pub further : ℕ → Option ℕ → Option ℕ
further n o = option_map (λ width. n + width) o

pub further_zero : (o : Option ℕ) → further 0 o ≡ o
further_zero (Some width) = ap (λ n. Some n) (omega arith)
further_zero None = refl

further_suc : (n m : ℕ) (o : Option ℕ) → m ≡ n + 1 → further n (option_map suc o) ≡ further m o
further_suc n m (Some width) e = ap (λ k. Some k) (omega arith)
further_suc n m None e = refl

width_goes_on : (flag : Bool) (b : ℕ) (bs : List ℕ) → (flag ≡ true → b ≡ 39) → text_width flag (b ∷ bs) ≡ option_map suc (text_width (opens flag b) bs)
width_goes_on false b bs h = refl
width_goes_on true b bs h = let same = h refl in rw same refl

width_ends : (b : ℕ) (bs : List ℕ) → b ≢ 39 → text_width true (b ∷ bs) ≡ Some 0
width_ends b bs h = let e : eqb b 39 ≡ false = grind (arith, nat_tests) in rw e refl

-- the byte at a place goes on the text
pub width_more : (flag : Bool) (bs : List ℕ) (i : ℕ) → i < length bs → (flag ≡ true → get_or bs i 0 ≡ 39) → further i (text_width flag (drop i bs)) ≡ further (i + 1) (text_width (opens flag (get_or bs i 0)) (drop (i + 1) bs))
width_more flag bs i l h =
    let step = drop_more bs i 0 l in
    rw step (ap (further i) (width_goes_on flag (get_or bs i 0) (drop (i + 1) bs) h) ∙ further_suc i (i + 1) (text_width (opens flag (get_or bs i 0)) (drop (i + 1) bs)) refl)

-- the byte at a place stands behind the closing quote
pub width_stops : (bs : List ℕ) (i : ℕ) → i < length bs → get_or bs i 0 ≢ 39 → further i (text_width true (drop i bs)) ≡ Some i
width_stops bs i l h =
    let step = drop_more bs i 0 l in
    rw step (ap (further i) (width_ends (get_or bs i 0) (drop (i + 1) bs) h) ∙ ap (λ n. Some n) (omega arith))

-- no byte is left
pub width_at_end : (flag : Bool) (bs : List ℕ) (i : ℕ) → length bs ≤ i → further i (text_width flag (drop i bs)) ≡ cond flag (Some i) None
width_at_end true bs i l = let e = drop_all i bs l in rw e (ap (λ n. Some n) (omega arith))
width_at_end false bs i l = let e = drop_all i bs l in rw e refl

-- The bytes with each pair of quotes as one.

pub unpaired_more : (flag : Bool) (bs : List ℕ) (i : ℕ) → i < length bs → unpaired flag (drop i bs) ≡ cond flag [] (get_or bs i 0 ∷ []) ++ unpaired (opens flag (get_or bs i 0)) (drop (i + 1) bs)
unpaired_more true bs i l = let e = drop_more bs i 0 l in rw e refl
unpaired_more false bs i l = let e = drop_more bs i 0 l in rw e refl

-- the step as the code makes it
pub unpaired_step : (flag : Bool) (bs items new : List ℕ) (i : ℕ) → i < length bs → new ≡ items ++ cond flag [] (get_or bs i 0 ∷ []) → new ++ unpaired (opens flag (get_or bs i 0)) (drop (i + 1) bs) ≡ items ++ unpaired flag (drop i bs)
unpaired_step flag bs items new i l e =
    let step = unpaired_more flag bs i l in
    rw (e, step) (append_assoc items (cond flag [] (get_or bs i 0 ∷ [])) (unpaired (opens flag (get_or bs i 0)) (drop (i + 1) bs)))

pub unpaired_at_end : (flag : Bool) (bs : List ℕ) (i : ℕ) → length bs ≤ i → unpaired flag (drop i bs) ≡ []
unpaired_at_end true bs i l = let e = drop_all i bs l in rw e refl
unpaired_at_end false bs i l = let e = drop_all i bs l in rw e refl

-- UTF-8 as the standard library judges it.

pub utf8_is_ok : {A E : Type 0} (r : Result A E) (F : A → Type 0) (G : E → Type 0) (bs : List ℕ) → MatchResult r (λ s. F s × IsUtf8 bs) (λ e. (¬ IsUtf8 bs) × G e) → is_ok r ≡ is_utf8 bs
utf8_is_ok (Ok s) F G bs h = sym (is_utf8-from_IsUtf8 bs h.1)
utf8_is_ok (Err e) F G bs h =
    sym (false_from_ne_true (is_utf8 bs) (λ t. h.0 (IsUtf8-from_is_utf8 bs t)))
