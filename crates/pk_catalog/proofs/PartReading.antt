-- Parts that are read from the front: what is read is spelled so, and what is spelled so is read, whatever follows.
use Rattle.std.proofs.Common.{◌≡◌, refl, sym, ◌∙◌, ap, subst, ℕ, zero, suc, ◌+◌, ◌^◌, ◌<◌, ◌≤◌, Bool, true, false, cond, nat_lt, ◌==◌, List, [], ◌∷◌, ◌++◌, length, get_or, take, drop, Option, Some, None, IsTrue, append_assoc, arith, inl, inr}
use Rattle.std.specs.List.{flat_map, AllByRecursion}
use Rattle.std.specs.Int.{Width, w32, w64, byte_len, from_be_bytes, to_be_bytes}
use Rattle.std.specs.Option.{option_and_then}
use Rattle.std.proofs.lemmas.Bool.{cases_lt, ltb-false, le-ltb, eqb-true}
use Rattle.std.proofs.lemmas.List.{take_at, drop_at, take-append-drop, length-append, length-take, get_or-drop, get_or-take, get_or_past, nil_from_length}
use Rattle.std.proofs.lemmas.List.Concat.{flat_map-cons}
use Rattle.std.proofs.lemmas.Nat.{be_bytes_4, be_bytes_8, from_be_bytes-to_be_bytes_4, from_be_bytes-to_be_bytes_8}
use Rattle.std.proofs.lemmas.Option.{same_Some, cond_some}
use Rattle.pk_catalog.specs.Records.{name_record, list_record}
use Rattle.pk_catalog.specs.Reading.{Found, byte_at, mark_at, number_at, text_at, passing_at, all_at, list_at, ended}

-- ---- bytes

abbrev pub IsBytes : List ℕ → Type 0
IsBytes bytes = (i : ℕ) → get_or bytes i 0 < 256

pub bytes_behind : (n : ℕ) (bytes : List ℕ) → IsBytes bytes → IsBytes (drop n bytes)
bytes_behind n bytes fits i = rw get_or-drop (fits (n + i))

bytes_before : (n : ℕ) (bytes : List ℕ) → IsBytes bytes → IsBytes (take n bytes)
bytes_before n bytes fits i =
    elim (cases_lt i n) [
      | inl low ↦ rw (get_or-take n bytes i 0 low) (fits i)
      | inr high ↦ rw (get_or_past (take n bytes) i 0 (omega (arith, high, length-take n bytes))) (omega arith)
    ]

-- ---- steps

-- a step that found something
pub step_found : {A B : Type 0} (o : Option A) (f : A → Option B) (y : B) → option_and_then f o ≡ Some y → (x : A) × (o ≡ Some x) × (f x ≡ Some y)
step_found (Some x) f y found = (x, refl, found)
step_found None f y found = absurd cc

-- a test that something passed
pub test_passed : {A : Type 0} (b : Bool) (x y : A) → cond b None (Some x) ≡ Some y → (b ≡ false) × (x ≡ y)
test_passed true x y passed = absurd cc
test_passed false x y passed = (refl, cc)

-- ---- readers

-- what was taken from the front: bytes that spell it, and it is such a thing
pub record Takes {A : Type 0} (spell : A → List ℕ) (Is : A → Type 0) (bytes : List ℕ) (x : A × List ℕ) : Type 0 where
  pub parts : bytes ≡ spell x.0 ++ x.1
  pub rest : IsBytes x.1
  pub it : Is x.0

-- a reader reads just what is spelled so
pub record Exact {A : Type 0} (at : List ℕ → Found A) (spell : A → List ℕ) (Is : A → Type 0) : Type 0 where
  pub takes : (bytes : List ℕ) (x : A × List ℕ) → IsBytes bytes → at bytes ≡ Some x → Takes spell Is bytes x
  pub again : (x : A) (rest : List ℕ) → Is x → at (spell x ++ rest) ≡ Some (x, rest)

-- two parts, one behind the other
pub joined : (bytes a first b second : List ℕ) → bytes ≡ a ++ first → first ≡ b ++ second → bytes ≡ (a ++ b) ++ second
joined bytes a first b second is then_is = is ∙ ap (λ rest. a ++ rest) then_is ∙ sym (append_assoc a b second)

-- ---- bytes

abbrev pub IsByte : ℕ → Type 0
IsByte b = b < 256

abbrev pub byte_record : ℕ → List ℕ
byte_record b = b ∷ []

pub byte_exact : Exact byte_at byte_record IsByte
byte_exact = record { takes = takes; again = λ b rest fits. refl }
  where
    takes : (bytes : List ℕ) (x : ℕ × List ℕ) → IsBytes bytes → byte_at bytes ≡ Some x → Takes byte_record IsByte bytes x
    takes [] x fits found = absurd cc
    takes (b ∷ bytes) x fits found = subst (λ y. Takes byte_record IsByte (b ∷ bytes) y) (same_Some (b, bytes) x found) (record { parts = refl; rest = λ i. fits (suc i); it = fits 0 })

-- ---- marks

-- the bytes of marks are read as these marks, and other bytes as none
pub record Marks {A : Type 0} (of : ℕ → Option A) (byte : A → ℕ) : Type 0 where
  pub read : (x : A) → of (byte x) ≡ Some x
  pub spelled : (b : ℕ) (x : A) → of b ≡ Some x → b ≡ byte x

abbrev pub Any : {A : Type 0} → A → Type 0
Any x = Unit {0}

pub mark_exact : {A : Type 0} (of : ℕ → Option A) (byte : A → ℕ) → Marks of byte → Exact (mark_at of) (λ x. byte x ∷ []) Any
mark_exact {A} of byte marks = record { takes = takes; again = λ x rest any. rw (marks.read x) refl }
  where
    spell : A → List ℕ
    spell x = byte x ∷ []

    takes : (bytes : List ℕ) (x : A × List ℕ) → IsBytes bytes → mark_at of bytes ≡ Some x → Takes (λ y. byte y ∷ []) Any bytes x
    takes [] x fits found = absurd cc
    takes (b ∷ bytes) x fits found =
        let first = step_found (of b) (λ y. Some (y, bytes)) x found in
        subst (λ y. Takes (λ z. byte z ∷ []) Any (b ∷ bytes) y) (same_Some (first.0, bytes) x first.2)
        (record { parts = ap (λ c. c ∷ bytes) (marks.spelled b first.0 first.1); rest = λ i. fits (suc i); it = tt })

-- ---- numbers

-- numbers of a width, below this limit
pub record IsWide (w : Width) (limit : ℕ) : Type 0 where
  pub len : (n : ℕ) → length (to_be_bytes w n) ≡ byte_len w
  pub back : (bytes : List ℕ) → length bytes ≡ byte_len w → IsBytes bytes → to_be_bytes w (from_be_bytes w bytes) ≡ bytes
  pub again : (n : ℕ) → n < limit → from_be_bytes w (to_be_bytes w n) ≡ n
  pub below : (bytes : List ℕ) → IsBytes bytes → from_be_bytes w bytes < limit

pub wide_32 : IsWide w32 (2 ^ 32)
wide_32 = record {
  len = λ n. refl;
  back = λ bytes len fits. be_bytes_4 bytes _ len fits refl;
  again = λ n low. from_be_bytes-to_be_bytes_4 n low;
  below = λ bytes fits. omega (arith, fits 0, fits 1, fits 2, fits 3);
}

pub wide_64 : IsWide w64 (2 ^ 64)
wide_64 = record {
  len = λ n. refl;
  back = λ bytes len fits. be_bytes_8 bytes _ len fits refl;
  again = λ n low. from_be_bytes-to_be_bytes_8 n low;
  below = λ bytes fits. omega (arith, fits 0, fits 1, fits 2, fits 3, fits 4, fits 5, fits 6, fits 7);
}

pub number_exact : (w : Width) (limit : ℕ) → IsWide w limit → Exact (number_at w) (to_be_bytes w) (λ n. n < limit)
unfolding number_at
number_exact w limit wide = record { takes = takes; again = again }
  where
    takes : (bytes : List ℕ) (x : ℕ × List ℕ) → IsBytes bytes → number_at w bytes ≡ Some x → Takes (to_be_bytes w) (λ n. n < limit) bytes x
    takes bytes x fits found =
        let passed = test_passed (nat_lt (length bytes) (byte_len w)) (from_be_bytes w (take (byte_len w) bytes), drop (byte_len w) bytes) x found in
        let long : byte_len w ≤ length bytes = ltb-false _ _ passed.0 in
        let front = bytes_before (byte_len w) bytes fits in
        let back : to_be_bytes w (from_be_bytes w (take (byte_len w) bytes)) ≡ take (byte_len w) bytes = wide.back (take (byte_len w) bytes) (omega (arith, long, length-take (byte_len w) bytes)) front in
        subst (λ y. Takes (to_be_bytes w) (λ n. n < limit) bytes y) passed.1
        (record {
          parts = sym (take-append-drop (byte_len w) bytes) ∙ ap (λ a. a ++ drop (byte_len w) bytes) (sym back);
          rest = bytes_behind (byte_len w) bytes fits;
          it = wide.below (take (byte_len w) bytes) front;
        })

    again : (n : ℕ) (rest : List ℕ) → n < limit → number_at w (to_be_bytes w n ++ rest) ≡ Some (n, rest)
    again n rest low =
        let len = wide.len n in
        let long : nat_lt (length (to_be_bytes w n ++ rest)) (byte_len w) ≡ false = le-ltb _ _ (omega (arith, len, length-append (to_be_bytes w n) rest)) in
        rw (long, take_at (to_be_bytes w n) rest (byte_len w) len, drop_at (to_be_bytes w n) rest (byte_len w) len, wide.again n low) refl

-- ---- texts

abbrev pub IsShort : List ℕ → Type 0
IsShort text = length text < 256

pub text_exact : Exact text_at name_record IsShort
unfolding text_at
text_exact = record { takes = takes; again = again }
  where
    takes : (bytes : List ℕ) (x : List ℕ × List ℕ) → IsBytes bytes → text_at bytes ≡ Some x → Takes name_record IsShort bytes x
    takes [] x fits found = absurd cc
    takes (n ∷ bytes) x fits found =
        let passed = test_passed (nat_lt (length bytes) n) (take n bytes, drop n bytes) x found in
        let long : n ≤ length bytes = ltb-false _ _ passed.0 in
        let len : length (take n bytes) ≡ n = omega (arith, long, length-take n bytes) in
        let small : n < 256 = fits 0 in
        subst (λ y. Takes name_record IsShort (n ∷ bytes) y) passed.1
        (record {
          parts = ap (λ rest. n ∷ rest) (sym (take-append-drop n bytes)) ∙ ap (λ k. k ∷ (take n bytes ++ drop n bytes)) (sym len);
          rest = bytes_behind n bytes (λ i. fits (suc i));
          it = omega (arith, len, small);
        })

    again : (text rest : List ℕ) → IsShort text → text_at (name_record text ++ rest) ≡ Some (text, rest)
    again text rest short =
        let long : nat_lt (length (text ++ rest)) (length text) ≡ false = le-ltb _ _ (omega (arith, length-append text rest)) in
        rw (long, take_at text rest (length text) refl, drop_at text rest (length text) refl) refl

-- a text that passes a test, and that it does
abbrev pub IsPassing : (List ℕ → Bool) → List ℕ → Type 0
IsPassing passes text = IsTrue (passes text) × IsShort text

pub passing_exact : (passes : List ℕ → Bool) → Exact (passing_at passes) name_record (IsPassing passes)
passing_exact passes = record { takes = takes; again = again }
  where
    takes : (bytes : List ℕ) (x : List ℕ × List ℕ) → IsBytes bytes → passing_at passes bytes ≡ Some x → Takes name_record (IsPassing passes) bytes x
    takes bytes x fits found =
        let text = step_found (text_at bytes) (λ t. cond (passes t.0) (Some t) None) x found in
        let passed = cond_some (passes text.0.0) text.0 x text.2 in
        let taken = text_exact.takes bytes text.0 fits text.1 in
        subst (λ y. Takes name_record (IsPassing passes) bytes y) passed.1 (record { parts = taken.parts; rest = taken.rest; it = (passed.0, taken.it) })

    again : (text rest : List ℕ) → IsPassing passes text → passing_at passes (name_record text ++ rest) ≡ Some (text, rest)
    again text rest is = rw (text_exact.again text rest is.1, is.0) refl

-- ---- lists

-- as many things as are said
abbrev pub AreSo : {A : Type 0} → (A → Type 0) → ℕ → List A → Type 0
AreSo Is n xs = AllByRecursion Is xs × (length xs ≡ n)

pub all_take : {A : Type 0} (at : List ℕ → Found A) (spell : A → List ℕ) (Is : A → Type 0) → Exact at spell Is
    → (n : ℕ) (bytes : List ℕ) (x : List A × List ℕ) → IsBytes bytes → all_at at n bytes ≡ Some x → Takes (flat_map spell) (AreSo Is n) bytes x
all_take at spell Is exact zero bytes x fits found =
    subst (λ y. Takes (flat_map spell) (AreSo Is 0) bytes y) (same_Some ([], bytes) x found) (record { parts = refl; rest = fits; it = (tt, refl) })
all_take at spell Is exact (suc n) bytes x fits found =
    let first = step_found (at bytes) (λ y. option_and_then (λ ys. Some (y.0 ∷ ys.0, ys.1)) (all_at at n y.1)) x found in
    let others = step_found (all_at at n first.0.1) (λ ys. Some (first.0.0 ∷ ys.0, ys.1)) x first.2 in
    let one = exact.takes bytes first.0 fits first.1 in
    let more = all_take at spell Is exact n first.0.1 others.0 one.rest others.1 in
    let both = joined bytes (spell first.0.0) first.0.1 (flat_map spell others.0.0) others.0.1 one.parts more.parts in
    subst (λ y. Takes (flat_map spell) (AreSo Is (suc n)) bytes y) (same_Some (first.0.0 ∷ others.0.0, others.0.1) x others.2)
    (record { parts = both ∙ ap (λ a. a ++ others.0.1) (sym (flat_map-cons spell first.0.0 others.0.0)); rest = more.rest; it = ((one.it, more.it.0), ap suc more.it.1) })

pub all_again : {A : Type 0} (at : List ℕ → Found A) (spell : A → List ℕ) (Is : A → Type 0) → Exact at spell Is
    → (xs : List A) (rest : List ℕ) → AllByRecursion Is xs → all_at at (length xs) (flat_map spell xs ++ rest) ≡ Some (xs, rest)
all_again at spell Is exact [] rest all = refl
all_again at spell Is exact (x ∷ xs) rest all =
    let regrouped : flat_map spell (x ∷ xs) ++ rest ≡ spell x ++ (flat_map spell xs ++ rest) = ap (λ a. a ++ rest) (flat_map-cons spell x xs) ∙ append_assoc (spell x) (flat_map spell xs) rest in
    ap (all_at at (suc (length xs))) regrouped ∙ rw (exact.again x (flat_map spell xs ++ rest) all.0, all_again at spell Is exact xs rest all.1) refl

-- few enough for one byte to tell how many
abbrev pub AreFew : {A : Type 0} → (A → Type 0) → List A → Type 0
AreFew Is xs = AllByRecursion Is xs × (length xs < 256)

pub list_exact : {A : Type 0} (at : List ℕ → Found A) (spell : A → List ℕ) (Is : A → Type 0) → Exact at spell Is → Exact (list_at at) (list_record spell) (AreFew Is)
unfolding list_at
list_exact {A} at spell Is exact = record { takes = takes; again = λ xs rest few. all_again at spell Is exact xs rest few.0 }
  where
    takes : (bytes : List ℕ) (x : List A × List ℕ) → IsBytes bytes → list_at at bytes ≡ Some x → Takes (list_record spell) (AreFew Is) bytes x
    takes [] x fits found = absurd cc
    takes (n ∷ bytes) x fits found =
        let taken = all_take at spell Is exact n bytes x (λ i. fits (suc i)) found in
        let small : n < 256 = fits 0 in
        record {
          parts = ap (λ rest. n ∷ rest) taken.parts ∙ ap (λ k. k ∷ (flat_map spell x.0 ++ x.1)) (sym taken.it.1);
          rest = taken.rest;
          it = (taken.it.0, omega (arith, taken.it.1, small));
        }

-- ---- wholes

-- nothing is behind what was found
pub end_found : {A : Type 0} (found : Found A) (x : A) → ended found ≡ Some x → found ≡ Some (x, [])
end_found None x is = absurd cc
end_found (Some y) x is =
    let end = cond_some (length y.1 == 0) y.0 x is in
    ap (λ rest. Some (y.0, rest)) (nil_from_length y.1 (eqb-true _ _ end.0)) ∙ ap (λ z. Some (z, [])) end.1
