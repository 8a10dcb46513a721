-- Parts that are read from the front: what is read is spelled so, and what is spelled so is read, whatever follows.
use Rattle.std.proofs.Common.{◌≡◌, refl, sym, ◌∙◌, ap, subst, ℕ, zero, suc, ◌+◌, ◌^◌, ◌<◌, ◌≤◌, Bool, true, false, cond, nat_lt, List, [], ◌∷◌, ◌++◌, length, get_or, take, drop, Option, Some, None, append_assoc, arith, inl, inr}
use Rattle.std.specs.List.{flat_map, AllByRecursion}
use Rattle.std.specs.Int.{Width, w16, w32, w64, byte_len, from_be_bytes, to_be_bytes}
use Rattle.std.specs.Option.{option_and_then}
use Rattle.std.proofs.lemmas.Bool.{cases_lt, ltb-false, le-ltb}
use Rattle.std.proofs.lemmas.List.{take_at, drop_at, take-append-drop, length-append, length-take, get_or-drop, get_or-take, get_or_past}
use Rattle.std.proofs.lemmas.List.Concat.{flat_map-cons}
use Rattle.std.proofs.lemmas.Nat.{be_bytes_2, be_bytes_4, be_bytes_8, from_be_bytes-to_be_bytes_2, from_be_bytes-to_be_bytes_4, from_be_bytes-to_be_bytes_8}
use Rattle.std.proofs.lemmas.Option.{same_Some}
use Rattle.pk_rows.specs.declared.stored.Stored.{Stored}
use Rattle.pk_sheet.specs.Sheets.{IsPlace}
use Rattle.pk_sheet.specs.Pages.{record_bytes}
use Rattle.pk_sheet.specs.Reading.{Found, number_at, text_at, stored_at, all_at}

-- ---- bytes

abbrev pub IsBytes : List ℕ → Type 0
IsBytes bytes = (i : ℕ) → get_or bytes i 0 < 256

bytes_behind : (n : ℕ) (bytes : List ℕ) → IsBytes bytes → IsBytes (drop n bytes)
bytes_behind n bytes fits i = rw get_or-drop (fits (n + i))

bytes_before : (n : ℕ) (bytes : List ℕ) → IsBytes bytes → IsBytes (take n bytes)
bytes_before n bytes fits i =
    elim (cases_lt i n) [
      | inl low ↦ rw (get_or-take n bytes i 0 low) (fits i)
      | inr high ↦ rw (get_or_past (take n bytes) i 0 (omega (arith, high, length-take n bytes))) (omega arith)
    ]

-- ---- steps

-- a step that found something
pub step_found : {A B : Type 0} (o : Option A) (f : A → Option B) (y : B) → option_and_then f o ≡ Some y → (x : A) × (o ≡ Some x) × (f x ≡ Some y)
step_found (Some x) f y found = (x, refl, found)
step_found None f y found = absurd cc

-- a test that something passed
test_passed : {A : Type 0} (b : Bool) (x y : A) → cond b None (Some x) ≡ Some y → (b ≡ false) × (x ≡ y)
test_passed true x y passed = absurd cc
test_passed false x y passed = (refl, cc)

-- ---- readers

-- what was taken from the front: bytes that spell it, and it is such a thing
pub record Takes {A : Type 0} (spell : A → List ℕ) (Is : A → Type 0) (bytes : List ℕ) (x : A × List ℕ) : Type 0 where
  pub parts : bytes ≡ spell x.0 ++ x.1
  pub rest : IsBytes x.1
  pub it : Is x.0

-- a reader reads just what is spelled so
pub record Exact {A : Type 0} (at : List ℕ → Found A) (spell : A → List ℕ) (Is : A → Type 0) : Type 0 where
  pub takes : (bytes : List ℕ) (x : A × List ℕ) → IsBytes bytes → at bytes ≡ Some x → Takes spell Is bytes x
  pub again : (x : A) (rest : List ℕ) → Is x → at (spell x ++ rest) ≡ Some (x, rest)

-- two parts, one behind the other
pub joined : (bytes a first b second : List ℕ) → bytes ≡ a ++ first → first ≡ b ++ second → bytes ≡ (a ++ b) ++ second
joined bytes a first b second is then_is = is ∙ ap (λ rest. a ++ rest) then_is ∙ sym (append_assoc a b second)

-- ---- numbers

-- numbers of a width, below this limit
pub record IsWide (w : Width) (limit : ℕ) : Type 0 where
  pub len : (n : ℕ) → length (to_be_bytes w n) ≡ byte_len w
  pub back : (bytes : List ℕ) → length bytes ≡ byte_len w → IsBytes bytes → to_be_bytes w (from_be_bytes w bytes) ≡ bytes
  pub again : (n : ℕ) → n < limit → from_be_bytes w (to_be_bytes w n) ≡ n
  pub below : (bytes : List ℕ) → IsBytes bytes → from_be_bytes w bytes < limit

wide_16 : IsWide w16 (2 ^ 16)
wide_16 = record {
  len = λ n. refl;
  back = λ bytes len fits. be_bytes_2 bytes _ len fits refl;
  again = λ n low. from_be_bytes-to_be_bytes_2 n low;
  below = λ bytes fits. omega (arith, fits 0, fits 1);
}

wide_32 : IsWide w32 (2 ^ 32)
wide_32 = record {
  len = λ n. refl;
  back = λ bytes len fits. be_bytes_4 bytes _ len fits refl;
  again = λ n low. from_be_bytes-to_be_bytes_4 n low;
  below = λ bytes fits. omega (arith, fits 0, fits 1, fits 2, fits 3);
}

wide_64 : IsWide w64 (2 ^ 64)
wide_64 = record {
  len = λ n. refl;
  back = λ bytes len fits. be_bytes_8 bytes _ len fits refl;
  again = λ n low. from_be_bytes-to_be_bytes_8 n low;
  below = λ bytes fits. omega (arith, fits 0, fits 1, fits 2, fits 3, fits 4, fits 5, fits 6, fits 7);
}

number_exact : (w : Width) (limit : ℕ) → IsWide w limit → Exact (number_at w) (to_be_bytes w) (λ n. n < limit)
unfolding number_at
number_exact w limit wide = record { takes = takes; again = again }
  where
    takes : (bytes : List ℕ) (x : ℕ × List ℕ) → IsBytes bytes → number_at w bytes ≡ Some x → Takes (to_be_bytes w) (λ n. n < limit) bytes x
    takes bytes x fits found =
        let passed = test_passed (nat_lt (length bytes) (byte_len w)) (from_be_bytes w (take (byte_len w) bytes), drop (byte_len w) bytes) x found in
        let long : byte_len w ≤ length bytes = ltb-false _ _ passed.0 in
        let front = bytes_before (byte_len w) bytes fits in
        let back : to_be_bytes w (from_be_bytes w (take (byte_len w) bytes)) ≡ take (byte_len w) bytes = wide.back (take (byte_len w) bytes) (omega (arith, long, length-take (byte_len w) bytes)) front in
        subst (λ y. Takes (to_be_bytes w) (λ n. n < limit) bytes y) passed.1
        (record {
          parts = sym (take-append-drop (byte_len w) bytes) ∙ ap (λ a. a ++ drop (byte_len w) bytes) (sym back);
          rest = bytes_behind (byte_len w) bytes fits;
          it = wide.below (take (byte_len w) bytes) front;
        })

    again : (n : ℕ) (rest : List ℕ) → n < limit → number_at w (to_be_bytes w n ++ rest) ≡ Some (n, rest)
    again n rest low =
        let len = wide.len n in
        let long : nat_lt (length (to_be_bytes w n ++ rest)) (byte_len w) ≡ false = le-ltb _ _ (omega (arith, len, length-append (to_be_bytes w n) rest)) in
        rw (long, take_at (to_be_bytes w n) rest (byte_len w) len, drop_at (to_be_bytes w n) rest (byte_len w) len, wide.again n low) refl

pub exact_16 : Exact (number_at w16) (to_be_bytes w16) (λ n. n < 2 ^ 16)
exact_16 = number_exact w16 (2 ^ 16) wide_16

pub exact_32 : Exact (number_at w32) (to_be_bytes w32) (λ n. n < 2 ^ 32)
exact_32 = number_exact w32 (2 ^ 32) wide_32

pub exact_64 : Exact (number_at w64) (to_be_bytes w64) (λ n. n < 2 ^ 64)
exact_64 = number_exact w64 (2 ^ 64) wide_64

-- ---- bytes behind their number

abbrev pub text_bytes : List ℕ → List ℕ
text_bytes text = to_be_bytes w16 (length text) ++ text

abbrev pub IsShort : List ℕ → Type 0
IsShort text = length text < 2 ^ 16

text_exact : Exact text_at text_bytes IsShort
unfolding text_at
text_exact = record { takes = takes; again = again }
  where
    takes : (bytes : List ℕ) (x : List ℕ × List ℕ) → IsBytes bytes → text_at bytes ≡ Some x → Takes text_bytes IsShort bytes x
    takes bytes x fits found =
        let n = step_found (number_at w16 bytes) (λ m. cond (nat_lt (length m.1) m.0) None (Some (take m.0 m.1, drop m.0 m.1))) x found in
        let first = exact_16.takes bytes n.0 fits n.1 in
        let passed = test_passed (nat_lt (length n.0.1) n.0.0) (take n.0.0 n.0.1, drop n.0.0 n.0.1) x n.2 in
        let long : n.0.0 ≤ length n.0.1 = ltb-false _ _ passed.0 in
        let len : length (take n.0.0 n.0.1) ≡ n.0.0 = omega (arith, long, length-take n.0.0 n.0.1) in
        let small = first.it in
        subst (λ y. Takes text_bytes IsShort bytes y) passed.1
        (record {
          parts = joined bytes (to_be_bytes w16 (length (take n.0.0 n.0.1))) n.0.1 (take n.0.0 n.0.1) (drop n.0.0 n.0.1)
              (first.parts ∙ ap (λ k. to_be_bytes w16 k ++ n.0.1) (sym len)) (sym (take-append-drop n.0.0 n.0.1));
          rest = bytes_behind n.0.0 n.0.1 first.rest;
          it = omega (arith, len, small);
        })

    again : (text rest : List ℕ) → IsShort text → text_at (text_bytes text ++ rest) ≡ Some (text, rest)
    again text rest short =
        let long : nat_lt (length (text ++ rest)) (length text) ≡ false = le-ltb _ _ (omega (arith, length-append text rest)) in
        let number : number_at w16 (text_bytes text ++ rest) ≡ Some (length text, text ++ rest) =
        ap (number_at w16) (append_assoc (to_be_bytes w16 (length text)) text rest) ∙ exact_16.again (length text) (text ++ rest) short in
        rw (number, long, take_at text rest (length text) refl, drop_at text rest (length text) refl) refl

-- ---- records

-- a record whose numbers have room in the bytes for them
pub record IsSpellable (s : Stored) : Type 0 where
  pub place : IsPlace s.place
  pub short : IsShort s.bytes

pub stored_exact : Exact stored_at record_bytes IsSpellable
unfolding stored_at
stored_exact = record { takes = takes; again = again }
  where
    made : ℕ → ℕ → List ℕ → Stored
    made table id text = record { place = record { table = table; id = id }; bytes = text }

    takes : (bytes : List ℕ) (x : Stored × List ℕ) → IsBytes bytes → stored_at bytes ≡ Some x → Takes record_bytes IsSpellable bytes x
    takes bytes x fits found =
        let table = step_found (number_at w32 bytes) (λ t. option_and_then (λ i. option_and_then (λ b. Some (made t.0 i.0 b.0, b.1)) (text_at i.1)) (number_at w64 t.1)) x found in
        let id = step_found (number_at w64 table.0.1) (λ i. option_and_then (λ b. Some (made table.0.0 i.0 b.0, b.1)) (text_at i.1)) x table.2 in
        let text = step_found (text_at id.0.1) (λ b. Some (made table.0.0 id.0.0 b.0, b.1)) x id.2 in
        let one = exact_32.takes bytes table.0 fits table.1 in
        let two = exact_64.takes table.0.1 id.0 one.rest id.1 in
        let three = text_exact.takes id.0.1 text.0 two.rest text.1 in
        let last = joined table.0.1 (to_be_bytes w64 id.0.0) id.0.1 (text_bytes text.0.0) text.0.1 two.parts three.parts in
        subst (λ y. Takes record_bytes IsSpellable bytes y) (same_Some (made table.0.0 id.0.0 text.0.0, text.0.1) x text.2)
        (record {
          parts = joined bytes (to_be_bytes w32 table.0.0) table.0.1 (to_be_bytes w64 id.0.0 ++ text_bytes text.0.0) text.0.1 one.parts last;
          rest = three.rest;
          it = record { place = record { table = one.it; id = two.it }; short = three.it };
        })

    again : (s : Stored) (rest : List ℕ) → IsSpellable s → stored_at (record_bytes s ++ rest) ≡ Some (s, rest)
    again s rest is =
        let table : number_at w32 (record_bytes s ++ rest) ≡ Some (s.place.table, (to_be_bytes w64 s.place.id ++ text_bytes s.bytes) ++ rest) =
        ap (number_at w32) (append_assoc (to_be_bytes w32 s.place.table) (to_be_bytes w64 s.place.id ++ text_bytes s.bytes) rest)
        ∙ exact_32.again s.place.table ((to_be_bytes w64 s.place.id ++ text_bytes s.bytes) ++ rest) is.place.table in
        let id : number_at w64 ((to_be_bytes w64 s.place.id ++ text_bytes s.bytes) ++ rest) ≡ Some (s.place.id, text_bytes s.bytes ++ rest) =
        ap (number_at w64) (append_assoc (to_be_bytes w64 s.place.id) (text_bytes s.bytes) rest) ∙ exact_64.again s.place.id (text_bytes s.bytes ++ rest) is.place.id in
        rw (table, id, text_exact.again s.bytes rest is.short) refl

-- ---- lists of records

abbrev pub AreRecords : ℕ → List Stored → Type 0
AreRecords n xs = AllByRecursion IsSpellable xs × (length xs ≡ n)

pub all_take : (n : ℕ) (bytes : List ℕ) (x : List Stored × List ℕ) → IsBytes bytes → all_at n bytes ≡ Some x → Takes (flat_map record_bytes) (AreRecords n) bytes x
all_take zero bytes x fits found =
    subst (λ y. Takes (flat_map record_bytes) (AreRecords 0) bytes y) (same_Some ([], bytes) x found) (record { parts = refl; rest = fits; it = (tt, refl) })
all_take (suc n) bytes x fits found =
    let first = step_found (stored_at bytes) (λ y. option_and_then (λ ys. Some (y.0 ∷ ys.0, ys.1)) (all_at n y.1)) x found in
    let others = step_found (all_at n first.0.1) (λ ys. Some (first.0.0 ∷ ys.0, ys.1)) x first.2 in
    let one = stored_exact.takes bytes first.0 fits first.1 in
    let more = all_take n first.0.1 others.0 one.rest others.1 in
    let both = joined bytes (record_bytes first.0.0) first.0.1 (flat_map record_bytes others.0.0) others.0.1 one.parts more.parts in
    subst (λ y. Takes (flat_map record_bytes) (AreRecords (suc n)) bytes y) (same_Some (first.0.0 ∷ others.0.0, others.0.1) x others.2)
    (record { parts = both ∙ ap (λ a. a ++ others.0.1) (sym (flat_map-cons record_bytes first.0.0 others.0.0)); rest = more.rest; it = ((one.it, more.it.0), ap suc more.it.1) })

pub all_again : (xs : List Stored) (rest : List ℕ) → AllByRecursion IsSpellable xs → all_at (length xs) (flat_map record_bytes xs ++ rest) ≡ Some (xs, rest)
all_again [] rest all = refl
all_again (x ∷ xs) rest all =
    let regrouped : flat_map record_bytes (x ∷ xs) ++ rest ≡ record_bytes x ++ (flat_map record_bytes xs ++ rest) =
    ap (λ a. a ++ rest) (flat_map-cons record_bytes x xs) ∙ append_assoc (record_bytes x) (flat_map record_bytes xs) rest in
    ap (all_at (suc (length xs))) regrouped ∙ rw (stored_exact.again x (flat_map record_bytes xs ++ rest) all.0, all_again xs rest all.1) refl
