-- Pages of sheets, and pages of none.
use Rattle.std.proofs.Common.{◌≡◌, refl, sym, ◌∙◌, ap, subst, ℕ, zero, suc, ◌+◌, ◌-◌, ◌*◌, ◌^◌, ◌<◌, ◌≤◌, true, false, ◌==◌, List, [], ◌∷◌, ◌++◌, length, get_or, take, sum_by, All, Some, None, Err, append_assoc, arith}
use Rattle.std.specs.Prelude.{replicate}
use Rattle.std.specs.List.{flat_map, list_all, AllByRecursion}
use Rattle.std.specs.Int.{w16, w32, w64, to_be_bytes}
use Rattle.std.proofs.lemmas.Bool.{and_parts, eqb-true, lt-ltb}
use Rattle.std.proofs.lemmas.List.{length-append, length-replicate, take_all, take_more, flat_map_more}
use Rattle.std.proofs.lemmas.List.Concat.{flat_map-cons}
use Rattle.std.proofs.lemmas.List.Elements.{All-from_recursion, recursion_from_All}
use Rattle.std.proofs.lemmas.List.Sums.{sum_by-cons}
use Rattle.pk_rows.specs.declared.place.Place.{Place}
use Rattle.pk_rows.specs.declared.stored.Stored.{Stored}
use Rattle.pk_sheet.specs.declared.sheet_err.SheetErr.{SheetErr}
use Rattle.pk_sheet.specs.declared.sheet_err.SheetErr.TheVariants.{Bad, Memory}
use Rattle.pk_sheet.specs.Errors.{Gets}
use Rattle.pk_sheet.specs.Laws.{OneSheet, SheetsHavePages, HoldsNone, AreSpellable, PagesOfNone}
use Rattle.pk_sheet.specs.Pages.{record_bytes, records_bytes, page_bytes, SheetHolds}
use Rattle.pk_sheet.specs.Reading.{Found, Misses, number_at, text_at, stored_at, all_at, records_at}
use Rattle.pk_sheet.specs.Sheets.{IsPlace, IsSheet, PlacesAscend, size_of, room_of}
use Rattle.pk_sheet.proofs.PartReading.{IsBytes, step_found, joined, exact_16, exact_32, exact_64, IsSpellable, stored_exact, all_take, all_again}

-- ---- records behind their number

records_take : (bytes : List ℕ) (xs : List Stored) (rest : List ℕ) → IsBytes bytes → records_at bytes ≡ Some (xs, rest) → (bytes ≡ records_bytes xs ++ rest) × AllByRecursion IsSpellable xs
unfolding records_at
records_take bytes xs rest fits found =
    let n = step_found (number_at w16 bytes) (λ m. all_at m.0 m.1) (xs, rest) found in
    let first = exact_16.takes bytes n.0 fits n.1 in
    let more = all_take n.0.0 n.0.1 (xs, rest) first.rest n.2 in (
      joined bytes (to_be_bytes w16 (length xs)) n.0.1 (flat_map record_bytes xs) rest (first.parts ∙ ap (λ k. to_be_bytes w16 k ++ n.0.1) (sym more.it.1)) more.parts,
      more.it.0,
    )

records_again : (xs : List Stored) (rest : List ℕ) → AllByRecursion IsSpellable xs → length xs < 2 ^ 16 → records_at (records_bytes xs ++ rest) ≡ Some (xs, rest)
unfolding records_at
records_again xs rest all few =
    let number : number_at w16 (records_bytes xs ++ rest) ≡ Some (length xs, flat_map record_bytes xs ++ rest) =
    ap (number_at w16) (append_assoc (to_be_bytes w16 (length xs)) (flat_map record_bytes xs) rest) ∙ exact_16.again (length xs) (flat_map record_bytes xs ++ rest) few in
    rw number (all_again xs rest all)

-- ---- sizes

record_size : (s : Stored) → length (record_bytes s) ≡ size_of s
record_size s =
    let table = length-append (to_be_bytes w32 s.place.table) (to_be_bytes w64 s.place.id ++ (to_be_bytes w16 (length s.bytes) ++ s.bytes)) in
    let id = length-append (to_be_bytes w64 s.place.id) (to_be_bytes w16 (length s.bytes) ++ s.bytes) in
    let len = length-append (to_be_bytes w16 (length s.bytes)) s.bytes in
    let four : length (to_be_bytes w32 s.place.table) ≡ 4 = refl in
    let eight : length (to_be_bytes w64 s.place.id) ≡ 8 = refl in
    let two : length (to_be_bytes w16 (length s.bytes)) ≡ 2 = refl in
    omega arith

records_size : (xs : List Stored) → length (flat_map record_bytes xs) ≡ sum_by size_of xs
records_size [] = refl
records_size (x ∷ xs) =
    let whole = ap length (flat_map-cons record_bytes x xs) in
    let parts = length-append (record_bytes x) (flat_map record_bytes xs) in
    let one = record_size x in
    let more = records_size xs in
    let sum = sum_by-cons size_of x xs in
    omega arith

pub spelled_size : (xs : List Stored) → length (records_bytes xs) ≡ 2 + sum_by size_of xs
spelled_size xs =
    let parts = length-append (to_be_bytes w16 (length xs)) (flat_map record_bytes xs) in
    let two : length (to_be_bytes w16 (length xs)) ≡ 2 = refl in
    let more = records_size xs in
    omega arith

-- each record takes 14 bytes at least
pub least_size : (xs : List Stored) → 14 * length xs ≤ sum_by size_of xs
least_size [] = omega arith
least_size (x ∷ xs) =
    let more = least_size xs in
    let sum = sum_by-cons size_of x xs in
    omega arith

-- records that fit on a page have few enough bytes
spellable : (most : ℕ) (xs : List Stored) → most < 2 ^ 16 → sum_by size_of xs ≤ most → AllByRecursion (λ (s : Stored). IsPlace s.place) xs → AllByRecursion IsSpellable xs
spellable most [] low fits all = tt
spellable most (x ∷ xs) low fits all =
    let sum = sum_by-cons size_of x xs in
    (record { place = all.0; short = omega arith }, spellable most xs low (omega arith) all.1)

pub sheet_spellable : (xs : List Stored) → IsSheet xs → AllByRecursion IsSpellable xs
sheet_spellable xs is = spellable 4094 xs (omega arith) is.fits (recursion_from_All (λ (s : Stored). IsPlace s.place) xs is.places)

pub few_records : (xs : List Stored) → IsSheet xs → length xs ≤ 292
few_records xs is = let least = least_size xs in let fits = is.fits in omega (arith, least, fits)

-- ---- zeros

zeros_are : (bytes : List ℕ) → list_all (λ b. b == 0) bytes ≡ true → bytes ≡ replicate (length bytes) 0
zeros_are [] all = refl
zeros_are (b ∷ bytes) all =
    let parts = and_parts (b == 0) (list_all (λ c. c == 0) bytes) all in
    ap (λ c. c ∷ bytes) (eqb-true b 0 parts.0) ∙ ap (λ rest. 0 ∷ rest) (zeros_are bytes parts.1)

all_zeros : (n : ℕ) → list_all (λ b. b == 0) (replicate n 0) ≡ true
all_zeros zero = refl
all_zeros (suc n) = all_zeros n

zero_at : (n i : ℕ) → get_or (replicate {A = ℕ} n 0) i 0 ≡ 0
zero_at zero i = refl
zero_at (suc n) zero = refl
zero_at (suc n) (suc i) = zero_at n i

-- ---- pages

-- what a page of a sheet is read as
held : (page : List ℕ) (xs : List Stored) → SheetHolds page xs → records_at page ≡ Some (xs, replicate (room_of xs) 0)
held page xs is =
    let few = few_records xs is.sheet in
    ap records_at is.spelled ∙ records_again xs (replicate (room_of xs) 0) (sheet_spellable xs is.sheet) (omega (arith, few))

abbrev records_in : Found (List Stored) → List Stored
records_in None = []
records_in (Some x) = x.0

abbrev bytes_in : Found (List Stored) → List ℕ
bytes_in None = []
bytes_in (Some x) = x.1

abbrev number_in : Found ℕ → ℕ
number_in None = 0
number_in (Some x) = x.0

-- so a page that is read as other records, or with other bytes behind them, isn't its page
one_reading : (page rest : List ℕ) (xs ys : List Stored) → records_at page ≡ Some (xs, rest) → SheetHolds page ys → (ys ≡ xs) × (rest ≡ replicate (room_of ys) 0)
one_reading page rest xs ys found is =
    let same = sym (held page ys is) ∙ found in
    (ap records_in same, sym (ap bytes_in same))

pub whole_page : (page rest : List ℕ) (xs : List Stored) → length page ≡ 4096 → IsBytes page → records_at page ≡ Some (xs, rest) → PlacesAscend xs
    → list_all (λ b. b == 0) rest ≡ true → SheetHolds page xs × (length rest ≡ room_of xs)
whole_page page rest xs long fits found ascend zeros =
    let w = records_take page xs rest fits found in
    let size = spelled_size xs in
    let parts = length-append (records_bytes xs) rest in
    let same = ap length w.0 in
    let left : length rest ≡ room_of xs = omega (arith, long, size, parts, same) in (
      record {
        sheet = record {
          ascend = ascend;
          places = All-from_recursion (λ (s : Stored). IsPlace s.place) xs (placed xs w.1);
          fits = omega (arith, long, size, parts, same);
        };
        spelled = w.0 ∙ ap (λ a. records_bytes xs ++ a) (zeros_are rest zeros ∙ ap (λ n. replicate n 0) left);
      },
      left,
    )
  where
    placed : (ys : List Stored) → AllByRecursion IsSpellable ys → AllByRecursion (λ (s : Stored). IsPlace s.place) ys
    placed [] all = tt
    placed (y ∷ ys) all = (all.0.place, placed ys all.1)

pub unread : (page : List ℕ) (e : SheetErr) → Misses e (records_at page) → Gets (SheetHolds page) (Err e)
unread page Bad none = λ xs is. let some = held page xs is in cc
unread page Memory none = tt

pub unordered : (page rest : List ℕ) (xs : List Stored) → records_at page ≡ Some (xs, rest) → (PlacesAscend xs → ⊥) → HoldsNone page
unordered page rest xs found not_so ys is = not_so (subst PlacesAscend (one_reading page rest xs ys found is).0 is.sheet.ascend)

pub not_zeros : (page rest : List ℕ) (xs : List Stored) → records_at page ≡ Some (xs, rest) → list_all (λ b. b == 0) rest ≡ false → HoldsNone page
not_zeros page rest xs found not_so ys is =
    let zeros : list_all (λ b. b == 0) rest ≡ true = ap (list_all (λ b. b == 0)) (one_reading page rest xs ys found is).1 ∙ all_zeros (room_of ys) in
    cc

-- ---- laws

pub one_sheet : OneSheet
one_sheet page a b a_is b_is = (one_reading page (replicate (room_of b) 0) b a (held page b b_is) a_is).0

pub page_size : (xs : List Stored) → IsSheet xs → length (page_bytes xs) ≡ 4096
page_size xs is =
    let parts = length-append (records_bytes xs) (replicate (room_of xs) 0) in
    let size = spelled_size xs in
    let zeros : length (replicate {A = ℕ} (room_of xs) 0) ≡ room_of xs = length-replicate {A = ℕ} (room_of xs) 0 in
    let fits = is.fits in
    omega (arith, parts, size, zeros, fits)

pub have_pages : SheetsHavePages
have_pages xs is = (record { sheet = is; spelled = refl }, page_size xs is)

all_spellable : (xs : List Stored) → AreSpellable xs → AllByRecursion IsSpellable xs
all_spellable xs are = both xs (recursion_from_All (λ (s : Stored). IsPlace s.place) xs are.places) (recursion_from_All (λ (s : Stored). length s.bytes < 2 ^ 16) xs are.short)
  where
    both : (ys : List Stored) → AllByRecursion (λ (s : Stored). IsPlace s.place) ys → AllByRecursion (λ (s : Stored). length s.bytes < 2 ^ 16) ys → AllByRecursion IsSpellable ys
    both [] places short = tt
    both (y ∷ ys) places short = (record { place = places.0; short = short.0 }, both ys places.1 short.1)

-- a record of more bytes than there are
long_missed : (p : Place) (len : ℕ) (rest : List ℕ) → IsPlace p → length rest < len → len < 2 ^ 16
    → stored_at (to_be_bytes w32 p.table ++ (to_be_bytes w64 p.id ++ (to_be_bytes w16 len ++ rest))) ≡ None
unfolding stored_at text_at
long_missed p len rest is short low =
    rw (exact_32.again p.table (to_be_bytes w64 p.id ++ (to_be_bytes w16 len ++ rest)) is.table, exact_64.again p.id (to_be_bytes w16 len ++ rest) is.id, exact_16.again len rest low, lt-ltb (length rest) len short)
    refl

all_missed : (n : ℕ) (xs : List Stored) (tail : List ℕ) → AllByRecursion IsSpellable xs → length xs < n → stored_at tail ≡ None → all_at n (flat_map record_bytes xs ++ tail) ≡ None
all_missed zero xs tail all low none = absurd (omega (arith, low))
all_missed (suc n) [] tail all low none = rw none refl
all_missed (suc n) (x ∷ xs) tail all low none =
    let regrouped : flat_map record_bytes (x ∷ xs) ++ tail ≡ record_bytes x ++ (flat_map record_bytes xs ++ tail) =
    ap (λ a. a ++ tail) (flat_map-cons record_bytes x xs) ∙ append_assoc (record_bytes x) (flat_map record_bytes xs) tail in
    ap (all_at (suc n)) regrouped ∙ rw (stored_exact.again x (flat_map record_bytes xs ++ tail) all.0, all_missed n xs tail all.1 (omega (arith, low)) none) refl

counted_missed : (count : ℕ) (bytes : List ℕ) → count < 2 ^ 16 → all_at count bytes ≡ None → records_at (to_be_bytes w16 count ++ bytes) ≡ None
unfolding records_at
counted_missed count bytes low none = rw (exact_16.again count bytes low) none

-- the number in front of a page of a sheet
counted : (count : ℕ) (rest : List ℕ) (xs : List Stored) → count < 2 ^ 16 → SheetHolds (to_be_bytes w16 count ++ rest) xs → count ≡ length xs
counted count rest xs low is =
    let few = few_records xs is.sheet in
    let zeros : List ℕ = replicate (room_of xs) 0 in
    let shown : number_at w16 (page_bytes xs) ≡ Some (length xs, flat_map record_bytes xs ++ zeros) =
    ap (number_at w16) (append_assoc (to_be_bytes w16 (length xs)) (flat_map record_bytes xs) zeros) ∙ exact_16.again (length xs) (flat_map record_bytes xs ++ zeros) (omega (arith, few)) in
    ap number_in (sym (exact_16.again count rest low) ∙ ap (number_at w16) is.spelled ∙ shown)

pub pages_of_none : PagesOfNone
pages_of_none = record {
  many = λ count rest many low xs is. let same = counted count rest xs low is in let few = few_records xs is.sheet in omega (arith, many, same, few);
  long = λ count stored p len rest some low are is_place short fits xs is.
      let none = counted_missed count _ low (all_missed count stored _ (all_spellable stored are) some (long_missed p len rest is_place short fits)) in
      let found = held _ xs is in
      cc;
  unordered = λ stored rest are not_so. unordered _ rest stored (records_again stored rest (all_spellable stored are) are.few) not_so;
  behind = λ stored rest i are not_so xs is.
      let zeros = (one_reading _ rest stored xs (records_again stored rest (all_spellable stored are) are.few) is).1 in
      not_so (ap (λ bytes. get_or bytes i 0) zeros ∙ zero_at (room_of xs) i);
}

-- ---- writing

-- a list that is filled up with zeros
pub page_written : (xs : List Stored) (items : List ℕ) (len : ℕ) → IsSheet xs → items ≡ records_bytes xs → len ≡ length items → take 4096 items ++ replicate (4096 - len) 0 ≡ page_bytes xs
page_written xs items len is same counted =
    let size = spelled_size xs in
    let fits = is.fits in
    let long : len ≡ length (records_bytes xs) = counted ∙ ap length same in
    let left : 4096 - len ≡ room_of xs = omega (arith, long, size, fits) in
    rw same
    (ap (λ a. a ++ replicate (4096 - len) 0) (take_all 4096 (records_bytes xs) (omega (arith, size, fits))) ∙ ap (λ n. records_bytes xs ++ replicate n 0) left)

-- each record of a sheet has few enough bytes
pub sheet_short : (xs : List Stored) → IsSheet xs → All (λ (s : Stored). length s.bytes < 2 ^ 16) xs
sheet_short xs is = All-from_recursion (λ (s : Stored). length s.bytes < 2 ^ 16) xs (each xs (sheet_spellable xs is))
  where
    each : (ys : List Stored) → AllByRecursion IsSpellable ys → AllByRecursion (λ (s : Stored). length s.bytes < 2 ^ 16) ys
    each [] all = tt
    each (y ∷ ys) all = (all.0.short, each ys all.1)

-- a record behind others
pub record_written : (old a b c d t i l bytes : List ℕ) → a ≡ old ++ t → b ≡ a ++ i → c ≡ b ++ l → d ≡ c ++ bytes → d ≡ old ++ (t ++ (i ++ (l ++ bytes)))
record_written old a b c d t i l bytes one two three four =
    four ∙ ap (λ x. x ++ bytes) (three ∙ ap (λ x. x ++ l) (two ∙ ap (λ x. x ++ i) one))
    ∙ append_assoc ((old ++ t) ++ i) l bytes ∙ append_assoc (old ++ t) i (l ++ bytes) ∙ append_assoc old t (i ++ (l ++ bytes))

-- one record more
pub records_more : (stored : List Stored) (n : ℕ) (x : Stored) (old out new : List ℕ) → n < length stored → x ≡ get_or stored n x → out ≡ old ++ flat_map record_bytes (take n stored)
    → new ≡ out ++ record_bytes x → new ≡ old ++ flat_map record_bytes (take (n + 1) stored)
records_more stored n x old out new low here so_far more =
    more ∙ ap (λ a. a ++ record_bytes x) so_far ∙ flat_map_more record_bytes old (take n stored) x
    ∙ ap (λ xs. old ++ flat_map record_bytes xs) (ap (λ y. take n stored ++ y ∷ []) here ∙ sym (take_more stored n x low))
