-- The records of rows are read both ways.
use Rattle.std.proofs.Common.{◌≡◌, refl, sym, ◌∙◌, ap, subst, ℕ, zero, suc, ◌+◌, ◌<◌, ◌^◌, ℤ, pos, negsuc, List, [], ◌∷◌, ◌++◌, length, take, get_or, append_assoc, Some, None, Err, arith, to_z-of_z}
use Rattle.std.specs.Prelude.{FitsSigned}
use Rattle.std.specs.List.{AllByRecursion}
use Rattle.std.specs.Int.{w64, cast_unsigned, cast_signed, to_be_bytes}
use Rattle.std.proofs.Math.Facts.{sfits_to_z}
use Rattle.std.proofs.lemmas.Int.{of_z-to_z}
use Rattle.std.proofs.lemmas.List.{append-nil, take_more}
use Rattle.std.proofs.lemmas.Option.{same_Some}
use Rattle.pk_values.specs.declared.value.Value.{Value}
use Rattle.pk_values.specs.declared.value.Value.TheVariants.{Null, Integer, Text}
use Rattle.pk_values.specs.Records.{value_record, row_record, AreStorable}
use Rattle.pk_values.specs.Values.{IsStorable}
use Rattle.pk_values.specs.Words.{is_words}
use Rattle.pk_schema.specs.Shapes.{Shape}
use Rattle.pk_schema.specs.Admits.{Admits, row_fault}
use Rattle.pk_schema.specs.Laws.{AdmittedRowsFit}
use Rattle.pk_schema.specs.declared.admitting.RowFault.{RowFault}
use Rattle.pk_catalog.specs.Records.{name_record, IsRowRecord, Gets}
use Rattle.pk_catalog.specs.declared.cat_err.CatErr.{CatErr}
use Rattle.pk_catalog.specs.declared.cat_err.CatErr.TheVariants.{Bad, Memory}
use Rattle.pk_catalog.specs.Reading.{Misses, number_at, words_at, value_at, all_at, row_at}
use Rattle.pk_catalog.proofs.Texts.{short_words}
use Rattle.pk_catalog.proofs.PartReading.{IsBytes, step_found, Takes, Exact, wide_64, number_exact, passing_exact, IsPassing, all_take, all_again, end_found}

words_exact : Exact words_at name_record (IsPassing is_words)
unfolding words_at
words_exact = passing_exact is_words

number_fits : (z : ℤ) → FitsSigned w64 z → cast_unsigned w64 z < 2 ^ 64
number_fits (pos n) fits = omega (arith, fits)
number_fits (negsuc n) fits = omega (arith, fits)

signed_fits : (n : ℕ) → n < 2 ^ 64 → FitsSigned w64 (cast_signed w64 n)
signed_fits n low = sfits_to_z {w = w64} {n = n} (omega (arith, low))

pub value_exact : Exact value_at value_record IsStorable
unfolding value_at
value_exact = record { takes = takes; again = again }
  where
    takes : (bytes : List ℕ) (x : Value × List ℕ) → IsBytes bytes → value_at bytes ≡ Some x → Takes value_record IsStorable bytes x
    takes [] x fits found = absurd cc
    takes (zero ∷ bytes) x fits found =
        subst (λ y. Takes value_record IsStorable (0 ∷ bytes) y) (same_Some (Null, bytes) x found) (record { parts = refl; rest = λ i. fits (suc i); it = tt })
    takes (suc zero ∷ bytes) x fits found =
        let n = step_found (number_at w64 bytes) (λ m. Some (Integer (cast_signed w64 m.0), m.1)) x found in
        let taken = (number_exact w64 (2 ^ 64) wide_64).takes bytes n.0 (λ i. fits (suc i)) n.1 in
        subst (λ y. Takes value_record IsStorable (1 ∷ bytes) y) (same_Some (Integer (cast_signed w64 n.0.0), n.0.1) x n.2)
        (record {
          parts = ap (λ rest. 1 ∷ rest) (taken.parts ∙ ap (λ m. to_be_bytes w64 m ++ n.0.1) (sym (of_z-to_z w64 n.0.0 taken.it)));
          rest = taken.rest;
          it = signed_fits n.0.0 taken.it;
        })
    takes (suc (suc zero) ∷ bytes) x fits found =
        let text = step_found (words_at bytes) (λ t. Some (Text t.0, t.1)) x found in
        let taken = words_exact.takes bytes text.0 (λ i. fits (suc i)) text.1 in
        subst (λ y. Takes value_record IsStorable (2 ∷ bytes) y) (same_Some (Text text.0.0, text.0.1) x text.2)
        (record { parts = ap (λ rest. 2 ∷ rest) taken.parts; rest = taken.rest; it = taken.it.0 })
    takes (suc (suc (suc b)) ∷ bytes) x fits found = absurd cc

    again : (v : Value) (rest : List ℕ) → IsStorable v → value_at (value_record v ++ rest) ≡ Some (v, rest)
    again Null rest is = refl
    again (Integer z) rest is =
        rw ((number_exact w64 (2 ^ 64) wide_64).again (cast_unsigned w64 z) rest (number_fits z is)) (ap (λ n. Some (Integer n, rest)) (to_z-of_z is))
    again (Text bytes) rest is = rw (words_exact.again bytes rest (is, short_words bytes is)) refl

-- ---- rows

all_storable : (row : List Value) → AreStorable row → AllByRecursion IsStorable row
all_storable [] are = tt
all_storable (v ∷ vs) are = (are.0, all_storable vs are.1)

pub are_storable : (row : List Value) → AllByRecursion IsStorable row → AreStorable row
are_storable [] all = tt
are_storable (v ∷ vs) all = (all.0, are_storable vs all.1)

row_again : (row : List Value) → AreStorable row → row_at (length row) (row_record row) ≡ Some row
unfolding row_at
row_again row are =
    let whole : all_at value_at (length row) (row_record row) ≡ Some (row, []) =
    ap (all_at value_at (length row)) (sym (append-nil (row_record row))) ∙ all_again value_at value_record IsStorable value_exact row [] (all_storable row are) in
    rw whole refl

-- a row that was found where its schema admits it
pub row_found : (s : Shape) (width : ℕ) (bytes : List ℕ) (row : List Value) → IsBytes bytes → row_at width bytes ≡ Some row → Admits s row → IsRowRecord s bytes row
unfolding row_at
row_found s width bytes row fits found admitted =
    let taken = all_take value_at value_record IsStorable value_exact width bytes (row, []) fits (end_found (all_at value_at width bytes) row found) in
    record { spelled = taken.parts ∙ append-nil (row_record row); admitted = admitted; storable = are_storable row taken.it.0 }

-- a row is found in its record
row_is : AdmittedRowsFit → (s : Shape) (width : ℕ) (bytes : List ℕ) (row : List Value) → length s.columns ≡ width → IsRowRecord s bytes row → row_at width bytes ≡ Some row
row_is fit s width bytes row wide is =
    let size : length row ≡ width = ((fit s row).0 is.admitted).width ∙ wide in
    ap (λ n. row_at n bytes) (sym size) ∙ ap (row_at (length row)) is.spelled ∙ row_again row is.storable

-- where none is found, or one that the schema doesn't admit, there is none
pub row_missed : AdmittedRowsFit → (s : Shape) (width : ℕ) (bytes : List ℕ) → length s.columns ≡ width → row_at width bytes ≡ None → (row : List Value) → IsRowRecord s bytes row → ⊥
row_missed fit s width bytes wide none row is = let some = row_is fit s width bytes row wide is in cc

pub row_refused : AdmittedRowsFit → (s : Shape) (width : ℕ) (bytes : List ℕ) (found : List Value) (fault : RowFault) → length s.columns ≡ width → row_at width bytes ≡ Some found
    → row_fault s found ≡ Some fault → (row : List Value) → IsRowRecord s bytes row → ⊥
row_refused fit s width bytes found fault wide here refused row is =
    let some = row_is fit s width bytes row wide is in
    let same : row ≡ found = same_Some row found (sym some ∙ here) in
    let none : row_fault s found ≡ None = subst (λ r. row_fault s r ≡ None) same is.admitted in
    cc

pub row_error : AdmittedRowsFit → (s : Shape) (width : ℕ) (bytes : List ℕ) (e : CatErr) → length s.columns ≡ width → Misses e (row_at width bytes) → Gets (IsRowRecord s bytes) (Err e)
row_error fit s width bytes Bad wide missed = row_missed fit s width bytes wide missed
row_error fit s width bytes Memory wide missed = tt

-- as many values as were asked for
pub row_width : (width : ℕ) (bytes rest : List ℕ) (row : List Value) → IsBytes bytes → all_at value_at width bytes ≡ Some (row, rest) → length row ≡ width
row_width width bytes rest row fits found = (all_take value_at value_record IsStorable value_exact width bytes (row, rest) fits found).it.1

-- ---- writing

storable_more : (row : List Value) (v : Value) → AreStorable row → IsStorable v → AreStorable (row ++ v ∷ [])
storable_more [] v are is = (is, tt)
storable_more (w ∷ row) v are is = (are.0, storable_more row v are.1 is)

record_more : (row : List Value) (v : Value) → row_record (row ++ v ∷ []) ≡ row_record row ++ value_record v
record_more [] v = append-nil (value_record v)
record_more (w ∷ row) v = ap (λ rest. value_record w ++ rest) (record_more row v) ∙ sym (append_assoc (value_record w) (row_record row) (value_record v))

-- one value more is written
pub values_more : (values : List Value) (i : ℕ) (v d : Value) (old out new : List ℕ) → i < length values → v ≡ get_or values i d → out ≡ old ++ row_record (take i values) → AreStorable (take i values)
    → new ≡ out ++ value_record v → IsStorable v → (new ≡ old ++ row_record (take (i + 1) values)) × AreStorable (take (i + 1) values)
values_more values i v d old out new low here spelled storable more is =
    let taken : take (i + 1) values ≡ take i values ++ v ∷ [] = take_more values i d low ∙ ap (λ w. take i values ++ w ∷ []) (sym here) in (
      more ∙ ap (λ a. a ++ value_record v) spelled ∙ append_assoc old (row_record (take i values)) (value_record v)
          ∙ ap (λ a. old ++ a) (sym (record_more (take i values) v) ∙ ap row_record (sym taken)),
      subst AreStorable (sym taken) (storable_more (take i values) v storable is),
    )
