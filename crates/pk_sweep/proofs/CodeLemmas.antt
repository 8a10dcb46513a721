-- What numbers for values say of the columns in which two rows differ.
use Rattle.std.proofs.Common.{◌≡◌, refl, sym, ◌∙◌, ap, subst, ℕ, zero, suc, ◌<◌, ◌≤◌, ◌+◌, ◌-◌, ◌^◌, Bool, true, false, cond, not, ◌&&◌, ◌||◌, ◌==◌, List, [], ◌∷◌, ◌++◌, length, take, drop, Some, get_or, slice_get, bit_and, bit_or, nat_lt, IsTrue, arith}
use Rattle.std.specs.List.{All, AllZip, Contains, filter, list_all, list_any}
use Rattle.std.proofs.lemmas.Bool.{leb-true}
use Rattle.std.proofs.lemmas.Nat.{or_of_32}
use Rattle.std.proofs.lemmas.Option.{get_or_from_slice_get, slice_get_within}
use Rattle.std.proofs.lemmas.List.Elements.{All-get_or, Contains-get_or}
use Rattle.std.proofs.lemmas.List.{drop_more, drop_all, get_or-map}
use Rattle.pk_values.specs.declared.value.Value.{Value}
use Rattle.pk_values.specs.Values.{is_null, same_value, value_at}
use Rattle.pk_values.specs.ColumnSet.{IsColumnSet, has_column}
use Rattle.pk_values.proofs.BitLemmas.{has_or, has_and_not}
use Rattle.pk_values.proofs.ColumnLemmas.{same_set}
use Rattle.pk_similar.specs.Similarity.{are_below, weak_entries, strong_entries, apart, not_same}
use Rattle.pk_sweep.specs.declared.coding.CodedColumn.{CodedColumn}
use Rattle.pk_sweep.specs.Pairs.{set_of, AreWide}
use Rattle.pk_sweep.specs.Coding.{IsCoded, AreCoded, code_at, null_set, differing, apart_at, not_same_at}
use Rattle.pk_sweep.proofs.ListLemmas.{any_kept, kept_within, all_inside, all_at, zip_more}
use Rattle.pk_sweep.proofs.SetLemmas.{has_set_of, set_of_set, set_of_step, or_nothing, joined_more}

abbrev differs : List Value → List Value → ℕ → Bool
differs a b c = not (same_value (value_at a c) (value_at b c))

-- the numbers differ in the columns whose entries aren't the same
differing_is : (rows : List (List Value)) (cs : List ℕ) (columns : List CodedColumn) (i j : ℕ) (a b : List Value) → AllZip (IsCoded rows) cs columns
    → slice_get rows i ≡ Some a → slice_get rows j ≡ Some b → differing columns i j ≡ set_of (filter (differs a b) cs)
unfolding differing set_of
differing_is rows [] [] i j a b coded first second = refl
differing_is rows [] (k ∷ ks) i j a b coded first second = absurd coded
differing_is rows (c ∷ cs) [] i j a b coded first second = absurd coded
differing_is rows (c ∷ cs) (k ∷ ks) i j a b coded first second =
    ap (λ rest. bit_or (cond (code_at k.codes.items i == code_at k.codes.items j) 0 k.bit) rest) (differing_is rows cs ks i j a b coded.1 first second)
    ∙ ap (λ one. bit_or one (set_of (filter (differs a b) cs))) (here (same_value (value_at a c) (value_at b c)) (coded.0.codes.tell i j a b first second))
    ∙ sym (set_of_step (differs a b) c cs)
  where
    here : (t : Bool) → (code_at k.codes.items i == code_at k.codes.items j) ≡ t → cond (code_at k.codes.items i == code_at k.codes.items j) 0 k.bit ≡ cond (not t) (2 ^ c) 0
    here true is = rw is refl
    here false is = rw is coded.0.alone

-- ---- by members

kept_is_set : (p : ℕ → Bool) (cs : List ℕ) → ((c : ℕ) → Contains cs c → c < 32) → IsColumnSet (set_of (filter p cs))
kept_is_set p cs low = set_of_set (filter p cs) (λ c found. low c (kept_within p cs c found))

has_kept : (p : ℕ → Bool) (cs : List ℕ) (k : ℕ) → has_column (set_of (filter p cs)) k ≡ (list_any (λ c. c == k) cs && p k)
has_kept p cs k = has_set_of (filter p cs) k ∙ any_kept p cs k

-- of a column among all: whether each row is null there, and whether the entries are the same
apart_bits : (all same first second : Bool)
    → ((all && not same) && not ((all && first) || (all && second))) ≡ (all && not (first || second || same))
apart_bits false same first second = refl
apart_bits true true first second = last first second
  where
    last : (x y : Bool) → false ≡ not (x || y || true)
    last true y = refl
    last false true = refl
    last false false = refl
apart_bits true false true second = refl
apart_bits true false false true = refl
apart_bits true false false false = refl

not_same_bits : (all same first second : Bool)
    → ((all && not same) || ((all && first) || (all && second))) ≡ (all && not (not first && not second && same))
not_same_bits false same first second = refl
not_same_bits true false first second = last first second
  where
    last : (x y : Bool) → true ≡ not (not x && not y && false)
    last true y = refl
    last false true = refl
    last false false = refl
not_same_bits true true true second = refl
not_same_bits true true false true = refl
not_same_bits true true false false = refl

module _ (cs : List ℕ) (rows : List (List Value)) (columns : List CodedColumn) (nulls : List ℕ) (low : (c : ℕ) → Contains cs c → c < 32) (coded : AreCoded cs rows columns nulls) where
  null_at : (i : ℕ) (a : List Value) → slice_get rows i ≡ Some a → code_at nulls i ≡ null_set cs a
  null_at i a stands =
      ap (λ ns. get_or ns i 0) coded.null
      ∙ get_or-map (null_set cs) rows i [] 0 (slice_get_within rows i a stands)
      ∙ ap (null_set cs) (get_or_from_slice_get rows i a [] stands)

  abbrev among : ℕ → Bool
  among k = list_any (λ c. c == k) cs

  has_nulls : (a b : List Value) (k : ℕ)
      → has_column (bit_or (null_set cs a) (null_set cs b)) k ≡ ((among k && is_null (value_at a k)) || (among k && is_null (value_at b k)))
  has_nulls a b k =
      has_or (null_set cs a) (null_set cs b) k
      ∙ ap (λ t. t || has_column (null_set cs b) k) (has_kept (λ c. is_null (value_at a c)) cs k)
      ∙ ap (λ t. (among k && is_null (value_at a k)) || t) (has_kept (λ c. is_null (value_at b c)) cs k)

  pub apart_is : (i j : ℕ) (a b : List Value) → slice_get rows i ≡ Some a → slice_get rows j ≡ Some b → apart_at columns nulls i j ≡ set_of (apart cs a b)
  unfolding apart
  apart_is i j a b first second =
      ap (λ d. bit_and d (4294967295 - bit_or (code_at nulls i) (code_at nulls j))) (differing_is rows cs columns i j a b coded.coded first second)
      ∙ ap (λ n. bit_and (set_of (filter (differs a b) cs)) (4294967295 - n))
      (ap (λ n. bit_or n (code_at nulls j)) (null_at i a first) ∙ ap (bit_or (null_set cs a)) (null_at j b second))
      ∙ same_set (bit_and (set_of (filter (differs a b) cs)) (4294967295 - bit_or (null_set cs a) (null_set cs b)))
      (set_of (filter (λ c. not (weak_entries (value_at a c) (value_at b c))) cs))
      (λ k.
      has_and_not (set_of (filter (differs a b) cs)) (bit_or (null_set cs a) (null_set cs b)) k (kept_is_set (differs a b) cs low)
      (or_of_32 (null_set cs a) (null_set cs b) (kept_is_set (λ c. is_null (value_at a c)) cs low) (kept_is_set (λ c. is_null (value_at b c)) cs low))
      ∙ ap (λ t. t && not (has_column (bit_or (null_set cs a) (null_set cs b)) k)) (has_kept (differs a b) cs k)
      ∙ ap (λ t. (among k && differs a b k) && not t) (has_nulls a b k)
      ∙ apart_bits (among k) (same_value (value_at a k) (value_at b k)) (is_null (value_at a k)) (is_null (value_at b k))
      ∙ sym (has_kept (λ c. not (weak_entries (value_at a c) (value_at b c))) cs k))

  pub not_same_is : (i j : ℕ) (a b : List Value) → slice_get rows i ≡ Some a → slice_get rows j ≡ Some b → not_same_at columns nulls i j ≡ set_of (not_same cs a b)
  unfolding not_same
  not_same_is i j a b first second =
      ap (λ d. bit_or d (bit_or (code_at nulls i) (code_at nulls j))) (differing_is rows cs columns i j a b coded.coded first second)
      ∙ ap (λ n. bit_or (set_of (filter (differs a b) cs)) n)
      (ap (λ n. bit_or n (code_at nulls j)) (null_at i a first) ∙ ap (bit_or (null_set cs a)) (null_at j b second))
      ∙ same_set (bit_or (set_of (filter (differs a b) cs)) (bit_or (null_set cs a) (null_set cs b)))
      (set_of (filter (λ c. not (strong_entries (value_at a c) (value_at b c))) cs))
      (λ k.
      has_or (set_of (filter (differs a b) cs)) (bit_or (null_set cs a) (null_set cs b)) k
      ∙ ap (λ t. t || has_column (bit_or (null_set cs a) (null_set cs b)) k) (has_kept (differs a b) cs k)
      ∙ ap (λ t. (among k && differs a b k) || t) (has_nulls a b k)
      ∙ not_same_bits (among k) (same_value (value_at a k) (value_at b k)) (is_null (value_at a k)) (is_null (value_at b k))
      ∙ sym (has_kept (λ c. not (strong_entries (value_at a c) (value_at b c))) cs k))

-- ---- the loops

pub differing_more : (columns : List CodedColumn) (i j at set one : ℕ) (k : CodedColumn) → at < length columns → k ≡ get_or columns at k
    → one ≡ cond (code_at k.codes.items i == code_at k.codes.items j) 0 k.bit
    → bit_or set (differing (drop at columns) i j) ≡ differing columns i j → bit_or (bit_or set one) (differing (drop (at + 1) columns) i j) ≡ differing columns i j
unfolding differing
differing_more columns i j at set one k within reads is so_far =
    joined_more set one (differing (drop (at + 1) columns) i j) (differing columns i j)
    (ap (λ d. bit_or set d)
    (ap (λ x. bit_or x (differing (drop (at + 1) columns) i j)) is
    ∙ sym (ap (λ ks. differing ks i j) (drop_more columns at k within ∙ ap (λ x. x ∷ drop (at + 1) columns) (sym reads))))
    ∙ so_far)

pub differing_done : (columns : List CodedColumn) (i j at set : ℕ) → length columns ≤ at → bit_or set (differing (drop at columns) i j) ≡ differing columns i j
    → set ≡ differing columns i j
unfolding differing
differing_done columns i j at set reached so_far =
    sym (or_nothing set) ∙ ap (bit_or set) (sym (ap (λ ks. differing ks i j) (drop_all at columns reached))) ∙ so_far

pub null_set_more : (cs : List ℕ) (row : List Value) (at set one c : ℕ) → at < length cs → c ≡ get_or cs at 0 → one ≡ cond (is_null (value_at row c)) (2 ^ c) 0
    → bit_or set (null_set (drop at cs) row) ≡ null_set cs row → bit_or (bit_or set one) (null_set (drop (at + 1) cs) row) ≡ null_set cs row
null_set_more cs row at set one c within reads is so_far =
    joined_more set one (null_set (drop (at + 1) cs) row) (null_set cs row)
    (ap (λ d. bit_or set d)
    (ap (λ x. bit_or x (null_set (drop (at + 1) cs) row)) is
    ∙ sym (set_of_step (λ k. is_null (value_at row k)) c (drop (at + 1) cs))
    ∙ sym (ap (λ ks. null_set ks row) (drop_more cs at 0 within ∙ ap (λ x. x ∷ drop (at + 1) cs) (sym reads))))
    ∙ so_far)

pub null_set_done : (cs : List ℕ) (row : List Value) (at set : ℕ) → length cs ≤ at → bit_or set (null_set (drop at cs) row) ≡ null_set cs row → set ≡ null_set cs row
unfolding set_of
null_set_done cs row at set reached so_far =
    sym (or_nothing set) ∙ ap (bit_or set) (sym (ap (λ ks. null_set ks row) (drop_all at cs reached))) ∙ so_far

-- what a test of the value told of the column
pub null_told : (row : List Value) (c one : ℕ) (v : Value) (test answer : Bool) → value_at row c ≡ v → test ≡ is_null v → test ≡ answer → one ≡ cond answer (2 ^ c) 0
    → one ≡ cond (is_null (value_at row c)) (2 ^ c) 0
null_told row c one v test answer reads tests is one_is =
    one_is ∙ ap (λ b. cond b (2 ^ c) 0) (sym is ∙ tests ∙ ap is_null (sym reads))

-- ---- widths

pub row_is_wide : (cs : List ℕ) (rows : List (List Value)) (i : ℕ) (row : List Value) → AreWide cs rows → i < length rows → row ≡ get_or rows i row
    → All (λ c. c < length row) cs
row_is_wide cs rows i row wide within reads =
    all_inside (λ c. c < length row) cs
    (λ c found.
    leb-true _ _
    (all_at (λ k. nat_lt k (length row)) cs c
    (subst (λ r. list_all (λ k. nat_lt k (length r)) cs ≡ true) (sym reads) (All-get_or (λ r. IsTrue (are_below (length r) cs)) rows i row within wide)) found))

pub column_is_wide : (cs : List ℕ) (rows : List (List Value)) (i : ℕ) → AreWide cs rows → i < length cs → All (λ row. get_or cs i 0 < length row) rows
column_is_wide cs rows i wide within =
    λ k d below.
    leb-true _ _ (all_at (λ c. nat_lt c (length (get_or rows k d))) cs (get_or cs i 0) (All-get_or (λ r. IsTrue (are_below (length r) cs)) rows k d below wide) (Contains-get_or cs i 0 within))

pub coded_more : (rows : List (List Value)) (cs : List ℕ) (coded later : List CodedColumn) (i : ℕ) (column : CodedColumn) → i < length cs
    → later ≡ coded ++ column ∷ [] → AllZip (IsCoded rows) (take i cs) coded → IsCoded rows (get_or cs i 0) column → AllZip (IsCoded rows) (take (i + 1) cs) later
coded_more rows cs coded later i column within is so_far one =
    subst (AllZip (IsCoded rows) (take (i + 1) cs)) (sym is)
    (zip_more (IsCoded rows) cs coded i (get_or cs i 0) column within (get_or_same cs i within) so_far one)
  where
    get_or_same : (xs : List ℕ) (k : ℕ) → k < length xs → get_or xs k 0 ≡ get_or xs k (get_or xs k 0)
    get_or_same [] k low = absurd (omega (arith, low))
    get_or_same (x ∷ xs) zero low = refl
    get_or_same (x ∷ xs) (suc k) low = get_or_same xs k (omega (arith, low))
