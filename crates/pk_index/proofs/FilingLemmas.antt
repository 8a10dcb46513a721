-- Under which bytes rows are filed.
use Rattle.std.proofs.Common.{◌≡◌, refl, sym, ◌∙◌, ap, subst, ℕ, Bool, true, false, not, cond, ◌&&◌, ◌||◌, ◌==◌, List, [], ◌∷◌, ◌++◌, Option, Some, None, IsTrue}
use Rattle.std.specs.Prelude.{length}
use Rattle.std.proofs.Common.{arith}
use Rattle.std.proofs.lemmas.Bool.{eqb-true, eq-eqb, and_parts, false≢true}
use Rattle.std.proofs.lemmas.Option.{none-some, same_Some}
use Rattle.std.specs.Str.{bytes_eq}
use Rattle.pk_values.specs.declared.value.Value.{Value}
use Rattle.pk_values.specs.declared.value.Value.TheVariants.{Null, Integer, Text}
use Rattle.pk_values.specs.ColumnSet.{has_column}
use Rattle.pk_values.specs.Values.{is_null, same_value, value_at, IsStorable}
use Rattle.pk_values.specs.Records.{value_record, row_record, AreStorable}
use Rattle.pk_values.proofs.RecordLemmas.{value_records_end}
use Rattle.pk_similar.specs.Similarity.{weak_entries}
use Rattle.pk_values.proofs.ValueOrder.{equal_from_same, same_from_equal}
use Rattle.pk_index.specs.Rows.{values_on, has_pattern, is_null_as, all_weak, same_values, is_weak_with, is_known_outside}
use Rattle.pk_index.specs.Filing.{open_record, behind, goes_on, may_open, is_filed, is_filed_behind, asked_record, probe_record}

-- on the front of bytes stands what is behind it
pub behind_front : (xs rest : List ℕ) → behind xs (xs ++ rest) ≡ Some rest
behind_front [] rest = refl
behind_front (x ∷ xs) rest = ap (λ b. cond b (behind xs (xs ++ rest)) None) (eq-eqb x x refl) ∙ behind_front xs rest

-- bytes that have something behind the front are these two
pub behind_is : (xs bytes rest : List ℕ) → behind xs bytes ≡ Some rest → bytes ≡ xs ++ rest
behind_is [] bytes rest same = same_Some bytes rest same
behind_is (x ∷ xs) [] rest same = absurd (none-some rest same)
behind_is (x ∷ xs) (b ∷ bytes) rest same = by_first (x == b) refl same (behind_is xs bytes rest) where
  by_first : (t : Bool) → (x == b) ≡ t → cond t (behind xs bytes) None ≡ Some rest → (behind xs bytes ≡ Some rest → bytes ≡ xs ++ rest) → b ∷ bytes ≡ x ∷ xs ++ rest
  by_first true at found others = ap (λ z. z ∷ bytes) (sym (eqb-true x b at)) ∙ ap (λ zs. x ∷ zs) (others found)
  by_first false at found others = absurd (none-some rest found)

-- behind two fronts stands what is behind the second, behind the first
pub behind_both : (test : List ℕ → Bool) (xs ys bytes : List ℕ)
    → goes_on test (behind (xs ++ ys) bytes) ≡ goes_on (λ rest. goes_on test (behind ys rest)) (behind xs bytes)
behind_both test [] ys bytes = refl
behind_both test (x ∷ xs) ys [] = refl
behind_both test (x ∷ xs) ys (b ∷ bytes) = by_first (behind_both test xs ys bytes) (x == b) where
  by_first : goes_on test (behind (xs ++ ys) bytes) ≡ goes_on (λ rest. goes_on test (behind ys rest)) (behind xs bytes)
      → (t : Bool) → goes_on test (cond t (behind (xs ++ ys) bytes) None) ≡ goes_on (λ rest. goes_on test (behind ys rest)) (cond t (behind xs bytes) None)
  by_first others true = others
  by_first others false = refl

-- behind the bytes of a value other bytes go on only where they begin with the same value
pub behind_value : (test : List ℕ → Bool) (v w : Value) (rest : List ℕ) → IsStorable v → IsStorable w
    → goes_on test (behind (value_record v) (value_record w ++ rest)) ≡ (same_value v w && test rest)
behind_value test v w rest v_fits w_fits = by_found (behind (value_record v) (value_record w ++ rest)) refl where
  by_same : (t : Bool) → same_value v w ≡ t → behind (value_record v) (value_record w ++ rest) ≡ None → false ≡ (t && test rest)
  by_same true same none =
      absurd (none-some rest (sym none ∙ subst (λ z. behind (value_record v) (value_record z ++ rest) ≡ Some rest) (equal_from_same v w same) (behind_front (value_record v) rest)))
  by_same false same none = refl

  by_found : (o : Option (List ℕ)) → behind (value_record v) (value_record w ++ rest) ≡ o → goes_on test o ≡ (same_value v w && test rest)
  by_found None none = by_same (same_value v w) refl none
  by_found (Some r) found =
      let parts = value_records_end v w r rest v_fits w_fits (sym (behind_is (value_record v) (value_record w ++ rest) r found)) in
      ap test parts.1 ∙ ap (λ b. b && test rest) (sym (same_from_equal v w parts.0))

-- no value begins as what leaves a column open
pub behind_open : (w : Value) (rest : List ℕ) → behind open_record (value_record w ++ rest) ≡ None
behind_open Null rest = refl
behind_open (Integer z) rest = refl
behind_open (Text bytes) rest = refl

pub and_false : (b : Bool) → (b && false) ≡ false
and_false true = refl
and_false false = refl

pub and_true : (b : Bool) → (b && true) ≡ b
and_true true = refl
and_true false = refl

pub or_false : (b : Bool) → (b || false) ≡ b
or_false true = refl
or_false false = refl

-- a value beside what leaves a column open, in bytes that begin with a value
value_only : (test : List ℕ → Bool) (m : Bool) (v w : Value) (rest : List ℕ) → IsStorable v → IsStorable w
    → (goes_on test (behind (value_record v) (value_record w ++ rest)) || (m && goes_on test (behind open_record (value_record w ++ rest))))
    ≡ (same_value v w && test rest)
value_only test m v w rest v_fits w_fits =
    ap (λ o. goes_on test (behind (value_record v) (value_record w ++ rest)) || (m && goes_on test o)) (behind_open w rest)
    ∙ ap (λ b. goes_on test (behind (value_record v) (value_record w ++ rest)) || b) (and_false m)
    ∙ or_false _ ∙ behind_value test v w rest v_fits w_fits

-- one column: a row goes on under what is asked of it just where its value is as asked
one_column : (test : List ℕ → Bool) (p n : Bool) (v w : Value) (rest : List ℕ) → IsStorable v → IsStorable w → (n || not (is_null w)) ≡ true
    → (goes_on test (behind (value_record v) (asked_record p w ++ rest))
    || ((n && not (is_null v)) && goes_on test (behind open_record (asked_record p w ++ rest))))
    ≡ ((is_null_as p v && weak_entries v w) && test rest)
one_column test true n Null w rest _ _ _ = ap (λ b. test rest || (b && goes_on test (behind open_record (0 ∷ rest)))) (and_false n) ∙ or_false (test rest)
one_column test true n (Integer x) w rest _ _ _ = and_false (n && true)
one_column test true n (Text x) w rest _ _ _ = and_false (n && true)
one_column test false true Null Null rest _ _ _ = refl
one_column test false true (Integer x) Null rest _ _ _ = refl
one_column test false true (Text x) Null rest _ _ _ = refl
one_column test false false v Null rest _ _ known = absurd (false≢true known)
one_column test false n Null (Integer y) rest _ _ _ = ap (λ b. b && false) (and_false n)
one_column test false n Null (Text y) rest _ _ _ = ap (λ b. b && false) (and_false n)
one_column test false n (Integer x) (Integer y) rest v_fits w_fits _ = value_only test (n && true) (Integer x) (Integer y) rest v_fits w_fits
one_column test false n (Integer x) (Text y) rest v_fits w_fits _ = value_only test (n && true) (Integer x) (Text y) rest v_fits w_fits
one_column test false n (Text x) (Integer y) rest v_fits w_fits _ = value_only test (n && true) (Text x) (Integer y) rest v_fits w_fits
one_column test false n (Text x) (Text y) rest v_fits w_fits _ = value_only test (n && true) (Text x) (Text y) rest v_fits w_fits

and_pairs : (a b c d : Bool) → ((a && b) && (c && d)) ≡ ((a && c) && (b && d))
and_pairs true true c d = refl
and_pairs true false c d = sym (and_false c)
and_pairs false b c d = refl

-- A row is filed under what a look-up asks for just where it is as asked.
pub filed_as_asked : (nullable pattern : ℕ) (cs : List ℕ) (vs probe : List Value)
    → AreStorable vs → AreStorable (values_on cs probe) → IsTrue (is_known_outside nullable cs probe)
    → is_filed nullable cs vs (probe_record pattern cs probe) ≡ is_weak_with pattern cs probe vs
unfolding is_filed
filed_as_asked nullable pattern [] [] probe _ _ _ = refl
filed_as_asked nullable pattern [] (v ∷ vs) probe _ _ _ = refl
filed_as_asked nullable pattern (c ∷ cs) [] probe _ _ _ = refl
filed_as_asked nullable pattern (c ∷ cs) (v ∷ vs) probe fits asked known =
    let split = and_parts _ _ known in
    one_column (is_filed nullable cs vs) (has_column pattern c) (has_column nullable c) v (value_at probe c) (probe_record pattern cs probe) fits.0 asked.0 split.0
    ∙ ap (λ b. (is_null_as (has_column pattern c) v && weak_entries v (value_at probe c)) && b) (filed_as_asked nullable pattern cs vs probe fits.1 asked.1 split.1)
    ∙ and_pairs (is_null_as (has_column pattern c) v) (weak_entries v (value_at probe c)) (has_pattern pattern cs vs) (all_weak vs (values_on cs probe))

-- A row is filed under the bytes of all the values of another just where they are the same.
pub filed_as_same : (nullable : ℕ) (cs : List ℕ) (vs row : List Value) → length vs ≡ length cs → AreStorable vs → AreStorable (values_on cs row)
    → is_filed nullable cs vs (row_record (values_on cs row)) ≡ same_values vs (values_on cs row)
unfolding is_filed
filed_as_same nullable [] [] row _ _ _ = refl
filed_as_same nullable [] (v ∷ vs) row len _ _ = absurd (omega (arith, len))
filed_as_same nullable (c ∷ cs) [] row len _ _ = absurd (omega (arith, len))
filed_as_same nullable (c ∷ cs) (v ∷ vs) row len fits asked =
    value_only (is_filed nullable cs vs) (may_open nullable c v) v (value_at row c) (row_record (values_on cs row)) fits.0 asked.0
    ∙ ap (λ b. same_value v (value_at row c) && b) (filed_as_same nullable cs vs row (omega (arith, len)) fits.1 asked.1)

-- behind a front, the first column has its value or is left open
pub filed_split : (front : List ℕ) (nullable : ℕ) (cs : List ℕ) (vs : List Value) (c : ℕ) (v : Value) (bytes : List ℕ)
    → is_filed_behind front nullable (c ∷ cs) (v ∷ vs) bytes
    ≡ (is_filed_behind (front ++ value_record v) nullable cs vs bytes || (may_open nullable c v && is_filed_behind (front ++ open_record) nullable cs vs bytes))
unfolding is_filed
filed_split front nullable cs vs c v bytes =
    by_front (behind front bytes)
    ∙ ap (λ b. b || (may_open nullable c v && by_open (behind front bytes))) (sym (behind_both (is_filed nullable cs vs) front (value_record v) bytes))
    ∙ ap (λ b. is_filed_behind (front ++ value_record v) nullable cs vs bytes || (may_open nullable c v && b)) (sym (behind_both (is_filed nullable cs vs) front open_record bytes)) where
      by_value : Option (List ℕ) → Bool
      by_value o = goes_on (λ rest. goes_on (is_filed nullable cs vs) (behind (value_record v) rest)) o

      by_open : Option (List ℕ) → Bool
      by_open o = goes_on (λ rest. goes_on (is_filed nullable cs vs) (behind open_record rest)) o

      by_front : (o : Option (List ℕ)) → goes_on (is_filed nullable (c ∷ cs) (v ∷ vs)) o ≡ (by_value o || (may_open nullable c v && by_open o))
      by_front None = sym (and_false (may_open nullable c v))
      by_front (Some rest) = refl

-- behind a front that tells all columns nothing stands
pub filed_end : (front : List ℕ) (nullable : ℕ) (vs : List Value) (bytes : List ℕ) → is_filed_behind front nullable [] vs bytes ≡ bytes_eq front bytes
unfolding is_filed
filed_end [] nullable vs [] = refl
filed_end [] nullable vs (b ∷ bytes) = refl
filed_end (x ∷ xs) nullable vs [] = refl
filed_end (x ∷ xs) nullable vs (b ∷ bytes) = by_first (filed_end xs nullable vs bytes) (x == b) where
  by_first : goes_on (is_filed nullable [] vs) (behind xs bytes) ≡ bytes_eq xs bytes
      → (t : Bool) → goes_on (is_filed nullable [] vs) (cond t (behind xs bytes) None) ≡ (t && bytes_eq xs bytes)
  by_first others true = others
  by_first others false = refl
