-- Walks over the columns of a set.
use Rattle.std.proofs.Common.{◌≡◌, refl, sym, ◌∙◌, ap, subst, ℕ, zero, suc, Bool, true, false, not, ◌&&◌, ◌||◌, ◌==◌, List, [], ◌∷◌, ◌++◌, length, inl, inr, Some, nat_lt, get_or, slice_get, append_assoc, length-append, ◌<◌, ◌≤◌, ◌+◌, arith}
use Rattle.std.specs.List.{filter, list_all, range_with_len}
use Rattle.std.proofs.lemmas.Bool.{cases_Bool, cases_eq, eq-eqb, ne_eqb}
use Rattle.std.proofs.lemmas.List.{length-map}
use Rattle.pk_values.specs.declared.kind.Kind.{Kind}
use Rattle.pk_values.specs.declared.kind.Kind.TheVariants as kinds
use Rattle.pk_values.specs.declared.value.Value.{Value}
use Rattle.pk_values.specs.Values.{value_at}
use Rattle.pk_values.specs.ColumnSet.{IsColumnSet, has_column, columns, is_subset}
use Rattle.pk_similar.specs.Similarity.{are_below, is_among, weak_entries, strong_entries, weak, strong}
use Rattle.pk_similar.specs.Filling.{kind_at, fill_entry, fill_values}
use Rattle.pk_values.proofs.ColumnLemmas.{listed_columns, kept_listed}
use Rattle.pk_values.proofs.RangeLemmas.{filter_twice}
use Rattle.std.proofs.Math.Bool.{or-true, and-false, or-false}
use Rattle.pk_values.proofs.RowLemmas.{value_read}

-- the kind of a column as code reads it
pub kind_read : (ks : List Kind) (c : ℕ) → kind_at ks c ≡ get_or ks c kinds.Integer
kind_read [] c = refl
kind_read (k ∷ ks) zero = refl
kind_read (k ∷ ks) (suc c) = kind_read ks c

-- the set of the columns below a width has those sets inside it that lie below
pub subset_below : (set all width : ℕ) → ((k : ℕ) → has_column all k ≡ nat_lt k width) → is_subset set all ≡ are_below width (columns set)
unfolding is_subset
subset_below set all width members = each (columns set)
  where
    each : (cs : List ℕ) → list_all (has_column all) cs ≡ are_below width cs
    each [] = refl
    each (c ∷ cs) = rw (members c, each cs) refl

-- a test of all columns, after the first passed or failed
all_on : (p : ℕ → Bool) (cs others : List ℕ) (c : ℕ) → cs ≡ c ∷ others → p c ≡ true → list_all p cs ≡ list_all p others
all_on p cs others c split passes = ap (list_all p) split ∙ ap (λ t. t && list_all p others) passes

all_off : (p : ℕ → Bool) (cs others : List ℕ) (c : ℕ) → cs ≡ c ∷ others → p c ≡ false → list_all p cs ≡ false
all_off p cs others c split fails = ap (list_all p) split ∙ ap (λ t. t && list_all p others) fails

-- the test of two entries that a walk reads is the definition's
read_both :
    (test : Value → Value → Bool) (a b : List Value) (c : ℕ) (v w : Value) (answer : Bool) → slice_get a c ≡ Some v → slice_get b c ≡ Some w
    → test v w ≡ answer → test (value_at a c) (value_at b c) ≡ answer
read_both test a b c v w answer left right holds = rw (value_read a c v left, value_read b c w right) holds

pub weak_on :
    (a b : List Value) (cs others : List ℕ) (c : ℕ) (v w : Value) → cs ≡ c ∷ others → slice_get a c ≡ Some v → slice_get b c ≡ Some w
    → weak_entries v w ≡ true → weak others a b ≡ weak cs a b
unfolding weak
weak_on a b cs others c v w split left right similar =
    sym (all_on (λ k. weak_entries (value_at a k) (value_at b k)) cs others c split (read_both weak_entries a b c v w true left right similar))

pub weak_off :
    (a b : List Value) (cs others : List ℕ) (c : ℕ) (v w : Value) → cs ≡ c ∷ others → slice_get a c ≡ Some v → slice_get b c ≡ Some w
    → weak_entries v w ≡ false → false ≡ weak cs a b
unfolding weak
weak_off a b cs others c v w split left right apart =
    sym (all_off (λ k. weak_entries (value_at a k) (value_at b k)) cs others c split (read_both weak_entries a b c v w false left right apart))

pub strong_on :
    (a b : List Value) (cs others : List ℕ) (c : ℕ) (v w : Value) → cs ≡ c ∷ others → slice_get a c ≡ Some v → slice_get b c ≡ Some w
    → strong_entries v w ≡ true → strong others a b ≡ strong cs a b
unfolding strong
strong_on a b cs others c v w split left right similar =
    sym (all_on (λ k. strong_entries (value_at a k) (value_at b k)) cs others c split (read_both strong_entries a b c v w true left right similar))

pub strong_off :
    (a b : List Value) (cs others : List ℕ) (c : ℕ) (v w : Value) → cs ≡ c ∷ others → slice_get a c ≡ Some v → slice_get b c ≡ Some w
    → strong_entries v w ≡ false → false ≡ strong cs a b
unfolding strong
strong_off a b cs others c v w split left right apart =
    sym (all_off (λ k. strong_entries (value_at a k) (value_at b k)) cs others c split (read_both strong_entries a b c v w false left right apart))

-- on no columns rows are similar
pub weak_none : (a b : List Value) (cs : List ℕ) → cs ≡ [] → true ≡ weak cs a b
unfolding weak
weak_none a b cs none = ap (λ xs. weak xs a b) (sym none)

pub strong_none : (a b : List Value) (cs : List ℕ) → cs ≡ [] → true ≡ strong cs a b
unfolding strong
strong_none a b cs none = ap (λ xs. strong xs a b) (sym none)

-- one more value is filled
pub fill_on :
    (ks : List Kind) (a b : List Value) (cs others : List ℕ) (c : ℕ) (v w value : Value) (values : List Value)
    → cs ≡ c ∷ others → slice_get a c ≡ Some v → slice_get b c ≡ Some w → value ≡ fill_entry (get_or ks c kinds.Integer) v w
    → (values ++ value ∷ []) ++ fill_values ks others a b ≡ values ++ fill_values ks cs a b
unfolding fill_values
fill_on ks a b cs others c v w value values split left right filled =
    append_assoc values (value ∷ []) (fill_values ks others a b)
    ∙ ap (λ u. values ++ u ∷ fill_values ks others a b) (filled ∙ sym (rw (kind_read ks c, value_read a c v left, value_read b c w right) refl))
    ∙ ap (λ xs. values ++ fill_values ks xs a b) (sym split)

-- what is filled so far is no more than there are columns
pub fill_length :
    (kinds : List Kind) (a b : List Value) (cs rest : List ℕ) (values : List Value)
    → values ++ fill_values kinds rest a b ≡ fill_values kinds cs a b → length values ≤ length cs
unfolding fill_values
fill_length kinds a b cs rest values all =
    let total = length-append values (fill_values kinds rest a b) in
    let whole : length (values ++ fill_values kinds rest a b) ≡ length cs = ap length all ∙ length-map cs _ in
    omega (arith, total, whole)

pub fill_done :
    (kinds : List Kind) (a b : List Value) (cs rest : List ℕ) (values : List Value) → rest ≡ []
    → values ++ fill_values kinds rest a b ≡ fill_values kinds cs a b → values ≡ fill_values kinds cs a b
unfolding fill_values
fill_done kinds a b cs rest values none all =
    sym (nothing_more values) ∙ ap (λ xs. values ++ fill_values kinds xs a b) (sym none) ∙ all
  where
    nothing_more : (xs : List Value) → xs ++ [] ≡ xs
    nothing_more [] = refl
    nothing_more (x ∷ xs) = ap (λ ys. x ∷ ys) (nothing_more xs)

-- that two entries which a walk reads differ is what the definition asks
pub differ_read :
    (test : Value → Value → Bool) (a b : List Value) (c : ℕ) (v w : Value) (answer : Bool) → slice_get a c ≡ Some v → slice_get b c ≡ Some w
    → not (test v w) ≡ answer → not (test (value_at a c) (value_at b c)) ≡ answer
differ_read test a b c v w answer left right holds = rw (value_read a c v left, value_read b c w right) holds

-- the columns of x that pass the test are those found and those of the rest that pass it
pub record IsFound (test : ℕ → Bool) (x rest found : ℕ) : Type 0 where
  pub members : (k : ℕ) → (is_among (columns x) k && test k) ≡ (has_column found k || is_among (columns rest) k && test k)

pub found_none : (test : ℕ → Bool) (x found : ℕ) → IsColumnSet found → columns found ≡ [] → IsFound test x x found
found_none test x found is_set none =
    record { members = λ k. ap (λ t. t || is_among (columns x) k && test k) (sym (lacks k)) }
  where
    lacks : (k : ℕ) → has_column found k ≡ false
    lacks k = sym (listed_columns found k is_set) ∙ ap (λ cs. is_among cs k) none

pub found_more :
    (test : ℕ → Bool) (x rest others c found more : ℕ) → IsFound test x rest found → columns rest ≡ c ∷ columns others → test c ≡ true
    → ((k : ℕ) → has_column more k ≡ (k == c || has_column found k)) → IsFound test x others more
found_more test x rest others c found more before split passes with =
    record { members = λ k. before.members k ∙ ap (λ cs. has_column found k || is_among cs k && test k) split ∙ step k }
  where
    step : (k : ℕ) → (has_column found k || (c == k || is_among (columns others) k) && test k) ≡ (has_column more k || is_among (columns others) k && test k)
    step k =
        elim (cases_eq c k) [
          | inl same ↦
              subst (λ j. (has_column found j || (c == j || is_among (columns others) j) && test j) ≡ (has_column more j || is_among (columns others) j && test j)) same
              (rw (with c, eq-eqb c c refl, passes) (or-true (has_column found c)))
          | inr other ↦ rw (with k, ne_eqb c k other, ne_eqb k c (λ same. other (sym same))) refl
        ]

pub found_passed :
    (test : ℕ → Bool) (x rest others c found : ℕ) → IsFound test x rest found → columns rest ≡ c ∷ columns others → test c ≡ false
    → IsFound test x others found
found_passed test x rest others c found before split fails =
    record { members = λ k. before.members k ∙ ap (λ cs. has_column found k || is_among cs k && test k) split ∙ step k }
  where
    step : (k : ℕ) → (has_column found k || (c == k || is_among (columns others) k) && test k) ≡ (has_column found k || is_among (columns others) k && test k)
    step k =
        elim (cases_eq c k) [
          | inl same ↦
              subst (λ j. (has_column found j || (c == j || is_among (columns others) j) && test j) ≡ (has_column found j || is_among (columns others) j && test j)) same
              (rw (fails, and-false (c == c || is_among (columns others) c), and-false (is_among (columns others) c)) refl)
          | inr other ↦ rw (ne_eqb c k other) refl
        ]

-- tests that agree on a range keep the same of it
kept_same : (p q : ℕ → Bool) (a m : ℕ) → ((k : ℕ) → a ≤ k → k < a + m → p k ≡ q k) → filter p (range_with_len a m) ≡ filter q (range_with_len a m)
kept_same p q a zero same = refl
kept_same p q a (suc m) same =
    let later = kept_same p q (a + 1) m (λ k from before. same k (omega (arith, from)) (omega (arith, before))) in
    let here = same a (omega arith) (omega arith) in
    elim (cases_Bool (q a)) [
      | inl holds ↦ rw (here, holds) (ap (λ xs. a ∷ xs) later)
      | inr fails ↦ rw (here, fails) later
    ]

pub found_all : (test : ℕ → Bool) (x rest found : ℕ) → IsFound test x rest found → columns rest ≡ [] → columns found ≡ filter test (columns x)
unfolding columns
found_all test x rest found before none =
    kept_same (has_column found) (λ k. has_column x k && test k) 0 32
    (λ k from low. sym (before.members k ∙ ap (λ cs. has_column found k || is_among cs k && test k) none ∙ or-false (has_column found k))
    ∙ ap (λ t. t && test k) (kept_listed (has_column x) 0 32 k from low))
    ∙ sym (filter_twice (has_column x) test (range_with_len 0 32))
