-- The order of values is that of their kinds, then of their numbers, then of their bytes.
use Rattle.std.proofs.Common.{◌≡◌, refl, sym, ◌∙◌, ap, subst, ℕ, ℤ, pos, true, List, []}
use Rattle.std.specs.Cmp.{IsTotalOrder}
use Rattle.std.specs.Cmp.Lexicographic.{slice_cmp}
use Rattle.std.specs.Ordering.{nat_cmp, int_cmp, is_eq, ordering_then, ordering_reverse, on, then_cmp}
use Rattle.std.specs.declared.cmp.Ordering.{Ordering}
use Rattle.std.specs.declared.cmp.Ordering.TheVariants.{Less, Equal, Greater}
use Rattle.std.proofs.lemmas.Cmp.{nat_cmp_total, int_cmp_total, nat_list_cmp_total, on_total, then_total, tied_itself, int_ranked}
use Rattle.std.proofs.lemmas.Map.Text.{is_eq-slice_cmp}
use Rattle.std.proofs.lemmas.Map.Lookups.{exact_bytes}
use Rattle.pk_values.specs.declared.value.Value.{Value}
use Rattle.pk_values.specs.declared.value.Value.TheVariants.{Null, Integer, Text}
use Rattle.pk_values.specs.Values.{same_value, value_cmp}

rank : Value → ℕ
rank Null = 0
rank (Integer z) = 1
rank (Text bytes) = 2

number : Value → ℤ
number Null = pos 0
number (Integer z) = z
number (Text bytes) = pos 0

bytes_of : Value → List ℕ
bytes_of Null = []
bytes_of (Integer z) = []
bytes_of (Text bytes) = bytes

by_parts : Value → Value → Ordering
by_parts = then_cmp (on rank nat_cmp) (then_cmp (on number int_cmp) (on bytes_of (slice_cmp nat_cmp)))

by_parts_total : IsTotalOrder by_parts
unfolding by_parts
by_parts_total = then_total (on_total rank nat_cmp_total) (then_total (on_total number int_cmp_total) (on_total bytes_of nat_list_cmp_total))

then_equal : (o : Ordering) → ordering_then o Equal ≡ o
then_equal Less = refl
then_equal Equal = refl
then_equal Greater = refl

value_by_parts : (a b : Value) → value_cmp a b ≡ by_parts a b
unfolding value_cmp by_parts rank number bytes_of
value_by_parts Null Null = refl
value_by_parts Null (Integer y) = refl
value_by_parts Null (Text ys) = refl
value_by_parts (Integer x) Null = refl
value_by_parts (Integer x) (Integer y) = sym (then_equal (int_cmp x y))
value_by_parts (Integer x) (Text ys) = refl
value_by_parts (Text xs) Null = refl
value_by_parts (Text xs) (Integer y) = refl
value_by_parts (Text xs) (Text ys) = refl

same_order : {K : Type 0} {R S : K → K → Ordering} → ((a b : K) → R a b ≡ S a b) → IsTotalOrder S → IsTotalOrder R
same_order agree total = record {
  antisymm = λ x y. agree x y ∙ total.antisymm x y ∙ ap ordering_reverse (sym (agree y x));
  trans = λ x y z xy yz. agree x z ∙ total.trans x y z (sym (agree x y) ∙ xy) (sym (agree y z) ∙ yz);
  congr = λ x y z xy. agree x z ∙ total.congr x y z (sym (agree x y) ∙ xy) ∙ sym (agree y z);
}

pub value_cmp_total : IsTotalOrder value_cmp
value_cmp_total = same_order value_by_parts by_parts_total

pub tied_values : (a b : Value) → value_cmp a b ≡ Equal → a ≡ b
unfolding value_cmp
tied_values Null Null tied = refl
tied_values Null (Integer y) tied = cc
tied_values Null (Text ys) tied = cc
tied_values (Integer x) Null tied = cc
tied_values (Integer x) (Integer y) tied = ap (λ z. Integer z) (int_ranked x y Equal (sym tied))
tied_values (Integer x) (Text ys) tied = cc
tied_values (Text xs) Null tied = cc
tied_values (Text xs) (Integer y) tied = cc
tied_values (Text xs) (Text ys) tied = ap (λ bytes. Text bytes) (exact_bytes xs ys tied)

pub same_is_tied : (a b : Value) → same_value a b ≡ is_eq (value_cmp a b)
unfolding value_cmp same_value
same_is_tied Null Null = refl
same_is_tied Null (Integer y) = refl
same_is_tied Null (Text ys) = refl
same_is_tied (Integer x) Null = refl
same_is_tied (Integer x) (Integer y) = refl
same_is_tied (Integer x) (Text ys) = refl
same_is_tied (Text xs) Null = refl
same_is_tied (Text xs) (Integer y) = refl
same_is_tied (Text xs) (Text ys) = sym (is_eq-slice_cmp xs ys)

equal_from_test : (o : Ordering) → is_eq o ≡ true → o ≡ Equal
equal_from_test Equal holds = refl
equal_from_test Less holds = cc
equal_from_test Greater holds = cc

-- the test of equality tells equality
pub equal_from_same : (a b : Value) → same_value a b ≡ true → a ≡ b
equal_from_same a b same = tied_values a b (equal_from_test (value_cmp a b) (sym (same_is_tied a b) ∙ same))

pub value_tied_itself : (a : Value) → value_cmp a a ≡ Equal
value_tied_itself a = tied_itself value_cmp_total a

pub same_from_equal : (a b : Value) → a ≡ b → same_value a b ≡ true
same_from_equal a b same =
    subst (λ v. same_value a v ≡ true) same (same_is_tied a a ∙ ap is_eq (value_tied_itself a))
