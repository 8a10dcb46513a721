-- The sets in their order, by insertion of one after the other.
use Rattle.std.proofs.Common.{◌≡◌, ◌⊎◌, refl, sym, ◌∙◌, ap, subst, ℕ, List, [], ◌∷◌, inl, inr}
use Rattle.std.specs.BTreeSet.{insert_key}
use Rattle.std.specs.List.{Contains, AllByRecursion, fold}
use Rattle.std.specs.List.Sorted.{IsStrictlySortedBy}
use Rattle.std.specs.Ordering.{nat_cmp, ordering_reverse, ordering_then, match_ordering}
use Rattle.std.specs.declared.cmp.Ordering.{Ordering}
use Rattle.std.specs.declared.cmp.Ordering.TheVariants.{Less, Equal, Greater}
use Rattle.std.proofs.lemmas.Map.Lookups.{exact_unsigned}
use Rattle.pk_values.specs.ColumnSet.{column_set_cmp}
use Rattle.pk_values.proofs.ColumnOrder.{column_set_cmp_total}
use Rattle.pk_transversal.specs.Minimal.{Lists, in_order}
use Rattle.pk_transversal.proofs.ListLemmas.{in_none, in_first, in_rest, in_cases}
use Rattle.pk_transversal.proofs.OrderLemmas.{ascends}

abbrev with_set : List ℕ → ℕ → List ℕ
with_set xs x = insert_key column_set_cmp xs x

abbrev is_below : ℕ → List ℕ → Type 0
is_below x ys = AllByRecursion (λ y. column_set_cmp x y ≡ Less) ys

-- ---- order

below_further : (x y : ℕ) (zs : List ℕ) → column_set_cmp x y ≡ Less → is_below y zs → is_below x zs
below_further x y [] less below = tt
below_further x y (z ∷ zs) less below = (column_set_cmp_total.trans x y z less below.0, below_further x y zs less below.1)

below_with : (x : ℕ) (ys : List ℕ) (y : ℕ) → column_set_cmp x y ≡ Less → is_below x ys → is_below x (with_set ys y)
below_with x [] y less below = (less, tt)
below_with x (z ∷ zs) y less below = placed (column_set_cmp y z) (below_with x zs y less below.1)
  where
    placed : (o : Ordering) → is_below x (with_set zs y) → is_below x (match_ordering o (y ∷ z ∷ zs) (z ∷ zs) (z ∷ with_set zs y))
    placed Less rest = (less, below)
    placed Equal rest = below
    placed Greater rest = (below.0, rest)

with_ascends : (xs : List ℕ) (x : ℕ) → ascends xs → ascends (with_set xs x)
unfolding IsStrictlySortedBy
with_ascends [] x up = (tt, tt)
with_ascends (y ∷ ys) x up = placed (column_set_cmp x y) refl (with_ascends ys x up.1)
  where
    placed : (o : Ordering) → column_set_cmp x y ≡ o → ascends (with_set ys x) → ascends (match_ordering o (x ∷ y ∷ ys) (y ∷ ys) (y ∷ with_set ys x))
    placed Less is rest = ((is, below_further x y ys is up.0), up)
    placed Equal is rest = up
    placed Greater is rest = (below_with y ys x (column_set_cmp_total.antisymm y x ∙ ap ordering_reverse is) up.0, rest)

-- ---- members

tied_is_same : (x y : ℕ) → column_set_cmp x y ≡ Equal → x ≡ y
tied_is_same x y tied = exact_unsigned x y (last _ (nat_cmp x y) (last _ _ tied))
  where
    last : (o p : Ordering) → ordering_then o p ≡ Equal → p ≡ Equal
    last Equal p is = is
    last Less p is = cc
    last Greater p is = cc

from_with : (xs : List ℕ) (x z : ℕ) → Contains (with_set xs x) z → Contains (x ∷ xs) z
from_with [] x z found = found
from_with (y ∷ ys) x z found = placed (column_set_cmp x y) (from_with ys x z) found
  where
    placed : (o : Ordering) → (Contains (with_set ys x) z → Contains (x ∷ ys) z)
        → Contains (match_ordering o (x ∷ y ∷ ys) (y ∷ ys) (y ∷ with_set ys x)) z → Contains (x ∷ y ∷ ys) z
    placed Less later found = found
    placed Equal later found = in_rest x (y ∷ ys) z found
    placed Greater later found =
        elim (in_cases y (with_set ys x) z found) [
          | inl same ↦ subst (Contains (x ∷ y ∷ ys)) same (in_rest x (y ∷ ys) y (in_first y ys))
          | inr rest ↦ elim (in_cases x ys z (later rest)) [
            | inl same ↦ subst (Contains (x ∷ y ∷ ys)) same (in_first x (y ∷ ys))
            | inr behind ↦ in_rest x (y ∷ ys) z (in_rest y ys z behind)
          ]
        ]

to_with : (xs : List ℕ) (x z : ℕ) → Contains (x ∷ xs) z → Contains (with_set xs x) z
to_with [] x z found = found
to_with (y ∷ ys) x z found = placed (column_set_cmp x y) refl (to_with ys x z)
  where
    placed : (o : Ordering) → column_set_cmp x y ≡ o → (Contains (x ∷ ys) z → Contains (with_set ys x) z)
        → Contains (match_ordering o (x ∷ y ∷ ys) (y ∷ ys) (y ∷ with_set ys x)) z
    placed Less is later = found
    placed Equal is later =
        elim (in_cases x (y ∷ ys) z found) [
          | inl same ↦ subst (Contains (y ∷ ys)) (sym (tied_is_same x y is) ∙ same) (in_first y ys)
          | inr behind ↦ behind
        ]
    placed Greater is later =
        elim (in_cases x (y ∷ ys) z found) [
          | inl same ↦ in_rest y (with_set ys x) z (later (subst (Contains (x ∷ ys)) same (in_first x ys)))
          | inr behind ↦ elim (in_cases y ys z behind) [
            | inl same ↦ subst (Contains (y ∷ with_set ys x)) same (in_first y (with_set ys x))
            | inr rest ↦ in_rest y (with_set ys x) z (later (in_rest x ys z rest))
          ]
        ]

-- ---- all of them

all_ascend : (xs seen : List ℕ) → ascends seen → ascends (fold with_set seen xs)
all_ascend [] seen up = up
all_ascend (x ∷ xs) seen up = all_ascend xs (with_set seen x) (with_ascends seen x up)

from_all : (xs seen : List ℕ) (z : ℕ) → Contains (fold with_set seen xs) z → Contains seen z ⊎ Contains xs z
from_all [] seen z found = inl found
from_all (x ∷ xs) seen z found =
    elim (from_all xs (with_set seen x) z found) [
      | inl early ↦ elim (in_cases x seen z (from_with seen x z early)) [
        | inl same ↦ inr (subst (Contains (x ∷ xs)) same (in_first x xs))
        | inr before ↦ inl before
      ]
      | inr late ↦ inr (in_rest x xs z late)
    ]

to_all : (xs seen : List ℕ) (z : ℕ) → Contains seen z ⊎ Contains xs z → Contains (fold with_set seen xs) z
to_all [] seen z (inl found) = found
to_all [] seen z (inr found) = absurd (in_none z found)
to_all (x ∷ xs) seen z (inl found) = to_all xs (with_set seen x) z (inl (to_with seen x z (in_rest x seen z found)))
to_all (x ∷ xs) seen z (inr found) =
    to_all xs (with_set seen x) z (elim (in_cases x xs z found) [
      | inl same ↦ inl (to_with seen x z (subst (Contains (x ∷ seen)) same (in_first x seen)))
      | inr rest ↦ inr rest
    ])

pub in_order_lists : (xs : List ℕ) → Lists (Contains xs) (in_order xs)
unfolding IsStrictlySortedBy
in_order_lists xs = record {
  ascend = all_ascend xs [] tt;
  only = λ z found. elim (from_all xs [] z found) [ inl none ↦ absurd (in_none z none) | inr listed ↦ listed ];
  every = λ z found. to_all xs [] z (inr found);
}
