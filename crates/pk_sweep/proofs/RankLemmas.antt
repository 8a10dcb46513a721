-- Values by their places in order.
use Rattle.std.proofs.Common.{◌≡◌, refl, sym, ◌∙◌, ap, subst, ℕ, ◌<◌, ◌≤◌, ◌+◌, Bool, true, false, ◌==◌, List, [], ◌∷◌, ◌++◌, length, take, Some, map, get_or, slice_get, inl, inr, arith}
use Rattle.std.specs.List.{Contains, AllZip}
use Rattle.std.specs.Cmp.{IsStrictWeakOrder}
use Rattle.std.specs.List.Sorted.{IsPermutation, IsSorted, IsPartitionedBy, IsPartitionPoint}
use Rattle.std.specs.Ordering.{is_lt, is_eq, ordering_reverse}
use Rattle.std.specs.declared.cmp.Ordering.{Ordering}
use Rattle.std.specs.declared.cmp.Ordering.TheVariants.{Less, Equal, Greater}
use Rattle.std.proofs.lemmas.Bool.{cases_lt, eq-eqb, ne_eqb, both_ways}
use Rattle.std.proofs.lemmas.Option.{slice_get-get_or, get_or_from_slice_get, slice_get_within}
use Rattle.std.proofs.lemmas.List.Sorted.{sorted_far, ranks_by, Contains-permutation}
use Rattle.pk_values.specs.declared.value.Value.{Value}
use Rattle.pk_values.specs.Values.{same_value, value_at, value_cmp}
use Rattle.pk_values.proofs.ValueOrder.{value_cmp_total, tied_values, value_tied_itself, same_from_equal, same_is_tied}
use Rattle.pk_sweep.specs.Coding.{IsRank, IsOrdered, StandFor, code_at}
use Rattle.pk_sweep.proofs.ListLemmas.{in_place, place_in, in_map, zip_length, zip_at, zip_more}

abbrev pub below : Value → Value → Bool
below v w = is_lt (value_cmp w v)

from_is_lt : (o : Ordering) → is_lt o ≡ true → o ≡ Less
from_is_lt Less holds = refl
from_is_lt Equal holds = cc
from_is_lt Greater holds = cc

to_is_lt : (o : Ordering) → o ≡ Less → is_lt o ≡ true
to_is_lt o is = ap is_lt is

-- of ordered values none that is less than this one comes after one that isn't
pub less_first : (values : List Value) (v : Value) → IsSorted value_cmp values → IsPartitionedBy (below v) values
less_first values v sorted i j d at_most within holds =
    to_is_lt (value_cmp (get_or values i d) v)
    (earlier (value_cmp (get_or values j d) (get_or values i d)) refl
    (sorted_far (λ x y. is_lt (value_cmp x y)) (ranks_by value_cmp_total (λ x. x)) values sorted i j d at_most within)
    (from_is_lt (value_cmp (get_or values j d) v) holds))
  where
    earlier : (o : Ordering) → value_cmp (get_or values j d) (get_or values i d) ≡ o → is_lt o ≡ false → value_cmp (get_or values j d) v ≡ Less
        → value_cmp (get_or values i d) v ≡ Less
    earlier Less is not_less less = cc
    earlier Equal is not_less less = subst (λ w. value_cmp w v ≡ Less) (tied_values (get_or values j d) (get_or values i d) is) less
    earlier Greater is not_less less =
        value_cmp_total.trans (get_or values i d) (get_or values j d) v
        (value_cmp_total.antisymm (get_or values i d) (get_or values j d) ∙ ap ordering_reverse is) less

-- the place that a search by halves finds
pub rank_found : (values : List Value) (v : Value) (place : ℕ) → place ≤ length values
    → IsPartitionPoint (λ w. below v w ≡ true) (λ w. below v w ≡ false) values place → IsRank values v place
rank_found values v place within (first, rest) = (
  within,
  λ k w stands.
      let reads : get_or values k w ≡ w = get_or_from_slice_get values k w w stands in (
        λ low. from_is_lt (value_cmp w v) (subst (λ x. below v x ≡ true) reads (first k w (omega arith) low)),
        λ high less.
            both_ways (is_lt (value_cmp w v)) (subst (λ x. below v x ≡ false) reads (rest k w high (slice_get_within values k w stands)))
            (to_is_lt (value_cmp w v) less),
      ),
)

-- ---- two ranks

equal_less : Equal ≡ Less → ⊥
equal_less same = cc

lower_differs : (values : List Value) (v w : Value) (p q : ℕ) → IsRank values v p → IsRank values w q → Contains values v → value_cmp v w ≡ Less → p < q
lower_differs values v w p q v_rank w_rank found less =
    let place = in_place values v found in
    elim (cases_lt place.0 q) [
      | inl before ↦ elim (cases_lt place.0 p) [
        | inl early ↦ absurd (equal_less (sym (value_tied_itself v) ∙ (v_rank.1 place.0 v place.1).0 early))
        | inr late ↦ omega (arith, before, late)
      ]
      | inr behind ↦ absurd ((w_rank.1 place.0 v place.1).1 behind less)
    ]

-- ranks of one value
one_rank : (values : List Value) (v : Value) (p q : ℕ) → IsRank values v p → IsRank values v q → p < q → ⊥
one_rank values v p q p_rank q_rank less =
    let within : p < length values = omega (arith, less, q_rank.0) in
    let stands = slice_get-get_or values p v within in
    (p_rank.1 p (get_or values p v) stands).1 (omega arith) ((q_rank.1 p (get_or values p v) stands).0 less)

-- two ranks are equal exactly where the values are the same
pub ranks_tell : (values : List Value) (v w : Value) (p q : ℕ) → IsRank values v p → IsRank values w q → Contains values v → Contains values w
    → (p == q) ≡ same_value v w
ranks_tell values v w p q v_rank w_rank v_in w_in = by (value_cmp v w) refl
  where
    one_place : (m n : ℕ) → IsRank values w m → IsRank values w n → m ≡ n
    one_place m n m_rank n_rank =
        elim (cases_lt m n) [
          | inl less ↦ absurd (one_rank values w m n m_rank n_rank less)
          | inr more ↦ elim (cases_lt n m) [
            | inl less ↦ absurd (one_rank values w n m n_rank m_rank less)
            | inr also ↦ omega (arith, more, also)
          ]
        ]

    by : (o : Ordering) → value_cmp v w ≡ o → (p == q) ≡ same_value v w
    by Less is =
        let less = lower_differs values v w p q v_rank w_rank v_in is in
        ne_eqb p q (λ same. omega (arith, same, less)) ∙ sym (same_is_tied v w ∙ ap is_eq is)
    by Equal is =
        let same : v ≡ w = tied_values v w is in
        eq-eqb p q (one_place p q (subst (λ x. IsRank values x p) same v_rank) w_rank) ∙ sym (same_from_equal v w same)
    by Greater is =
        let less = lower_differs values w v q p w_rank v_rank w_in (value_cmp_total.antisymm w v ∙ ap ordering_reverse is) in
        ne_eqb p q (λ same. omega (arith, same, less)) ∙ sym (same_is_tied v w ∙ ap is_eq is)

-- the ranks of a column's values stand for them
pub ranks_stand : (c : ℕ) (rows : List (List Value)) (values : List Value) (codes : List ℕ) → IsOrdered c rows values
    → AllZip (λ row code. IsRank values (value_at row c) code) rows codes → StandFor rows c codes
ranks_stand c rows values codes ordered ranks = record {
  long = sym (zip_length (λ row code. IsRank values (value_at row c) code) rows codes ranks);
  tell = λ i j a b first second.
      ranks_tell values (value_at a c) (value_at b c) (code_at codes i) (code_at codes j) (rank_at i a first) (rank_at j b second) (ordered.all a (place_in rows i a first))
      (ordered.all b (place_in rows j b second));
}
  where
    rank_at : (i : ℕ) (a : List Value) → slice_get rows i ≡ Some a → IsRank values (value_at a c) (code_at codes i)
    rank_at i a stands =
        zip_at (λ row code. IsRank values (value_at row c) code) rows codes i a 0 ranks stands

-- sorted, the values of all rows are there
pub ordered_values_are : (c : ℕ) (rows : List (List Value)) (values sorted : List Value) → values ≡ map (λ row. value_at row c) rows → IsPermutation values sorted
    → IsSorted value_cmp sorted → IsOrdered c rows sorted
ordered_values_are c rows values sorted are moved up = record {
  ordered = up;
  all = λ row found.
      Contains-permutation values sorted (value_at row c) moved
      (subst (λ xs. Contains xs (value_at row c)) (sym are) (in_map (λ r. value_at r c) rows row found));
}

abbrev pub values_less : Value → Value → Bool
values_less v w = is_lt (value_cmp v w)

pub values_order : IsStrictWeakOrder values_less
values_order = ranks_by value_cmp_total (λ (v : Value). v)

-- one row more has its number
pub ranks_more : (c : ℕ) (rows : List (List Value)) (values now : List Value) (codes later : List ℕ) (i : ℕ) (row : List Value) (v : Value) (code : ℕ) → i < length rows
    → row ≡ get_or rows i row → now ≡ values → value_at row c ≡ v → later ≡ codes ++ code ∷ [] → AllZip (λ r n. IsRank values (value_at r c) n) (take i rows) codes → IsRank now v code
    → AllZip (λ r n. IsRank values (value_at r c) n) (take (i + 1) rows) later
ranks_more c rows values now codes later i row v code within stands same reads is so_far one =
    subst (AllZip (λ r n. IsRank values (value_at r c) n) (take (i + 1) rows)) (sym is)
    (zip_more (λ r n. IsRank values (value_at r c) n) rows codes i row code within stands so_far
    (subst (λ w. IsRank values w code) (sym reads) (subst (λ xs. IsRank xs v code) same one)))
