-- ORDER BY's order, and that a stable sort by it is `sorted_by`.
use Rattle.std.proofs.Common.{◌≡◌, ℕ, Bool, true, false, not, ◌&&◌, List, [], ◌∷◌, refl, ap, sym, ◌∙◌, if◌then◌else◌}
use Rattle.std.specs.List.{filter, AllByRecursion}
use Rattle.std.specs.List.Sorted.{IsSortedBy, IsStableBy, ties}
use Rattle.std.specs.Cmp.{IsStrictWeakOrder, IsTotalOrder, on_total, then_total}
use Rattle.std.specs.Ordering.{is_lt, is_gt, ordering_reverse}
use Rattle.std.specs.declared.cmp.Ordering.{Ordering}
use Rattle.std.specs.declared.cmp.Ordering.TheVariants.{Less, Equal, Greater}
use Rattle.std.proofs.lemmas.List.Sorted.{ranks_by}
use Rattle.std.proofs.lemmas.Bool.{true≢false}
use Rattle.pk_values.specs.declared.value.Value.{Value}
use Rattle.pk_values.specs.Values.{value_at, value_cmp}
use Rattle.pk_values.proofs.ValueOrder.{value_cmp_total}
use Rattle.pk_bind.specs.declared.selection.OrderBy.{OrderBy}
use Rattle.pk_exec.specs.Selecting.{turned, row_cmp, put_in_order, sorted_by}
use Rattle.pk_exec.proofs.SortLemmas.{InOrder, in_order, one_order}

-- ---- the order is one

value_order : (c : ℕ) → IsTotalOrder (λ (a b : List Value). value_cmp (value_at a c) (value_at b c))
value_order c = on_total (λ (row : List Value). value_at row c) value_cmp_total

turned_total : {K : Type 0} (down : Bool) (R : K → K → Ordering) → IsTotalOrder R → IsTotalOrder (λ (a b : K). turned down (R a b))
turned_total false R o = o
turned_total true R o = record {
  antisymm = λ x y. ap ordering_reverse (o.antisymm x y);
  trans = λ x y z first second. sym (o.antisymm z x) ∙ o.trans z y x (o.antisymm z y ∙ second) (o.antisymm y x ∙ first);
  congr = λ x y z tied. ap ordering_reverse (o.congr x y z (equal (R x y) tied));
}
  where
    equal : (r : Ordering) → ordering_reverse r ≡ Equal → r ≡ Equal
    equal Less is = absurd (cc)
    equal Equal is = refl
    equal Greater is = absurd (cc)

constant_total : {K : Type 0} → IsTotalOrder (λ (a b : K). Equal)
constant_total = record { antisymm = λ x y. refl; trans = λ x y z less more. absurd (cc); congr = λ x y z tied. refl }

pub row_total : (order : List OrderBy) → IsTotalOrder (row_cmp order)
unfolding row_cmp
row_total [] = constant_total
row_total (by ∷ order) =
    then_total (turned_total by.down (λ (a b : List Value). value_cmp (value_at a by.column) (value_at b by.column)) (value_order by.column)) (row_total order)

-- the first comes before the second
abbrev pub comes_first : List OrderBy → List Value → List Value → Bool
comes_first order a b = is_lt (row_cmp order a b)

pub row_order : (order : List OrderBy) → IsStrictWeakOrder (comes_first order)
row_order order = ranks_by (row_total order) (λ (row : List Value). row)

gt_is_lt : (a b : Ordering) → a ≡ ordering_reverse b → is_gt a ≡ is_lt b
gt_is_lt a Less is = rw is refl
gt_is_lt a Equal is = rw is refl
gt_is_lt a Greater is = rw is refl

-- a row is behind another exactly where the other comes first
behind : (order : List OrderBy) (a b : List Value) → is_gt (row_cmp order a b) ≡ comes_first order b a
behind order a b = gt_is_lt (row_cmp order a b) (row_cmp order b a) ((row_total order).antisymm a b)

-- ---- sorted_by is in order

all_put : (order : List OrderBy) (P : List Value → Type 0) (row : List Value) (rows : List (List Value)) → P row → AllByRecursion P rows → AllByRecursion P (put_in_order order row rows)
all_put order P row [] p all = (p, tt)
all_put order P row (r ∷ rows) p all = elim (is_gt (row_cmp order row r)) as (λ b. AllByRecursion P (if b then r ∷ put_in_order order row rows else row ∷ r ∷ rows)) [
  | true ↦ (all.0, all_put order P row rows p all.1)
  | false ↦ (p, all)
]

all_through : (order : List OrderBy) (a b : List Value) (rows : List (List Value)) → comes_first order b a ≡ false
    → AllByRecursion (λ (y : List Value). comes_first order y b ≡ false) rows → AllByRecursion (λ (y : List Value). comes_first order y a ≡ false) rows
all_through order a b [] not_first all = tt
all_through order a b (y ∷ rows) not_first all = ((row_order order).chain y b a all.0 not_first, all_through order a b rows not_first all.1)

put_order : (order : List OrderBy) (row : List Value) (rows : List (List Value)) → InOrder (comes_first order) (row_order order) rows
    → InOrder (comes_first order) (row_order order) (put_in_order order row rows)
unfolding InOrder
put_order order row [] up = (tt, tt)
put_order order row (r ∷ rows) up = split (is_gt (row_cmp order row r)) refl (put_order order row rows up.1)
  where
    split : (b : Bool) → is_gt (row_cmp order row r) ≡ b → InOrder (comes_first order) (row_order order) (put_in_order order row rows)
        → InOrder (comes_first order) (row_order order) (if b then r ∷ put_in_order order row rows else row ∷ r ∷ rows)
    split true is deeper =
        (all_put order (λ (y : List Value). comes_first order y r ≡ false) row rows ((row_order order).one_way r row (sym (behind order row r) ∙ is)) up.0, deeper)
    split false is deeper =
        let first : comes_first order r row ≡ false = sym (behind order row r) ∙ is in
        ((first, all_through order row r rows first up.0), up)

sorted_order : (order : List OrderBy) (rows : List (List Value)) → InOrder (comes_first order) (row_order order) (sorted_by order rows)
unfolding InOrder sorted_by
sorted_order order [] = tt
sorted_order order (row ∷ rows) = put_order order row (sorted_by order rows) (sorted_order order rows)

-- ---- what ties stands as it stood

-- of two rows of which one comes first, no third ties with both
never_both : (order : List OrderBy) (x a b : List Value) → comes_first order b a ≡ true → ties (comes_first order) x a ≡ true → ties (comes_first order) x b ≡ true → ⊥
never_both order x a b first with_a with_b =
    let pa = parts (comes_first order x a) (comes_first order a x) with_a in
    let pb = parts (comes_first order x b) (comes_first order b x) with_b in
    true≢false (sym first ∙ (row_order order).chain b x a pb.1 pa.0)
  where
    parts : (s t : Bool) → (not s && not t) ≡ true → (s ≡ false) × (t ≡ false)
    parts true t is = absurd (cc)
    parts false true is = absurd (cc)
    parts false false is = (refl, refl)

swap_kept : {X : Type 0} (p : X → Bool) (a b : X) (xs : List X) → (p a ≡ true → p b ≡ true → ⊥) → filter p (b ∷ a ∷ xs) ≡ filter p (a ∷ b ∷ xs)
swap_kept {X = X} p a b xs never = split (p a) (p b) refl refl
  where
    split : (s t : Bool) → p a ≡ s → p b ≡ t
        → (if t then b ∷ (if s then a ∷ filter p xs else filter p xs) else (if s then a ∷ filter p xs else filter p xs))
        ≡ (if s then a ∷ (if t then b ∷ filter p xs else filter p xs) else (if t then b ∷ filter p xs else filter p xs))
    split true true at bt = absurd (never at bt)
    split true false at bt = refl
    split false true at bt = refl
    split false false at bt = refl

kept_cons : {X : Type 0} (p : X → Bool) (x : X) (xs ys : List X) → filter p xs ≡ filter p ys → filter p (x ∷ xs) ≡ filter p (x ∷ ys)
kept_cons {X = X} p x xs ys same = ap (λ (zs : List X). if p x then x ∷ zs else zs) same

put_stable : (order : List OrderBy) (x row : List Value) (rows : List (List Value))
    → filter (ties (comes_first order) x) (put_in_order order row rows) ≡ filter (ties (comes_first order) x) (row ∷ rows)
put_stable order x row [] = refl
put_stable order x row (r ∷ rows) = split (is_gt (row_cmp order row r)) refl (put_stable order x row rows)
  where
    split : (b : Bool) → is_gt (row_cmp order row r) ≡ b
        → filter (ties (comes_first order) x) (put_in_order order row rows) ≡ filter (ties (comes_first order) x) (row ∷ rows)
        → filter (ties (comes_first order) x) (if b then r ∷ put_in_order order row rows else row ∷ r ∷ rows) ≡ filter (ties (comes_first order) x) (row ∷ r ∷ rows)
    split true is deeper =
        kept_cons (ties (comes_first order) x) r (put_in_order order row rows) (row ∷ rows) deeper
        ∙ swap_kept (ties (comes_first order) x) row r rows (λ a b. never_both order x row r (sym (behind order row r) ∙ is) a b)
    split false is deeper = refl

sorted_stable : (order : List OrderBy) (x : List Value) (rows : List (List Value))
    → filter (ties (comes_first order) x) (sorted_by order rows) ≡ filter (ties (comes_first order) x) rows
unfolding sorted_by
sorted_stable order x [] = refl
sorted_stable order x (row ∷ rows) =
    put_stable order x row (sorted_by order rows) ∙ kept_cons (ties (comes_first order) x) row (sorted_by order rows) rows (sorted_stable order x rows)

-- a stable sort by the order gives it
pub sort_is : (order : List OrderBy) (old new : List (List Value)) → IsSortedBy (comes_first order) new → IsStableBy (comes_first order) old new → new ≡ sorted_by order old
sort_is order old new up stable =
    one_order (comes_first order) (row_order order) new (sorted_by order old)
    (in_order (comes_first order) (row_order order) new up) (sorted_order order old)
    (λ x. stable x ∙ sym (sorted_stable order x old))
