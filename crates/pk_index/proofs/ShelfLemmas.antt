-- The ids of one key among pairs that ascend.
use Rattle.std.proofs.Common.{◌≡◌, refl, sym, ◌∙◌, ap, subst, ℕ, zero, suc, Bool, true, false, not, cond, ◌&&◌, ◌||◌, List, [], ◌∷◌, Option, arith}
use Rattle.std.specs.declared.cmp.Ordering.{Ordering}
use Rattle.std.specs.declared.cmp.Ordering.TheVariants.{Less, Equal, Greater}
use Rattle.std.specs.Ordering.{nat_cmp, eq_by_cmp, ordering_then, ordering_reverse, is_eq, is_le}
use Rattle.std.specs.List.{list_any, list_all, filter, AllByRecursion}
use Rattle.std.specs.List.Sorted.{IsStrictlySortedBy}
use Rattle.std.specs.BTreeMap.{is_at}
use Rattle.std.specs.Cmp.{IsTotalOrder, tied_then}
use Rattle.std.specs.BTreeSet as set
use Rattle.std.specs.BTreeSet.{BTreeSet}
use Rattle.std.proofs.lemmas.Bool.{and_parts, false≢true, lt-ltb}
use Rattle.std.proofs.lemmas.Cmp.{nat_cmp_total, eq_by_cmp_equiv}
use Rattle.std.proofs.lemmas.Map.Keys.{sorted_head, sorted_tail}
use Rattle.pk_index.specs.Rows.{IsLeast}
use Rattle.pk_index.specs.Shelves.{pair_cmp}

-- an order that is Less isn't Greater
less_greater : Less ≡ Greater → ⊥
less_greater same = false≢true (sym (ap is_le same))

put_join : (b e : Bool) → cond e true b ≡ (b || e)
put_join true true = refl
put_join true false = refl
put_join false true = refl
put_join false false = refl

take_join : (b e : Bool) → cond e false b ≡ (b && not e)
take_join true true = refl
take_join true false = refl
take_join false true = refl
take_join false false = refl

zero_below : (n : ℕ) → is_le (nat_cmp 0 n) ≡ true
zero_below zero = refl
zero_below (suc n) = rw (lt-ltb 0 (suc n) (omega arith)) refl

module _ {K : Type 0} (cmp : K → K → Ordering) where
  -- ---- changes

  at_pair : (key k : K) (id j : ℕ) → is_at (pair_cmp cmp (key, id)) (k, j) ≡ (eq_by_cmp cmp key k && eq_by_cmp nat_cmp j id)
  at_pair key k id j = sym (tied_then (cmp key k) (nat_cmp id j)) ∙ ap (λ t. eq_by_cmp cmp key k && t) ((eq_by_cmp_equiv nat_cmp_total).symm id j)

  pub put_at : (old new : BTreeSet (K × ℕ)) (key : K) (id : ℕ) → set.Updates (pair_cmp cmp) old new (key, id) true
      → (k : K) (j : ℕ) → set.contains (pair_cmp cmp) new (k, j) ≡ (set.contains (pair_cmp cmp) old (k, j) || (eq_by_cmp cmp key k && eq_by_cmp nat_cmp j id))
  put_at old new key id update k j =
      update.0 (k, j) ∙ ap (λ t. cond t true (set.contains (pair_cmp cmp) old (k, j))) (at_pair key k id j)
      ∙ put_join (set.contains (pair_cmp cmp) old (k, j)) (eq_by_cmp cmp key k && eq_by_cmp nat_cmp j id)

  pub taken_at : (old new : BTreeSet (K × ℕ)) (key : K) (id : ℕ) → set.UpdatesBy (pair_cmp cmp) (pair_cmp cmp (key, id)) old new false
      → (k : K) (j : ℕ) → set.contains (pair_cmp cmp) new (k, j) ≡ (set.contains (pair_cmp cmp) old (k, j) && not (eq_by_cmp cmp key k && eq_by_cmp nat_cmp j id))
  taken_at old new key id update k j =
      update.0 (k, j) ∙ ap (λ t. cond t false (set.contains (pair_cmp cmp) old (k, j))) (at_pair key k id j)
      ∙ take_join (set.contains (pair_cmp cmp) old (k, j)) (eq_by_cmp cmp key k && eq_by_cmp nat_cmp j id)

  -- ---- the ids of a key

  abbrev pub ids_of : List (K × ℕ) → K → List ℕ
  ids_of [] key = []
  ids_of (p ∷ ps) key = cond (is_eq (cmp key p.0)) (p.1 ∷ ids_of ps key) (ids_of ps key)

  -- an id is one of them where the pair is among the pairs
  has_id : (ps : List (K × ℕ)) (key : K) (j : ℕ) → list_any (is_at (pair_cmp cmp (key, j))) ps ≡ list_any (is_at (nat_cmp j)) (ids_of ps key)
  has_id [] key j = refl
  has_id (p ∷ ps) key j = by_key (cmp key p.0) (has_id ps key j) where
    by_key : (o : Ordering) → list_any (is_at (pair_cmp cmp (key, j))) ps ≡ list_any (is_at (nat_cmp j)) (ids_of ps key)
        → (is_eq (ordering_then o (nat_cmp j p.1)) || list_any (is_at (pair_cmp cmp (key, j))) ps) ≡ list_any (is_at (nat_cmp j)) (cond (is_eq o) (p.1 ∷ ids_of ps key) (ids_of ps key))
    by_key Less rest = rest
    by_key Equal rest = ap (λ t. is_eq (nat_cmp j p.1) || t) rest
    by_key Greater rest = rest

  -- what is least among them is least of what is held under the key
  pub least_held : (ps : List (K × ℕ)) (key : K) (outside : List ℕ) (found : Option ℕ) → IsLeast (λ j. list_any (is_at (nat_cmp j)) (ids_of ps key)) outside found
      → IsLeast (λ j. list_any (is_at (pair_cmp cmp (key, j))) ps) outside found
  least_held ps key outside found least = subst (λ test. IsLeast test outside found) (λ i j. (sym (has_id ps key j)) i) least

  -- ---- the pairs from the key on

  -- the pair isn't below the key's first
  abbrev pub is_from : K → K × ℕ → Bool
  is_from key p = is_le (pair_cmp cmp (key, 0) p) && not false

  pub ids_from : (ps : List (K × ℕ)) (key : K) → ids_of (filter (is_from key) ps) key ≡ ids_of ps key
  ids_from [] key = refl
  ids_from (p ∷ ps) key = by_key (cmp key p.0) refl (ids_from ps key) where
    by_key : (o : Ordering) → cmp key p.0 ≡ o → ids_of (filter (is_from key) ps) key ≡ ids_of ps key
        → ids_of (cond (is_le (ordering_then o (nat_cmp 0 p.1)) && not false) (p ∷ filter (is_from key) ps) (filter (is_from key) ps)) key
        ≡ cond (is_eq o) (p.1 ∷ ids_of ps key) (ids_of ps key)
    by_key Less at rest = ap (λ o. cond (is_eq o) (p.1 ∷ ids_of (filter (is_from key) ps) key) (ids_of (filter (is_from key) ps) key)) at ∙ rest
    by_key Equal at rest =
        ap (λ t. ids_of (cond (t && not false) (p ∷ filter (is_from key) ps) (filter (is_from key) ps)) key) (zero_below p.1)
        ∙ ap (λ o. cond (is_eq o) (p.1 ∷ ids_of (filter (is_from key) ps) key) (ids_of (filter (is_from key) ps) key)) at
        ∙ ap (λ ids. p.1 ∷ ids) rest
    by_key Greater at rest = rest

  pub all_from : (ps : List (K × ℕ)) (key : K) → list_all (is_from key) (filter (is_from key) ps) ≡ true
  all_from [] key = refl
  all_from (p ∷ ps) key = by_first (is_from key p) refl (all_from ps key) where
    by_first : (t : Bool) → is_from key p ≡ t → list_all (is_from key) (filter (is_from key) ps) ≡ true
        → list_all (is_from key) (cond t (p ∷ filter (is_from key) ps) (filter (is_from key) ps)) ≡ true
    by_first true at rest = ap (λ t. t && list_all (is_from key) (filter (is_from key) ps)) at ∙ rest
    by_first false at rest = rest

  -- ---- one pair after the other

  module _ (eq : K → K → Bool) (matches : (a b : K) → eq a b ≡ eq_by_cmp cmp a b) where
    pub same_key : (key k : K) → not (eq key k) ≡ false → is_eq (cmp key k) ≡ true
    same_key key k same = sym (matches key k) ∙ turned (eq key k) same where
      turned : (t : Bool) → not t ≡ false → t ≡ true
      turned true is = refl
      turned false is = sym is

    pub other_key : (key k : K) → not (eq key k) ≡ true → is_eq (cmp key k) ≡ false
    other_key key k other = sym (matches key k) ∙ turned (eq key k) other where
      turned : (t : Bool) → not t ≡ true → t ≡ false
      turned true is = sym is
      turned false is = refl

  pub next_id : (left rest : List (K × ℕ)) (p : K × ℕ) (key : K) → left ≡ p ∷ rest → is_eq (cmp key p.0) ≡ true → ids_of left key ≡ p.1 ∷ ids_of rest key
  next_id left rest p key next same = ap (λ ps. ids_of ps key) next ∙ ap (λ t. cond t (p.1 ∷ ids_of rest key) (ids_of rest key)) same

  pub rest_from : (left rest : List (K × ℕ)) (p : K × ℕ) (key : K) → left ≡ p ∷ rest → list_all (is_from key) left ≡ true → list_all (is_from key) rest ≡ true
  rest_from left rest p key next from = (and_parts _ _ (subst (λ ps. list_all (is_from key) ps ≡ true) next from)).1

  pub rest_ascends : (left rest : List (K × ℕ)) (p : K × ℕ) → left ≡ p ∷ rest → IsStrictlySortedBy (pair_cmp cmp) left → IsStrictlySortedBy (pair_cmp cmp) rest
  rest_ascends left rest p next ascend = sorted_tail (pair_cmp cmp) p rest (subst (IsStrictlySortedBy (pair_cmp cmp)) next ascend)

  module _ (total : IsTotalOrder cmp) where
    same_keys : (key a b : K) → cmp key a ≡ Equal → cmp key b ≡ Equal → cmp a b ≡ Equal
    same_keys key a b first second = sym (total.congr key a b first) ∙ second

    -- the ids of pairs above one with the key are above its id
    above_ids : (p : K × ℕ) (ps : List (K × ℕ)) (key : K) → cmp key p.0 ≡ Equal → AllByRecursion (λ q. pair_cmp cmp p q ≡ Less) ps
        → AllByRecursion (λ j. nat_cmp p.1 j ≡ Less) (ids_of ps key)
    above_ids p [] key at above = tt
    above_ids p (q ∷ ps) key at above = by_key (cmp key q.0) refl (above_ids p ps key at above.1) where
      by_key : (o : Ordering) → cmp key q.0 ≡ o → AllByRecursion (λ j. nat_cmp p.1 j ≡ Less) (ids_of ps key)
          → AllByRecursion (λ j. nat_cmp p.1 j ≡ Less) (cond (is_eq o) (q.1 ∷ ids_of ps key) (ids_of ps key))
      by_key Less here rest = rest
      by_key Equal here rest = (sym (ap (λ o. ordering_then o (nat_cmp p.1 q.1)) (same_keys key p.0 q.0 at here)) ∙ above.0, rest)
      by_key Greater here rest = rest

    pub ids_ascend : (ps : List (K × ℕ)) (key : K) → IsStrictlySortedBy (pair_cmp cmp) ps → IsStrictlySortedBy nat_cmp (ids_of ps key)
    unfolding IsStrictlySortedBy
    ids_ascend [] key ascend = tt
    ids_ascend (p ∷ ps) key ascend = by_key (cmp key p.0) refl (ids_ascend ps key ascend.1) where
      by_key : (o : Ordering) → cmp key p.0 ≡ o → IsStrictlySortedBy nat_cmp (ids_of ps key) → IsStrictlySortedBy nat_cmp (cond (is_eq o) (p.1 ∷ ids_of ps key) (ids_of ps key))
      by_key Less here rest = rest
      by_key Equal here rest = (above_ids p ps key here ascend.0, rest)
      by_key Greater here rest = rest

    -- behind a pair above the key there is none of its ids
    none_above : (p : K × ℕ) (ps : List (K × ℕ)) (key : K) → cmp key p.0 ≡ Less → AllByRecursion (λ q. pair_cmp cmp p q ≡ Less) ps → ids_of ps key ≡ []
    none_above p [] key low above = refl
    none_above p (q ∷ ps) key low above = by_key (cmp key q.0) refl (none_above p ps key low above.1) where
      by_key : (o : Ordering) → cmp key q.0 ≡ o → ids_of ps key ≡ [] → cond (is_eq o) (q.1 ∷ ids_of ps key) (ids_of ps key) ≡ []
      by_key Less here rest = rest
      by_key Equal here rest =
          let under : cmp p.0 q.0 ≡ Greater = total.antisymm p.0 q.0 ∙ ap ordering_reverse (sym (total.congr key q.0 p.0 here) ∙ low) in
          absurd (less_greater (sym above.0 ∙ ap (λ o. ordering_then o (nat_cmp p.1 q.1)) under))
      by_key Greater here rest = rest

    -- where the next pair has another key, there is no id left
    pub ended : (left rest : List (K × ℕ)) (p : K × ℕ) (key : K) → left ≡ p ∷ rest → IsStrictlySortedBy (pair_cmp cmp) left → list_all (is_from key) left ≡ true
        → is_eq (cmp key p.0) ≡ false → ids_of left key ≡ []
    ended left rest p key next ascend from differs =
        ap (λ ps. ids_of ps key) next
        ∙ ap (λ t. cond t (p.1 ∷ ids_of rest key) (ids_of rest key)) differs
        ∙ none_above p rest key
        (by_key (cmp key p.0) differs (and_parts _ _ (and_parts _ _ (subst (λ ps. list_all (is_from key) ps ≡ true) next from)).0).0)
        (sorted_head (pair_cmp cmp) p rest (subst (IsStrictlySortedBy (pair_cmp cmp)) next ascend)) where
          by_key : (o : Ordering) → is_eq o ≡ false → is_le (ordering_then o (nat_cmp 0 p.1)) ≡ true → o ≡ Less
          by_key Less other low = refl
          by_key Equal other low = absurd (false≢true (sym other))
          by_key Greater other low = absurd (false≢true low)
