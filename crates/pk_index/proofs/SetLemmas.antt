-- What a change of the set at one byte string makes of the sets.
use Rattle.std.proofs.Common.{◌≡◌, refl, sym, ◌∙◌, ap, subst, ℕ, Bool, true, false, not, cond, ◌&&◌, ◌||◌, List, [], ◌∷◌, Option, Some, None}
use Rattle.std.specs.Ordering.{nat_cmp, eq_by_cmp, is_eq}
use Rattle.std.specs.Cmp.Lexicographic.{slice_cmp}
use Rattle.std.specs.Str.{bytes_eq}
use Rattle.std.specs.List.{list_any}
use Rattle.std.specs.Prelude.{length}
use Rattle.std.proofs.Common.{arith}
use Rattle.std.specs.Map.{lookup, KeepsOthers, IsKeyTest, AreApart}
use Rattle.std.specs.BTreeMap as tree
use Rattle.std.specs.BTreeMap.{BTreeMap, is_at}
use Rattle.std.specs.BTreeSet as set
use Rattle.std.specs.BTreeSet.{BTreeSet}
use Rattle.std.proofs.lemmas.Bool.{both_ways}
use Rattle.std.proofs.lemmas.Cmp.{nat_cmp_total, nat_list_cmp_total, eq_by_cmp_equiv}
use Rattle.std.proofs.lemmas.Map.Text.{is_eq-slice_cmp}
use Rattle.std.proofs.lemmas.Slice.Eq.{bytes_eq-Decides}
use Rattle.pk_index.specs.declared.sets.Sets.{Sets}
use Rattle.pk_index.specs.Shelves.{is_in, set_has, SetPuts, SetTakes}
use Rattle.pk_index.proofs.FilingLemmas.{or_false, and_true}

-- the set under the bytes
abbrev pub set_at : Sets → List ℕ → Option (BTreeSet ℕ)
set_at sets bytes = tree.get_by (λ k. slice_cmp nat_cmp bytes k.items) sets.sets

pub equal_bytes : (a b : List ℕ) → bytes_eq a b ≡ true → a ≡ b
equal_bytes a b same = (bytes_eq-Decides a b).0 same

apart : (key bytes ks : List ℕ) → bytes_eq key bytes ≡ false → is_eq (slice_cmp nat_cmp key ks) ≡ true → is_eq (slice_cmp nat_cmp bytes ks) ≡ false
apart key bytes ks differ at = by_second (is_eq (slice_cmp nat_cmp bytes ks)) refl where
  by_second : (t : Bool) → is_eq (slice_cmp nat_cmp bytes ks) ≡ t → t ≡ false
  by_second false _ = refl
  by_second true same =
      let first : key ≡ ks = equal_bytes key ks (sym (is_eq-slice_cmp key ks) ∙ at) in
      let second : bytes ≡ ks = equal_bytes bytes ks (sym (is_eq-slice_cmp bytes ks) ∙ same) in
      absurd (both_ways (bytes_eq key bytes) differ
      (subst (λ z. bytes_eq key z ≡ true) (sym second) (sym (is_eq-slice_cmp key ks) ∙ at)))

module _ {V X : Type 0} (items : V → List ℕ) where
  keeps : (eq : V → V → Bool) (test : V → Bool) (old new : List (V × X)) → KeepsOthers eq test old new
      → (other : V → Bool) → IsKeyTest eq other → AreApart test other → lookup other new ≡ lookup other old
  unfolding KeepsOthers
  keeps eq test old new h = h

  -- after an update at the key the key has the new value, and other bytes have what they had
  pub updated : (key : List ℕ) (m n : BTreeMap V X) (w : Option X)
      → tree.UpdatesBy (λ x y. slice_cmp nat_cmp (items x) (items y)) (λ k. slice_cmp nat_cmp key (items k)) m n w
      → (bytes : List ℕ) → tree.get_by (λ k. slice_cmp nat_cmp bytes (items k)) n ≡ cond (bytes_eq key bytes) w (tree.get_by (λ k. slice_cmp nat_cmp bytes (items k)) m)
  updated key m n w update bytes = by_same (bytes_eq key bytes) refl where
    by_same : (t : Bool) → bytes_eq key bytes ≡ t → tree.get_by (λ k. slice_cmp nat_cmp bytes (items k)) n ≡ cond t w (tree.get_by (λ k. slice_cmp nat_cmp bytes (items k)) m)
    by_same true same = subst (λ z. tree.get_by (λ k. slice_cmp nat_cmp z (items k)) n ≡ w) (equal_bytes key bytes same) update.1
    by_same false differ = keeps _ _ m.entries n.entries update.3 _ (λ x y. (eq_by_cmp_equiv nat_list_cmp_total).congr bytes (items x) (items y)) (λ k. apart key bytes (items k) differ)

-- the set under the key changes to this one, and the others stay
abbrev pub ChangesAt : Sets → Sets → List ℕ → Option (BTreeSet ℕ) → Type 0
ChangesAt old new key ids = (bytes : List ℕ) → set_at new bytes ≡ cond (bytes_eq key bytes) ids (set_at old bytes)

pub changed : (old new : Sets) (key : List ℕ) (ids : Option (BTreeSet ℕ)) (join : Bool → Bool → Bool) (id : ℕ)
    → ((b : Bool) → join b false ≡ b)
    → ((j : ℕ) → is_in ids j ≡ join (is_in (set_at old key) j) (eq_by_cmp nat_cmp j id))
    → ChangesAt old new key ids
    → (bytes : List ℕ) (j : ℕ) → set_has new bytes j ≡ join (set_has old bytes j) (bytes_eq key bytes && eq_by_cmp nat_cmp j id)
changed old new key ids join id stays change at bytes j = ap (λ o. is_in o j) (at bytes) ∙ by_same (bytes_eq key bytes) refl where
  by_same : (t : Bool) → bytes_eq key bytes ≡ t → is_in (cond t ids (set_at old bytes)) j ≡ join (set_has old bytes j) (t && eq_by_cmp nat_cmp j id)
  by_same true same = subst (λ z. is_in ids j ≡ join (set_has old z j) (eq_by_cmp nat_cmp j id)) (equal_bytes key bytes same) (change j)
  by_same false differ = sym (stays (set_has old bytes j))

abbrev pub joins_put : Bool → Bool → Bool
joins_put b e = b || e

abbrev pub joins_take : Bool → Bool → Bool
joins_take b e = b && not e

-- an update of the sets at a key
pub updates : (old new : Sets) (key : List ℕ) (ids : Option (BTreeSet ℕ))
    → tree.UpdatesBy (λ x y. slice_cmp nat_cmp x.items y.items) (λ k. slice_cmp nat_cmp key k.items) old.sets new.sets ids → ChangesAt old new key ids
updates old new key ids update = updated (λ k. k.items) key old.sets new.sets ids update

-- a set for a key that had none
pub begun : (old new : Sets) (key : List ℕ) (ids : BTreeSet ℕ) (id : ℕ) → set_at old key ≡ None → ((j : ℕ) → set.contains nat_cmp ids j ≡ eq_by_cmp nat_cmp j id)
    → ChangesAt old new key (Some ids) → SetPuts old new (bytes_eq key) id
begun old new key ids id absent one at =
    changed old new key (Some ids) joins_put id or_false (λ j. one j ∙ ap (λ o. is_in o j || eq_by_cmp nat_cmp j id) (sym absent)) at

-- one more id in the set of a key
pub grown : (old new : Sets) (key : List ℕ) (ids more : BTreeSet ℕ) (id : ℕ) → set_at old key ≡ Some ids → set.Updates nat_cmp ids more id true
    → ChangesAt old new key (Some more) → SetPuts old new (bytes_eq key) id
grown old new key ids more id present update at =
    changed old new key (Some more) joins_put id or_false
    (λ j. update.0 j ∙ by_same (set.contains nat_cmp ids j) (eq_by_cmp nat_cmp j id) (is_at (nat_cmp id) j) ((eq_by_cmp_equiv nat_cmp_total).symm id j)
    ∙ ap (λ o. is_in o j || eq_by_cmp nat_cmp j id) (sym present)) at where
      turned : (b e : Bool) → cond e true b ≡ (b || e)
      turned true true = refl
      turned true false = refl
      turned false true = refl
      turned false false = refl

      by_same : (b e f : Bool) → f ≡ e → cond f true b ≡ (b || e)
      by_same b e f same = ap (λ t. cond t true b) same ∙ turned b e

taken : (b e f : Bool) → f ≡ e → cond f false b ≡ (b && not e)
taken b e f same = ap (λ t. cond t false b) same ∙ plain b e where
  plain : (b e : Bool) → cond e false b ≡ (b && not e)
  plain true true = refl
  plain true false = refl
  plain false true = refl
  plain false false = refl

less_one : (ids less : BTreeSet ℕ) (id j : ℕ) → set.UpdatesBy nat_cmp (nat_cmp id) ids less false → set.contains nat_cmp less j ≡ (set.contains nat_cmp ids j && not (eq_by_cmp nat_cmp j id))
less_one ids less id j update =
    update.0 j ∙ taken (set.contains nat_cmp ids j) (eq_by_cmp nat_cmp j id) (is_at (nat_cmp id) j) ((eq_by_cmp_equiv nat_cmp_total).symm id j)

-- one id less in the set of a key
pub shrunk : (old new : Sets) (key : List ℕ) (ids less : BTreeSet ℕ) (id : ℕ) → set_at old key ≡ Some ids → set.UpdatesBy nat_cmp (nat_cmp id) ids less false
    → ChangesAt old new key (Some less) → SetTakes old new (bytes_eq key) id
shrunk old new key ids less id present update at =
    changed old new key (Some less) joins_take id and_true
    (λ j. less_one ids less id j update ∙ ap (λ o. is_in o j && not (eq_by_cmp nat_cmp j id)) (sym present)) at

no_keys : (p : ℕ → Bool) (ks : List ℕ) → length ks ≡ 0 → list_any p ks ≡ false
no_keys p [] none = refl
no_keys p (k ∷ ks) none = absurd (omega (arith, none))

-- the last id of a key, and then its set
pub emptied : (old mid new : Sets) (key : List ℕ) (ids less : BTreeSet ℕ) (id : ℕ) → set_at old key ≡ Some ids → set.UpdatesBy nat_cmp (nat_cmp id) ids less false
    → set.btree_set_len less ≡ 0 → ChangesAt old mid key (Some less) → ChangesAt mid new key None → SetTakes old new (bytes_eq key) id
emptied old mid new key ids less id present update none first second =
    changed old new key None joins_take id and_true
    (λ j. sym (no_keys (is_at (nat_cmp j)) less.keys none) ∙ less_one ids less id j update ∙ ap (λ o. is_in o j && not (eq_by_cmp nat_cmp j id)) (sym present))
    (λ bytes. second bytes ∙ ap (cond (bytes_eq key bytes) None) (first bytes) ∙ twice (bytes_eq key bytes) (Some less) (set_at old bytes)) where
      twice : (t : Bool) (a b : Option (BTreeSet ℕ)) → cond t None (cond t a b) ≡ cond t None b
      twice true a b = refl
      twice false a b = refl
