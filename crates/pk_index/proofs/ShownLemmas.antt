-- What an index shows after a change, and what a look-up in it finds.
use Rattle.std.proofs.Common.{◌≡◌, refl, sym, ◌∙◌, ap, subst, ℕ, Bool, true, false, not, cond, ◌&&◌, ◌||◌, List, Option, Some, None}
use Rattle.std.specs.FinMap.{FinMap}
use Rattle.std.specs.FinMap as rows
use Rattle.std.specs.Ordering.{nat_cmp, eq_by_cmp, is_eq}
use Rattle.std.specs.declared.cmp.Ordering.{Ordering}
use Rattle.std.specs.declared.cmp.Ordering.TheVariants.{Less, Equal, Greater}
use Rattle.std.specs.BTreeMap as tree
use Rattle.std.specs.BTreeMap.{BTreeMap, is_at}
use Rattle.std.proofs.lemmas.Bool.{false≢true}
use Rattle.std.proofs.lemmas.Option.{none-some, same_Some}
use Rattle.std.proofs.lemmas.Cmp.{nat_cmp_total, eq_by_cmp_equiv}
use Rattle.std.proofs.lemmas.Map.Lookups.{exact_unsigned}
use Rattle.pk_index.specs.declared.family.Family.{Family}
use Rattle.pk_index.specs.Rows.{passes, IsLeast}
use Rattle.pk_index.specs.Filing.{has, Puts, Takes}
use Rattle.pk_index.proofs.FilingLemmas.{and_true, and_false, or_false}

is_equal : (o : Ordering) → is_eq o ≡ true → o ≡ Equal
is_equal Less same = absurd (false≢true same)
is_equal Equal same = refl
is_equal Greater same = absurd (false≢true same)

pub same_id : (j id : ℕ) → eq_by_cmp nat_cmp j id ≡ true → j ≡ id
same_id j id same = exact_unsigned j id (is_equal (nat_cmp j id) same)

pub turned : (id j : ℕ) → is_at (nat_cmp id) j ≡ eq_by_cmp nat_cmp j id
turned id j = (eq_by_cmp_equiv nat_cmp_total).symm id j

module _ {X : Type 0} (held : FinMap nat_cmp X) (id : ℕ) where
  pub got_put : (x : X) (j : ℕ) → rows.get (rows.insert held id x) j ≡ cond (eq_by_cmp nat_cmp j id) (Some x) (rows.get held j)
  got_put x j = rows.get-insert nat_cmp_total held id x j

  pub got_drop : (j : ℕ) → rows.get (rows.remove held id) j ≡ cond (eq_by_cmp nat_cmp j id) None (rows.get held j)
  got_drop j = rows.get-remove nat_cmp_total held id j

  -- what holds of all that is held holds so after a change
  pub fits_put : (P : X → Type 0) (x : X) → ((j : ℕ) (y : X) → rows.get held j ≡ Some y → P y) → P x
      → (j : ℕ) (y : X) → rows.get (rows.insert held id x) j ≡ Some y → P y
  fits_put P x all here j y got = by_same (eq_by_cmp nat_cmp j id) (sym (got_put x j) ∙ got) where
    by_same : (t : Bool) → cond t (Some x) (rows.get held j) ≡ Some y → P y
    by_same true same = subst P (same_Some x y same) here
    by_same false same = all j y same

  pub fits_drop : (P : X → Type 0) → ((j : ℕ) (y : X) → rows.get held j ≡ Some y → P y)
      → (j : ℕ) (y : X) → rows.get (rows.remove held id) j ≡ Some y → P y
  fits_drop P all j y got = by_same (eq_by_cmp nat_cmp j id) (sym (got_drop j) ∙ got) where
    by_same : (t : Bool) → cond t None (rows.get held j) ≡ Some y → P y
    by_same true same = absurd (none-some y same)
    by_same false same = all j y same

  -- a map of the code goes along
  pub kept_put : (m n : BTreeMap ℕ X) (x : X) → ((j : ℕ) → tree.get_by (nat_cmp j) m ≡ rows.get held j) → tree.Updates nat_cmp m n id (Some x)
      → (j : ℕ) → tree.get_by (nat_cmp j) n ≡ rows.get (rows.insert held id x) j
  kept_put m n x kept update j =
      update.0 j ∙ ap (λ t. cond t (Some x) (tree.get nat_cmp m j)) (turned id j) ∙ ap (cond (eq_by_cmp nat_cmp j id) (Some x)) (kept j) ∙ sym (got_put x j)

  pub kept_drop : (m n : BTreeMap ℕ X) → ((j : ℕ) → tree.get_by (nat_cmp j) m ≡ rows.get held j) → tree.UpdatesBy nat_cmp (nat_cmp id) m n None
      → (j : ℕ) → tree.get_by (nat_cmp j) n ≡ rows.get (rows.remove held id) j
  kept_drop m n kept update j =
      update.0 j ∙ ap (λ t. cond t None (tree.get nat_cmp m j)) (turned id j) ∙ ap (cond (eq_by_cmp nat_cmp j id) None) (kept j) ∙ sym (got_drop j)

  module _ (under : X → List ℕ → Bool) (old new : Family)
      (filed : (bytes : List ℕ) (j : ℕ) → has old bytes j ≡ passes (λ y. under y bytes) (rows.get held j)) where
    -- what is filed goes along
    pub filed_put : (x : X) → rows.get held id ≡ None → Puts old new (under x) id
        → (bytes : List ℕ) (j : ℕ) → has new bytes j ≡ passes (λ y. under y bytes) (rows.get (rows.insert held id x) j)
    filed_put x absent puts bytes j = puts bytes j ∙ by_same (eq_by_cmp nat_cmp j id) refl ∙ ap (passes (λ y. under y bytes)) (sym (got_put x j)) where
      by_same : (t : Bool) → eq_by_cmp nat_cmp j id ≡ t → (has old bytes j || (under x bytes && t)) ≡ passes (λ y. under y bytes) (cond t (Some x) (rows.get held j))
      by_same true same =
          ap (λ b. b || (under x bytes && true)) (filed bytes j ∙ ap (passes (λ y. under y bytes)) (ap (rows.get held) (same_id j id same) ∙ absent))
          ∙ and_true (under x bytes)
      by_same false _ = ap (λ b. has old bytes j || b) (and_false (under x bytes)) ∙ or_false (has old bytes j) ∙ filed bytes j

    pub filed_drop : (x : X) → rows.get held id ≡ Some x → Takes old new (under x) id
        → (bytes : List ℕ) (j : ℕ) → has new bytes j ≡ passes (λ y. under y bytes) (rows.get (rows.remove held id) j)
    filed_drop x present takes bytes j = takes bytes j ∙ by_same (eq_by_cmp nat_cmp j id) refl ∙ ap (passes (λ y. under y bytes)) (sym (got_drop j)) where
      and_not : (b : Bool) → (b && not (b && true)) ≡ false
      and_not true = refl
      and_not false = refl

      by_same : (t : Bool) → eq_by_cmp nat_cmp j id ≡ t → (has old bytes j && not (under x bytes && t)) ≡ passes (λ y. under y bytes) (cond t None (rows.get held j))
      by_same true same =
          ap (λ b. b && not (under x bytes && true)) (filed bytes j ∙ ap (passes (λ y. under y bytes)) (ap (rows.get held) (same_id j id same) ∙ present))
          ∙ and_not (under x bytes)
      by_same false _ = ap (λ b. has old bytes j && not b) (and_false (under x bytes)) ∙ and_true (has old bytes j) ∙ filed bytes j

-- two tests that agree on what is held
pub passes_same : {X : Type 0} (f g : X → Bool) (o : Option X) → ((x : X) → o ≡ Some x → f x ≡ g x) → passes f o ≡ passes g o
passes_same f g None same = refl
passes_same f g (Some x) same = same x refl

pub least_same : (f g : ℕ → Bool) (outside : List ℕ) (o : Option ℕ) → ((j : ℕ) → f j ≡ g j) → IsLeast f outside o → IsLeast g outside o
least_same f g outside None same least = λ j found. least j (same j ∙ found)
least_same f g outside (Some id) same least = (sym (same id) ∙ least.0, least.1, λ j low found. least.2 j low (same j ∙ found))

pub nothing_least : (f : ℕ → Bool) (outside : List ℕ) → ((j : ℕ) → f j ≡ false) → IsLeast f outside None
nothing_least f outside none = λ j found. absurd (false≢true (sym (none j) ∙ found))
