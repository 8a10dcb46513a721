-- An image that is put at a row which has none, and the indexes with it.
use Rattle.std.proofs.lemmas.Bool.{cases_lt}
use Rattle.std.proofs.Common.{inl, inr, ◌≡◌, ℕ, ◌≤◌, min, Bool, true, false, cond, ◌||◌, ◌&&◌, List, Option, Some, None, is_some, sym, refl, ap, ◌∙◌, subst, arith}
use Rattle.std.specs.Map.{lookup}
use Rattle.std.specs.Option.{option_map}
use Rattle.std.specs.BTreeMap.{is_at}
use Rattle.std.specs.Ordering.{nat_cmp, is_eq}
use Rattle.std.proofs.lemmas.Cmp.{nat_cmp_total, tied_itself}
use Rattle.std.proofs.lemmas.Map.Lookups.{exact_unsigned}
use Rattle.pk_txn.specs.declared.image.Image.{Image}
use Rattle.pk_txn.specs.declared.row_key.RowKey.{RowKey}
use Rattle.pk_txn.specs.Images.{key_cmp, image_of, image_at, had_row, changed_by, IsFirstChange, IsLeastOf}
use Rattle.pk_txn.specs.Indexed.{IsIndexed, IsRowIndexed, earliest}
use Rattle.pk_txn.proofs.KeyOrder.{key, is_equal, at_key, itself}

-- the rows that were there, with one more image
there_step : (b at held : Bool) (old : Option Image) (image : Image) → held ≡ had_row old → (at ≡ true → old ≡ None) → b ≡ is_some image.row
    → ((b && at) || held) ≡ had_row (cond at (Some image) old)
there_step true true held old image h none e = e
there_step false true held old image h none e = h ∙ (ap had_row (none refl) ∙ e)
there_step true false held old image h none e = h
there_step false false held old image h none e = h

same_least : (f g : ℕ → Option ℕ) → ((k : ℕ) → g k ≡ f k) → (o : Option ℕ) → IsLeastOf f o → IsLeastOf g o
same_least f g same None h = λ k. same k ∙ h k
same_least f g same (Some m) h = ((h.0.0, same h.0.0 ∙ h.0.1), λ k n e. h.1 k n (sym (same k) ∙ e))

-- one more number among those of a function
module _ (f g : ℕ → Option ℕ) (at : ℕ → Bool) (c : ℕ) (step : (k : ℕ) → g k ≡ cond (at k) (Some c) (f k))
    (none : (k : ℕ) → at k ≡ true → f k ≡ None) where
  old_value : (k n : ℕ) (b : Bool) → at k ≡ b → f k ≡ Some n → g k ≡ Some n
  old_value k n true e h = let absent : f k ≡ None = none k e in cc
  old_value k n false e h = step k ∙ (ap (λ b. cond b (Some c) (f k)) e ∙ h)

  no_lower : (m k n : ℕ) (b : Bool) → at k ≡ b → m ≤ c → (f k ≡ Some n → m ≤ n) → g k ≡ Some n → m ≤ n
  no_lower m k n true e low h is =
      let one : Some c ≡ Some n = sym (step k ∙ ap (λ b. cond b (Some c) (f k)) e) ∙ is in
      let same : c ≡ n = cc in
      omega arith
  no_lower m k n false e low h is = h (sym (step k ∙ ap (λ b. cond b (Some c) (f k)) e) ∙ is)

  new_value : (k : ℕ) → at k ≡ true → g k ≡ Some c
  new_value k e = step k ∙ ap (λ b. cond b (Some c) (f k)) e

  lesser_least : (place : ℕ) → at place ≡ true → (m : ℕ) → IsLeastOf f (Some m) → (b : Bool) → (b ≡ true → c ≤ m) → (b ≡ false → m ≤ c) → IsLeastOf g (Some (cond b c m))
  lesser_least place here m h true low high =
      ((place, new_value place here), λ k n e. no_lower c k n (at k) refl (omega arith) (λ old. let most : m ≤ n = h.1 k n old in let less : c ≤ m = low refl in omega arith) e)
  lesser_least place here m h false low high =
      ((h.0.0, old_value h.0.0 m (at h.0.0) refl h.0.1), λ k n e. no_lower m k n (at k) refl (high refl) (h.1 k n) e)

  pub added_least : (place : ℕ) → at place ≡ true → (o : Option ℕ) → IsLeastOf f o → IsLeastOf g (Some (earliest c o))
  added_least place here None h =
      ((place, new_value place here), λ k n e. no_lower c k n (at k) refl (omega arith) (λ old. let absent : f k ≡ None = h k in cc) e)
  added_least place here (Some m) h =
      elim (cases_lt c m) [
        | inl low ↦ let is : min c m ≡ c = omega arith in subst (λ n. IsLeastOf g (Some n)) (sym is) (lesser_least place here m h true (λ _. omega arith) (λ e. cc))
        | inr high ↦ let is : min c m ≡ m = omega arith in subst (λ n. IsLeastOf g (Some n)) (sym is) (lesser_least place here m h false (λ e. cc) (λ _. high))
      ]

module _ (images after : List (RowKey × Image)) (rows rows_after : List RowKey) (changed changed_after : List (ℕ × ℕ)) (k : RowKey) (image : Image)
    (absent : image_of images k ≡ None)
    (put : (q : RowKey) → image_of after q ≡ cond (is_at (key_cmp k) q) (Some image) (image_of images q)) where
  gone : (q : RowKey) → is_at (key_cmp k) q ≡ true → image_of images q ≡ None
  gone q h = ap (image_of images) (sym (at_key k q h)) ∙ absent

  step : (t id : ℕ) → changed_by after t id ≡ cond (is_at (key_cmp k) (key t id)) (Some image.commit) (changed_by images t id)
  step t id = ap (option_map (λ i. i.commit)) (put (key t id)) ∙ into (is_at (key_cmp k) (key t id)) where
    into : (b : Bool) → option_map (λ i. i.commit) (cond b (Some image) (image_at images t id)) ≡ cond b (Some image.commit) (changed_by images t id)
    into true = refl
    into false = refl

  first_at : (t : ℕ) (b : Bool) → is_at (nat_cmp k.table) t ≡ b → IsFirstChange images t (lookup (is_at (nat_cmp t)) changed)
      → IsFirstChange after t (cond b (Some (earliest image.commit (lookup (is_at (nat_cmp k.table)) changed))) (lookup (is_at (nat_cmp t)) changed))
  first_at t true e h =
      let same : k.table ≡ t = exact_unsigned k.table t (is_equal _ e) in
      let here : is_at (key_cmp k) (key t k.id) ≡ true = subst (λ u. is_at (key_cmp k) (key u k.id) ≡ true) same (itself k) in
      let h' : IsFirstChange images t (lookup (is_at (nat_cmp k.table)) changed) = subst (λ u. IsFirstChange images t (lookup (is_at (nat_cmp u)) changed)) (sym same) h in
      added_least (changed_by images t) (changed_by after t) (λ id. is_at (key_cmp k) (key t id)) image.commit (step t)
      (λ id at. ap (option_map (λ i. i.commit)) (gone (key t id) at)) k.id here _ h'
  first_at t false e h =
      same_least (changed_by images t) (changed_by after t) (λ id. step t id ∙ ap (λ b. cond b (Some image.commit) (changed_by images t id)) (apart id (is_at (key_cmp k) (key t id)) refl)) _ h where
        apart : (id : ℕ) (b : Bool) → is_at (key_cmp k) (key t id) ≡ b → b ≡ false
        apart id true at = let same : k.table ≡ t = ap (λ q. q.table) (at_key k (key t id) at) in
            let one : is_at (nat_cmp t) t ≡ true = ap is_eq (tied_itself nat_cmp_total t) in
            let two : is_at (nat_cmp k.table) t ≡ true = subst (λ u. is_at (nat_cmp u) t ≡ true) (sym same) one in cc
        apart id false at = refl

  pub stored : IsIndexed images rows changed
      → IsRowIndexed k (is_some image.row) rows rows_after
      → ((t : ℕ) → lookup (is_at (nat_cmp t)) changed_after ≡ cond (is_at (nat_cmp k.table) t) (Some (earliest image.commit (lookup (is_at (nat_cmp k.table)) changed))) (lookup (is_at (nat_cmp t)) changed))
      → IsIndexed after rows_after changed_after
  stored h there firsts = record {
    were_there = λ q. there q ∙ (there_step (is_some image.row) (is_at (key_cmp k) q) _ (image_of images q) image (h.were_there q) (gone q) refl ∙ sym (ap had_row (put q)));
    first = λ t. subst (IsFirstChange after t) (sym (firsts t)) (first_at t (is_at (nat_cmp k.table) t) refl (h.first t));
  }
