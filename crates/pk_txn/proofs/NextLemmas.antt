-- What the first key above a row in the index of rows says of the images.
use Rattle.std.proofs.lemmas.Bool.{eqb-true, eqb-false}
use Rattle.std.specs.Bool.{then_some}
use Rattle.std.proofs.Common.{◌≡◌, ◌==◌, ℕ, ◌≤◌, ◌≢◌, Bool, true, false, List, [], ◌∷◌, Some, None, IsTrue, sym, refl, ap, ◌∙◌, subst, arith}
use Rattle.std.specs.List.{list_any}
use Rattle.std.specs.BTreeMap.{is_at}
use Rattle.std.specs.BTreeSet.{BTreeSet, IsKeyRangeOf}
use Rattle.std.specs.declared.ops.Bound.TheVariants.{Excluded, Unbounded}
use Rattle.std.specs.Ordering.{is_gt}
use Rattle.std.specs.declared.cmp.Ordering.TheVariants.{Less}
use Rattle.pk_txn.specs.declared.image.Image.{Image}
use Rattle.pk_txn.specs.declared.row_key.RowKey.{RowKey}
use Rattle.pk_txn.specs.Images.{key_cmp, image_of, had_row, IsNextImage}
use Rattle.pk_txn.proofs.KeyOrder.{key, less_key, key_less, key_at_most, tables_at_most}

false_unless : (b : Bool) → (b ≡ true → ⊥) → b ≡ false
false_unless true h = absurd (h refl)
false_unless false h = refl

-- what the range of the keys above a row says of its first, or of all where it has none
pub range_first : (rows : BTreeSet RowKey) (t i : ℕ) (r : List RowKey) (found : RowKey) (rest : List RowKey)
    → IsKeyRangeOf key_cmp (Excluded (key t i)) Unbounded rows r → r ≡ found ∷ rest
    → (key_cmp (key t i) found ≡ Less) × IsTrue (list_any (is_at (key_cmp found)) rows.keys)
    × ((q : RowKey) → key_cmp (key t i) q ≡ Less → IsTrue (list_any (is_at (key_cmp q)) rows.keys) → is_gt (key_cmp found q) ≡ false)
range_first rows t i r found rest h e =
    let g = subst (IsKeyRangeOf key_cmp (Excluded (key t i)) Unbounded rows) e h in
    (g.1.0.0, g.1.1, λ q a b. g.2 q (a, tt) b)

pub range_empty : (rows : BTreeSet RowKey) (t i : ℕ) (r : List RowKey) → IsKeyRangeOf key_cmp (Excluded (key t i)) Unbounded rows r → r ≡ []
    → (q : RowKey) → key_cmp (key t i) q ≡ Less → list_any (is_at (key_cmp q)) rows.keys ≡ false
range_empty rows t i r h e q a = h.5 e q (a, tt)

module _ (images : List (RowKey × Image)) (rows : List RowKey)
    (indexed : (q : RowKey) → list_any (is_at (key_cmp q)) rows ≡ had_row (image_of images q)) where
  in_table : (t i k : ℕ) → key_cmp (key t i) (key t k) ≡ Less → IsTrue (list_any (is_at (key_cmp (key t k))) rows)
      → ((q : RowKey) → key_cmp (key t i) q ≡ Less → IsTrue (list_any (is_at (key_cmp q)) rows) → is_gt (key_cmp (key t k) q) ≡ false)
      → IsNextImage images t i (Some k)
  in_table t i k above held least = (
    key_less t i k above,
    sym (indexed (key t k)) ∙ held,
    λ n a b. false_unless _ (λ there. let most : k ≤ n = key_at_most t k n (least (key t n) (less_key t i n a) (indexed (key t n) ∙ there)) in absurd (omega arith)),
  )

  same_table : (t i : ℕ) (found : RowKey) → found.table ≡ t → key_cmp (key t i) found ≡ Less → IsTrue (list_any (is_at (key_cmp found)) rows)
      → ((q : RowKey) → key_cmp (key t i) q ≡ Less → IsTrue (list_any (is_at (key_cmp q)) rows) → is_gt (key_cmp found q) ≡ false)
      → IsNextImage images t i (Some found.id)
  same_table t i found same =
      let P : ℕ → Type 0 = λ u. key_cmp (key u i) found ≡ Less → IsTrue (list_any (is_at (key_cmp found)) rows)
      → ((q : RowKey) → key_cmp (key u i) q ≡ Less → IsTrue (list_any (is_at (key_cmp q)) rows) → is_gt (key_cmp found q) ≡ false)
      → IsNextImage images u i (Some found.id) in
      subst P same (in_table found.table i found.id)

  other_table : (t i : ℕ) (found : RowKey) → found.table ≢ t → key_cmp (key t i) found ≡ Less
      → ((q : RowKey) → key_cmp (key t i) q ≡ Less → IsTrue (list_any (is_at (key_cmp q)) rows) → is_gt (key_cmp found q) ≡ false)
      → IsNextImage images t i None
  other_table t i found other above least n a =
      false_unless _ (λ there.
      let low : t ≤ found.table = tables_at_most (key t i) found (ap is_gt above) in
      let high : found.table ≤ t = tables_at_most found (key t n) (least (key t n) (less_key t i n a) (indexed (key t n) ∙ there)) in
      other (omega arith))

  -- there is a first key above, of whatever table
  pub next_found : (t i : ℕ) (found : RowKey) → key_cmp (key t i) found ≡ Less → IsTrue (list_any (is_at (key_cmp found)) rows)
      → ((q : RowKey) → key_cmp (key t i) q ≡ Less → IsTrue (list_any (is_at (key_cmp q)) rows) → is_gt (key_cmp found q) ≡ false)
      → (b : Bool) → (found.table == t) ≡ b → IsNextImage images t i (then_some b found.id)
  next_found t i found above held least true same = same_table t i found (eqb-true found.table t same) above held least
  next_found t i found above held least false same = other_table t i found (eqb-false found.table t same) above least

  -- there is none
  pub next_none : (t i : ℕ) → ((q : RowKey) → key_cmp (key t i) q ≡ Less → list_any (is_at (key_cmp q)) rows ≡ false) → IsNextImage images t i None
  next_none t i none n a = sym (indexed (key t n)) ∙ none (key t n) (less_key t i n a)
