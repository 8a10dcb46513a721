-- The keys of a table: what they hold by, and where one is broken.
use Rattle.std.proofs.Common.{◌≡◌, refl, sym, subst, ℕ, zero, suc, ◌+◌, ◌^◌, ◌<◌, true, false, not, List, [], ◌∷◌, length, get_or, All, Some, None, slice_get, arith}
use Rattle.std.specs.Prelude.{find, option_map}
use Rattle.std.specs.List.{list_all, list_any}
use Rattle.std.proofs.lemmas.Bool.{and_parts, and_from, or_parts, or_from, not-true, not_from_false}
use Rattle.std.proofs.lemmas.List.{length-map}
use Rattle.std.proofs.lemmas.Option.{get_or_from_slice_get, slice_get_within, slice_get-get_or}
use Rattle.pk_values.specs.ColumnSet.{columns}
use Rattle.pk_values.specs.Values.{fits_kinds}
use Rattle.pk_values.specs.declared.key.KeyDecl.{KeyDecl}
use Rattle.pk_values.specs.declared.key.Sort.{Sort}
use Rattle.pk_values.specs.declared.key.Sort.TheVariants as sorts
use Rattle.pk_values.specs.declared.kind.Kind.{Kind}
use Rattle.pk_values.specs.declared.placed.Placed.{Placed}
use Rattle.pk_values.specs.declared.value.Value.{Value}
use Rattle.pk_similar.specs.Similarity.{are_below, weak, no_pair}
use Rattle.pk_similar.proofs.PairLemmas.{strong_weak}
use Rattle.pk_similar.proofs.TableLemmas.{table_weight, kept_apart, kept_apart_completes, no_strong_agree, apart_no_strong, no_weak_agree, certain_no_weak}
use Rattle.pk_schema.specs.Admits.{Admits}
use Rattle.pk_schema.specs.Shapes.{Shape, IsShape, kinds_of}
use Rattle.pk_schema.proofs.FitLemmas.{admitted_rows_fit}
use Rattle.pk_rule.specs.Tables.{HoldsAs, KeyHolds}
use Rattle.pk_rule.proofs.RuleLemmas.{one_holds}
use Rattle.pk_guard.specs.Breaks.{are_similar, breaks, first_pair, break_of, first_broken, first_break}
use Rattle.pk_guard.specs.Holds.{KeysHold, values_of}
use Rattle.pk_guard.specs.Splits.{AreWide}
use Rattle.pk_guard.proofs.FirstLemmas.{neither, none_first}
use Rattle.pk_values.proofs.ColumnLemmas.{columns_below}
use Rattle.pk_values.proofs.ListLemmas.{map_none}

-- ---- the columns of a key are columns of the table

pub key_below : (s : Shape) (i : ℕ) (k : KeyDecl) → IsShape s → slice_get s.keys i ≡ Some k → are_below (length s.columns) (columns k.columns) ≡ true
key_below s i k shape is =
    let small = shape.keys_inside i k (slice_get_within s.keys i k is) in
    columns_below k.columns (length s.columns) (subst (λ (key : KeyDecl). key.columns < 2 ^ length s.columns) (get_or_from_slice_get s.keys i k k is) small)

-- ---- admitted rows

first_all : (P : Placed → Type 0) (p : Placed) (ps : List Placed) → All P (p ∷ ps) → P p × All P ps
first_all P p ps all = (all 0 p (omega arith), λ i d within. all (suc i) d (omega (arith, within)))

pub wide_admitted : (s : Shape) (k : KeyDecl) (rows : List Placed) → are_below (length s.columns) (columns k.columns) ≡ true
    → All (λ (p : Placed). Admits s p.row) rows → AreWide k rows
wide_admitted s k [] below all = refl
wide_admitted s k (p ∷ ps) below all =
    let parts = first_all (λ (q : Placed). Admits s q.row) p ps all in
    and_from _ _ (subst (λ n. are_below n (columns k.columns) ≡ true) (sym ((admitted_rows_fit s p.row).0 parts.0).width) below) (wide_admitted s k ps below parts.1)

pub fit_admitted : (s : Shape) (rows : List Placed) → All (λ (p : Placed). Admits s p.row) rows → list_all (fits_kinds (kinds_of s.columns)) (values_of rows) ≡ true
fit_admitted s [] all = refl
fit_admitted s (p ∷ ps) all =
    let parts = first_all (λ (q : Placed). Admits s q.row) p ps all in
    and_from _ _ ((admitted_rows_fit s p.row).0 parts.0).kinds (fit_admitted s ps parts.1)

count_kinds : (s : Shape) → length (kinds_of s.columns) ≡ length s.columns
count_kinds s = length-map s.columns _

pub kinds_below : (s : Shape) (k : KeyDecl) → are_below (length s.columns) (columns k.columns) ≡ true → are_below (length (kinds_of s.columns)) (columns k.columns) ≡ true
kinds_below s k below = subst (λ n. are_below n (columns k.columns) ≡ true) (sym (count_kinds s)) below

-- ---- a key holds where no two rows break it

found_any : (k : KeyDecl) (p : Placed) (ps : List Placed) → find (breaks k p) ps ≡ None → list_any (are_similar k.sort (columns k.columns) p.row) (values_of ps) ≡ false
found_any k p [] none = refl
found_any k p (q ∷ qs) none =
    let parts = none_first (breaks k p) q qs none in or_from _ _ parts.0 (found_any k p qs parts.1)

any_found : (k : KeyDecl) (p : Placed) (ps : List Placed) → list_any (are_similar k.sort (columns k.columns) p.row) (values_of ps) ≡ false → find (breaks k p) ps ≡ None
any_found k p [] none = refl
any_found k p (q ∷ qs) none =
    let parts = or_parts (breaks k p q) (list_any (are_similar k.sort (columns k.columns) p.row) (values_of qs)) none in
    rw parts.0 (any_found k p qs parts.1)

unbroken_apart : (k : KeyDecl) (rows : List Placed) → first_pair k rows ≡ None → no_pair (are_similar k.sort (columns k.columns)) (values_of rows) ≡ true
unfolding first_pair
unbroken_apart k [] none = refl
unbroken_apart k (p ∷ ps) none =
    let parts = neither (option_map (λ q. (p, q)) (find (breaks k p) ps)) (first_pair k ps) none in
    and_from _ _ (not_from_false _ (found_any k p ps (map_none (λ q. (p, q)) (find (breaks k p) ps) parts.0))) (unbroken_apart k ps parts.1)

apart_unbroken : (k : KeyDecl) (rows : List Placed) → no_pair (are_similar k.sort (columns k.columns)) (values_of rows) ≡ true → first_pair k rows ≡ None
unfolding first_pair
apart_unbroken k [] apart = refl
apart_unbroken k (p ∷ ps) apart =
    let related = are_similar k.sort (columns k.columns) in
    let parts = and_parts (not (list_any (related p.row) (values_of ps))) (no_pair related (values_of ps)) apart in
    rw (any_found k p ps (not-true _ parts.0)) (apart_unbroken k ps parts.1)

held_apart : (sort : Sort) (kinds : List Kind) (rows : List (List Value)) (cs : List ℕ) → list_all (fits_kinds kinds) rows ≡ true
    → HoldsAs sort kinds rows cs → no_pair (are_similar sort cs) rows ≡ true
held_apart sorts.Certain kinds rows cs fit certain = certain_no_weak kinds cs rows fit certain
held_apart sorts.Possible kinds rows cs fit possible = apart_no_strong kinds cs rows possible.0 possible.1 possible.2

apart_held : (sort : Sort) (kinds : List Kind) (rows : List (List Value)) (cs : List ℕ) → list_all (fits_kinds kinds) rows ≡ true
    → are_below (length kinds) cs ≡ true → no_pair (are_similar sort cs) rows ≡ true → HoldsAs sort kinds rows cs
apart_held sorts.Certain kinds rows cs fit below apart = λ full done. no_weak_agree kinds cs rows full done apart
apart_held sorts.Possible kinds rows cs fit below apart =
    let n = suc (table_weight rows) in
    (kept_apart kinds n rows, kept_apart_completes kinds n rows fit, no_strong_agree kinds cs below rows n fit (omega arith) apart)

pub held_unbroken : (kinds : List Kind) (rows : List Placed) (k : KeyDecl) → list_all (fits_kinds kinds) (values_of rows) ≡ true
    → KeyHolds kinds (values_of rows) k → first_pair k rows ≡ None
held_unbroken kinds rows k fit holds = apart_unbroken k rows (held_apart k.sort kinds (values_of rows) (columns k.columns) fit holds)

unbroken_held : (kinds : List Kind) (rows : List Placed) (k : KeyDecl) → list_all (fits_kinds kinds) (values_of rows) ≡ true
    → are_below (length kinds) (columns k.columns) ≡ true → first_pair k rows ≡ None → KeyHolds kinds (values_of rows) k
unbroken_held kinds rows k fit below none = apart_held k.sort kinds (values_of rows) (columns k.columns) fit below (unbroken_apart k rows none)

-- ---- all keys hold where there is no first break

broken_none : (kinds : List Kind) (place : ℕ) (ks : List KeyDecl) (rows : List Placed) → ((i : ℕ) (k : KeyDecl) → slice_get ks i ≡ Some k → first_pair k rows ≡ None)
    → first_broken kinds place ks rows ≡ None
unfolding first_broken
broken_none kinds place [] rows none = refl
broken_none kinds place (k ∷ ks) rows none = rw (none 0 k refl) (broken_none kinds (place + 1) ks rows (λ i key is. none (suc i) key is))

pub none_broken : (kinds : List Kind) (place : ℕ) (ks : List KeyDecl) (rows : List Placed) → first_broken kinds place ks rows ≡ None
    → (i : ℕ) (k : KeyDecl) → slice_get ks i ≡ Some k → first_pair k rows ≡ None
unfolding first_broken
none_broken kinds place [] rows none i key is = cc
none_broken kinds place (k ∷ ks) rows none zero key is =
    let same : k ≡ key = cc in
    let parts = neither (option_map (break_of kinds place k) (first_pair k rows)) (first_broken kinds (place + 1) ks rows) none in
    subst (λ (j : KeyDecl). first_pair j rows ≡ None) same (map_none (break_of kinds place k) (first_pair k rows) parts.0)
none_broken kinds place (k ∷ ks) rows none (suc i) key is =
    none_broken kinds (place + 1) ks rows (neither (option_map (break_of kinds place k) (first_pair k rows)) (first_broken kinds (place + 1) ks rows) none).1 i key is

-- no two rows break a key of a table whose keys hold
pub key_unbroken : (s : Shape) (rows : List Placed) (i : ℕ) (k : KeyDecl) → All (λ (p : Placed). Admits s p.row) rows → KeysHold s rows → slice_get s.keys i ≡ Some k
    → first_pair k rows ≡ None
key_unbroken s rows i k admitted hold is =
    held_unbroken (kinds_of s.columns) rows k (fit_admitted s rows admitted) (one_holds (kinds_of s.columns) (values_of rows) s.keys i k hold is)

pub keys_hold_nothing_breaks : (s : Shape) (rows : List Placed) → IsShape s → All (λ (p : Placed). Admits s p.row) rows
    → (KeysHold s rows → first_break s rows ≡ None) × (first_break s rows ≡ None → KeysHold s rows)
unfolding first_break
keys_hold_nothing_breaks s rows shape admitted = (
  (λ hold. broken_none (kinds_of s.columns) 1 s.keys rows (λ i k is. key_unbroken s rows i k admitted hold is)),
  (λ none i d within.
      let k = get_or s.keys i d in
      let is : slice_get s.keys i ≡ Some k = slice_get-get_or s.keys i d within in
      unbroken_held (kinds_of s.columns) rows k (fit_admitted s rows admitted) (kinds_below s k (key_below s i k shape is))
      (none_broken (kinds_of s.columns) 1 s.keys rows none i k is)),
)

-- ---- the values of a break

pub similar_weak : (sort : Sort) (cs : List ℕ) (a b : List Value) → are_similar sort cs a b ≡ true → weak cs a b ≡ true
similar_weak sorts.Certain cs a b similar = similar
similar_weak sorts.Possible cs a b similar = strong_weak a b cs similar
