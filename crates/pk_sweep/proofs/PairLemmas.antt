-- Pairs of places, and the rows at them.
use Rattle.std.proofs.Common.{◌≡◌, refl, sym, ◌∙◌, ap, subst, ℕ, zero, suc, ◌<◌, ◌≤◌, ◌+◌, ◌-◌, List, [], ◌∷◌, ◌++◌, length, drop, map, Some, get_or, slice_get, append_assoc, inl, inr, arith}
use Rattle.std.specs.List.{Contains, range_with_len}
use Rattle.std.proofs.lemmas.List.{drop_more, drop_all}
use Rattle.std.proofs.lemmas.List.Elements.{Contains-append_left, Contains-append_right, Contains-append_cases}
use Rattle.std.proofs.lemmas.Option.{slice_get-get_or}
use Rattle.pk_values.specs.declared.value.Value.{Value}
use Rattle.pk_sweep.specs.Pairs.{set_of, sets_beside, pair_sets}
use Rattle.pk_sweep.specs.Coding.{place_pairs}
use Rattle.pk_sweep.specs.Laws.{IsPairSet}
use Rattle.pk_sweep.proofs.ListLemmas.{in_none, in_map, map_in, in_place, place_in, range_split}

-- ---- what places have is what rows have

mapped_range : (f : ℕ → ℕ) (g : List Value → ℕ) (rows : List (List Value)) → ((j : ℕ) (b : List Value) → slice_get rows j ≡ Some b → f j ≡ g b)
    → (k m : ℕ) → k + m ≡ length rows → map f (range_with_len k m) ≡ map g (drop k rows)
mapped_range f g rows same k zero reached = ap (map g) (sym (drop_all k rows (omega (arith, reached))))
mapped_range f g rows same k (suc m) reached =
    let within : k < length rows = omega (arith, reached) in
    ap (λ x. x ∷ map f (range_with_len (k + 1) m)) (same k (get_or rows k []) (slice_get-get_or rows k [] within))
    ∙ ap (λ xs. g (get_or rows k []) ∷ xs) (mapped_range f g rows same (k + 1) m (omega (arith, reached)))
    ∙ ap (map g) (sym (drop_more rows k [] within))

-- for every two places is for each row and those behind it
pub place_pairs_are : (f : ℕ → ℕ → ℕ) (differ : List Value → List Value → List ℕ) (rows : List (List Value))
    → ((i j : ℕ) (a b : List Value) → slice_get rows i ≡ Some a → slice_get rows j ≡ Some b → f i j ≡ set_of (differ a b))
    → (k m : ℕ) → k + m ≡ length rows → place_pairs f (length rows) (range_with_len k m) ≡ pair_sets differ (drop k rows)
unfolding place_pairs pair_sets
place_pairs_are f differ rows same k zero reached = ap (pair_sets differ) (sym (drop_all k rows (omega (arith, reached))))
place_pairs_are f differ rows same k (suc m) reached =
    let within : k < length rows = omega (arith, reached) in
    let row = get_or rows k [] in
    let left : length rows - (k + 1) ≡ m = omega (arith, reached) in
    let beside : map (f k) (range_with_len (k + 1) (length rows - (k + 1))) ≡ sets_beside differ row (drop (k + 1) rows) =
    ap (λ n. map (f k) (range_with_len (k + 1) n)) left
    ∙ mapped_range (f k) (λ other. set_of (differ row other)) rows (λ j b stands. same k j row b (slice_get-get_or rows k [] within) stands) (k + 1) m (omega (arith, reached)) in
    ap (λ xs. xs ++ place_pairs f (length rows) (range_with_len (k + 1) m)) beside
    ∙ ap (λ xs. sets_beside differ row (drop (k + 1) rows) ++ xs) (place_pairs_are f differ rows same (k + 1) m (omega (arith, reached)))
    ∙ ap (pair_sets differ) (sym (drop_more rows k [] within))

-- ---- in halves

pub pairs_joined : (f : ℕ → ℕ → ℕ) (n : ℕ) (xs ys : List ℕ) → place_pairs f n (xs ++ ys) ≡ place_pairs f n xs ++ place_pairs f n ys
unfolding place_pairs
pairs_joined f n [] ys = refl
pairs_joined f n (i ∷ is) ys =
    let here = map (f i) (range_with_len (i + 1) (n - (i + 1))) in
    ap (λ zs. here ++ zs) (pairs_joined f n is ys) ∙ sym (append_assoc here (place_pairs f n is) (place_pairs f n ys))

pub pairs_in_halves : (f : ℕ → ℕ → ℕ) (n middle : ℕ) → middle ≤ n
    → place_pairs f n (range_with_len 0 n) ≡ place_pairs f n (range_with_len 0 middle) ++ place_pairs f n (range_with_len middle (n - middle))
pairs_in_halves f n middle within =
    let whole : middle + (n - middle) ≡ n = omega (arith, within) in
    let start : 0 + middle ≡ middle = omega arith in
    ap (λ m. place_pairs f n (range_with_len 0 m)) (sym whole)
    ∙ ap (place_pairs f n) (range_split 0 middle (n - middle) ∙ ap (λ k. range_with_len 0 middle ++ range_with_len k (n - middle)) start)
    ∙ pairs_joined f n (range_with_len 0 middle) (range_with_len middle (n - middle))

-- ---- any two places

pub to_places : (differ : List Value → List Value → List ℕ) (rows : List (List Value)) (x : ℕ) → Contains (pair_sets differ rows) x → IsPairSet differ rows x
unfolding pair_sets
to_places differ [] x found = absurd (in_none x found)
to_places differ (row ∷ rows) x found =
    elim (Contains-append_cases (sets_beside differ row rows) (pair_sets differ rows) x found) [
      | inl beside ↦
          let from = map_in (λ other. set_of (differ row other)) rows x beside in
          let place = in_place rows from.0 from.1 in
          (0, suc place.0, row, from.0, omega arith, refl, place.1, sym from.2)
      | inr behind ↦
          let (i, j, a, b, order, first, second, is) = to_places differ rows x behind in
          (suc i, suc j, a, b, omega (arith, order), first, second, is)
    ]

pub from_places : (differ : List Value → List Value → List ℕ) (rows : List (List Value)) (x i j : ℕ) (a b : List Value) → i < j → slice_get rows i ≡ Some a
    → slice_get rows j ≡ Some b → x ≡ set_of (differ a b) → Contains (pair_sets differ rows) x
unfolding pair_sets
from_places differ [] x i j a b order first second is = absurd cc
from_places differ (row ∷ rows) x i zero a b order first second is = absurd (omega (arith, order))
from_places differ (row ∷ rows) x zero (suc j) a b order first second is =
    Contains-append_left (sets_beside differ row rows) (pair_sets differ rows) x
    (subst (Contains (sets_beside differ row rows)) (ap (λ r. set_of (differ r b)) (same_row row a first) ∙ sym is)
    (in_map (λ other. set_of (differ row other)) rows b (place_in rows j b second)))
  where
    same_row : (r s : List Value) → Some r ≡ Some s → r ≡ s
    same_row r s same = cc
from_places differ (row ∷ rows) x (suc i) (suc j) a b order first second is =
    Contains-append_right (sets_beside differ row rows) (pair_sets differ rows) x (from_places differ rows x i j a b (omega (arith, order)) first second is)
