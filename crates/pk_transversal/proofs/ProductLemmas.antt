-- The minimal sets that meet some edges, made to meet one more.
use Rattle.std.proofs.Common.{◌≡◌, refl, sym, ◌∙◌, ap, subst, ℕ, ◌<◌, ◌+◌, ◌≤◌, Bool, true, false, not, List, [], ◌∷◌, ◌++◌, map, append_assoc, append-nil, length, take, drop, get_or, inl, inr}
use Rattle.std.specs.List.{All, Contains}
use Rattle.std.proofs.lemmas.Bool.{cases_Bool, not-true, both_ways}
use Rattle.std.proofs.lemmas.List.{take_more, drop_more, drop_all}
use Rattle.std.proofs.lemmas.List.Elements.{All-contains, All-take, Contains-append_left, Contains-append_right, Contains-append_cases}
use Rattle.pk_values.specs.ColumnSet.{IsColumnSet, has_column, columns, is_subset}
use Rattle.pk_values.proofs.ColumnLemmas.{subset_members, subset_from_members}
use Rattle.pk_transversal.specs.Laws.{MeetsAll}
use Rattle.pk_transversal.specs.Minimal.{IsMinimal, Lists}
use Rattle.pk_transversal.specs.Steps.{has_inside, with_column, grown, all_grown, meeting, missing, product}
use Rattle.pk_transversal.specs.Transversals.{meets, transversals}
use Rattle.pk_transversal.proofs.ListLemmas.{in_none, in_cases, in_first, in_rest, in_kept, kept_in, in_map, map_in, any_at, any_from}
use Rattle.pk_transversal.proofs.OrderLemmas.{one_list, lists_same}
use Rattle.pk_transversal.proofs.SetLemmas.{subset_trans, subset_same, column_of, column_below, in_columns, with_column_set, with_has_column, with_contains, with_cases, with_inside}
use Rattle.pk_transversal.proofs.MinimalLemmas.{AreSets}
use Rattle.pk_transversal.proofs.MeetLemmas.{meets_at, meets_from, all_more, more_parts, more_from}
use Rattle.pk_transversal.proofs.TransversalLemmas.{transversals_listed, transversal_inside}

-- ---- what is in the product

grown_at : (kept cs : List ℕ) (t z : ℕ) → Contains (grown kept cs t) z
    → (c : ℕ) × Contains cs c × (with_column t c ≡ z) × (has_inside kept z ≡ false)
grown_at kept cs t z found =
    let passed = kept_in (λ x. not (has_inside kept x)) (map (with_column t) cs) z found in
    let from = map_in (with_column t) cs z passed.0 in
    (from.0, from.1, from.2, not-true (has_inside kept z) passed.1)

grown_from : (kept cs : List ℕ) (t c : ℕ) → Contains cs c → has_inside kept (with_column t c) ≡ false → Contains (grown kept cs t) (with_column t c)
grown_from kept cs t c found none =
    in_kept (λ x. not (has_inside kept x)) (map (with_column t) cs) (with_column t c) (in_map (with_column t) cs c found) (rw none refl)

all_grown_at : (kept cs ts : List ℕ) (z : ℕ) → Contains (all_grown kept cs ts) z → (t : ℕ) × Contains ts t × Contains (grown kept cs t) z
unfolding all_grown
all_grown_at kept cs [] z found = absurd (in_none z found)
all_grown_at kept cs (t ∷ ts) z found =
    elim (Contains-append_cases (grown kept cs t) (all_grown kept cs ts) z found) [
      | inl here ↦ (t, in_first t ts, here)
      | inr rest ↦ let later = all_grown_at kept cs ts z rest in (later.0, in_rest t ts later.0 later.1, later.2)
    ]

all_grown_from : (kept cs ts : List ℕ) (t z : ℕ) → Contains ts t → Contains (grown kept cs t) z → Contains (all_grown kept cs ts) z
unfolding all_grown
all_grown_from kept cs [] t z found made = absurd (in_none t found)
all_grown_from kept cs (s ∷ ts) t z found made =
    elim (in_cases s ts t found) [
      | inl same ↦ Contains-append_left (grown kept cs s) (all_grown kept cs ts) z (subst (λ w. Contains (grown kept cs w) z) (sym same) made)
      | inr rest ↦ Contains-append_right (grown kept cs s) (all_grown kept cs ts) z (all_grown_from kept cs ts t z rest made)
    ]

-- ---- the minimal ones that meet one edge more

module _ (edges : List ℕ) (edge : ℕ) (sets : List ℕ) (are_sets : AreSets edges) (edge_set : IsColumnSet edge) (listed : Lists (IsMinimal (MeetsAll edges)) sets) where
  abbrev Wanted : ℕ → Type 0
  Wanted x = MeetsAll (edges ++ edge ∷ []) x

  abbrev kept : List ℕ
  kept = meeting edge sets

  -- a set that meets the edges before, with a column of this edge
  grown_meets : (t c : ℕ) → MeetsAll edges t → has_column edge c ≡ true → c < 32 → Wanted (with_column t c)
  grown_meets t c all in_edge low =
      let is_set : IsColumnSet (with_column t c) = with_column_set t c all.0 low in
      more_from edges edge (with_column t c) (is_set, all_more edges t (with_column t c) are_sets all.0 (with_contains t c) all.1)
      (meets_from (with_column t c) edge c edge_set in_edge (with_has_column t c))

  kept_is_minimal : (x : ℕ) → Contains kept x → IsMinimal Wanted x
  kept_is_minimal x found =
      let both = kept_in (λ y. meets y edge) sets x found in
      let minimal = listed.only x both.0 in
      record {
        holds = more_from edges edge x minimal.holds both.1;
        least = λ y all inside. minimal.least y (more_parts edges edge y all).0 inside;
      }

  -- a minimal set of the edges before that lies inside a grown one, and doesn't meet the edge, is what was grown
  ungrown : (t c s : ℕ) → IsMinimal (MeetsAll edges) t → IsMinimal (MeetsAll edges) s → has_column edge c ≡ true → meets s edge ≡ false
      → is_subset s (with_column t c) ≡ true → s ≡ t
  ungrown t c s t_minimal s_minimal in_edge apart inside =
      t_minimal.least s s_minimal.holds
      (subset_from_members s t (λ k holds. elim (with_cases t c k (subset_members s (with_column t c) k s_minimal.holds.0 inside holds)) [
        | inl same ↦
            absurd (both_ways (meets s edge) apart (meets_from s edge c edge_set in_edge (subst (λ j. has_column s j ≡ true) same holds)))
        | inr in_t ↦ in_t
      ]))

  -- what meets the edge inside a grown set has the column that was added
  has_added : (t c y : ℕ) → IsColumnSet y → meets t edge ≡ false → is_subset y (with_column t c) ≡ true → meets y edge ≡ true → has_column y c ≡ true
  has_added t c y y_set apart inside holds =
      let shared = meets_at y edge holds in
      elim (with_cases t c shared.0 (subset_members y (with_column t c) shared.0 y_set inside shared.2)) [
        | inl same ↦ subst (λ j. has_column y j ≡ true) same shared.2
        | inr in_t ↦ absurd (both_ways (meets t edge) apart (meets_from t edge shared.0 edge_set shared.1 in_t))
      ]

  grown_is_minimal : (t c : ℕ) → Contains (missing edge sets) t → Contains (columns edge) c → has_inside kept (with_column t c) ≡ false
      → IsMinimal Wanted (with_column t c)
  grown_is_minimal t c found in_edge none =
      let both = kept_in (λ x. not (meets x edge)) sets t found in
      let apart : meets t edge ≡ false = not-true (meets t edge) both.1 in
      let minimal = listed.only t both.0 in
      let has : has_column edge c ≡ true = column_of edge c in_edge in
      let wanted : Wanted (with_column t c) = grown_meets t c minimal.holds has (column_below edge c in_edge) in
      record {
        holds = wanted;
        least = λ y all inside.
            let parts = more_parts edges edge y all in
            let s = transversal_inside edges y are_sets parts.0 in
            let deeper : is_subset s.0 (with_column t c) ≡ true = subset_trans s.0 y (with_column t c) s.1.holds.0 all.0 s.2 inside in
            elim (cases_Bool (meets s.0 edge)) [
              | inl holds ↦
                  let in_kept_sets = in_kept (λ x. meets x edge) sets s.0 (listed.every s.0 s.1) holds in
                  absurd (both_ways (has_inside kept (with_column t c)) none (any_from (λ z. is_subset z (with_column t c)) kept s.0 in_kept_sets deeper))
              | inr misses ↦
                  let same : s.0 ≡ t = ungrown t c s.0 minimal s.1 has misses deeper in
                  let t_inside : is_subset t y ≡ true = subst (λ w. is_subset w y ≡ true) same s.2 in
                  let up : is_subset (with_column t c) y ≡ true =
                  with_inside t c y minimal.holds.0 t_inside (has_added t c y all.0 apart inside parts.1) in
                  subset_same y (with_column t c) all.0 wanted.0 inside up
            ];
      }

  product_is_minimal : (x : ℕ) → Contains (product sets edge) x → IsMinimal Wanted x
  unfolding product
  product_is_minimal x found =
      elim (Contains-append_cases kept (all_grown kept (columns edge) (missing edge sets)) x found) [
        | inl first ↦ kept_is_minimal x first
        | inr later ↦
            let from = all_grown_at kept (columns edge) (missing edge sets) x later in
            let one = grown_at kept (columns edge) from.0 x from.2 in
            subst (IsMinimal Wanted) one.2
            (grown_is_minimal from.0 one.0 from.1 one.1 (subst (λ w. has_inside kept w ≡ false) (sym one.2) one.3))
      ]

  -- inside a minimal set that was grown lies no kept one
  none_kept_inside : (t x : ℕ) → IsMinimal Wanted x → IsMinimal (MeetsAll edges) t → is_subset t x ≡ true → meets t edge ≡ false
      → has_inside kept x ≡ true → ⊥
  none_kept_inside t x minimal t_minimal t_inside apart some =
      let s = any_at (λ z. is_subset z x) kept some in
      let both = kept_in (λ y. meets y edge) sets s.0 s.1 in
      let s_minimal = listed.only s.0 both.0 in
      let same : s.0 ≡ x = minimal.least s.0 (more_from edges edge s.0 s_minimal.holds both.1) s.2 in
      let one : t ≡ s.0 = s_minimal.least t t_minimal.holds (subst (λ w. is_subset t w ≡ true) (sym same) t_inside) in
      both_ways (meets t edge) apart (subst (λ w. meets w edge ≡ true) (sym one) both.1)

  minimal_in_product : (x : ℕ) → IsMinimal Wanted x → Contains (product sets edge) x
  unfolding product
  minimal_in_product x minimal =
      let parts = more_parts edges edge x minimal.holds in
      let t = transversal_inside edges x are_sets parts.0 in
      elim (cases_Bool (meets t.0 edge)) [
        | inl holds ↦
            let same : t.0 ≡ x = minimal.least t.0 (more_from edges edge t.0 t.1.holds holds) t.2 in
            Contains-append_left kept (all_grown kept (columns edge) (missing edge sets)) x
            (subst (Contains kept) same (in_kept (λ y. meets y edge) sets t.0 (listed.every t.0 t.1) holds))
        | inr apart ↦
            let shared = meets_at x edge parts.1 in
            let c = shared.0 in
            let in_edge : Contains (columns edge) c = in_columns edge c edge_set shared.1 in
            let same : with_column t.0 c ≡ x =
            minimal.least (with_column t.0 c) (grown_meets t.0 c t.1.holds shared.1 (column_below edge c in_edge))
            (with_inside t.0 c x t.1.holds.0 t.2 shared.2) in
            let none : has_inside kept (with_column t.0 c) ≡ false =
            subst (λ w. has_inside kept w ≡ false) (sym same) (not_inside (has_inside kept x) (none_kept_inside t.0 x minimal t.1 t.2 apart)) in
            Contains-append_right kept (all_grown kept (columns edge) (missing edge sets)) x
            (subst (Contains (all_grown kept (columns edge) (missing edge sets))) same
            (all_grown_from kept (columns edge) (missing edge sets) t.0 (with_column t.0 c)
            (in_kept (λ y. not (meets y edge)) sets t.0 (listed.every t.0 t.1) (rw apart refl))
            (grown_from kept (columns edge) t.0 c in_edge none)))
      ]
    where
      not_inside : (b : Bool) → (b ≡ true → ⊥) → b ≡ false
      not_inside true never = absurd (never refl)
      not_inside false never = refl

-- the product in order is the list of the minimal sets that meet the edge too
pub product_is : (edges : List ℕ) (edge : ℕ) (sets made : List ℕ) → AreSets (edges ++ edge ∷ []) → sets ≡ transversals edges
    → Lists (Contains (product sets edge)) made → made ≡ transversals (edges ++ edge ∷ [])
product_is edges edge sets made are_sets are listed =
    let before : AreSets edges = λ x found. are_sets x (Contains-append_left edges (edge ∷ []) x found) in
    let edge_set : IsColumnSet edge = are_sets edge (Contains-append_right edges (edge ∷ []) edge (in_first edge [])) in
    let all : Lists (IsMinimal (MeetsAll edges)) sets = subst (Lists (IsMinimal (MeetsAll edges))) (sym are) (transversals_listed edges before) in
    one_list (IsMinimal (MeetsAll (edges ++ edge ∷ []))) made (transversals (edges ++ edge ∷ []))
    (lists_same (Contains (product sets edge)) (IsMinimal (MeetsAll (edges ++ edge ∷ []))) made
    (product_is_minimal edges edge sets before edge_set all) (minimal_in_product edges edge sets before edge_set all) listed)
    (transversals_listed (edges ++ edge ∷ []) are_sets)

-- ---- the loops

-- one column more is walked, and its set kept or passed over
pub grown_more : (kept : List ℕ) (set c larger : ℕ) (cs rest made whole : List ℕ) → cs ≡ c ∷ rest → larger ≡ with_column set c → has_inside kept larger ≡ false
    → made ++ grown kept cs set ≡ whole → (made ++ larger ∷ []) ++ grown kept rest set ≡ whole
grown_more kept set c larger cs rest made whole split is none so_far =
    append_assoc made (larger ∷ []) (grown kept rest set)
    ∙ ap (λ xs. made ++ xs) (sym (ap (λ ks. grown kept ks set) split ∙ kept_one))
    ∙ so_far
  where
    kept_one : grown kept (c ∷ rest) set ≡ larger ∷ grown kept rest set
    kept_one = rw (sym is, none) refl

pub grown_passed : (kept : List ℕ) (set c larger : ℕ) (cs rest made whole : List ℕ) → cs ≡ c ∷ rest → larger ≡ with_column set c → has_inside kept larger ≡ true
    → made ++ grown kept cs set ≡ whole → made ++ grown kept rest set ≡ whole
grown_passed kept set c larger cs rest made whole split is some so_far =
    ap (λ xs. made ++ xs) (sym (ap (λ ks. grown kept ks set) split ∙ passed_one)) ∙ so_far
  where
    passed_one : grown kept (c ∷ rest) set ≡ grown kept rest set
    passed_one = rw (sym is, some) refl

pub grown_none : (kept : List ℕ) (set : ℕ) (cs made whole : List ℕ) → cs ≡ [] → made ++ grown kept cs set ≡ whole → made ≡ whole
grown_none kept set cs made whole none so_far = sym (append-nil made) ∙ ap (λ ks. made ++ grown kept ks set) (sym none) ∙ so_far

-- one set more is grown
pub all_grown_more : (kept cs others made more whole : List ℕ) (i x : ℕ) → i < length others → x ≡ get_or others i x → more ≡ made ++ grown kept cs x
    → made ++ all_grown kept cs (drop i others) ≡ whole → more ++ all_grown kept cs (drop (i + 1) others) ≡ whole
unfolding all_grown
all_grown_more kept cs others made more whole i x below reads is so_far =
    ap (λ xs. xs ++ all_grown kept cs (drop (i + 1) others)) is
    ∙ append_assoc made (grown kept cs x) (all_grown kept cs (drop (i + 1) others))
    ∙ sym (ap (λ xs. made ++ all_grown kept cs xs) (drop_more others i x below ∙ ap (λ y. y ∷ drop (i + 1) others) (sym reads)))
    ∙ so_far

pub all_grown_done : (kept cs others made whole : List ℕ) (i : ℕ) → length others ≤ i → made ++ all_grown kept cs (drop i others) ≡ whole → made ≡ whole
unfolding all_grown
all_grown_done kept cs others made whole i reached so_far =
    sym (append-nil made) ∙ sym (ap (λ xs. made ++ all_grown kept cs xs) (drop_all i others reached)) ∙ so_far

pub product_made : (sets : List ℕ) (edge : ℕ) (kept others made : List ℕ) → kept ≡ meeting edge sets → others ≡ missing edge sets
    → made ≡ kept ++ all_grown kept (columns edge) others → made ≡ product sets edge
unfolding product
product_made sets edge first others made kept_are others_are is =
    is ∙ ap (λ xs. xs ++ all_grown xs (columns edge) others) kept_are ∙ ap (λ xs. meeting edge sets ++ all_grown (meeting edge sets) (columns edge) xs) others_are

-- ---- one edge more

pub product_more : (edges : List ℕ) (i x : ℕ) (sets made : List ℕ) → All IsColumnSet edges → i < length edges → x ≡ get_or edges i x
    → sets ≡ transversals (take i edges) → Lists (Contains (product sets x)) made → made ≡ transversals (take (i + 1) edges)
product_more edges i x sets made are_sets below reads are listed =
    let more : take (i + 1) edges ≡ take i edges ++ x ∷ [] = take_more edges i x below ∙ ap (λ y. take i edges ++ y ∷ []) (sym reads) in
    let all : All IsColumnSet (take i edges ++ x ∷ []) = subst (All IsColumnSet) more (All-take IsColumnSet (i + 1) edges are_sets) in
    product_is (take i edges) x sets made (λ y found. All-contains IsColumnSet (take i edges ++ x ∷ []) y all found) are listed ∙ ap transversals (sym more)
