-- What it is to meet edges.
use Rattle.std.proofs.Common.{◌≡◌, refl, sym, ◌∙◌, ap, ℕ, Bool, true, false, not, ◌&&◌, ◌==◌, List, [], ◌∷◌, ◌++◌, inl, inr}
use Rattle.std.specs.List.{Contains, list_all}
use Rattle.std.specs.Cmp.{both_ways}
use Rattle.std.proofs.lemmas.Bool.{cases_Bool, and_parts, and_from, eq-eqb, ne_eqb}
use Rattle.std.proofs.lemmas.List.Folds.{list_all-append}
use Rattle.std.proofs.Math.Bool.{and-true}
use Rattle.pk_values.specs.ColumnSet.{IsColumnSet, has_column, columns, is_subset}
use Rattle.pk_values.proofs.ColumnLemmas.{subset_members, same_set}
use Rattle.pk_transversal.specs.Laws.{MeetsAll}
use Rattle.pk_transversal.specs.Transversals.{meets, meets_all}
use Rattle.pk_transversal.proofs.ListLemmas.{any_at, any_from, all_at, all_from}
use Rattle.pk_transversal.proofs.SetLemmas.{in_columns, column_of}

-- a column that both have
pub meets_at : (x edge : ℕ) → meets x edge ≡ true → (c : ℕ) × (has_column edge c ≡ true) × (has_column x c ≡ true)
meets_at x edge holds =
    let found = any_at (has_column x) (columns edge) holds in
    (found.0, column_of edge found.0 found.1, found.2)

pub meets_from : (x edge c : ℕ) → IsColumnSet edge → has_column edge c ≡ true → has_column x c ≡ true → meets x edge ≡ true
meets_from x edge c edge_set in_edge in_x = any_from (has_column x) (columns edge) c (in_columns edge c edge_set in_edge) in_x

-- a set that contains one that meets an edge meets it, and so an edge that contains one that is met
pub meets_more : (x y edge : ℕ) → IsColumnSet x → IsColumnSet edge → is_subset x y ≡ true → meets x edge ≡ true → meets y edge ≡ true
meets_more x y edge x_set edge_set inside holds =
    let found = meets_at x edge holds in
    meets_from y edge found.0 edge_set found.1 (subset_members x y found.0 x_set inside found.2)

pub meets_larger : (x edge larger : ℕ) → IsColumnSet edge → IsColumnSet larger → is_subset edge larger ≡ true → meets x edge ≡ true → meets x larger ≡ true
meets_larger x edge larger edge_set larger_set inside holds =
    let found = meets_at x edge holds in
    meets_from x larger found.0 larger_set (subset_members edge larger found.0 edge_set inside found.1) found.2

pub all_met : (edges : List ℕ) (x edge : ℕ) → meets_all edges x ≡ true → Contains edges edge → meets x edge ≡ true
unfolding meets_all
all_met edges x edge all found = all_at (meets x) edges edge all found

pub met_all : (edges : List ℕ) (x : ℕ) → ((edge : ℕ) → Contains edges edge → meets x edge ≡ true) → meets_all edges x ≡ true
unfolding meets_all
met_all edges x each = all_from (meets x) edges each

pub all_more : (edges : List ℕ) (x y : ℕ) → ((edge : ℕ) → Contains edges edge → IsColumnSet edge) → IsColumnSet x → is_subset x y ≡ true
    → meets_all edges x ≡ true → meets_all edges y ≡ true
all_more edges x y are_sets x_set inside all =
    met_all edges y (λ edge found. meets_more x y edge x_set (are_sets edge found) inside (all_met edges x edge all found))

-- one edge more
pub one_more : (edges : List ℕ) (edge x : ℕ) → meets_all (edges ++ edge ∷ []) x ≡ (meets_all edges x && meets x edge)
unfolding meets_all
one_more edges edge x = list_all-append (meets x) edges (edge ∷ []) ∙ ap (λ b. list_all (meets x) edges && b) (and-true (meets x edge))

pub more_parts : (edges : List ℕ) (edge x : ℕ) → MeetsAll (edges ++ edge ∷ []) x → MeetsAll edges x × (meets x edge ≡ true)
more_parts edges edge x all =
    let parts = and_parts (meets_all edges x) (meets x edge) (sym (one_more edges edge x) ∙ all.1) in
    ((all.0, parts.0), parts.1)

pub more_from : (edges : List ℕ) (edge x : ℕ) → MeetsAll edges x → meets x edge ≡ true → MeetsAll (edges ++ edge ∷ []) x
more_from edges edge x all holds = (all.0, one_more edges edge x ∙ and_from (meets_all edges x) (meets x edge) all.1 holds)

-- ---- by the set without the edge

left_out : (x edge k : ℕ) → IsColumnSet edge → meets x edge ≡ false → (has_column x k && not (has_column edge k)) ≡ has_column x k
left_out x edge k edge_set apart =
    both_ways (has_column x k && not (has_column edge k)) (has_column x k)
    (λ both. (and_parts (has_column x k) (not (has_column edge k)) both).0)
    (λ holds. elim (cases_Bool (has_column edge k)) [
      | inl also ↦ cc (meets_from x edge k edge_set also holds)
      | inr outside ↦ rw (holds, outside) refl
    ])

shared_is_lost : (x edge rest : ℕ) → ((k : ℕ) → has_column rest k ≡ (has_column x k && not (has_column edge k))) → meets x edge ≡ true → rest ≡ x → ⊥
shared_is_lost x edge rest members holds same =
    let found = meets_at x edge holds in
    lost (has_column edge found.0) (has_column x found.0) found.1 found.2 (sym (ap (λ s. has_column s found.0) same) ∙ members found.0)
  where
    lost : (e h : Bool) → e ≡ true → h ≡ true → h ≡ (h && not e) → ⊥
    lost true true _ _ same = cc
    lost false h is _ same = cc
    lost true false _ is same = cc

-- a set meets an edge exactly where it isn't the same without it
pub meets_by_rest : (x edge rest : ℕ) → IsColumnSet edge → ((k : ℕ) → has_column rest k ≡ (has_column x k && not (has_column edge k)))
    → not (rest == x) ≡ meets x edge
meets_by_rest x edge rest edge_set members =
    elim (cases_Bool (meets x edge)) [
      | inl holds ↦ rw (holds, ne_eqb rest x (shared_is_lost x edge rest members holds)) refl
      | inr apart ↦ rw (apart, eq-eqb rest x (same_set rest x (λ k. members k ∙ left_out x edge k edge_set apart))) refl
    ]
