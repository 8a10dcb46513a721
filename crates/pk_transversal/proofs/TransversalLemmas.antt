-- The minimal sets, of all, that meet some edges.
use Rattle.std.proofs.Common.{◌≡◌, sym, ◌∙◌, subst, ℕ, suc, ◌+◌, ◌≤◌, true, List, [], ◌∷◌, bit_and, inl, inr, arith}
use Rattle.std.specs.List.{Contains, filter, range_with_len}
use Rattle.std.proofs.lemmas.Nat.{or_of_32}
use Rattle.std.proofs.lemmas.Bool.{or_left, or_right}
use Rattle.pk_values.specs.ColumnSet.{IsColumnSet, has_column, is_subset}
use Rattle.pk_values.proofs.BitLemmas.{has_or}
use Rattle.pk_transversal.specs.Laws.{MeetsAll}
use Rattle.pk_transversal.specs.Minimal.{IsMinimal, Lists, minimal_of}
use Rattle.pk_transversal.specs.Transversals.{meets_all, union, parts, transversals}
use Rattle.pk_transversal.proofs.ListLemmas.{in_none, in_cases, in_kept, kept_in, in_range, range_below, in_first, in_rest}
use Rattle.pk_transversal.proofs.OrderLemmas.{one_list, lists_same}
use Rattle.pk_transversal.proofs.SetLemmas.{subset_trans, subset_at_most, has_and, and_left_part, and_right_part, and_set}
use Rattle.pk_transversal.proofs.MinimalLemmas.{AreSets, minimal_listed, minimal_inside, minimal_are_sets}
use Rattle.pk_transversal.proofs.MeetLemmas.{meets_at, meets_from, meets_larger, all_met, met_all}
use Rattle.std.proofs.lemmas.Bool.{and_from}

-- ---- the columns of all edges

union_set : (edges : List ℕ) → AreSets edges → IsColumnSet (union edges)
unfolding union
union_set [] are_sets = omega arith
union_set (edge ∷ edges) are_sets =
    or_of_32 edge (union edges) (are_sets edge (in_first edge edges)) (union_set edges (λ x found. are_sets x (in_rest edge edges x found)))

in_union : (edges : List ℕ) (edge c : ℕ) → Contains edges edge → has_column edge c ≡ true → has_column (union edges) c ≡ true
unfolding union
in_union [] edge c found holds = absurd (in_none edge found)
in_union (first ∷ edges) edge c found holds =
    has_or first (union edges) c
    ∙ elim (in_cases first edges edge found) [
      | inl same ↦ or_left (has_column first c) (has_column (union edges) c) (subst (λ e. has_column e c ≡ true) (sym same) holds)
      | inr rest ↦ or_right (has_column first c) (has_column (union edges) c) (in_union edges edge c rest holds)
    ]

-- ---- all sets inside one

in_parts : (set x : ℕ) → IsColumnSet x → is_subset x set ≡ true → Contains (parts set) x
unfolding parts
in_parts set x x_set inside =
    let most : x ≤ set = subset_at_most x set x_set inside in
    let counted : 0 + x ≡ x = omega arith in
    in_kept (λ y. is_subset y set) (range_with_len 0 (suc set)) x
    (subst (Contains (range_with_len 0 (suc set))) counted (in_range 0 (suc set) x (omega (arith, most)))) inside

part_of : (set x : ℕ) → IsColumnSet set → Contains (parts set) x → IsColumnSet x × (is_subset x set ≡ true)
unfolding parts
part_of set x is_set found =
    let kept = kept_in (λ y. is_subset y set) (range_with_len 0 (suc set)) x found in
    let most = range_below 0 (suc set) x kept.0 in
    (omega (arith, most, is_set), kept.1)

-- ---- those among them that meet every edge

abbrev meeting_parts : List ℕ → List ℕ
meeting_parts edges = filter (meets_all edges) (parts (union edges))

meeting_part : (edges : List ℕ) (x : ℕ) → AreSets edges → Contains (meeting_parts edges) x → MeetsAll edges x × (is_subset x (union edges) ≡ true)
meeting_part edges x are_sets found =
    let kept = kept_in (meets_all edges) (parts (union edges)) x found in
    let part = part_of (union edges) x (union_set edges are_sets) kept.0 in
    ((part.0, kept.1), part.1)

in_meeting : (edges : List ℕ) (x : ℕ) → MeetsAll edges x → is_subset x (union edges) ≡ true → Contains (meeting_parts edges) x
in_meeting edges x all inside = in_kept (meets_all edges) (parts (union edges)) x (in_parts (union edges) x all.0 inside) all.1

-- what a set has of the edges' columns meets them all where it does
within_meets : (edges : List ℕ) (x : ℕ) → AreSets edges → MeetsAll edges x → MeetsAll edges (bit_and x (union edges))
within_meets edges x are_sets all = (
  and_set x (union edges) (union_set edges are_sets),
  met_all edges (bit_and x (union edges)) (λ edge found.
      let shared = meets_at x edge (all_met edges x edge all.1 found) in
      meets_from (bit_and x (union edges)) edge shared.0 (are_sets edge found) shared.1
      (has_and x (union edges) shared.0
      ∙ and_from (has_column x shared.0) (has_column (union edges) shared.0) shared.2 (in_union edges edge shared.0 found shared.1))),
)

within_listed : (edges : List ℕ) (x : ℕ) → AreSets edges → MeetsAll edges x → Contains (meeting_parts edges) (bit_and x (union edges))
within_listed edges x are_sets all =
    in_meeting edges (bit_and x (union edges)) (within_meets edges x are_sets all) (and_right_part x (union edges))

minimal_among_all : (edges : List ℕ) (x : ℕ) → AreSets edges → IsMinimal (Contains (meeting_parts edges)) x → IsMinimal (MeetsAll edges) x
minimal_among_all edges x are_sets minimal =
    let part = meeting_part edges x are_sets minimal.holds in
    record {
      holds = part.0;
      least = λ y all inside.
          minimal.least y (in_meeting edges y all (subset_trans y x (union edges) all.0 part.0.0 inside part.1)) inside;
    }

minimal_among_parts : (edges : List ℕ) (x : ℕ) → AreSets edges → IsMinimal (MeetsAll edges) x → IsMinimal (Contains (meeting_parts edges)) x
minimal_among_parts edges x are_sets minimal =
    let same : bit_and x (union edges) ≡ x =
    minimal.least (bit_and x (union edges)) (within_meets edges x are_sets minimal.holds) (and_left_part x (union edges)) in
    record {
      holds = subst (Contains (meeting_parts edges)) same (within_listed edges x are_sets minimal.holds);
      least = λ y found inside. minimal.least y (meeting_part edges y are_sets found).0 inside;
    }

pub transversals_listed : (edges : List ℕ) → AreSets edges → Lists (IsMinimal (MeetsAll edges)) (transversals edges)
unfolding transversals
transversals_listed edges are_sets =
    lists_same (IsMinimal (Contains (meeting_parts edges))) (IsMinimal (MeetsAll edges)) (minimal_of (meeting_parts edges))
    (λ x minimal. minimal_among_all edges x are_sets minimal)
    (λ x minimal. minimal_among_parts edges x are_sets minimal)
    (minimal_listed (meeting_parts edges))

-- each set that meets all edges has a minimal one inside
pub transversal_inside : (edges : List ℕ) (x : ℕ) → AreSets edges → MeetsAll edges x → (t : ℕ) × IsMinimal (MeetsAll edges) t × (is_subset t x ≡ true)
transversal_inside edges x are_sets all =
    let found =
    minimal_inside (meeting_parts edges) (bit_and x (union edges)) (λ y there. (meeting_part edges y are_sets there).0.0) (within_listed edges x are_sets all) in
    let minimal = minimal_among_all edges found.0 are_sets found.2 in
    (found.0, minimal, subset_trans found.0 (bit_and x (union edges)) x minimal.holds.0 (and_set x (union edges) (union_set edges are_sets)) found.1 (and_left_part x (union edges)))

-- ---- the minimal edges say the same

pub minimal_edges_met : (edges : List ℕ) (x : ℕ) → AreSets edges → MeetsAll (minimal_of edges) x → MeetsAll edges x
minimal_edges_met edges x are_sets all = (
  all.0,
  met_all edges x (λ edge found.
      let inside = minimal_inside edges edge are_sets found in
      meets_larger x inside.0 edge (are_sets inside.0 inside.2.holds) (are_sets edge found) inside.1
      (all_met (minimal_of edges) x inside.0 all.1 ((minimal_listed edges).every inside.0 inside.2))),
)

pub edges_met : (edges : List ℕ) (x : ℕ) → MeetsAll edges x → MeetsAll (minimal_of edges) x
edges_met edges x all = (all.0, met_all (minimal_of edges) x (λ edge found. all_met edges x edge all.1 ((minimal_listed edges).only edge found).holds))

-- where two tests say the same of all sets, the minimal sets are the same
pub minimal_same : (P Q : ℕ → Type 0) → ((x : ℕ) → P x → Q x) → ((x : ℕ) → Q x → P x) → (x : ℕ) → IsMinimal P x → IsMinimal Q x
minimal_same P Q to from x minimal = record { holds = to x minimal.holds; least = λ y holds inside. minimal.least y (from y holds) inside }

pub minimal_edges_same : (edges : List ℕ) → AreSets edges → transversals (minimal_of edges) ≡ transversals edges
minimal_edges_same edges are_sets =
    one_list (IsMinimal (MeetsAll edges)) (transversals (minimal_of edges)) (transversals edges)
    (lists_same (IsMinimal (MeetsAll (minimal_of edges))) (IsMinimal (MeetsAll edges)) (transversals (minimal_of edges))
    (minimal_same (MeetsAll (minimal_of edges)) (MeetsAll edges) (λ x all. minimal_edges_met edges x are_sets all) (edges_met edges))
    (minimal_same (MeetsAll edges) (MeetsAll (minimal_of edges)) (edges_met edges) (λ x all. minimal_edges_met edges x are_sets all))
    (transversals_listed (minimal_of edges) (minimal_are_sets edges are_sets)))
    (transversals_listed edges are_sets)
