-- The first number of a range that passes a test.
use Rattle.std.proofs.Common.{◌≡◌, refl, sym, ◌∙◌, ap, subst, ℕ, zero, suc, ◌+◌, ◌<◌, ◌≤◌, Bool, true, false, List, [], ◌∷◌, length, take, Option, Some, None, nat_lt, inl, inr, arith}
use Rattle.std.specs.List.{Contains, find, range_with_len}
use Rattle.std.proofs.lemmas.Bool.{cases_lt, lt-ltb, le-ltb}
use Rattle.pk_values.specs.ColumnSet.{columns, is_subset}
use Rattle.pk_transversal.specs.declared.trans_err.TransErr.{TransErr}
use Rattle.pk_transversal.specs.declared.trans_err.TransErr.TheVariants.{TooMany, Memory}
use Rattle.pk_transversal.specs.Laws.{HaveTheSame}
use Rattle.pk_transversal.specs.Minimal.{IsMinimal, minimal_of}
use Rattle.pk_transversal.proofs.OrderLemmas.{one_list, lists_same}
use Rattle.pk_transversal.proofs.MinimalLemmas.{AreSets, minimal_listed}
use Rattle.pk_transversal.proofs.TransversalLemmas.{minimal_same, minimal_edges_same}
use Rattle.pk_transversal.specs.Transversals.{meets_all, union, parts, transversals, is_beyond, first_beyond, edge_limit, IsTold, IsCount}

find_none : (p : ℕ → Bool) (a n : ℕ) → ((k : ℕ) → k < a + n → p k ≡ false) → find p (range_with_len a n) ≡ None
find_none p a zero fail = refl
find_none p a (suc n) fail = rw (fail a (omega arith)) (find_none p (a + 1) n (λ k low. fail k (omega (arith, low))))

find_first : (p : ℕ → Bool) (a n d : ℕ) → d < n → ((k : ℕ) → k < a + d → p k ≡ false) → p (a + d) ≡ true → find p (range_with_len a n) ≡ Some (a + d)
find_first p a zero d low fail passes = absurd (omega (arith, low))
find_first p a (suc n) zero low fail passes =
    let here : p a ≡ true = subst (λ k. p k ≡ true) (omega arith) passes in
    rw here (ap Some (omega arith))
find_first p a (suc n) (suc d) low fail passes =
    let same : (a + 1) + d ≡ a + suc d = omega arith in
    rw (fail a (omega arith))
    (find_first p (a + 1) n d (omega (arith, low)) (λ k before. fail k (omega (arith, before))) (subst (λ k. p k ≡ true) (sym same) passes) ∙ ap Some same)

-- none of the numbers of edges is beyond the limit
pub none_beyond : (limit : ℕ) (edges : List ℕ) (count : ℕ) → length edges ≤ count → ((j : ℕ) → j ≤ count → is_beyond limit edges j ≡ false) → first_beyond limit edges ≡ None
unfolding first_beyond
none_beyond limit edges count all few =
    find_none (is_beyond limit edges) 0 (suc (length edges)) (λ k low. few k (omega (arith, low, all)))

-- this one is, and none before it
pub beyond_at : (limit : ℕ) (edges : List ℕ) (count : ℕ) → count ≤ length edges → ((j : ℕ) → j < count → is_beyond limit edges j ≡ false)
    → is_beyond limit edges count ≡ true → first_beyond limit edges ≡ Some count
unfolding first_beyond
beyond_at limit edges count within few passes =
    let same : 0 + count ≡ count = omega arith in
    find_first (is_beyond limit edges) 0 (suc (length edges)) count (omega (arith, within)) (λ k low. few k (omega (arith, low)))
    (subst (λ k. is_beyond limit edges k ≡ true) (sym same) passes)
    ∙ ap Some same

-- ---- the loop over the edges

pub no_edges : transversals [] ≡ 0 ∷ []
unfolding columns is_subset minimal_of meets_all union parts transversals
no_edges = refl

pub beyond_now : (limit : ℕ) (edges : List ℕ) (i : ℕ) (sets now : List ℕ) (test answer : Bool) → sets ≡ transversals (take i edges) → now ≡ sets
    → test ≡ nat_lt limit (length now) → test ≡ answer → is_beyond limit edges i ≡ answer
beyond_now limit edges i sets now test answer are same tests is =
    sym (ap (λ xs. nat_lt limit (length xs)) (same ∙ are)) ∙ sym tests ∙ is

-- no edge has one transversal
pub beyond_first : (limit : ℕ) (edges : List ℕ) → limit < 1 → is_beyond limit edges 0 ≡ true
beyond_first limit edges none =
    ap (λ xs. nat_lt limit (length xs)) no_edges ∙ lt-ltb limit 1 none

pub few_first : (limit : ℕ) (edges : List ℕ) → 1 ≤ limit → is_beyond limit edges 0 ≡ false
few_first limit edges some =
    ap (λ xs. nat_lt limit (length xs)) no_edges ∙ le-ltb limit 1 some

pub few_at_first : (limit : ℕ) (edges : List ℕ) → is_beyond limit edges 0 ≡ false → (j : ℕ) → j ≤ 0 → is_beyond limit edges j ≡ false
few_at_first limit edges few j low = let same : 0 ≡ j = omega (arith, low) in subst (λ k. is_beyond limit edges k ≡ false) same few

pub few_more : (limit : ℕ) (edges : List ℕ) (i : ℕ) → ((j : ℕ) → j ≤ i → is_beyond limit edges j ≡ false) → is_beyond limit edges (i + 1) ≡ false
    → (j : ℕ) → j ≤ i + 1 → is_beyond limit edges j ≡ false
few_more limit edges i few now j low =
    elim (cases_lt i j) [
      | inl above ↦ let same : i + 1 ≡ j = omega (arith, low, above) in subst (λ k. is_beyond limit edges k ≡ false) same now
      | inr within ↦ few j within
    ]

pub told_count : (number : Option ℕ) (count : ℕ) (e : TransErr) → IsCount count e → number ≡ Some count → IsTold number e
told_count number count (TooMany edge) counted is = is ∙ ap Some counted
told_count number count Memory counted is = tt

-- what is told of the minimal edges is told of all
pub limit_is : (limit : ℕ) (edges now : List ℕ) → now ≡ minimal_of edges → first_beyond limit now ≡ edge_limit limit edges
unfolding edge_limit
limit_is limit edges now same = ap (first_beyond limit) same

-- ---- order tells nothing

pub minimal_of_same : (xs ys : List ℕ) → HaveTheSame xs ys → minimal_of xs ≡ minimal_of ys
minimal_of_same xs ys same =
    one_list (IsMinimal (Contains xs)) (minimal_of xs) (minimal_of ys) (minimal_listed xs)
    (lists_same (IsMinimal (Contains ys)) (IsMinimal (Contains xs)) (minimal_of ys) (minimal_same (Contains ys) (Contains xs) same.1 same.0)
    (minimal_same (Contains xs) (Contains ys) same.0 same.1) (minimal_listed ys))

pub transversals_of_same : (xs ys : List ℕ) → AreSets xs → AreSets ys → HaveTheSame xs ys → transversals xs ≡ transversals ys
transversals_of_same xs ys xs_sets ys_sets same =
    sym (minimal_edges_same xs xs_sets) ∙ ap transversals (minimal_of_same xs ys same) ∙ minimal_edges_same ys ys_sets

pub limit_of_same : (limit : ℕ) (xs ys : List ℕ) → HaveTheSame xs ys → edge_limit limit xs ≡ edge_limit limit ys
unfolding edge_limit
limit_of_same limit xs ys same = ap (first_beyond limit) (minimal_of_same xs ys same)
