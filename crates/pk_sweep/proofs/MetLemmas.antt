-- Numbers that are met, and the sets that they are in order.
use Rattle.std.proofs.Common.{◌≡◌, refl, sym, ◌∙◌, ap, subst, ℕ, ◌<◌, ◌≤◌, ◌+◌, ◌-◌, ◌==◌, List, [], ◌∷◌, ◌++◌, length, map, append_assoc, append-nil, Option, Some, None, get_or, inl, inr, rules, arith}
use Rattle.std.specs.List.{Contains, dedup, range_with_len}
use Rattle.std.specs.Option.{IfSome}
use Rattle.std.specs.List.Retain.{IsFiltered, DiffersFromLast}
use Rattle.std.specs.List.Sorted.{IsPermutation, IsSorted}
use Rattle.std.specs.Cmp.Rules.{comparing}
use Rattle.std.specs.Ordering.{eq_by_cmp}
use Rattle.std.proofs.lemmas.List.Elements.{All-weaker, All-get_or, Contains-append_left, Contains-append_right, Contains-append_cases, Contains-push_cases}
use Rattle.std.proofs.lemmas.List.FromFn.{map-range_with_len_more}
use Rattle.std.proofs.lemmas.List.Filters.{dedup_is}
use Rattle.std.proofs.lemmas.List.Kept.{Contains-dedup_nat, Contains-from_dedup, IsStrictlySortedBy-dedup}
use Rattle.std.proofs.lemmas.List.Sorted.{Contains-permutation, IsPermutation-sym}
use Rattle.pk_values.specs.ColumnSet.{column_set_cmp}
use Rattle.pk_values.proofs.ColumnOrder.{column_set_cmp_total}
use Rattle.pk_sweep.specs.Meeting.{SameMembers, Adds, AreKept}
use Rattle.pk_sweep.specs.Pairs.{InOrder}
use Rattle.pk_sweep.specs.declared.coding.CodedColumn.{CodedColumn}
use Rattle.pk_sweep.specs.declared.pairs.Met.{Met}
use Rattle.pk_sweep.specs.declared.sets.Sets.{Sets}
use Rattle.pk_sweep.specs.Coding.{place_pairs, apart_at, not_same_at, IsMet, AreMerged, AreOfPairs}
use Rattle.pk_sweep.proofs.PairLemmas.{pairs_joined, pairs_in_halves}
use Rattle.pk_sweep.proofs.ListLemmas.{range_split}

-- ---- lists with the same members

pub same_itself : (xs ys : List ℕ) → xs ≡ ys → SameMembers xs ys
same_itself xs ys same = record { to = λ x found. subst (λ zs. Contains zs x) same found; from = λ x found. subst (λ zs. Contains zs x) (sym same) found }

pub same_next : (xs ys zs : List ℕ) → SameMembers xs ys → SameMembers ys zs → SameMembers xs zs
same_next xs ys zs one other = record { to = λ x found. other.to x (one.to x found); from = λ x found. one.from x (other.from x found) }

pub same_in_front : (xs ys zs : List ℕ) → SameMembers xs ys → SameMembers (xs ++ zs) (ys ++ zs)
same_in_front xs ys zs same = record { to = side xs ys same.to; from = side ys xs same.from }
  where
    side : (us vs : List ℕ) → ((x : ℕ) → Contains us x → Contains vs x) → (x : ℕ) → Contains (us ++ zs) x → Contains (vs ++ zs) x
    side us vs each x found =
        elim (Contains-append_cases us zs x found) [
          | inl first ↦ Contains-append_left vs zs x (each x first)
          | inr second ↦ Contains-append_right vs zs x second
        ]

pub same_behind : (xs ys zs : List ℕ) → SameMembers xs ys → SameMembers (zs ++ xs) (zs ++ ys)
same_behind xs ys zs same = record { to = side xs ys same.to; from = side ys xs same.from }
  where
    side : (us vs : List ℕ) → ((x : ℕ) → Contains us x → Contains vs x) → (x : ℕ) → Contains (zs ++ us) x → Contains (zs ++ vs) x
    side us vs each x found =
        elim (Contains-append_cases zs us x found) [
          | inl first ↦ Contains-append_left zs vs x first
          | inr second ↦ Contains-append_right zs vs x (each x second)
        ]

-- these are added, and then those
pub adds_next : (before first now second later : List ℕ) → Adds before first now → Adds now second later → Adds before (first ++ second) later
adds_next before first now second later one other =
    same_next (before ++ (first ++ second)) (now ++ second) later
    (subst (λ xs. SameMembers xs (now ++ second)) (append_assoc before first second) (same_in_front (before ++ first) now second one)) other

pub adds_none : (before : List ℕ) → Adds before [] before
adds_none before = same_itself (before ++ []) before (append-nil before)

-- ---- what was met

-- thinning changes no member
pub thinned_same : (kept sorted thin : List ℕ) → IsPermutation kept sorted → IsFiltered (DiffersFromLast ◌==◌) [] sorted thin → SameMembers kept thin
thinned_same kept sorted thin moved filtered =
    let is : thin ≡ dedup ◌==◌ sorted = dedup_is ◌==◌ sorted thin filtered in
    record {
      to = λ x found. rw is (Contains-dedup_nat sorted x (Contains-permutation kept sorted x moved found));
      from = λ x found. Contains-permutation sorted kept x (IsPermutation-sym kept sorted moved) (Contains-from_dedup ◌==◌ sorted x (rw is at found));
    }

-- a number that is there already adds nothing
pub adds_known : (kept : List ℕ) (number : ℕ) → Contains kept number → Adds kept (number ∷ []) kept
adds_known kept number found = record {
  to = λ x there. elim (Contains-push_cases kept number x there) [ inl early ↦ early | inr same ↦ subst (Contains kept) same found ];
  from = λ x there. Contains-append_left kept (number ∷ []) x there;
}

pub is_known : (kept : List ℕ) (recent : List (Option ℕ)) (slot number : ℕ) → AreKept kept recent → slot < length recent
    → get_or recent slot None ≡ Some number → Contains kept number
is_known kept recent slot number are_kept within is =
    subst (λ one. IfSome one (Contains kept)) is (All-get_or (λ one. IfSome one (Contains kept)) recent slot None within are_kept)

pub kept_in_more : (kept more : List ℕ) (recent : List (Option ℕ)) → ((x : ℕ) → Contains kept x → Contains more x) → AreKept kept recent → AreKept more recent
kept_in_more kept more recent each are_kept = All-weaker (λ one. IfSome one (Contains kept)) (λ one. IfSome one (Contains more)) weaker recent are_kept
  where
    weaker : (one : Option ℕ) → IfSome one (Contains kept) → IfSome one (Contains more)
    weaker None holds = holds
    weaker (Some x) holds = each x holds

-- ---- sets in order

pub ordered_is : (xs sorted ys : List ℕ) → IsPermutation xs sorted → IsSorted column_set_cmp sorted → IsFiltered (DiffersFromLast ◌==◌) [] sorted ys → InOrder xs ys
ordered_is xs sorted ys moved ascend filtered =
    let is : ys ≡ dedup ◌==◌ sorted = dedup_is ◌==◌ sorted ys filtered in
    let same = thinned_same xs sorted ys moved filtered in
    record { ascend = rw is (IsStrictlySortedBy-dedup column_set_cmp_total tied sorted ascend); only = same.from; every = same.to }
  where
    tied : (x y : ℕ) → (x == y) ≡ eq_by_cmp column_set_cmp x y
    tied = search (comparing, rules)

pub order_of_same : (xs ys ordered : List ℕ) → SameMembers xs ys → InOrder ys ordered → InOrder xs ordered
order_of_same xs ys ordered same listed = record {
  ascend = listed.ascend;
  only = λ x found. same.from x (listed.only x found);
  every = λ x found. listed.every x (same.to x found);
}

-- both halves have the sets of all pairs
pub halves_have_all : (f : ℕ → ℕ → ℕ) (n middle : ℕ) (first second : List ℕ) → middle ≤ n → SameMembers (place_pairs f n (range_with_len 0 middle)) first
    → SameMembers (place_pairs f n (range_with_len middle (n - middle))) second → SameMembers (place_pairs f n (range_with_len 0 n)) (first ++ second)
halves_have_all f n middle first second within one other =
    same_next (place_pairs f n (range_with_len 0 n)) (place_pairs f n (range_with_len 0 middle) ++ place_pairs f n (range_with_len middle (n - middle))) (first ++ second)
    (same_itself _ _ (pairs_in_halves f n middle within))
    (same_next _ (first ++ place_pairs f n (range_with_len middle (n - middle))) _
    (same_in_front (place_pairs f n (range_with_len 0 middle)) first (place_pairs f n (range_with_len middle (n - middle))) one)
    (same_behind (place_pairs f n (range_with_len middle (n - middle))) second first other))

-- ---- the loops

-- one place more behind this one
pub beside_more : (f : ℕ → ℕ) (from m : ℕ) (before now later : List ℕ) → Adds before (map f (range_with_len from m)) now → Adds now (f (from + m) ∷ []) later
    → Adds before (map f (range_with_len from (m + 1))) later
beside_more f from m before now later so_far one =
    subst (λ xs. Adds before xs later) (sym (map-range_with_len_more f from m (from + m) refl))
    (adds_next before (map f (range_with_len from m)) now (f (from + m) ∷ []) later so_far one)

-- one place more with those behind it
pub pairs_more : (f : ℕ → ℕ → ℕ) (n from m : ℕ) (now later : List ℕ) → SameMembers (place_pairs f n (range_with_len from m)) now
    → Adds now (map (f (from + m)) (range_with_len (from + m + 1) (n - (from + m + 1)))) later → SameMembers (place_pairs f n (range_with_len from (m + 1))) later
unfolding place_pairs
pairs_more f n from m now later so_far one =
    let here = map (f (from + m)) (range_with_len (from + m + 1) (n - (from + m + 1))) in
    same_next (place_pairs f n (range_with_len from (m + 1))) (now ++ here) later
    (subst (λ xs. SameMembers xs (now ++ here))
    (sym (ap (place_pairs f n) (range_split from m 1) ∙ pairs_joined f n (range_with_len from m) ((from + m) ∷ []) ∙ ap (λ xs. place_pairs f n (range_with_len from m) ++ xs) (append-nil here)))
    (same_in_front (place_pairs f n (range_with_len from m)) now here so_far)) one

-- two lists that were put one behind the other
pub put_behind : (first second none one both : List ℕ) → none ≡ [] → one ≡ none ++ first → both ≡ one ++ second → both ≡ first ++ second
put_behind first second none one both empty front behind =
    behind ∙ ap (λ xs. xs ++ second) (front ∙ ap (λ xs. xs ++ first) empty)

-- the place at which a loop stands is added
pub beside_to : (f : ℕ → ℕ) (start at x : ℕ) (before now later : List ℕ) → start ≤ at → x ≡ f at → Adds before (map f (range_with_len start (at - start))) now
    → Adds now (x ∷ []) later → Adds before (map f (range_with_len start (at + 1 - start))) later
beside_to f start at x before now later reached is so_far one =
    let here : start + (at - start) ≡ at = omega (arith, reached) in
    let longer : (at - start) + 1 ≡ at + 1 - start = omega (arith, reached) in
    subst (λ m. Adds before (map f (range_with_len start m)) later) longer
    (beside_more f start (at - start) before now later so_far (subst (λ y. Adds now (y ∷ []) later) (is ∙ ap f (sym here)) one))

pub beside_done : (f : ℕ → ℕ) (start at end : ℕ) (before now : List ℕ) → at ≡ end → Adds before (map f (range_with_len start (at - start))) now
    → Adds before (map f (range_with_len start (end - start))) now
beside_done f start at end before now reached so_far = subst (λ n. Adds before (map f (range_with_len start (n - start))) now) reached so_far

-- the place at which a loop stands is added with those behind it
pub pairs_to : (f : ℕ → ℕ → ℕ) (n start at : ℕ) (now later : List ℕ) → start ≤ at → SameMembers (place_pairs f n (range_with_len start (at - start))) now
    → Adds now (map (f at) (range_with_len (at + 1) (n - (at + 1)))) later → SameMembers (place_pairs f n (range_with_len start (at + 1 - start))) later
pairs_to f n start at now later reached so_far one =
    let here : at ≡ start + (at - start) = omega (arith, reached) in
    let longer : (at - start) + 1 ≡ at + 1 - start = omega (arith, reached) in
    subst (λ m. SameMembers (place_pairs f n (range_with_len start m)) later) longer
    (pairs_more f n start (at - start) now later so_far (subst (λ k. Adds now (map (f k) (range_with_len (k + 1) (n - (k + 1)))) later) here one))

pub pairs_none : (f : ℕ → ℕ → ℕ) (n start : ℕ) (now : List ℕ) → now ≡ [] → SameMembers (place_pairs f n (range_with_len start (start - start))) now
unfolding place_pairs
pairs_none f n start now none =
    let nothing : start - start ≡ 0 = omega arith in
    subst (λ m. SameMembers (place_pairs f n (range_with_len start m)) now) (sym nothing) (same_itself [] now (sym none))

pub pairs_done : (f : ℕ → ℕ → ℕ) (n start at end : ℕ) (now kept : List ℕ) → at ≡ end → kept ≡ now → SameMembers (place_pairs f n (range_with_len start (at - start))) now
    → SameMembers (place_pairs f n (range_with_len start (end - start))) kept
pairs_done f n start at end now kept reached same so_far =
    subst (λ m. SameMembers (place_pairs f n (range_with_len start (m - start))) kept) reached
    (subst (SameMembers (place_pairs f n (range_with_len start (at - start)))) (sym same) so_far)

-- what both halves met, in order, is the sets of all pairs
pub halves_are : (columns : List CodedColumn) (nulls : List ℕ) (middle : ℕ) (first second : Met) (sets : Sets) → middle ≤ length nulls
    → IsMet columns nulls (range_with_len 0 middle) first → IsMet columns nulls (range_with_len middle (length nulls - middle)) second → AreMerged first second sets
    → AreOfPairs columns nulls sets
halves_are columns nulls middle first second sets within one other merged = record {
  apart =
      order_of_same (place_pairs (apart_at columns nulls) (length nulls) (range_with_len 0 (length nulls))) (first.apart.items ++ second.apart.items) sets.apart
      (halves_have_all (apart_at columns nulls) (length nulls) middle first.apart.items second.apart.items within one.apart other.apart) merged.apart;
  not_same =
      order_of_same (place_pairs (not_same_at columns nulls) (length nulls) (range_with_len 0 (length nulls))) (first.not_same.items ++ second.not_same.items) sets.not_same
      (halves_have_all (not_same_at columns nulls) (length nulls) middle first.not_same.items second.not_same.items within one.not_same other.not_same) merged.not_same;
}
