-- Inclusion of sets of columns, and what two sets share.
use Rattle.std.proofs.Common.{◌≡◌, refl, sym, ◌∙◌, subst, ℕ, zero, suc, ◌<◌, ◌≤◌, min, Bool, true, false, ◌&&◌, ◌||◌, ◌==◌, bit_and, arith}
use Rattle.std.specs.List.{Contains, list_all, list_any, range_with_len}
use Rattle.std.specs.Int.{bit_at}
use Rattle.std.specs.Cmp.{both_ways}
use Rattle.std.proofs.lemmas.Bool.{and_parts, eq-eqb, eqb-true}
use Rattle.std.proofs.lemmas.Nat.{and_le_r}
use Rattle.std.proofs.lemmas.Nat.Bits.{bit_at_and, bit_at-lt}
use Rattle.pk_values.specs.ColumnSet.{IsColumnSet, has_column, columns, is_subset}
use Rattle.pk_values.proofs.ColumnLemmas.{all_members, listed_columns, same_set, subset_members, subset_from_members}
use Rattle.pk_similar.specs.Similarity.{are_below, is_among}
use Rattle.pk_transversal.specs.Transversals.{meets, parts}
use Rattle.pk_discover.proofs.ListLemmas.{in_kept, kept_in, any_at, any_from, all_at, range_in, range_below}

pub subset_trans : (a b c : ℕ) → IsColumnSet a → IsColumnSet b → is_subset a b ≡ true → is_subset b c ≡ true → is_subset a c ≡ true
subset_trans a b c a_set b_set first second =
    subset_from_members a c (λ k holds. subset_members b c k b_set second (subset_members a b k a_set first holds))

-- ---- columns of both

both_digits : (x y : ℕ) → x < 2 → y < 2 → (min x y == 1) ≡ (x == 1 && y == 1)
both_digits zero zero _ _ = refl
both_digits zero (suc zero) _ _ = refl
both_digits (suc zero) zero _ _ = refl
both_digits (suc zero) (suc zero) _ _ = refl
both_digits (suc (suc x)) y low _ = absurd (omega (arith, low))
both_digits x (suc (suc y)) _ low = absurd (omega (arith, low))

pub has_and : (a b k : ℕ) → has_column (bit_and a b) k ≡ (has_column a k && has_column b k)
has_and a b k = rw (bit_at_and a b k) (both_digits (bit_at a k) (bit_at b k) (bit_at-lt a k) (bit_at-lt b k))

pub and_left_part : (a b : ℕ) → is_subset (bit_and a b) a ≡ true
and_left_part a b = subset_from_members (bit_and a b) a (λ k holds. (and_parts (has_column a k) (has_column b k) (sym (has_and a b k) ∙ holds)).0)

pub and_right_part : (a b : ℕ) → is_subset (bit_and a b) b ≡ true
and_right_part a b = subset_from_members (bit_and a b) b (λ k holds. (and_parts (has_column a k) (has_column b k) (sym (has_and a b k) ∙ holds)).1)

pub and_set : (a b : ℕ) → IsColumnSet b → IsColumnSet (bit_and a b)
and_set a b b_set = let below = and_le_r a b in omega (arith, below, b_set)

-- a set inside another is what both have, and so no greater number
subset_at_most : (a b : ℕ) → IsColumnSet a → is_subset a b ≡ true → a ≤ b
subset_at_most a b a_set inside = subst (λ n. n ≤ b) (same_set (bit_and a b) a members) (and_le_r a b)
  where
    members : (k : ℕ) → has_column (bit_and a b) k ≡ has_column a k
    members k =
        has_and a b k
        ∙ both_ways (has_column a k && has_column b k) (has_column a k) (λ both. (and_parts (has_column a k) (has_column b k) both).0)
        (λ holds. rw (holds, subset_members a b k a_set inside holds) refl)

-- the sets inside a set
pub in_parts : (all x : ℕ) → IsColumnSet x → is_subset x all ≡ true → Contains (parts all) x
unfolding parts
in_parts all x x_set inside =
    let most = subset_at_most x all x_set inside in
    in_kept (λ y. is_subset y all) (range_with_len 0 (suc all)) x (range_in 0 (suc all) x (omega arith) (omega (arith, most))) inside

pub part_of : (all x : ℕ) → IsColumnSet all → Contains (parts all) x → IsColumnSet x × (is_subset x all ≡ true)
unfolding parts
part_of all x all_set found =
    let kept = kept_in (λ y. is_subset y all) (range_with_len 0 (suc all)) x found in
    let below = range_below 0 (suc all) x kept.0 in
    (omega (arith, below, all_set), kept.1)

-- ---- the columns of a set

pub in_columns : (set c : ℕ) → IsColumnSet set → has_column set c ≡ true → Contains (columns set) c
in_columns set c a_set holds =
    let found = any_at (λ j. j == c) (columns set) (listed_columns set c a_set ∙ holds) in
    subst (Contains (columns set)) (eqb-true found.0 c found.2) found.1

pub column_of : (set c : ℕ) → IsColumnSet set → Contains (columns set) c → has_column set c ≡ true
column_of set c a_set found = sym (listed_columns set c a_set) ∙ any_from (λ j. j == c) (columns set) c found (eq-eqb c c refl)

-- the columns of a part are among those of the whole
pub part_among : (x all : ℕ) → IsColumnSet x → IsColumnSet all → is_subset x all ≡ true → list_all (is_among (columns all)) (columns x) ≡ true
part_among x all x_set all_set inside =
    all_members (is_among (columns all)) x (λ k holds. listed_columns all k all_set ∙ subset_members x all k x_set inside holds)

pub part_below : (width x all : ℕ) → IsColumnSet x → IsColumnSet all → is_subset x all ≡ true → are_below width (columns all) ≡ true
    → are_below width (columns x) ≡ true
part_below width x all x_set all_set inside below =
    all_members _ x (λ k holds. all_at _ (columns all) k below (in_columns all k all_set (subset_members x all k x_set inside holds)))

-- ---- sharing a column

pub shared_of : (x edge : ℕ) → IsColumnSet edge → meets x edge ≡ true → (c : ℕ) × (has_column edge c ≡ true) × (has_column x c ≡ true)
shared_of x edge edge_set met =
    let found = any_at (has_column x) (columns edge) met in
    (found.0, column_of edge found.0 edge_set found.1, found.2)

pub meets_from : (x edge c : ℕ) → IsColumnSet edge → has_column edge c ≡ true → has_column x c ≡ true → meets x edge ≡ true
meets_from x edge c edge_set has holds = any_from (has_column x) (columns edge) c (in_columns edge c edge_set has) holds

-- it is the same to look for a column of the one in the other
pub meets_either : (x edge : ℕ) → IsColumnSet x → IsColumnSet edge → meets x edge ≡ list_any (is_among (columns edge)) (columns x)
meets_either x edge x_set edge_set =
    both_ways (meets x edge) (list_any (is_among (columns edge)) (columns x))
    (λ met.
    let shared = shared_of x edge edge_set met in
    any_from (is_among (columns edge)) (columns x) shared.0 (in_columns x shared.0 x_set shared.2) (listed_columns edge shared.0 edge_set ∙ shared.1))
    (λ found.
    let column = any_at (is_among (columns edge)) (columns x) found in
    meets_from x edge column.0 edge_set (sym (listed_columns edge column.0 edge_set) ∙ column.2) (column_of x column.0 x_set column.1))

pub or_itself : (b : Bool) → (b || b) ≡ b
or_itself true = refl
or_itself false = refl
