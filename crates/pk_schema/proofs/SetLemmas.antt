-- Which columns are in the set of those that pass a test.
use Rattle.std.proofs.Common.{◌≡◌, refl, sym, ◌∙◌, ap, ℕ, zero, suc, ◌+◌, ◌*◌, ◌/◌, ◌%◌, ◌^◌, ◌<◌, Bool, true, false, ◌&&◌, ◌||◌, ◌==◌, List, [], ◌∷◌, ◌++◌, length, take, get_or, nat_lt, if◌then◌else◌, arith}
use Rattle.std.proofs.lemmas.Bool.{lt-ltb, le-ltb, ne_eqb}
use Rattle.std.proofs.lemmas.List.{take_more, length-take-le}
use Rattle.std.proofs.lemmas.Nat.Bits.{bit_at_lowest, bit_at-suc}
use Rattle.std.proofs.Math.Dec.{eqb-suc-suc, leb-suc-suc}
use Rattle.std.proofs.Math.Nat.{pow-suc}
use Rattle.pk_values.specs.ColumnSet.{IsColumnSet, has_column, columns}
use Rattle.pk_values.proofs.BitLemmas.{has_nothing}
use Rattle.pk_values.proofs.ColumnLemmas.{same_set, set_from_columns, columns_nothing}
use Rattle.pk_syntax.specs.declared.declaration.ColumnDecl.{ColumnDecl}
use Rattle.pk_schema.specs.Shapes.{set_where, all_of}
use Rattle.std.proofs.Math.Bool.{or-false}

digit_even : (b : Bool) (n : ℕ) → ((if b then 1 else 0) + 2 * n) % 2 == 1 ≡ b
digit_even true n = let odd : (1 + 2 * n) % 2 ≡ 1 = omega arith in rw odd refl
digit_even false n = let even : (0 + 2 * n) % 2 ≡ 0 = omega arith in rw even refl

digit_half : (b : Bool) (n : ℕ) → ((if b then 1 else 0) + 2 * n) / 2 ≡ n
digit_half true n = omega arith
digit_half false n = omega arith

pub equal_next : (k n : ℕ) → (suc k == suc n) ≡ (k == n)
equal_next k n = eqb-suc-suc k n

less_next : (k n : ℕ) → nat_lt (suc k) (suc n) ≡ nat_lt k n
less_next k n = leb-suc-suc (suc k) n

-- the first column is in the set where it passes
pub has_first : (p : ColumnDecl → Bool) (c : ColumnDecl) (cs : List ColumnDecl) → has_column (set_where p (c ∷ cs)) 0 ≡ p c
unfolding set_where
has_first p c cs = rw (bit_at_lowest (set_where p (c ∷ cs))) (digit_even (p c) (set_where p cs))

-- and the others as they are in that of the others
pub has_next : (p : ColumnDecl → Bool) (c : ColumnDecl) (cs : List ColumnDecl) (k : ℕ) → has_column (set_where p (c ∷ cs)) (suc k) ≡ has_column (set_where p cs) k
unfolding set_where
has_next p c cs k = rw (bit_at-suc (set_where p (c ∷ cs)) k, digit_half (p c) (set_where p cs)) refl

pub has_none : (p : ColumnDecl → Bool) (k : ℕ) → has_column (set_where p []) k ≡ false
unfolding set_where
has_none p k = has_nothing k

-- the set has one bit for each column
pub set_small : (p : ColumnDecl → Bool) (cs : List ColumnDecl) → set_where p cs < 2 ^ length cs
unfolding set_where
set_small p [] = omega arith
set_small p (c ∷ cs) = rw (pow-suc 2 (length cs)) (doubled (p c) (set_where p cs) (2 ^ length cs) (set_small p cs))
  where
    doubled : (b : Bool) (n m : ℕ) → n < m → (if b then 1 else 0) + 2 * n < m * 2
    doubled true n m less = omega (arith, less)
    doubled false n m less = omega (arith, less)

-- all columns are those below the number of columns
pub has_all : (cs : List ColumnDecl) (k : ℕ) → has_column (all_of cs) k ≡ nat_lt k (length cs)
has_all [] k = has_none (λ c. true) k ∙ sym (le-ltb k 0 (omega arith))
has_all (c ∷ cs) zero = has_first (λ d. true) c cs ∙ sym (lt-ltb 0 (suc (length cs)) (omega arith))
has_all (c ∷ cs) (suc k) = has_next (λ d. true) c cs k ∙ has_all cs k ∙ sym (less_next k (length cs))

-- one column more, which is behind all others
pub has_more : (p : ColumnDecl → Bool) (cs : List ColumnDecl) (c : ColumnDecl) (k : ℕ)
    → has_column (set_where p (cs ++ c ∷ [])) k ≡ ((k == length cs && p c) || has_column (set_where p cs) k)
has_more p [] c zero = rw (has_first p c [], has_none p 0) (sym (or-false (p c)))
has_more p [] c (suc k) = rw (has_next p c [] k, has_none p k, has_none p (suc k), ne_eqb (suc k) 0 (λ same. absurd (omega (arith, same)))) refl
has_more p (d ∷ ds) c zero = rw (has_first p d (ds ++ c ∷ []), has_first p d ds, ne_eqb 0 (suc (length ds)) (λ same. absurd (omega (arith, same)))) refl
has_more p (d ∷ ds) c (suc k) = rw (has_next p d (ds ++ c ∷ []) k, has_next p d ds k, equal_next k (length ds)) (has_more p ds c k)

-- ---- how code finds them

pub all_columns : (cs : List ColumnDecl) (set : ℕ) → ((k : ℕ) → has_column set k ≡ nat_lt k (length cs)) → set ≡ all_of cs
all_columns cs set members = same_set set (all_of cs) (λ k. members k ∙ sym (has_all cs k))

-- one column more of the table, which is at this place
seen_more : (p : ColumnDecl → Bool) (cs : List ColumnDecl) (i : ℕ) (c : ColumnDecl) (k : ℕ) → i < length cs → c ≡ get_or cs i c
    → has_column (set_where p (take (i + 1) cs)) k ≡ ((k == i && p c) || has_column (set_where p (take i cs)) k)
seen_more p cs i c k within is =
    let seen : take (i + 1) cs ≡ take i cs ++ c ∷ [] = take_more cs i c within ∙ ap (λ d. take i cs ++ d ∷ []) (sym is) in
    let count : length (take i cs) ≡ i = length-take-le i cs (omega (arith, within)) in
    rw seen (has_more p (take i cs) c k ∙ ap (λ n. (k == n && p c) || has_column (set_where p (take i cs)) k) count)

-- the set with that column, where it passes
pub set_seen : (p : ColumnDecl → Bool) (cs : List ColumnDecl) (i : ℕ) (c : ColumnDecl) (set new : ℕ) (passes : Bool) → i < length cs → c ≡ get_or cs i c
    → passes ≡ p c → set ≡ set_where p (take i cs) → ((k : ℕ) → has_column new k ≡ ((k == i && passes) || has_column set k)) → new ≡ set_where p (take (i + 1) cs)
set_seen p cs i c set new passes within is tested so_far members =
    same_set new (set_where p (take (i + 1) cs)) (λ k. members k ∙ ap (λ b. (k == i && b) || has_column set k) tested
    ∙ ap (λ n. (k == i && p c) || has_column n k) so_far ∙ sym (seen_more p cs i c k within is))

pub set_none : (p : ColumnDecl → Bool) (set : ℕ) → IsColumnSet set → columns set ≡ [] → set ≡ set_where p []
unfolding set_where
set_none p set bounded none = set_from_columns set 0 bounded (omega arith) (none ∙ sym columns_nothing)
