-- Sets of columns as numbers, made bit by bit.
use Rattle.std.proofs.Common.{◌≡◌, refl, sym, ◌∙◌, ap, subst, ℕ, ◌<◌, ◌≤◌, ◌+◌, ◌^◌, Bool, true, false, cond, ◌&&◌, ◌||◌, ◌==◌, List, [], ◌∷◌, nat_lt, bit_or, inl, inr, arith}
use Rattle.std.specs.List.{Contains, filter, list_any, range_with_len}
use Rattle.std.proofs.lemmas.Bool.{cases_Bool, cases_eq, cases_lt, eq-eqb, ne_eqb, lt-ltb, le-ltb}
use Rattle.std.proofs.lemmas.Nat.{or_of_32}
use Rattle.std.proofs.lemmas.Nat.Bits.{bit_at-pow_same, bit_at-pow_other}
use Rattle.std.proofs.Math.Bool.{or_assoc}
use Rattle.std.proofs.Math.Pow.{pow_mono}
use Rattle.pk_values.specs.ColumnSet.{IsColumnSet, has_column, columns}
use Rattle.pk_values.proofs.BitLemmas.{has_or, has_nothing, has_none_above}
use Rattle.pk_values.proofs.ColumnLemmas.{same_set, kept_listed}
use Rattle.pk_values.proofs.RangeLemmas.{filter_twice}
use Rattle.pk_sweep.specs.Pairs.{set_of}
use Rattle.pk_sweep.proofs.ListLemmas.{in_first, in_rest, any_kept, filter_within, kept_within, range_below}

one_column : (c k : ℕ) → has_column (2 ^ c) k ≡ (c == k)
one_column c k =
    elim (cases_eq c k) [
      | inl same ↦ subst (λ j. has_column (2 ^ c) j ≡ (c == j)) same (rw (bit_at-pow_same c, eq-eqb c c refl) refl)
      | inr other ↦ rw (bit_at-pow_other c k (λ same. other (sym same)), ne_eqb c k other) refl
    ]

-- the members of the set of some columns
pub has_set_of : (cs : List ℕ) (k : ℕ) → has_column (set_of cs) k ≡ list_any (λ c. c == k) cs
unfolding set_of
has_set_of [] k = has_nothing k
has_set_of (c ∷ cs) k =
    has_or (2 ^ c) (set_of cs) k ∙ ap (λ b. b || has_column (set_of cs) k) (one_column c k) ∙ ap (λ b. (c == k) || b) (has_set_of cs k)

pub one_column_set : (c : ℕ) → c < 32 → IsColumnSet (2 ^ c)
one_column_set c low =
    let within : c ≤ 31 = omega (arith, low) in
    let most : 2 ^ c ≤ 2 ^ 31 = pow_mono within in
    omega (arith, most)

pub set_of_set : (cs : List ℕ) → ((c : ℕ) → Contains cs c → c < 32) → IsColumnSet (set_of cs)
unfolding set_of
set_of_set [] low = omega arith
set_of_set (c ∷ cs) low =
    or_of_32 (2 ^ c) (set_of cs) (one_column_set c (low c (in_first c cs))) (set_of_set cs (λ d found. low d (in_rest c cs d found)))

-- the columns of a set that a test keeps are the columns of their set
pub columns_of_kept : (x : ℕ) (p : ℕ → Bool) → columns (set_of (filter p (columns x))) ≡ filter p (columns x)
unfolding columns
columns_of_kept x p =
    filter_within (has_column (set_of (filter p (filter (has_column x) (range_with_len 0 32))))) (λ k. has_column x k && p k) 0 32
    (λ k low high.
    has_set_of (filter p (filter (has_column x) (range_with_len 0 32))) k
    ∙ any_kept p (filter (has_column x) (range_with_len 0 32)) k
    ∙ ap (λ b. b && p k) (kept_listed (has_column x) 0 32 k low high))
    ∙ sym (filter_twice (has_column x) p (range_with_len 0 32))

-- ---- joining sets

pub or_joined : (a b c : ℕ) → bit_or (bit_or a b) c ≡ bit_or a (bit_or b c)
or_joined a b c =
    same_set (bit_or (bit_or a b) c) (bit_or a (bit_or b c))
    (λ k.
    has_or (bit_or a b) c k ∙ ap (λ t. t || has_column c k) (has_or a b k) ∙ or_assoc (has_column a k) (has_column b k) (has_column c k)
    ∙ sym (has_or a (bit_or b c) k ∙ ap (λ t. has_column a k || t) (has_or b c k)))

pub or_nothing : (a : ℕ) → bit_or a 0 ≡ a
or_nothing a = same_set (bit_or a 0) a (λ k. has_or a 0 k ∙ ap (λ t. has_column a k || t) (has_nothing k) ∙ or_false (has_column a k))
  where
    or_false : (t : Bool) → (t || false) ≡ t
    or_false true = refl
    or_false false = refl

pub nothing_or : (a : ℕ) → bit_or 0 a ≡ a
nothing_or a = same_set (bit_or 0 a) a (λ k. has_or 0 a k ∙ ap (λ t. t || has_column a k) (has_nothing k))

-- one more set is joined
pub joined_more : (set one rest whole : ℕ) → bit_or set (bit_or one rest) ≡ whole → bit_or (bit_or set one) rest ≡ whole
joined_more set one rest whole so_far = or_joined set one rest ∙ so_far

-- the set of what a test keeps, by its first column
pub set_of_step : (p : ℕ → Bool) (c : ℕ) (cs : List ℕ) → set_of (filter p (c ∷ cs)) ≡ bit_or (cond (p c) (2 ^ c) 0) (set_of (filter p cs))
unfolding set_of
set_of_step p c cs =
    elim (cases_Bool (p c)) [
      | inl holds ↦ rw holds refl
      | inr fails ↦ rw fails (sym (nothing_or (set_of (filter p cs))))
    ]

-- ---- a set from a number's bits

-- the set so far has the number's columns below c
abbrev pub HasBelow : ℕ → ℕ → ℕ → Type 0
HasBelow number set c = (k : ℕ) → has_column set k ≡ (nat_lt k c && has_column number k)

pub has_below_more : (number set more c : ℕ) (wanted : Bool) → HasBelow number set c → wanted ≡ has_column number c
    → ((k : ℕ) → has_column more k ≡ ((wanted && k == c) || has_column set k)) → HasBelow number more (c + 1)
has_below_more number set more c wanted so_far tests members k =
    members k ∙ ap (λ t. (wanted && k == c) || t) (so_far k) ∙ ap (λ t. (t && k == c) || (nat_lt k c && has_column number k)) tests ∙ step
  where
    step : ((has_column number c && k == c) || (nat_lt k c && has_column number k)) ≡ (nat_lt k (c + 1) && has_column number k)
    step =
        elim (cases_eq k c) [
          | inl same ↦
              subst (λ j. ((has_column number j && k == c) || (nat_lt k c && has_column number k)) ≡ (nat_lt k (c + 1) && has_column number k)) same
              (here (has_column number k) (eq-eqb k c same) (le-ltb k c (omega (arith, same))) (lt-ltb k (c + 1) (omega (arith, same))))
          | inr other ↦ elim (cases_lt k c) [
            | inl low ↦ there (has_column number c) (has_column number k) (ne_eqb k c other) (lt-ltb k c low) (lt-ltb k (c + 1) (omega (arith, low)))
            | inr high ↦ there (has_column number c) (has_column number k) (ne_eqb k c other) (le-ltb k c high) (le-ltb k (c + 1) (omega (arith, high, other)))
          ]
        ]
      where
        here : (t : Bool) → (k == c) ≡ true → nat_lt k c ≡ false → nat_lt k (c + 1) ≡ true → ((t && k == c) || (nat_lt k c && t)) ≡ (nat_lt k (c + 1) && t)
        here true same below next = rw (same, next) refl
        here false same below next = rw (below, next) refl

        there : {b : Bool} (s t : Bool) → (k == c) ≡ false → nat_lt k c ≡ b → nat_lt k (c + 1) ≡ b → ((s && k == c) || (nat_lt k c && t)) ≡ (nat_lt k (c + 1) && t)
        there true t other below next = rw (other, below, next) refl
        there false t other below next = rw (below, next) refl

pub has_all : (number set : ℕ) → IsColumnSet number → HasBelow number set 32 → set ≡ number
has_all number set bounded all =
    same_set set number (λ k. all k ∙ elim (cases_lt k 32) [
      | inl low ↦ rw (lt-ltb k 32 low) refl
      | inr high ↦ rw (le-ltb k 32 high, has_none_above number k bounded high) refl
    ])

-- ---- the columns of a set

pub column_below : (x c : ℕ) → Contains (columns x) c → c < 32
unfolding columns
column_below x c found = range_below 0 32 c (kept_within (has_column x) (range_with_len 0 32) c found)

pub kept_columns_set : (x : ℕ) (p : ℕ → Bool) → IsColumnSet (set_of (filter p (columns x)))
kept_columns_set x p = set_of_set (filter p (columns x)) (λ c found. column_below x c (kept_within p (columns x) c found))

pub nothing_below : (number set : ℕ) → set ≡ 0 → HasBelow number set 0
nothing_below number set none k = ap (λ s. has_column s k) none ∙ has_nothing k ∙ ap (λ t. t && has_column number k) (sym (le-ltb k 0 (omega arith)))
