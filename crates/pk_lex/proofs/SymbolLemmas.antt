use Rattle.std.proofs.Common.{◌≡◌, ℕ, ◌<◌, ◌≤◌, get_or, Bool, true, false, cond, ◌&&◌, eqb, List, [], ◌∷◌, Option, Some, None, length, refl, sym, ap, subst, arith, find, nat_eq, length-append}
use Rattle.std.specs.Option.{option_or}
use Rattle.std.specs.List.{starts_with}
use Rattle.std.proofs.lemmas.Option.{same_Some}
use Rattle.std.proofs.lemmas.Slice.Eq.{starts_is}
use Rattle.std.proofs.lemmas.Bool.Decides.{nat_tests, Decides-eqb}
use Rattle.pk_lex.specs.declared.token.Symbol.{Symbol}
use Rattle.pk_lex.specs.Symbols.{spelling, symbols, symbol_at}
use Rattle.pk_lex.specs.Matching.{single_symbol, double_symbol}
use Rattle.std.proofs.Math.Bool.{and-true, and-false}

eqb_flip : (n b : ℕ) → eqb n b ≡ eqb b n
eqb_flip n b = grind (arith, nat_tests)

-- a test of one byte, as `starts_with` makes it
one_byte : (n b : ℕ) → (eqb n b && true) ≡ eqb b n
one_byte n b = rw and-true (eqb_flip n b)

-- a test of two bytes
two_bytes : (n m b c : ℕ) → (eqb n b && (eqb m c && true)) ≡ (eqb b n && eqb c m)
two_bytes n m b c = rw (one_byte m c, eqb_flip n b) refl

option_or-cond : {A : Type 0} (p : Bool) (x : A) (o r : Option A) → option_or (cond p (Some x) o) r ≡ cond p (Some x) (option_or o r)
option_or-cond true x o r = refl
option_or-cond false x o r = refl

symbol_at-one : (b : ℕ) → symbol_at (b ∷ []) ≡ single_symbol b
unfolding symbol_at
symbol_at-one b = simp (and-false, one_byte)

symbol_at-more : (b c : ℕ) (rest : List ℕ) → symbol_at (b ∷ c ∷ rest) ≡ option_or (double_symbol b c) (single_symbol b)
unfolding symbol_at
symbol_at-more b c rest = simp two_bytes (simp (one_byte, option_or-cond))

-- what `symbol_at` gives by the number of bytes
pub symbol_at_none : (bytes : List ℕ) → length bytes < 1 → symbol_at bytes ≡ None
unfolding symbol_at
symbol_at_none [] h = refl
symbol_at_none (b ∷ bytes) h = absurd (omega arith)

pub symbol_at_one : (bytes : List ℕ) → 1 ≤ length bytes → length bytes < 2 → symbol_at bytes ≡ single_symbol (get_or bytes 0 0)
symbol_at_one [] h k = absurd (omega arith)
symbol_at_one (b ∷ []) h k = symbol_at-one b
symbol_at_one (b ∷ c ∷ bytes) h k = absurd (omega arith)

pub symbol_at_more : (bytes : List ℕ) → 2 ≤ length bytes → symbol_at bytes ≡ option_or (double_symbol (get_or bytes 0 0) (get_or bytes 1 0)) (single_symbol (get_or bytes 0 0))
symbol_at_more [] h = absurd (omega arith)
symbol_at_more (b ∷ []) h = absurd (omega arith)
symbol_at_more (b ∷ c ∷ bytes) h = symbol_at-more b c bytes

-- what `find` gives passes the test
find_passes : {A : Type 0} (test : A → Bool) (xs : List A) (x : A) → find test xs ≡ Some x → test x ≡ true
find_passes test [] x h = cc
find_passes test (y ∷ ys) x h =
    elim (test y) as (λ p. test y ≡ p → cond p (Some y) (find test ys) ≡ Some x → test x ≡ true) [
      | true ↦ λ e k. subst (λ z. test z ≡ true) (same_Some y x k) e
      | false ↦ λ e k. find_passes test ys x k
    ]
    refl h

-- a symbol lies within the bytes
pub symbol_at_fits : (bytes : List ℕ) (s : Symbol) → symbol_at bytes ≡ Some s → length (spelling s) ≤ length bytes
unfolding symbol_at
symbol_at_fits bytes s h =
    let passes = find_passes (λ t. starts_with nat_eq bytes (spelling t)) symbols s h in
    let parts = (starts_is Decides-eqb bytes (spelling s) true (sym passes)).0 refl in
    omega (arith, simp length-append at (ap length parts))
