use Rattle.std.proofs.Common.{◌≡◌, ℕ, ◌+◌, ◌-◌, ◌≤◌, List, length, take, drop, ap, subst, sym, ◌∙◌, arith}
use Rattle.std.proofs.lemmas.List.{take_all, length-drop}
use Rattle.std.proofs.Math.Seq.{take-add}
use Rattle.std.proofs.KnownBytes.{Appends-trans, Appends-kept}
use Rattle.std.specs.declared.option.Option.{Option}
use Rattle.std.specs.Io.KnownBytes.{Appends, Keeps}

-- the writer took the first `at` bytes, and no others
abbrev pub IsWritten : Option (List ℕ) → Option (List ℕ) → List ℕ → ℕ → Type 0
IsWritten old new bytes at = record {
  within : at ≤ length bytes;
  written : Appends old new (take at bytes);
}

-- all behind the first `at` bytes
abbrev behind : List ℕ → ℕ → List ℕ
behind bytes at = take (length bytes - at) (drop at bytes)

behind_is : (bytes : List ℕ) (at : ℕ) → behind bytes at ≡ drop at bytes
behind_is bytes at = take_all _ _ (simp (length-drop) (omega arith))

length-behind : (bytes : List ℕ) (at : ℕ) → length (behind bytes at) ≡ length bytes - at
length-behind bytes at = ap length (behind_is bytes at) ∙ length-drop at bytes

-- the first `at`, and then n of those behind them
pub written_more : (a b c : Option (List ℕ)) (bytes : List ℕ) (at n next : ℕ) → at ≤ length bytes → Appends a b (take at bytes)
    → n ≤ length (behind bytes at) → Appends b c (take n (behind bytes at)) → next ≡ at + n → IsWritten a c bytes next
written_more a b c bytes at n next inside first fits more is =
    let most : n ≤ length bytes - at = subst (λ (k : ℕ). n ≤ k) (length-behind bytes at) fits in
    let rest : Appends b c (take n (drop at bytes)) = subst (λ (xs : List ℕ). Appends b c (take n xs)) (behind_is bytes at) more in
    let all : Appends a c (take (at + n) bytes) = subst (λ (xs : List ℕ). Appends a c xs) (sym (take-add at n bytes)) (Appends-trans a b c _ _ first rest) in
    record {
      within = omega (arith, is, most, inside);
      written = subst (λ (k : ℕ). Appends a c (take k bytes)) (sym is) all;
    }

-- the first `at`, where what was tried then took nothing
pub kept_so_far : (a b c : Option (List ℕ)) (bytes : List ℕ) (at next : ℕ) → at ≤ length bytes → Appends a b (take at bytes)
    → Keeps b c → next ≡ at → IsWritten a c bytes next
kept_so_far a b c bytes at next inside first same is = record {
  within = omega (arith, is, inside);
  written = subst (λ (k : ℕ). Appends a c (take k bytes)) (sym is) (Appends-kept a b c _ first same);
}
