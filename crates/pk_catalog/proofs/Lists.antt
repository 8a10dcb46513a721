-- Reading parts of one sort one after the other.
use Rattle.std.proofs.Common.{◌≡◌, ℕ, ◌+◌, ◌-◌, ◌<◌, ◌≤◌, suc, List, [], ◌∷◌, ◌++◌, Some, None, refl, sym, ap, ◌∙◌, append_assoc, arith}
use Rattle.std.proofs.lemmas.List.{append-nil}
use Rattle.pk_catalog.specs.declared.cat_err.CatErr.{CatErr}
use Rattle.pk_catalog.specs.declared.cat_err.CatErr.TheVariants.{Bad, Memory}
use Rattle.pk_catalog.specs.Reading.{Found, ◌>>=◌, Misses, all_at}

-- what is found, with these before it
abbrev pub with_front : {A : Type 0} → List A → Found (List A) → Found (List A)
with_front front found = found >>= λ xs. Some (front ++ xs.0, xs.1)

regroup : {A : Type 0} (front : List A) (x : A) (found : Found (List A)) → with_front front (found >>= λ xs. Some (x ∷ xs.0, xs.1)) ≡ with_front (front ++ x ∷ []) found
regroup front x None = refl
regroup front x (Some xs) = ap (λ items. Some (items, xs.1)) (sym (append_assoc front (x ∷ []) xs.0))

-- one more part
pub is_taken : {A : Type 0} (at : List ℕ → Found A) (front : List A) (count i : ℕ) (bytes behind : List ℕ) (x : A) (all : Found (List A))
    → i < count → at bytes ≡ Some (x, behind) → with_front front (all_at at (count - i) bytes) ≡ all → with_front (front ++ x ∷ []) (all_at at (count - (i + 1)) behind) ≡ all
is_taken at front count i bytes behind x all low found so_far =
    let left : count - i ≡ suc (count - (i + 1)) = omega (arith, low) in
    let one : with_front front (all_at at (count - i) bytes) ≡ with_front (front ++ x ∷ []) (all_at at (count - (i + 1)) behind) = rw (left, found) (regroup front x (all_at at (count - (i + 1)) behind)) in
    sym one ∙ so_far

-- no such part
pub is_missed : {A : Type 0} (at : List ℕ → Found A) (front : List A) (count i : ℕ) (bytes : List ℕ) (e : CatErr) (all : Found (List A))
    → i < count → Misses e (at bytes) → with_front front (all_at at (count - i) bytes) ≡ all → Misses e all
is_missed at front count i bytes Memory all low missed so_far = tt
is_missed at front count i bytes Bad all low missed so_far =
    let left : count - i ≡ suc (count - (i + 1)) = omega (arith, low) in
    let one : with_front front (all_at at (count - i) bytes) ≡ None = rw (left, missed) refl in
    sym so_far ∙ one

-- no part is left
pub is_over : {A : Type 0} (at : List ℕ → Found A) (front : List A) (count i : ℕ) (bytes : List ℕ) (all : Found (List A))
    → count ≤ i → with_front front (all_at at (count - i) bytes) ≡ all → all ≡ Some (front, bytes)
is_over at front count i bytes all high so_far =
    let left : count - i ≡ 0 = omega (arith, high) in
    let one : with_front front (all_at at (count - i) bytes) ≡ Some (front, bytes) = rw left (ap (λ items. Some (items, bytes)) (append-nil front)) in
    sym so_far ∙ one
