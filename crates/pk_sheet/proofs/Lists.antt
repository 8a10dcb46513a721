-- Reading records one after the other.
use Rattle.std.proofs.Common.{◌≡◌, refl, sym, ◌∙◌, ap, ℕ, suc, ◌+◌, ◌-◌, ◌<◌, ◌≤◌, List, [], ◌∷◌, ◌++◌, Some, None, append_assoc, arith}
use Rattle.std.proofs.lemmas.List.{append-nil}
use Rattle.pk_rows.specs.declared.stored.Stored.{Stored}
use Rattle.pk_sheet.specs.declared.sheet_err.SheetErr.{SheetErr}
use Rattle.pk_sheet.specs.declared.sheet_err.SheetErr.TheVariants.{Bad, Memory}
use Rattle.pk_sheet.specs.Reading.{Found, ◌>>=◌, Misses, stored_at, all_at}

-- what is found, with these before it
abbrev pub with_front : List Stored → Found (List Stored) → Found (List Stored)
with_front front found = found >>= λ xs. Some (front ++ xs.0, xs.1)

regroup : (front : List Stored) (x : Stored) (found : Found (List Stored)) → with_front front (found >>= λ xs. Some (x ∷ xs.0, xs.1)) ≡ with_front (front ++ x ∷ []) found
regroup front x None = refl
regroup front x (Some xs) = ap (λ items. Some (items, xs.1)) (sym (append_assoc front (x ∷ []) xs.0))

-- one record more
pub is_taken : (front : List Stored) (count i : ℕ) (bytes behind : List ℕ) (x : Stored) (all : Found (List Stored))
    → i < count → stored_at bytes ≡ Some (x, behind) → with_front front (all_at (count - i) bytes) ≡ all → with_front (front ++ x ∷ []) (all_at (count - (i + 1)) behind) ≡ all
is_taken front count i bytes behind x all low found so_far =
    let left : count - i ≡ suc (count - (i + 1)) = omega (arith, low) in
    let one : with_front front (all_at (count - i) bytes) ≡ with_front (front ++ x ∷ []) (all_at (count - (i + 1)) behind) = rw (left, found) (regroup front x (all_at (count - (i + 1)) behind)) in
    sym one ∙ so_far

-- no record
pub is_missed : (front : List Stored) (count i : ℕ) (bytes : List ℕ) (e : SheetErr) (all : Found (List Stored))
    → i < count → Misses e (stored_at bytes) → with_front front (all_at (count - i) bytes) ≡ all → Misses e all
is_missed front count i bytes Memory all low missed so_far = tt
is_missed front count i bytes Bad all low missed so_far =
    let left : count - i ≡ suc (count - (i + 1)) = omega (arith, low) in
    let one : with_front front (all_at (count - i) bytes) ≡ None = rw (left, missed) refl in
    sym so_far ∙ one

-- no record is left
pub is_over : (front : List Stored) (count i : ℕ) (bytes : List ℕ) (all : Found (List Stored))
    → count ≤ i → with_front front (all_at (count - i) bytes) ≡ all → all ≡ Some (front, bytes)
is_over front count i bytes all high so_far =
    let left : count - i ≡ 0 = omega (arith, high) in
    let one : with_front front (all_at (count - i) bytes) ≡ Some (front, bytes) = rw left (ap (λ items. Some (items, bytes)) (append-nil front)) in
    sym so_far ∙ one
