-- Reading the marks of a column one by one.
use Rattle.std.proofs.Common.{◌≡◌, ℕ, ◌+◌, ◌-◌, ◌<◌, ◌≤◌, suc, List, [], ◌∷◌, ◌++◌, Some, None, sym, ap, ◌∙◌, append_assoc, arith}
use Rattle.std.proofs.lemmas.List.{append-nil}
use Rattle.pk_lex.specs.declared.token.Token.{Token}
use Rattle.pk_parse.specs.declared.table_part.Mark.{Mark}
use Rattle.pk_parse.specs.Create.{mark_at, marks_at}

-- what is found, with these marks before it
abbrev pub with_marks : List Mark → List Mark × List Token → List Mark × List Token
with_marks front found = (front ++ found.0, found.1)

-- one more mark
pub is_marked : (front : List Mark) (end i : ℕ) (tokens behind : List Token) (mark : Mark) (all : List Mark × List Token)
    → i < end → mark_at tokens ≡ Some (mark, behind) → with_marks front (marks_at (end - i) tokens) ≡ all → with_marks (front ++ mark ∷ []) (marks_at (end - (i + 1)) behind) ≡ all
is_marked front end i tokens behind mark all lt found so_far =
    let left : end - i ≡ suc (end - (i + 1)) = omega arith in
    let one : with_marks front (marks_at (end - i) tokens) ≡ with_marks (front ++ mark ∷ []) (marks_at (end - (i + 1)) behind) =
    rw (left, found) (ap (λ (ms : List Mark). (ms, (marks_at (end - (i + 1)) behind).1)) (sym (append_assoc front (mark ∷ []) (marks_at (end - (i + 1)) behind).0))) in
    sym one ∙ so_far

-- no mark
pub is_unmarked : (front : List Mark) (end i : ℕ) (tokens : List Token) (all : List Mark × List Token)
    → i < end → mark_at tokens ≡ None → with_marks front (marks_at (end - i) tokens) ≡ all → all ≡ (front, tokens)
is_unmarked front end i tokens all lt found so_far =
    let left : end - i ≡ suc (end - (i + 1)) = omega arith in
    let one : with_marks front (marks_at (end - i) tokens) ≡ (front, tokens) = rw (left, found) (ap (λ (ms : List Mark). (ms, tokens)) (append-nil front)) in
    sym so_far ∙ one

-- no turn is left
pub is_spent : (front : List Mark) (end i : ℕ) (tokens : List Token) (all : List Mark × List Token)
    → end ≤ i → with_marks front (marks_at (end - i) tokens) ≡ all → all ≡ (front, tokens)
is_spent front end i tokens all le so_far =
    let left : end - i ≡ 0 = omega arith in
    let one : with_marks front (marks_at (end - i) tokens) ≡ (front, tokens) = rw left (ap (λ (ms : List Mark). (ms, tokens)) (append-nil front)) in
    sym so_far ∙ one
