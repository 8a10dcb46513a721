-- The cases of some sets, one after the other.
use Rattle.std.proofs.Common.{◌≡◌, sym, ◌∙◌, ap, ℕ, suc, ◌+◌, ◌<◌, ◌≤◌, not, ◌&&◌, List, [], ◌∷◌, ◌++◌, length, map, drop, drop-cons, get_or, add-one, nat_lt}
use Rattle.std.proofs.lemmas.List.{append_assoc, append-nil, drop_all, length-map}
use Rattle.pk_values.specs.declared.key.Sort.{Sort}
use Rattle.pk_values.specs.declared.value.Value.{Value}
use Rattle.pk_values.specs.ColumnSet.{IsColumnSet, has_column}
use Rattle.pk_values.proofs.BitLemmas.{has_and_not}
use Rattle.pk_values.proofs.ColumnLemmas.{same_set}
use Rattle.pk_syntax.specs.declared.declaration.ColumnDecl.{ColumnDecl}
use Rattle.pk_schema.specs.Shapes.{Shape, all_of, kinds_of}
use Rattle.pk_schema.proofs.SetLemmas.{has_all}
use Rattle.pk_rule.specs.Plain.{IsPlain, plain_of}
use Rattle.pk_rule.specs.TwoRows.{low_row, high_row}
use Rattle.pk_rule.specs.Laws.{key_over}
use Rattle.pk_examples.specs.declared.case.Case.{Case}
use Rattle.pk_examples.specs.Family.{every_column, outside, case_over}
use Rattle.pk_examples.proofs.WithoutLemmas.{has_every, every_set}

-- what the code leaves of all columns is what is outside
pub left_outside : (s : Shape) (t all left : ℕ) → IsPlain (plain_of s) → IsColumnSet t → all ≡ all_of s.columns
    → ((k : ℕ) → has_column left k ≡ (has_column all k && not (has_column t k))) → left ≡ outside (plain_of s) t
left_outside s t all left plain t_set is members =
    same_set left (outside (plain_of s) t) (λ k. members k ∙ ap (λ b. b && not (has_column t k)) (ap (λ a. has_column a k) is ∙ same k)
    ∙ sym (has_and_not (every_column (plain_of s)) t k (every_set (length (kinds_of s.columns)) plain.few_columns) t_set))
  where
    same : (k : ℕ) → has_column (all_of s.columns) k ≡ has_column (every_column (plain_of s)) k
    same k =
        has_all s.columns k ∙ ap (λ n. nat_lt k n) (sym (length-map s.columns (λ (c : ColumnDecl). c.kind)))
        ∙ sym (has_every (length (kinds_of s.columns)) k)

-- a case by its parts
abbrev pub of_parts : Sort → ℕ → List Value → List Value → Case
of_parts sort columns low high = record { sort = sort; columns = columns; low = low; high = high }

pub case_made : (s : Shape) (sort : Sort) (t left : ℕ) (low high : List Value) → left ≡ outside (plain_of s) t → low ≡ low_row (plain_of s) (key_over sort left)
    → high ≡ high_row (plain_of s) (key_over sort left) → of_parts sort left low high ≡ case_over (plain_of s) sort (outside (plain_of s) t)
case_made s sort t left low high is low_is high_is =
    ap (λ row. of_parts sort left row high) low_is
    ∙ ap (λ row. of_parts sort left (low_row (plain_of s) (key_over sort left)) row) high_is
    ∙ ap (case_over (plain_of s) sort) is

-- one set more
pub cases_more : (f : ℕ → Case) (sets : List ℕ) (i t : ℕ) (cases made whole : List Case) → i < length sets → t ≡ get_or sets i t → made ≡ cases ++ f t ∷ []
    → cases ++ map f (drop i sets) ≡ whole → made ++ map f (drop (i + 1) sets) ≡ whole
cases_more f sets i t cases made whole within is pushed so_far =
    ap (λ xs. xs ++ map f (drop (i + 1) sets)) pushed ∙ ap (λ n. (cases ++ f t ∷ []) ++ map f (drop n sets)) (add-one i)
    ∙ append_assoc cases (f t ∷ []) (map f (drop (suc i) sets))
    ∙ ap (λ ts. cases ++ map f ts) (ap (λ u. u ∷ drop (suc i) sets) is ∙ sym (drop-cons sets i t within)) ∙ so_far

-- no set is left
pub cases_done : (f : ℕ → Case) (sets : List ℕ) (i : ℕ) (cases whole : List Case) → length sets ≤ i → cases ++ map f (drop i sets) ≡ whole → cases ≡ whole
cases_done f sets i cases whole past so_far = sym (append-nil cases) ∙ ap (λ ts. cases ++ map f ts) (sym (drop_all i sets past)) ∙ so_far
