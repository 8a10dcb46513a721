-- The columns of a set, and tests of them.
use Rattle.std.proofs.Common.{◌≡◌, refl, ◌∙◌, subst, ℕ, Bool, true, ◌||◌, List, [], ◌∷◌, inl, inr}
use Rattle.std.specs.List.{list_all}
use Rattle.std.proofs.lemmas.Bool.{and_parts, cases_eq, ne_eqb}
use Rattle.pk_values.specs.ColumnSet.{IsColumnSet, has_column, columns, is_subset}
use Rattle.pk_values.proofs.ColumnLemmas.{listed_columns}
use Rattle.pk_similar.specs.Similarity.{is_among}
use Rattle.pk_values.proofs.ListLemmas.{all_same}

-- the columns of a set inside another are among those of the other
pub subset_among : (set more : ℕ) → IsColumnSet more → is_subset set more ≡ true → list_all (is_among (columns more)) (columns set) ≡ true
unfolding is_subset
subset_among set more is_set inside = all_same (is_among (columns more)) (has_column more) (λ c. listed_columns more c is_set) (columns set) ∙ inside

-- a test of all columns of a list is one of each part of it
pub all_of_part : (p : ℕ → Bool) (all cs : List ℕ) → list_all (is_among all) cs ≡ true → list_all p all ≡ true → list_all p cs ≡ true
all_of_part p all [] inside passes = refl
all_of_part p all (c ∷ cs) inside passes =
    let parts = and_parts (is_among all c) (list_all (is_among all) cs) inside in
    rw (one all parts.0 passes, all_of_part p all cs parts.1 passes) refl
  where
    one : (xs : List ℕ) → is_among xs c ≡ true → list_all p xs ≡ true → p c ≡ true
    one [] among all_pass = cc
    one (x ∷ xs) among all_pass =
        let here = and_parts (p x) (list_all p xs) all_pass in
        elim (cases_eq x c) [
          | inl same ↦ subst (λ d. p d ≡ true) same here.0
          | inr other ↦ one xs (subst (λ t. (t || is_among xs c) ≡ true) (ne_eqb x c other) among) here.1
        ]
