-- Walks over the columns of a set, first to last.
use Rattle.std.proofs.Common.{◌≡◌, sym, ◌∙◌, ap, subst, ℕ, ◌<◌, true, not, ◌&&◌, ◌==◌, List, ◌∷◌, length, nat_lt, IsTrue, arith}
use Rattle.std.specs.List.{list_all}
use Rattle.std.proofs.lemmas.Bool.{and_parts, leb-true}
use Rattle.pk_values.specs.ColumnSet.{has_column, columns}
use Rattle.pk_values.proofs.ColumnLemmas.{columns_rest}

-- the set without its first column has the others
pub walk_on :
    (set rest c : ℕ) → (others : List ℕ) × (columns set ≡ c ∷ others) → ((k : ℕ) → has_column rest k ≡ (not (k == c) && has_column set k))
    → columns set ≡ c ∷ columns rest
walk_on set rest c first members = first.1 ∙ ap (λ cs. c ∷ cs) (sym (columns_rest set rest c first.0 first.1 members))

-- the first column and those behind it are below what all are below
pub below_first : (width : ℕ) (cs others : List ℕ) (c : ℕ) → IsTrue (list_all (λ k. nat_lt k width) cs) → cs ≡ c ∷ others → c < width
below_first width cs others c below split = leb-true _ _ (and_parts _ _ (subst (λ ks. list_all (λ k. nat_lt k width) ks ≡ true) split below)).0

pub below_rest : (width : ℕ) (cs others : List ℕ) (c : ℕ) → IsTrue (list_all (λ k. nat_lt k width) cs) → cs ≡ c ∷ others → IsTrue (list_all (λ k. nat_lt k width) others)
below_rest width cs others c below split = (and_parts _ _ (subst (λ ks. list_all (λ k. nat_lt k width) ks ≡ true) split below)).1

pub walk_shorter : (cs others : List ℕ) (c : ℕ) → cs ≡ c ∷ others → length others < length cs
walk_shorter cs others c split = let longer = ap length split in omega (arith, longer)
