-- The names of the columns of a set.
use Rattle.std.proofs.Common.{◌≡◌, refl, sym, ◌∙◌, ap, ℕ, zero, suc, ◌<◌, List, [], ◌∷◌, ◌++◌, length, get_or, map, append_assoc, append-nil, arith}
use Rattle.pk_values.specs.ColumnSet.{columns}
use Rattle.pk_syntax.specs.declared.declaration.ColumnDecl.{ColumnDecl}
use Rattle.pk_schema.specs.Shapes.{name_at, names_at}

-- ---- a walk over a set, with the names

-- the name of a column as code reads it
pub name_read : (cols : List ColumnDecl) (c : ℕ) (d : ColumnDecl) → c < length cols → name_at cols c ≡ (get_or cols c d).name
name_read [] c d within = absurd (omega (arith, within))
name_read (e ∷ es) zero d within = refl
name_read (e ∷ es) (suc c) d within = name_read es c d (omega (arith, within))

-- one name more
pub name_more : (cols : List ColumnDecl) (set rest c : ℕ) (names pushed : List (List ℕ)) (name : List ℕ) (d : ColumnDecl)
    → columns set ≡ c ∷ columns rest → c < length cols → name ≡ (get_or cols c d).name → pushed ≡ names ++ name ∷ []
    → pushed ++ names_at cols rest ≡ names ++ names_at cols set
name_more cols set rest c names pushed name d split within copied more =
    ap (λ xs. xs ++ names_at cols rest) more ∙ append_assoc names (name ∷ []) (names_at cols rest)
    ∙ ap (λ n. names ++ n ∷ names_at cols rest) (copied ∙ sym (name_read cols c d within))
    ∙ ap (λ xs. names ++ map (name_at cols) xs) (sym split)

pub no_more : (cols : List ColumnDecl) (set rest : ℕ) (names : List (List ℕ)) → columns rest ≡ [] → names ++ names_at cols rest ≡ names_at cols set → names ≡ names_at cols set
no_more cols set rest names none all = sym (append-nil names) ∙ ap (λ xs. names ++ map (name_at cols) xs) (sym none) ∙ all
