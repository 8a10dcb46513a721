-- Writing names one by one.
use Rattle.std.proofs.Common.{◌≡◌, ℕ, List, [], ◌∷◌, ◌++◌, codes, refl, ap, ◌∙◌, append_assoc}
use Rattle.std.specs.List.{flat_map, join_by}

-- the names, the first behind this and each other behind a comma
abbrev pub names_behind : List ℕ → List (List ℕ) → List ℕ
names_behind before [] = []
names_behind before (n ∷ ns) = before ++ n ++ flat_map (λ name. codes ", " ++ name) ns

commas : (ns : List (List ℕ)) → flat_map (λ name. codes ", " ++ name) ns ≡ names_behind (codes ", ") ns
commas [] = refl
commas (n ∷ ns) = refl

-- a name written
pub one_written : (before n : List ℕ) (ns : List (List ℕ)) → names_behind before (n ∷ ns) ≡ before ++ (n ++ names_behind (codes ", ") ns)
one_written before n ns = append_assoc before n _ ∙ ap (λ rest. before ++ (n ++ rest)) (commas ns)

-- no name is written yet
pub all_unwritten : (ns : List (List ℕ)) → names_behind [] ns ≡ join_by (λ name. name) (codes ", ") ns
all_unwritten [] = refl
all_unwritten (n ∷ ns) = refl
