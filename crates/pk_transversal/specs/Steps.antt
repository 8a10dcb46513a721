-- How the code finds minimal sets: it goes over sets in order, and over the edges one by one.
use Rattle.std.specs.Prelude.{ℕ, ◌^◌, Bool, not, cond, List, [], ◌∷◌, ◌++◌, map, filter}
use Rattle.std.specs.List.{list_any}
use Rattle.std.specs.Int.Bits.{bit_or}
use Rattle.pk_values.specs.ColumnSet.{columns, is_subset}
use Rattle.pk_transversal.specs.Transversals.{meets}

-- one of the sets lies inside this one
abbrev pub has_inside : List ℕ → ℕ → Bool
has_inside sets x = list_any (λ y. is_subset y x) sets

-- what was found, and those of the sets inside which nothing lies that was found before them
unfoldable pub sifted : List ℕ → List ℕ → List ℕ
sifted found [] = found
sifted found (x ∷ xs) = sifted (cond (has_inside found x) found (found ++ x ∷ [])) xs

-- the set with this column besides
abbrev pub with_column : ℕ → ℕ → ℕ
with_column set c = bit_or set (2 ^ c)

-- the set with each of the columns besides, but where a kept set lies inside that
abbrev pub grown : List ℕ → List ℕ → ℕ → List ℕ
grown kept cs set = filter (λ x. not (has_inside kept x)) (map (with_column set) cs)

unfoldable pub all_grown : List ℕ → List ℕ → List ℕ → List ℕ
all_grown kept cs [] = []
all_grown kept cs (set ∷ sets) = grown kept cs set ++ all_grown kept cs sets

-- those of the sets that meet the edge
abbrev pub meeting : ℕ → List ℕ → List ℕ
meeting edge sets = filter (λ x. meets x edge) sets

-- the others
abbrev pub missing : ℕ → List ℕ → List ℕ
missing edge sets = filter (λ x. not (meets x edge)) sets

-- the sets that meet the edge, and each of the others with each of its columns, but where one of the first lies inside that
unfoldable pub product : List ℕ → ℕ → List ℕ
product sets edge = meeting edge sets ++ all_grown (meeting edge sets) (columns edge) (missing edge sets)
