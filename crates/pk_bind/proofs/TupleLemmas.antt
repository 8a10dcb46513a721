-- Steps of the loops that read an INSERT.
use Rattle.std.proofs.Common.{◌≡◌, refl, sym, ◌∙◌, ap, ℕ, ◌+◌, ◌<◌, List, [], ◌∷◌, ◌++◌, Option, None, length, take, get_or}
use Rattle.std.specs.List.{filter_map, cons_option}
use Rattle.std.proofs.lemmas.List.{take_more}
use Rattle.std.proofs.lemmas.List.Elements.{filter_map-append}
use Rattle.pk_syntax.specs.declared.declaration.ColumnDecl.{ColumnDecl}
use Rattle.pk_bind.specs.declared.literals.Check.{Check}
use Rattle.pk_bind.specs.Insert.{tuple_fault}

-- a tuple of no literal has no fault
pub tuple_fault_none : (check : Check) (columns : List ColumnDecl) → tuple_fault check columns [] ≡ None
tuple_fault_none check [] = refl
tuple_fault_none check (c ∷ cs) = refl

-- one element more, which is at this place
pub filter_map_more : {X Y : Type 0} (h : X → Option Y) (xs : List X) (i : ℕ) (x : X) → i < length xs → x ≡ get_or xs i x
    → filter_map h (take (i + 1) xs) ≡ filter_map h (take i xs) ++ cons_option (h x) []
filter_map_more h xs i x within is =
    ap (filter_map h) (take_more xs i x within ∙ ap (λ y. take i xs ++ y ∷ []) (sym is)) ∙ filter_map-append h (take i xs) (x ∷ [])
