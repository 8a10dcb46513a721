-- What stands in a column, and how rows stand by columns.
use Rattle.std.proofs.Common.{◌≡◌, ◌≢◌, ℕ, zero, suc, ◌≤◌, ◌<◌, ◌+◌, List, [], ◌∷◌, ◌++◌, length, map, take, get_or, refl, ap, sym, ◌∙◌, arith}
use Rattle.std.proofs.lemmas.List.{take_more, map-append}
use Rattle.std.specs.declared.cmp.Ordering.{Ordering}
use Rattle.std.specs.declared.cmp.Ordering.TheVariants.{Less, Equal, Greater}
use Rattle.std.specs.Ordering.{ordering_then}
use Rattle.pk_syntax.specs.declared.declaration.ColumnDecl.{ColumnDecl}
use Rattle.pk_syntax.specs.Declarations.{names_of}
use Rattle.pk_exec.specs.Selecting.{name_of}
use Rattle.pk_values.specs.declared.value.Value.{Value}
use Rattle.pk_values.specs.declared.value.Value.TheVariants.{Null}
use Rattle.pk_values.specs.Values.{value_at}

-- behind the end of a row stands null
pub value_past : (row : List Value) (c : ℕ) → length row ≤ c → value_at row c ≡ Null
value_past [] c past = refl
value_past (v ∷ row) zero past = absurd (omega (arith, past))
value_past (v ∷ row) (suc c) past = value_past row c (omega (arith, past))

-- what isn't a tie decides
pub decides : (first next : Ordering) → first ≢ Equal → first ≡ ordering_then first next
decides Less next apart = refl
decides Equal next apart = absurd (apart refl)
decides Greater next apart = refl

-- the name of a column that is there
pub name_read : (columns : List ColumnDecl) (c : ℕ) (x : ColumnDecl) → c < length columns → x ≡ get_or columns c x → name_of (names_of columns) c ≡ x.name
name_read [] c x within is = absurd (omega (arith, within))
name_read (d ∷ columns) zero x within is = ap (λ (y : ColumnDecl). y.name) (sym is)
name_read (d ∷ columns) (suc c) x within is = name_read columns c x (omega (arith, within)) is

-- one name more
pub header_more : (columns : List ColumnDecl) (shown : List ℕ) (i : ℕ) (names pushed : List (List ℕ)) (x : ColumnDecl) (name : List ℕ)
    → i < length shown → get_or shown i 0 < length columns → x ≡ get_or columns (get_or shown i 0) x → name ≡ x.name
    → names ≡ map (name_of (names_of columns)) (take i shown) → pushed ≡ names ++ name ∷ []
    → pushed ≡ map (name_of (names_of columns)) (take (i + 1) shown)
header_more columns shown i names pushed x name inside within is named so push =
    let f = name_of (names_of columns) in
    let one : name ≡ f (get_or shown i 0) = named ∙ sym (name_read columns (get_or shown i 0) x within is) in
    push ∙ ap (λ (ns : List (List ℕ)). ns ++ name ∷ []) so ∙ ap (λ (n : List ℕ). map f (take i shown) ++ n ∷ []) one
    ∙ sym (ap (map f) (take_more shown i 0 inside) ∙ map-append f (take i shown) (get_or shown i 0 ∷ []))
