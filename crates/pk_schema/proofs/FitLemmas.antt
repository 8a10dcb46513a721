-- Rows with which nothing is wrong.
use Rattle.std.proofs.Common.{◌≡◌, refl, sym, ◌∙◌, ◌==◌, Bool, true, false, not, List, [], ◌∷◌, Option, Some, None, length, nat_le, if◌then◌else◌, arith}
use Rattle.std.specs.List.{list_all, zip}
use Rattle.std.proofs.lemmas.Bool.{leb-true, le-leb, eqb-true, eq-eqb}
use Rattle.pk_values.specs.declared.value.Value.{Value}
use Rattle.pk_values.specs.Values.{fits_kind, fits_kinds}
use Rattle.pk_values.specs.Records.{row_record}
use Rattle.pk_syntax.specs.declared.declaration.ColumnDecl.{ColumnDecl}
use Rattle.pk_syntax.specs.Declarations.{first_of}
use Rattle.pk_schema.specs.declared.admitting.RowFault.{RowFault}
use Rattle.pk_schema.specs.Shapes.{Shape, kinds_of}
use Rattle.pk_schema.specs.Admits.{Admits, has_other_kind, is_long, is_missing, first_wrong, width_fault, kind_fault, long_fault, null_fault, size_fault, row_fault}
use Rattle.pk_schema.specs.Laws.{FitsShape}
use Rattle.pk_values.proofs.ListLemmas.{no_place, none_passes, map_none}

-- ---- the kinds of a row

not_not : (b : Bool) → not (not b) ≡ b
not_not true = refl
not_not false = refl

kinds_fit : (cs : List ColumnDecl) (row : List Value) → length row ≡ length cs
    → list_all (λ pair. not (has_other_kind pair.0 pair.1)) (zip cs row) ≡ fits_kinds (kinds_of cs) row
kinds_fit [] [] wide = refl
kinds_fit [] (v ∷ vs) wide = absurd (omega (arith, wide))
kinds_fit (c ∷ cs) [] wide = absurd (omega (arith, wide))
kinds_fit (c ∷ cs) (v ∷ vs) wide = rw (not_not (fits_kind c.kind v), kinds_fit cs vs (omega (arith, wide))) refl

-- ---- nothing is wrong

rest_free : (o : Option RowFault) (os : List (Option RowFault)) → first_of (o ∷ os) ≡ None → (o ≡ None) × (first_of os ≡ None)
rest_free None os free = (refl, free)
rest_free (Some f) os free = absurd (cc)

holds : (b : Bool) (fault : RowFault) → if b then None else Some fault ≡ None → b ≡ true
holds true fault none = refl
holds false fault none = absurd (cc)

admitted_fits : (s : Shape) (row : List Value) → Admits s row → FitsShape s row
unfolding row_fault width_fault size_fault first_wrong
admitted_fits s row free =
    let width = rest_free (width_fault s.columns row) _ free in
    let kinds = rest_free (kind_fault s.columns row) _ width.1 in
    let lengths = rest_free (long_fault s.columns row) _ kinds.1 in
    let known = rest_free (null_fault s.columns row) _ lengths.1 in
    let size = rest_free (size_fault row) _ known.1 in
    let wide : length row ≡ length s.columns = eqb-true _ _ (holds (length row == length s.columns) _ width.0) in
    record {
      width = wide;
      kinds = sym (kinds_fit s.columns row wide) ∙ none_passes _ (zip s.columns row) (map_none _ _ kinds.0);
      lengths = none_passes _ (zip s.columns row) (map_none _ _ lengths.0);
      known = none_passes _ (zip s.columns row) (map_none _ _ known.0);
      size = leb-true _ _ (holds (nat_le (length (row_record row)) 4000) _ size.0);
    }

fitting_admitted : (s : Shape) (row : List Value) → FitsShape s row → Admits s row
unfolding row_fault width_fault size_fault first_wrong
fitting_admitted s row fits =
    let none_kind = no_place (λ pair. has_other_kind pair.0 pair.1) (zip s.columns row) (kinds_fit s.columns row fits.width ∙ fits.kinds) in
    let none_long = no_place (λ pair. is_long pair.0 pair.1) (zip s.columns row) fits.lengths in
    let none_missing = no_place (λ pair. is_missing pair.0 pair.1) (zip s.columns row) fits.known in
    rw (eq-eqb _ _ fits.width, none_kind, none_long, none_missing, le-leb _ _ fits.size) refl

pub admitted_rows_fit : (s : Shape) (row : List Value) → (Admits s row → FitsShape s row) × (FitsShape s row → Admits s row)
admitted_rows_fit s row = (admitted_fits s row, fitting_admitted s row)
