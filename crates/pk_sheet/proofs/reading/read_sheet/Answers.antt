use Rattle.std.proofs.Common.{◌∙◌, sym, ap, subst, arith, List}
use Rattle.std.proofs.lemmas.Bool.{iff_false}
use Rattle.pk_rows.specs.declared.stored.Stored.{Stored}
use Rattle.pk_sheet.specs.Pages.{SheetHolds}
use Rattle.pk_sheet.specs.Sheets.{IsSheet, PlacesAscend, room_of}
use Rattle.pk_sheet.proofs.PageReading.{unread, unordered, not_zeros, whole_page}
use Rattle.pk_sheet.proofs.reading.read_sheet.Goals as goal

pub returns-in-Err : goal.returns-in-Err
returns-in-Err c = unread c.args.bytes.now _ c.in-Err.ensures

pub returns-then-not-ascend : goal.returns-then-not-ascend
returns-then-not-ascend c =
    unordered c.args.bytes.now c.in-Ok.found.1.now c.in-Ok.found.0 c.in-Ok.ensures
    (λ is. iff_false c.ascend.ensures c.if-not-ascend.true (subst PlacesAscend (sym c.as_slice.ensures) is))

pub returns-then-not-are_zeros : goal.returns-then-not-are_zeros
returns-then-not-are_zeros c =
    not_zeros c.args.bytes.now c.in-Ok.found.1.now c.in-Ok.found.0 c.in-Ok.ensures (sym c.are_zeros.ensures ∙ c.if-not-are_zeros.true)

pub overflow_cast-rest : goal.overflow_cast-rest
overflow_cast-rest c =
    let w = whole_page c.args.bytes.now c.in-Ok.found.1.now c.in-Ok.found.0 c.requires (λ i. omega (arith, c.type_inv.bytes i)) c.in-Ok.ensures
    (subst PlacesAscend c.as_slice.ensures (c.ascend.ensures.0 c.if-not-ascend.false)) (sym c.are_zeros.ensures ∙ c.if-not-are_zeros.false) in
    let left = w.1 in
    omega (arith, left)

pub of-requires-clause-sheet : goal.of-requires-clause-sheet
of-requires-clause-sheet c =
    let w = whole_page c.args.bytes.now c.in-Ok.found.1.now c.in-Ok.found.0 c.requires (λ i. omega (arith, c.type_inv.bytes i)) c.in-Ok.ensures
    (subst PlacesAscend c.as_slice.ensures (c.ascend.ensures.0 c.if-not-ascend.false)) (sym c.are_zeros.ensures ∙ c.if-not-are_zeros.false) in
    subst IsSheet (sym c.into_vec.ensures) w.0.sheet

pub of-requires-clause-room : goal.of-requires-clause-room
of-requires-clause-room c =
    let w = whole_page c.args.bytes.now c.in-Ok.found.1.now c.in-Ok.found.0 c.requires (λ i. omega (arith, c.type_inv.bytes i)) c.in-Ok.ensures
    (subst PlacesAscend c.as_slice.ensures (c.ascend.ensures.0 c.if-not-ascend.false)) (sym c.are_zeros.ensures ∙ c.if-not-are_zeros.false) in
    w.1 ∙ ap room_of (sym c.into_vec.ensures)

pub returns : goal.returns
returns c =
    let w = whole_page c.args.bytes.now c.in-Ok.found.1.now c.in-Ok.found.0 c.requires (λ i. omega (arith, c.type_inv.bytes i)) c.in-Ok.ensures
    (subst PlacesAscend c.as_slice.ensures (c.ascend.ensures.0 c.if-not-ascend.false)) (sym c.are_zeros.ensures ∙ c.if-not-are_zeros.false) in
    subst (λ (xs : List Stored). SheetHolds c.args.bytes.now xs) (sym (c.of.ensures ∙ c.into_vec.ensures)) w.0
