use Rattle.std.proofs.Common.{◌∙◌, rules, refl, sym, ap, Some}
use Rattle.std.proofs.lemmas.Fn.{always_returns_same}
use Rattle.std.proofs.lemmas.List.{get_or_default}
use Rattle.pk_rows.specs.declared.stored.Stored.{Stored}
use Rattle.pk_rows.specs.Maps.{place_cmp}
use Rattle.pk_sheet.proofs.Searching.{no_record, search_found, search_missed}
use Rattle.pk_sheet.proofs.by_place.take_out.Goals as goal

-- the closure compares a record's place
pub returns-in-Ok-clause-taken : goal.returns-in-Ok-clause-taken
returns-in-Ok-clause-taken c =
    let records = c.args.records.now.items in
    let by_place = c.binary_search_by.ensures.position (λ (s : Stored). place_cmp s.place c.args.place) (always_returns_same _ _ _ (λ a r g called. search rules)) in
    let within = rw c.deref.ensures.value at c.in-Ok.ensures.bound in
    let cut = search_found c.args.place records c.in-Ok.index c.binary_search_by.result c.requires within (rw c.deref.ensures.value at by_place) c.in-Ok.is in
    ap (λ (s : Stored). Some s) (c.remove.ensures.value ∙ get_or_default records c.in-Ok.index c.remove.result no_record within) ∙ sym cut.2

pub returns-in-Ok-clause-left : goal.returns-in-Ok-clause-left
returns-in-Ok-clause-left c =
    let records = c.args.records.now.items in
    let by_place = c.binary_search_by.ensures.position (λ (s : Stored). place_cmp s.place c.args.place) (always_returns_same _ _ _ (λ a r g called. search rules)) in
    let within = rw c.deref.ensures.value at c.in-Ok.ensures.bound in
    let cut = search_found c.args.place records c.in-Ok.index c.binary_search_by.result c.requires within (rw c.deref.ensures.value at by_place) c.in-Ok.is in
    c.remove.ensures.items ∙ rw (cut.0, cut.1) refl

pub returns-in-Err-clause-taken : goal.returns-in-Err-clause-taken
returns-in-Err-clause-taken c =
    let records = c.args.records.now.items in
    let by_place = c.binary_search_by.ensures.position (λ (s : Stored). place_cmp s.place c.args.place) (always_returns_same _ _ _ (λ a r g called. search rules)) in
    sym (search_missed c.args.place records c.in-Err.field-0 c.binary_search_by.result c.requires (rw c.deref.ensures.value at c.in-Err.ensures.bound) (rw c.deref.ensures.value at by_place) c.in-Err.is).0

pub returns-in-Err-clause-left : goal.returns-in-Err-clause-left
returns-in-Err-clause-left c =
    let records = c.args.records.now.items in
    let by_place = c.binary_search_by.ensures.position (λ (s : Stored). place_cmp s.place c.args.place) (always_returns_same _ _ _ (λ a r g called. search rules)) in
    (search_missed c.args.place records c.in-Err.field-0 c.binary_search_by.result c.requires (rw c.deref.ensures.value at c.in-Err.ensures.bound) (rw c.deref.ensures.value at by_place) c.in-Err.is).1
