use Rattle.std.proofs.Common.{◌∙◌, sym, ap, arith, List}
use Rattle.std.specs.FinMap.{remove}
use Rattle.pk_rows.specs.declared.stored.Stored.{Stored}
use Rattle.pk_sheet.specs.Sheets.{map_of}
use Rattle.pk_sheet.proofs.Changes.{room_without, room_kept, taken_size}
use Rattle.pk_sheet.proofs.Maps.{sheets_are_maps}
use Rattle.pk_sheet.proofs.sheet.Sheet.remove.Goals as goal

pub size_of-requires : goal.size_of-requires
size_of-requires c =
    let fits = taken_size c.self.inside.stored.items c.args.place c.in-Some.stored c.self.inside.room c.self.invariant (sym c.take_out.ensures.taken ∙ c.in-Some.is) in
    omega (arith, fits)

pub overflow_add-self : goal.overflow_add-self
overflow_add-self c =
    let fits = taken_size c.self.inside.stored.items c.args.place c.in-Some.stored c.self.inside.room c.self.invariant (sym c.take_out.ensures.taken ∙ c.in-Some.is) in
    let size = c.size_of.ensures in
    omega (arith, fits, size)

pub invariant_of-self : goal.invariant_of-self
invariant_of-self c =
    room_without c.self.inside.stored.items c.take_out.new.records.items c.args.place c.in-Some.stored c.self.inside.room c.size_of.result c.self.invariant
    (sym c.take_out.ensures.taken ∙ c.in-Some.is) c.size_of.ensures c.take_out.ensures.left

pub invariant_of-self-in-None : goal.invariant_of-self-in-None
invariant_of-self-in-None c =
    room_kept c.self.inside.stored.items c.take_out.new.records.items c.args.place c.self.inside.room c.self.invariant (sym c.take_out.ensures.taken ∙ c.in-None.is) c.take_out.ensures.left

pub returns-in-Some-clause-map : goal.returns-in-Some-clause-map
returns-in-Some-clause-map c =
    ap map_of c.take_out.ensures.left ∙ sheets_are_maps.removed c.self.inside.stored.items c.args.place c.self.invariant.sheet.ascend
    ∙ ap (λ (xs : List Stored). remove (map_of xs) c.args.place) c.self.view_is

pub returns-in-None-clause-map : goal.returns-in-None-clause-map
returns-in-None-clause-map c =
    ap map_of c.take_out.ensures.left ∙ sheets_are_maps.removed c.self.inside.stored.items c.args.place c.self.invariant.sheet.ascend
    ∙ ap (λ (xs : List Stored). remove (map_of xs) c.args.place) c.self.view_is
