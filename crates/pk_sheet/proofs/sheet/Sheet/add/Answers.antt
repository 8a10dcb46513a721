use Rattle.std.proofs.Common.{◌∙◌, ap, subst, List}
use Rattle.pk_rows.specs.declared.stored.Stored.{Stored}
use Rattle.pk_sheet.specs.Sheets.{PlacesAscend, LeavesRoom, with_record, map_of}
use Rattle.pk_sheet.proofs.Changes.{room_with}
use Rattle.pk_sheet.proofs.Maps.{sheets_are_maps}
use Rattle.pk_sheet.proofs.sheet.Sheet.add.Goals as goal

pub invariant_of-self-2 : goal.invariant_of-self-2
invariant_of-self-2 c =
    room_with c.args.self.now c.put_in.new.records.items c.args.stored c.self.inside.room c.size_of-size.result (subst (λ (xs : List Stored). LeavesRoom xs c.self.inside.room) c.self.view_is c.self.invariant)
    c.put_in.ensures.place c.requires.absent c.requires.fits c.size_of-size.ensures
    (c.in_ok-put_in.ensures.ok ∙ ap (with_record c.args.stored) c.self.view_is)

pub returns-clause-map : goal.returns-clause-map
returns-clause-map c =
    ap map_of (c.in_ok-put_in.ensures.ok ∙ ap (with_record c.args.stored) c.self.view_is)
    ∙ sheets_are_maps.added c.args.self.now c.args.stored (subst PlacesAscend c.self.view_is c.self.invariant.sheet.ascend) c.requires.absent
