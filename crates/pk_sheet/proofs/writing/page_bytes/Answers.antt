use Rattle.std.proofs.Common.{rules, ◌≡◌, ◌∙◌, ◌++◌, List, ℕ, ap, arith, length}
use Rattle.std.specs.Prelude.{vec_len}
use Rattle.std.specs.List.{flat_map}
use Rattle.std.specs.Int.{to_be_bytes, w16}
use Rattle.pk_sheet.specs.Pages.{record_bytes}
use Rattle.pk_sheet.proofs.PageReading.{few_records, sheet_short, page_written}
use Rattle.pk_sheet.proofs.writing.page_bytes.Goals as goal

pub overflow_cast-stored : goal.overflow_cast-stored
overflow_cast-stored c = let few = few_records c.args.stored.now c.requires in omega (arith, few)

pub put_records-requires : goal.put_records-requires
put_records-requires c = sheet_short c.args.stored.now c.requires

pub returns : goal.returns
returns c =
    let front : c.extend_from_slice.new.self.items ≡ to_be_bytes w16 (length c.args.stored.now) =
    c.in_ok-extend_from_slice.ensures.items ∙ ap (λ (x : List ℕ). x ++ c.to_be_bytes.result) c.in_ok-out.ensures.items ∙ c.to_be_bytes.ensures in
    let len : vec_len c.put_records.new.out ≡ length c.put_records.new.out.items = search rules in
    c.in_ok-resize.ensures.items
    ∙ page_written c.args.stored.now c.put_records.new.out.items (vec_len c.put_records.new.out) c.requires
    (c.in_ok-put_records.ensures ∙ ap (λ a. a ++ flat_map record_bytes c.args.stored.now) front) len
