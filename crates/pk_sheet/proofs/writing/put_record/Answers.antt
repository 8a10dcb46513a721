use Rattle.std.proofs.Common.{◌∙◌, ◌++◌, ap, length}
use Rattle.std.specs.Int.{to_be_bytes, w16, w32, w64}
use Rattle.pk_sheet.proofs.PageReading.{record_written}
use Rattle.pk_sheet.proofs.writing.put_record.Goals as goal

pub returns : goal.returns
returns c =
    let s = c.args.stored.now in
    record_written c.args.out.now.items c.extend_from_slice.new.self.items c.extend_from_slice-2.new.self.items c.extend_from_slice-3.new.self.items c.extend_from_slice-4.new.self.items
    (to_be_bytes w32 s.place.table) (to_be_bytes w64 s.place.id) (to_be_bytes w16 (length s.bytes)) s.bytes
    (c.in_ok-extend_from_slice.ensures.items ∙ ap (λ x. c.args.out.now.items ++ x) c.to_be_bytes.ensures)
    (c.in_ok-extend_from_slice-2.ensures.items ∙ ap (λ x. c.extend_from_slice.new.self.items ++ x) c.to_be_bytes-2.ensures)
    (c.in_ok-extend_from_slice-3.ensures.items ∙ ap (λ x. c.extend_from_slice-2.new.self.items ++ x) (c.to_be_bytes-3.ensures ∙ ap (λ x. to_be_bytes w16 (length x)) c.as_slice-bytes.ensures))
    (c.in_ok-extend_from_slice-4.ensures.items ∙ ap (λ x. c.extend_from_slice-3.new.self.items ++ x) c.as_slice-bytes.ensures)
