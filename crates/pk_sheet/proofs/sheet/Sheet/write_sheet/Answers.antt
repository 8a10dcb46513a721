use Rattle.std.proofs.Common.{◌≡◌, ◌∙◌, ap, subst, sym, length}
use Rattle.pk_sheet.specs.Pages.{page_bytes}
use Rattle.pk_sheet.specs.Sheets.{IsSheet}
use Rattle.pk_sheet.proofs.PageReading.{page_size}
use Rattle.pk_sheet.proofs.sheet.Sheet.write_sheet.Goals as goal

pub make-requires : goal.make-requires
make-requires c =
    let size : length (page_bytes c.as_slice.result.now) ≡ 4096 = page_size c.as_slice.result.now (subst IsSheet (sym c.as_slice.ensures.value) c.self.invariant.sheet) in
    ap length c.in_ok-bytes.ensures ∙ size
