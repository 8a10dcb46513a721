use Rattle.std.proofs.Common.{◌≡◌, sym, ◌∙◌, ◌≤◌, subst, length, nat_le}
use Rattle.std.proofs.lemmas.Bool.{and_from, le-leb}
use Rattle.std.proofs.lemmas.Str.{is_utf8-from_IsUtf8}
use Rattle.std.specs.Str.{is_utf8}
use Rattle.pk_values.proofs.words.Words.read.Goals as goal

pub copied-requires : goal.copied-requires
copied-requires c =
    let bytes = c.as_bytes.result.now in
    let same : bytes ≡ c.args.bytes.now = c.as_bytes.ensures.value ∙ c.in-Ok.ensures.cases.0 in
    let short : length bytes ≤ 255 = subst (λ bs. length bs ≤ 255) (sym same) c.if-bytes-gt-MOST_BYTES.false in
    and_from (nat_le (length bytes) 255) (is_utf8 bytes) (le-leb (length bytes) 255 short)
    (is_utf8-from_IsUtf8 bytes c.as_bytes.ensures.utf8)
