use Rattle.std.proofs.Common.{◌≡◌, false, Some}
use Rattle.std.specs.Str.{bytes_eq}
use Rattle.pk_values.specs.Name.{name_of}
use Rattle.pk_catalog.proofs.Texts.{other_spelling}
use Rattle.pk_catalog.proofs.reading.name.Goals as goal

pub returns-else-eq : goal.returns-else-eq
returns-else-eq c =
    let read = c.in_ok-name.ensures in
    let some = c.in-Some.is in
    let shown = c.as_slice.ensures.bytes in
    let seen = c.name.view_is in
    let compared = c.eq.ensures in
    let differs = c.if-eq.false in
    let spells : name_of c.args.bytes.now ≡ Some c.in-Some.name = cc in
    let other : bytes_eq c.in-Some.name c.args.bytes.now ≡ false = cc in
    other_spelling c.args.bytes.now c.in-Some.name spells other
