use Rattle.std.proofs.Common.{refl}
use Rattle.pk_lex.proofs.LexemeLemmas.{front_of_number}
use Rattle.pk_lex.proofs.reading.read_number.Goals as goal

pub returns : goal.returns
returns c =
    let e = front_of_number c.args.bytes.now c.requires in rw (e, c.in_ok-digits.ensures, c.number_width-width.ensures) refl
