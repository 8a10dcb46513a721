use Rattle.std.proofs.Common.{◌≡◌, take_while, rules, refl}
use Rattle.pk_values.specs.Name.{folded}
use Rattle.pk_lex.specs.Lexemes.{continues_word}
use Rattle.pk_lex.proofs.LexemeLemmas.{name_of_word, front_of_word}
use Rattle.pk_lex.proofs.reading.read_word.Goals as goal

pub unwrap-name-requires : goal.unwrap-name-requires
unwrap-name-requires c =
    let e = name_of_word c.args.bytes.now c.requires in rw (c.in_ok-read.ensures, c.word_width-width.ensures, e) (search rules)

pub returns : goal.returns
returns c =
    let e = front_of_word c.args.bytes.now c.requires in
    let f = name_of_word c.args.bytes.now c.requires in
    let spelt : c.unwrap-name.result ≡ folded (take_while continues_word c.args.bytes.now) = cc (c.in_ok-read.ensures, c.word_width-width.ensures) in
    rw (e, spelt, c.word_width-width.ensures) refl
