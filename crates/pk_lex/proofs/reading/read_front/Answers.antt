use Rattle.std.proofs.Common.{get_or, sym}
use Rattle.std.proofs.lemmas.Bool.{ne_eqb}
use Rattle.pk_lex.proofs.LexemeLemmas.{front_of_blank, front_of_comment, front_of_symbol}
use Rattle.pk_lex.proofs.reading.read_front.Goals as goal

pub returns-then-is_blank : goal.returns-then-is_blank
returns-then-is_blank c = front_of_blank c.args.bytes.now c.requires (sym c.if-is_blank.ensures)

pub returns-then-begins_comment : goal.returns-then-begins_comment
returns-then-begins_comment c =
    rw c.comment_width.ensures
    (front_of_comment c.args.bytes.now (sym c.if-is_blank.ensures) (sym c.if-begins_comment.ensures))

pub returns-else-first-eq39 : goal.returns-else-first-eq39
returns-else-first-eq39 c =
    front_of_symbol c.args.bytes.now c.read_symbol.result c.requires (sym c.if-is_blank.ensures)
    (sym c.if-begins_comment.ensures) (sym c.if-begins_word.ensures) (sym c.if-is_ascii_digit.ensures.value)
    (ne_eqb (get_or c.args.bytes.now 0 0) 39 c.if-first-eq39.false) c.read_symbol.ensures.lexeme
    c.read_symbol.ensures.width
