use Rattle.std.proofs.Common.{◌∙◌, length}
use Rattle.std.proofs.lemmas.Bool.{ne_eqb}
use Rattle.pk_syntax.proofs.WordLemmas.{reserved_by_length, reserved_of_length, no_length_else}
use Rattle.pk_syntax.proofs.words.is_reserved.Goals as goal

pub returns-then-length-eq2 : goal.returns-then-length-eq2
unfolding reserved_by_length
returns-then-length-eq2 c = c.contains.ensures.value ∙ reserved_of_length c.args.word.now 2 c.if-length-eq2.true

pub returns-then-length-eq3 : goal.returns-then-length-eq3
unfolding reserved_by_length
returns-then-length-eq3 c = c.contains-then-length-eq3.ensures.value ∙ reserved_of_length c.args.word.now 3 c.if-length-eq3.true

pub returns-then-length-eq4 : goal.returns-then-length-eq4
unfolding reserved_by_length
returns-then-length-eq4 c = c.contains-then-length-eq4.ensures.value ∙ reserved_of_length c.args.word.now 4 c.if-length-eq4.true

pub returns-then-length-eq5 : goal.returns-then-length-eq5
unfolding reserved_by_length
returns-then-length-eq5 c = c.contains-then-length-eq5.ensures.value ∙ reserved_of_length c.args.word.now 5 c.if-length-eq5.true

pub returns-then-length-eq6 : goal.returns-then-length-eq6
unfolding reserved_by_length
returns-then-length-eq6 c = c.contains-then-length-eq6.ensures.value ∙ reserved_of_length c.args.word.now 6 c.if-length-eq6.true

pub returns-then-length-eq7 : goal.returns-then-length-eq7
unfolding reserved_by_length
returns-then-length-eq7 c = c.contains-then-length-eq7.ensures.value ∙ reserved_of_length c.args.word.now 7 c.if-length-eq7.true

pub returns-then-length-eq8 : goal.returns-then-length-eq8
unfolding reserved_by_length
returns-then-length-eq8 c = c.contains-then-length-eq8.ensures.value ∙ reserved_of_length c.args.word.now 8 c.if-length-eq8.true

pub returns-then-length-eq10 : goal.returns-then-length-eq10
unfolding reserved_by_length
returns-then-length-eq10 c = c.contains-then-length-eq10.ensures.value ∙ reserved_of_length c.args.word.now 10 c.if-length-eq10.true

pub returns-then-length-eq12 : goal.returns-then-length-eq12
unfolding reserved_by_length
returns-then-length-eq12 c = c.contains-then-length-eq12.ensures.value ∙ reserved_of_length c.args.word.now 12 c.if-length-eq12.true

pub returns-else-length-eq12 : goal.returns-else-length-eq12
returns-else-length-eq12 c =
    let n = length c.args.word.now in
    no_length_else c.args.word.now
    (ne_eqb n 2 c.if-length-eq2.false) (ne_eqb n 3 c.if-length-eq3.false) (ne_eqb n 4 c.if-length-eq4.false) (ne_eqb n 5 c.if-length-eq5.false) (ne_eqb n 6 c.if-length-eq6.false) (ne_eqb n 7 c.if-length-eq7.false) (ne_eqb n 8 c.if-length-eq8.false) (ne_eqb n 10 c.if-length-eq10.false) (ne_eqb n 12 c.if-length-eq12.false)
