use Rattle.std.proofs.Common.{sym, ◌∙◌}
use Rattle.std.specs.Int.{w32, trailing_zeros}
use Rattle.std.specs.Prelude.{bit_xor}
use Rattle.std.proofs.lemmas.Bool.{eq-eqb, ne_eqb}
use Rattle.std.proofs.lemmas.Nat.Bits.{shr_and_one}
use Rattle.pk_values.proofs.ColumnOrder.{same_tied, differing_lowest, has_lowest_first, lacks_lowest_last}
use Rattle.pk_values.proofs.column_set.of_one_size.Goals as goal

pub overflow_shr-a : goal.overflow_shr-a
overflow_shr-a c = (differing_lowest c.args.a c.args.b c.ranges.a.fits c.ranges.b.fits c.if-differing-eq0.false).0

pub returns-then-differing-eq0 : goal.returns-then-differing-eq0
returns-then-differing-eq0 c = sym (same_tied c.args.a c.args.b c.if-differing-eq0.true)

pub returns-then-a-differing-eq1 : goal.returns-then-a-differing-eq1
returns-then-a-differing-eq1 c =
    let t = trailing_zeros w32 (bit_xor c.args.a c.args.b) in
    sym (has_lowest_first c.args.a c.args.b c.ranges.a.fits c.ranges.b.fits c.if-differing-eq0.false c.requires
    (eq-eqb _ 1 (sym (shr_and_one c.args.a t) ∙ c.if-a-differing-eq1.true)))

pub returns-else-a-differing-eq1 : goal.returns-else-a-differing-eq1
returns-else-a-differing-eq1 c =
    let t = trailing_zeros w32 (bit_xor c.args.a c.args.b) in
    sym (lacks_lowest_last c.args.a c.args.b c.ranges.a.fits c.ranges.b.fits c.if-differing-eq0.false c.requires
    (ne_eqb _ 1 (λ one. c.if-a-differing-eq1.false (shr_and_one c.args.a t ∙ one))))
