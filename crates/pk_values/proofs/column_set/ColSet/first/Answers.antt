use Rattle.std.proofs.Common.{sym, ◌∙◌, ap, ◌==◌, arith}
use Rattle.std.specs.Int.{w32, trailing_zeros}
use Rattle.std.proofs.lemmas.Nat.Bits.{bit_at-trailing_zeros}
use Rattle.pk_values.specs.ColumnSet.{columns}
use Rattle.pk_values.proofs.ColumnLemmas.{columns_nothing, columns_first}
use Rattle.pk_values.proofs.column_set.ColSet.first.Goals as goal

pub returns-then-self-eq0-clause-least : goal.returns-then-self-eq0-clause-least
returns-then-self-eq0-clause-least c = ap columns (sym c.self.view_is ∙ c.if-self-eq0.true) ∙ columns_nothing

pub returns-else-self-eq0-clause-least : goal.returns-else-self-eq0-clause-least
returns-else-self-eq0-clause-least c =
    let lowest = bit_at-trailing_zeros w32 c.self.inside.bits (omega (arith, c.if-self-eq0.false)) c.self.invariant in
    let first = columns_first c.self.inside.bits (trailing_zeros w32 c.self.inside.bits) lowest.0 (ap (λ n. n == 1) lowest.1) (λ k low. ap (λ n. n == 1) (lowest.2 k low)) in
    (first.0, ap columns (sym c.self.view_is) ∙ first.1)
