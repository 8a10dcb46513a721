use Rattle.std.proofs.Common.{◌≡◌, refl, ◌∙◌, ℕ, ◌-◌, nat_lt, arith, zero, suc, ◌<◌}
use Rattle.std.specs.List.{range_with_len}
use Rattle.pk_values.specs.ColumnSet.{has_column, columns}
use Rattle.pk_values.proofs.BitLemmas.{has_below}
use Rattle.pk_values.proofs.RangeLemmas.{below_kept, filter_same}
use Rattle.pk_values.proofs.column_set.ColSet.below.Goals as goal

pub returns-in-Some-clause-members : goal.returns-in-Some-clause-members
returns-in-Some-clause-members c = λ k. rw c.in-Some.ensures.1 (has_below c.args.n k c.requires)

pub returns-in-Some-clause-listed : goal.returns-in-Some-clause-listed
unfolding columns
returns-in-Some-clause-listed c =
    filter_same (has_column c.in-Some.bits) (λ k. nat_lt k c.args.n) (range_with_len 0 32)
    (λ k. rw c.in-Some.ensures.1 (has_below c.args.n k c.requires))
    ∙ below_kept c.args.n 0 32 c.args.n (omega arith) c.requires

pub returns-in-None-clause-listed : goal.returns-in-None-clause-listed
unfolding columns
returns-in-None-clause-listed c =
    let none : c.args.n ≡ 0 = none_left c.args.n c.in-None.ensures in
    rw none refl
  where
    none_left : (n : ℕ) → (32 - n < 32 → ⊥) → n ≡ 0
    none_left zero _ = refl
    none_left (suc n) fits = absurd (fits (omega arith))
