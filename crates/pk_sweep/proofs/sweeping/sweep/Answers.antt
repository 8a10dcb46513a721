use Rattle.std.proofs.Common.{sym, ◌∙◌, subst, ℕ, ◌<◌}
use Rattle.std.specs.List.{All}
use Rattle.std.proofs.lemmas.Result.{IfOk-weaker}
use Rattle.pk_values.specs.ColumnSet.{columns}
use Rattle.pk_sweep.proofs.ListLemmas.{all_inside}
use Rattle.pk_sweep.proofs.SetLemmas.{column_below}
use Rattle.pk_sweep.proofs.SweepLemmas.{coded_are_long, apart_of_rows, not_same_of_rows}
use Rattle.pk_sweep.proofs.sweeping.sweep.Goals as goal

pub coded_columns-requires-clause-low : goal.coded_columns-requires-clause-low
coded_columns-requires-clause-low g c =
    subst (All (λ (k : ℕ). k < 32)) (sym (c.as_slice.ensures.value ∙ c.in_ok-listed.ensures)) (all_inside (λ (k : ℕ). k < 32) (columns c.args.columns) (column_below c.args.columns))

pub null_sets-requires-clause-low : goal.null_sets-requires-clause-low
null_sets-requires-clause-low g c =
    subst (All (λ (k : ℕ). k < 32)) (sym (c.as_slice-2.ensures.value ∙ c.in_ok-listed.ensures)) (all_inside (λ (k : ℕ). k < 32) (columns c.args.columns) (column_below c.args.columns))

pub in_halves-requires-after_bounds : goal.in_halves-requires-after_bounds
in_halves-requires-after_bounds g c =
    λ lives bounds.
    coded_are_long c.as_slice.result.now c.as_slice-2.result.now c.args.rows.now c.in_ok-coded.coded.items c.as_slice-3.result.now c.in_ok-nulls.nulls.items c.as_slice-4.result.now
    c.in_ok-coded.ensures c.in_ok-nulls.ensures c.as_slice-3.ensures.value c.as_slice-4.ensures.value

pub returns-clause-apart : goal.returns-clause-apart
returns-clause-apart g c =
    IfOk-weaker c.in_halves.result _ _
    (λ sets all.
    apart_of_rows c.args.columns c.as_slice.result.now c.as_slice-2.result.now c.args.rows.now c.in_ok-coded.coded.items c.as_slice-3.result.now c.in_ok-nulls.nulls.items
    c.as_slice-4.result.now sets (c.as_slice.ensures.value ∙ c.in_ok-listed.ensures) (c.as_slice-2.ensures.value ∙ c.in_ok-listed.ensures) c.in_ok-coded.ensures c.in_ok-nulls.ensures
    c.as_slice-3.ensures.value c.as_slice-4.ensures.value all)
    c.in_halves.ensures

pub returns-clause-not_same : goal.returns-clause-not_same
returns-clause-not_same g c =
    IfOk-weaker c.in_halves.result _ _
    (λ sets all.
    not_same_of_rows c.args.columns c.as_slice.result.now c.as_slice-2.result.now c.args.rows.now c.in_ok-coded.coded.items c.as_slice-3.result.now c.in_ok-nulls.nulls.items
    c.as_slice-4.result.now sets (c.as_slice.ensures.value ∙ c.in_ok-listed.ensures) (c.as_slice-2.ensures.value ∙ c.in_ok-listed.ensures) c.in_ok-coded.ensures c.in_ok-nulls.ensures
    c.as_slice-3.ensures.value c.as_slice-4.ensures.value all)
    c.in_halves.ensures
