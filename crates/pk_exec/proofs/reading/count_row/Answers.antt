use Rattle.std.proofs.Common.{◌≡◌, ◌+◌, ◌∙◌, ℕ, Bool, List, Option, length, ap, sym, subst, if◌then◌else◌}
use Rattle.std.specs.Prelude.{OnOk}
use Rattle.pk_values.specs.declared.value.Value.{Value}
use Rattle.pk_exec.specs.Reading.{kept_rows, row_list}
use Rattle.pk_exec.proofs.TakeLemmas.{counts_one}
use Rattle.pk_exec.proofs.reading.count_row.Goals as goal

pub returns : goal.returns
returns c =
    let cond = c.args.cond.now in
    let one : (if c.takes.result then 1 else 0) ≡ length (kept_rows cond (row_list c.args.row)) =
    ap (λ (b : Bool). if b then 1 else 0) c.takes.ensures ∙ counts_one cond c.in-Some.row
    ∙ ap (λ (o : Option (List Value)). length (kept_rows cond (row_list o))) (sym c.in-Some.is) in
    subst (λ (n : ℕ). OnOk c.count_if.result (c.count_if.new.count ≡ c.args.count.now + n)) one c.count_if.ensures
