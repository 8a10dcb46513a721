use Rattle.std.proofs.Common.{◌≡◌, ◌∙◌, ℕ, List, [], length, replicate, ap, sym, length-append}
use Rattle.pk_values.specs.declared.value.Value.{Value}
use Rattle.pk_exec.specs.Bases.{base_rows, rows_in}
use Rattle.pk_exec.specs.Reading.{kept_rows, seen_rows}
use Rattle.pk_exec.proofs.SeenLemmas.{numbers, seen_from, same_selected}
use Rattle.pk_exec.proofs.TakeLemmas.{kept_more}
use Rattle.pk_exec.proofs.work.Work.counted.Goals as goal

pub returns-clause-told : goal.returns-clause-told
returns-clause-told g c tells =
    let w = c.args.self.now in
    let rows = g.V.View.rows c.args.view.now in
    let cond = c.args.cond.now in
    let edited = c.edits_of.result.0.now in
    let added = c.edits_of.result.1.now in
    let base = rows_in (base_rows edited rows) in
    let all = kept_more cond base added in
    let seen = seen_from w c.args.table rows cond edited added c.edits_of.ensures.edited c.edits_of.ensures.added in
    let count : c.in_ok-n.n ≡ length (seen_rows w c.args.table rows cond) =
    c.in_ok-n.ensures.told tells ∙ sym (length-append (kept_rows cond base) (kept_rows cond added)) ∙ ap length (sym all ∙ seen) in
    same_selected _ _ _ _ (c.from_vec.ensures ∙ c.new.ensures.items)
    (c.in_ok-empty_rows.ensures ∙ ap (λ (n : ℕ). replicate {A = List Value} n []) count ∙ numbers (seen_rows w c.args.table rows cond))
