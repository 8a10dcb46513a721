use Rattle.std.proofs.Common.{◌≡◌, ◌∙◌, ap, subst, List, All, length, ◌∷◌, [], ℕ, ◌+◌}
use Rattle.pk_values.specs.declared.value.Value.{Value}
use Rattle.pk_schema.specs.Admits.{Admits}
use Rattle.pk_bind.specs.Bound.{IsBound, IfReady}
use Rattle.pk_bind.specs.Insert.{insert_refusals, new_rows}
use Rattle.pk_exec.specs.Works.{work_size}
use Rattle.pk_exec.specs.Seen.{entries_of}
use Rattle.pk_exec.specs.Edits.{inserted_into}
use Rattle.pk_exec.specs.Answers.{InsertAnswers}
use Rattle.pk_exec.specs.Refusals.{many_changes}
use Rattle.pk_exec.proofs.InsertLemmas.{rows_counted, insert_answered, inserted_by}
use Rattle.pk_exec.proofs.AppendLemmas.{added_others, added_seen, added_covers, added_fits}
use Rattle.pk_exec.proofs.work.Work.insert.Goals as goal
use Rattle.pk_values.proofs.RefusalLemmas.{first_before}

pub returns-in-Refused-clause-answer : goal.returns-in-Refused-clause-answer
returns-in-Refused-clause-answer c =
    let s = c.args.schema.now in
    let i = c.args.insert.now in
    first_before (insert_refusals s i) _ c.in-Refused.refusal
    (subst (IsBound (insert_refusals s i) (new_rows s.columns i)) c.in-Refused.is c.in_ok-refusal.ensures.bound)

pub returns-in-Ready-clause-answer : goal.returns-in-Ready-clause-answer
returns-in-Ready-clause-answer c =
    let s = c.args.schema.now in
    let i = c.args.insert.now in
    let bound = subst (IsBound (insert_refusals s i) (new_rows s.columns i)) c.in-Ready.is c.in_ok-refusal.ensures.bound in
    let count : length c.in-Ready.rows ≡ length i.rows = ap length bound.1 ∙ rows_counted s.columns i in
    insert_answered (insert_refusals s i) (work_size c.args.self.now) (length i.rows) c.add.result bound.0
    (subst (λ (n : ℕ). InsertAnswers (many_changes (work_size c.args.self.now + n) ∷ []) n c.add.result) count c.add.ensures.answer)

pub returns-in-Ready-clause-entries : goal.returns-in-Ready-clause-entries
returns-in-Ready-clause-entries c =
    let s = c.args.schema.now in
    let i = c.args.insert.now in
    let w = c.args.self.now in
    let bound = subst (IsBound (insert_refusals s i) (new_rows s.columns i)) c.in-Ready.is c.in_ok-refusal.ensures.bound in
    inserted_by c.add.result w c.add.new.self c.args.table c.in-Ready.rows _ c.add.ensures.edits
    (λ is rows. added_seen w c.add.new.self c.args.table c.in-Ready.rows rows is
    ∙ ap (λ (xs : List (List Value)). inserted_into xs (entries_of w c.args.table rows)) bound.1)

pub returns-in-Ready-clause-covers : goal.returns-in-Ready-clause-covers
returns-in-Ready-clause-covers c =
    let w = c.args.self.now in
    inserted_by c.add.result w c.add.new.self c.args.table c.in-Ready.rows _ c.add.ensures.edits
    (λ is rows covers. added_covers w c.add.new.self c.args.table c.in-Ready.rows rows is covers)

pub returns-in-Ready-clause-others : goal.returns-in-Ready-clause-others
returns-in-Ready-clause-others c =
    let w = c.args.self.now in
    inserted_by c.add.result w c.add.new.self c.args.table c.in-Ready.rows _ c.add.ensures.edits
    (λ is. added_others w c.add.new.self c.args.table c.in-Ready.rows is)

pub returns-in-Ready-clause-fits : goal.returns-in-Ready-clause-fits
returns-in-Ready-clause-fits c =
    let s = c.args.schema.now in
    let w = c.args.self.now in
    let all = subst (λ (b : _). IfReady b (All (Admits s))) c.in-Ready.is c.in_ok-refusal.ensures.admitted in
    inserted_by c.add.result w c.add.new.self c.args.table c.in-Ready.rows _ c.add.ensures.edits
    (λ is. added_fits w c.add.new.self c.args.table c.in-Ready.rows s is c.requires.fits all)
