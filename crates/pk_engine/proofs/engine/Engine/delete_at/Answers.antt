use Rattle.std.proofs.Common.{◌≡◌, ℕ, length, Some, sym, subst, ap, ◌∙◌}
use Rattle.pk_values.specs.Refusals.{first_some}
use Rattle.pk_report.specs.declared.reply.Reply.TheVariants.{Deleted}
use Rattle.pk_bind.specs.Conditions.{cond_asked}
use Rattle.pk_exec.specs.Edits.{taken}
use Rattle.pk_exec.specs.Refusals.{work_delete_refusals}
use Rattle.pk_engine.specs.declared.outcome.Outcome.TheVariants.{Done}
use Rattle.pk_engine.specs.Base.{Table}
use Rattle.pk_engine.specs.Edits.{entries_in, changes_in, delete_entries, commit_refusals, deleted_rows}
use Rattle.pk_engine.specs.Entries.{AreOf}
use Rattle.pk_engine.specs.Outcome.{IsDone}
use Rattle.pk_engine.specs.Refusing.{Step}
use Rattle.pk_engine.specs.Stands.{StandsFor}
use Rattle.pk_engine.proofs.AnswerLemmas.{decided_front}
use Rattle.pk_engine.proofs.CommitLemmas.{same_at}
use Rattle.pk_engine.proofs.EditLemmas.{settled_is}
use Rattle.pk_engine.proofs.OrderLemmas.{blank}
use Rattle.pk_engine.proofs.StandsLemmas.{stands_table, place_within, if_ok}
use Rattle.pk_engine.proofs.engine.Engine.delete_at.Goals as goal

pub delete-requires-clause-texts : goal.delete-requires-clause-texts
delete-requires-clause-texts c = c.requires.given.texts

pub delete-requires-clause-valid : goal.delete-requires-clause-valid
delete-requires-clause-valid c =
    stands_table c.args.self.now c.requires.stands.0 c.args.place c.index.result.now c.requires.stands.1
    (place_within c.args.delete.now.table c.args.self.now.tables.items c.args.place blank c.requires.found) c.index.ensures

pub settle-requires-clause-of : goal.settle-requires-clause-of
settle-requires-clause-of c = λ t is.
    let u = c.index.result.now in
    let i = c.args.delete.now in
    let same = same_at c.args.self.now.tables.items c.args.place t u c.index.ensures is in
    let valid = stands_table c.args.self.now c.requires.stands.0 c.args.place u c.requires.stands.1
    (place_within i.table c.args.self.now.tables.items c.args.place blank c.requires.found) c.index.ensures in
    let done = subst (λ o. (λ (x : Table). IsDone (work_delete_refusals x.shape 0 x.rows (entries_in x) i) (length (taken (cond_asked x.shape.columns i.cond) (entries_in x))) (changes_in x (delete_entries x i)) o) u) c.in-Done.is c.in_ok-n.ensures in
    subst (λ (x : Table). AreOf x c.in-Done.changes) same (subst (AreOf u) (sym done.2) ((c.statements_make_entries.ensures u valid).deletes i))

pub returns-in-Done-clause-reply : goal.returns-in-Done-clause-reply
returns-in-Done-clause-reply c =
    if_ok c.settle.result c.settle.ensures.reply (λ r replies st t stands is.
    let i = c.args.delete.now in
    let same = same_at c.args.self.now.tables.items c.args.place t c.index.result.now c.index.ensures is in
    let done = subst (λ (x : Table). IsDone (work_delete_refusals x.shape 0 x.rows (entries_in x) i) (length (taken (cond_asked x.shape.columns i.cond) (entries_in x))) (changes_in x (delete_entries x i)) (Done c.in-Done.n c.in-Done.changes)) same
    (subst (λ o. (λ (x : Table). IsDone (work_delete_refusals x.shape 0 x.rows (entries_in x) i) (length (taken (cond_asked x.shape.columns i.cond) (entries_in x))) (changes_in x (delete_entries x i)) o) c.index.result.now) c.in-Done.is c.in_ok-n.ensures) in
    replies st t stands is
    ∙ ap (λ (s : Step). s.reply) (sym (settled_is st t (work_delete_refusals t.shape 0 t.rows (entries_in t) i) (changes_in t (delete_entries t i)) c.in-Done.changes (Deleted (length (taken (cond_asked t.shape.columns i.cond) (entries_in t)))) (Deleted c.in-Done.n) done.0 done.2 (ap (λ (n : ℕ). Deleted n) done.1))))

pub returns-in-Done-clause-next : goal.returns-in-Done-clause-next
returns-in-Done-clause-next c =
    if_ok c.settle.result c.settle.ensures.next (λ r moves st t stands is.
    let i = c.args.delete.now in
    let same = same_at c.args.self.now.tables.items c.args.place t c.index.result.now c.index.ensures is in
    let done = subst (λ (x : Table). IsDone (work_delete_refusals x.shape 0 x.rows (entries_in x) i) (length (taken (cond_asked x.shape.columns i.cond) (entries_in x))) (changes_in x (delete_entries x i)) (Done c.in-Done.n c.in-Done.changes)) same
    (subst (λ o. (λ (x : Table). IsDone (work_delete_refusals x.shape 0 x.rows (entries_in x) i) (length (taken (cond_asked x.shape.columns i.cond) (entries_in x))) (changes_in x (delete_entries x i)) o) c.index.result.now) c.in-Done.is c.in_ok-n.ensures) in
    subst (λ (s : Step). StandsFor c.settle.new.self s.next)
    (sym (settled_is st t (work_delete_refusals t.shape 0 t.rows (entries_in t) i) (changes_in t (delete_entries t i)) c.in-Done.changes (Deleted (length (taken (cond_asked t.shape.columns i.cond) (entries_in t)))) (Deleted c.in-Done.n) done.0 done.2 (ap (λ (n : ℕ). Deleted n) done.1)))
    (moves st t stands is))

pub returns-in-Refused-clause-reply : goal.returns-in-Refused-clause-reply
returns-in-Refused-clause-reply c = λ st t stands is.
    let i = c.args.delete.now in
    let same = same_at c.args.self.now.tables.items c.args.place t c.index.result.now c.index.ensures is in
    let refused = subst (λ (x : Table). first_some (work_delete_refusals x.shape 0 x.rows (entries_in x) i) ≡ Some c.in-Refused.refusal) same
    (subst (λ o. (λ (x : Table). IsDone (work_delete_refusals x.shape 0 x.rows (entries_in x) i) (length (taken (cond_asked x.shape.columns i.cond) (entries_in x))) (changes_in x (delete_entries x i)) o) c.index.result.now) c.in-Refused.is c.in_ok-n.ensures) in
    ap (λ (s : Step). s.reply) (sym (decided_front st (work_delete_refusals t.shape 0 t.rows (entries_in t) i) (commit_refusals st t (changes_in t (delete_entries t i))) (deleted_rows st t i) c.in-Refused.refusal refused))

pub returns-in-Refused-clause-next : goal.returns-in-Refused-clause-next
returns-in-Refused-clause-next c = λ st t stands is.
    let i = c.args.delete.now in
    let same = same_at c.args.self.now.tables.items c.args.place t c.index.result.now c.index.ensures is in
    let refused = subst (λ (x : Table). first_some (work_delete_refusals x.shape 0 x.rows (entries_in x) i) ≡ Some c.in-Refused.refusal) same
    (subst (λ o. (λ (x : Table). IsDone (work_delete_refusals x.shape 0 x.rows (entries_in x) i) (length (taken (cond_asked x.shape.columns i.cond) (entries_in x))) (changes_in x (delete_entries x i)) o) c.index.result.now) c.in-Refused.is c.in_ok-n.ensures) in
    subst (λ (s : Step). StandsFor c.args.self.now s.next)
    (sym (decided_front st (work_delete_refusals t.shape 0 t.rows (entries_in t) i) (commit_refusals st t (changes_in t (delete_entries t i))) (deleted_rows st t i) c.in-Refused.refusal refused)) stands
