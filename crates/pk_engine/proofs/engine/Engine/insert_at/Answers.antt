use Rattle.std.proofs.Common.{◌≡◌, ℕ, length, Some, sym, subst, ap, ◌∙◌}
use Rattle.pk_values.specs.Refusals.{first_some}
use Rattle.pk_report.specs.declared.reply.Reply.TheVariants.{Inserted}
use Rattle.pk_exec.specs.Refusals.{work_insert_refusals}
use Rattle.pk_engine.specs.declared.outcome.Outcome.TheVariants.{Done}
use Rattle.pk_engine.specs.Base.{Table}
use Rattle.pk_engine.specs.Edits.{changes_in, insert_entries, commit_refusals, inserted}
use Rattle.pk_engine.specs.Entries.{AreOf}
use Rattle.pk_engine.specs.Outcome.{IsDone}
use Rattle.pk_engine.specs.Refusing.{Step}
use Rattle.pk_engine.specs.Stands.{StandsFor}
use Rattle.pk_engine.proofs.AnswerLemmas.{decided_front}
use Rattle.pk_engine.proofs.CommitLemmas.{same_at}
use Rattle.pk_engine.proofs.EditLemmas.{settled_is}
use Rattle.pk_engine.proofs.OrderLemmas.{blank}
use Rattle.pk_engine.proofs.StandsLemmas.{stands_table, place_within, if_ok}
use Rattle.pk_engine.proofs.engine.Engine.insert_at.Goals as goal

pub insert-requires-clause-texts : goal.insert-requires-clause-texts
insert-requires-clause-texts c = c.requires.given.texts

pub insert-requires-clause-valid : goal.insert-requires-clause-valid
insert-requires-clause-valid c =
    stands_table c.args.self.now c.requires.stands.0 c.args.place c.index.result.now c.requires.stands.1
    (place_within c.args.insert.now.table c.args.self.now.tables.items c.args.place blank c.requires.found) c.index.ensures

pub settle-requires-clause-of : goal.settle-requires-clause-of
settle-requires-clause-of c = λ t is.
    let u = c.index.result.now in
    let i = c.args.insert.now in
    let same = same_at c.args.self.now.tables.items c.args.place t u c.index.ensures is in
    let valid = stands_table c.args.self.now c.requires.stands.0 c.args.place u c.requires.stands.1
    (place_within i.table c.args.self.now.tables.items c.args.place blank c.requires.found) c.index.ensures in
    let done = subst (λ o. (λ (x : Table). IsDone (work_insert_refusals x.shape 0 i) (length i.rows) (changes_in x (insert_entries x i)) o) u) c.in-Done.is c.in_ok-n.ensures in
    subst (λ (x : Table). AreOf x c.in-Done.changes) same (subst (AreOf u) (sym done.2) ((c.statements_make_entries.ensures u valid).inserts i c.requires.given done.0))

pub returns-in-Done-clause-reply : goal.returns-in-Done-clause-reply
returns-in-Done-clause-reply c =
    if_ok c.settle.result c.settle.ensures.reply (λ r replies st t stands is.
    let i = c.args.insert.now in
    let same = same_at c.args.self.now.tables.items c.args.place t c.index.result.now c.index.ensures is in
    let done = subst (λ (x : Table). IsDone (work_insert_refusals x.shape 0 i) (length i.rows) (changes_in x (insert_entries x i)) (Done c.in-Done.n c.in-Done.changes)) same
    (subst (λ o. (λ (x : Table). IsDone (work_insert_refusals x.shape 0 i) (length i.rows) (changes_in x (insert_entries x i)) o) c.index.result.now) c.in-Done.is c.in_ok-n.ensures) in
    replies st t stands is
    ∙ ap (λ (s : Step). s.reply) (sym (settled_is st t (work_insert_refusals t.shape 0 i) (changes_in t (insert_entries t i)) c.in-Done.changes (Inserted (length i.rows)) (Inserted c.in-Done.n) done.0 done.2 (ap (λ (n : ℕ). Inserted n) done.1))))

pub returns-in-Done-clause-next : goal.returns-in-Done-clause-next
returns-in-Done-clause-next c =
    if_ok c.settle.result c.settle.ensures.next (λ r moves st t stands is.
    let i = c.args.insert.now in
    let same = same_at c.args.self.now.tables.items c.args.place t c.index.result.now c.index.ensures is in
    let done = subst (λ (x : Table). IsDone (work_insert_refusals x.shape 0 i) (length i.rows) (changes_in x (insert_entries x i)) (Done c.in-Done.n c.in-Done.changes)) same
    (subst (λ o. (λ (x : Table). IsDone (work_insert_refusals x.shape 0 i) (length i.rows) (changes_in x (insert_entries x i)) o) c.index.result.now) c.in-Done.is c.in_ok-n.ensures) in
    subst (λ (s : Step). StandsFor c.settle.new.self s.next)
    (sym (settled_is st t (work_insert_refusals t.shape 0 i) (changes_in t (insert_entries t i)) c.in-Done.changes (Inserted (length i.rows)) (Inserted c.in-Done.n) done.0 done.2 (ap (λ (n : ℕ). Inserted n) done.1)))
    (moves st t stands is))

pub returns-in-Refused-clause-reply : goal.returns-in-Refused-clause-reply
returns-in-Refused-clause-reply c = λ st t stands is.
    let i = c.args.insert.now in
    let same = same_at c.args.self.now.tables.items c.args.place t c.index.result.now c.index.ensures is in
    let refused = subst (λ (x : Table). first_some (work_insert_refusals x.shape 0 i) ≡ Some c.in-Refused.refusal) same
    (subst (λ o. (λ (x : Table). IsDone (work_insert_refusals x.shape 0 i) (length i.rows) (changes_in x (insert_entries x i)) o) c.index.result.now) c.in-Refused.is c.in_ok-n.ensures) in
    ap (λ (s : Step). s.reply) (sym (decided_front st (work_insert_refusals t.shape 0 i) (commit_refusals st t (changes_in t (insert_entries t i))) (inserted st t i) c.in-Refused.refusal refused))

pub returns-in-Refused-clause-next : goal.returns-in-Refused-clause-next
returns-in-Refused-clause-next c = λ st t stands is.
    let i = c.args.insert.now in
    let same = same_at c.args.self.now.tables.items c.args.place t c.index.result.now c.index.ensures is in
    let refused = subst (λ (x : Table). first_some (work_insert_refusals x.shape 0 i) ≡ Some c.in-Refused.refusal) same
    (subst (λ o. (λ (x : Table). IsDone (work_insert_refusals x.shape 0 i) (length i.rows) (changes_in x (insert_entries x i)) o) c.index.result.now) c.in-Refused.is c.in_ok-n.ensures) in
    subst (λ (s : Step). StandsFor c.args.self.now s.next)
    (sym (decided_front st (work_insert_refusals t.shape 0 i) (commit_refusals st t (changes_in t (insert_entries t i))) (inserted st t i) c.in-Refused.refusal refused)) stands
