use Rattle.std.proofs.Common.{[], ◌∷◌, ◌++◌, sym, subst, ap, ◌∙◌}
use Rattle.pk_values.specs.declared.refusal.Refusal.TheVariants.{TableExists}
use Rattle.pk_report.specs.declared.reply.Reply.TheVariants.{Refused}
use Rattle.pk_schema.specs.Making.{schema_refusals}
use Rattle.pk_engine.specs.Refusing.{Step}
use Rattle.pk_engine.specs.Limits.{tables_full, commits_full}
use Rattle.pk_engine.specs.Create.{created, table_exists}
use Rattle.pk_engine.specs.Stands.{StandsFor}
use Rattle.pk_engine.proofs.AnswerLemmas.{first_refused, first_passed}
use Rattle.pk_engine.proofs.CommitLemmas.{exists_there, exists_nowhere}
use Rattle.pk_engine.proofs.StandsLemmas.{stands_order, if_ok}
use Rattle.pk_engine.proofs.engine.Engine.create.Goals as goal

pub create_at-requires-clause-free : goal.create_at-requires-clause-free
create_at-requires-clause-free c = c.in-Err.ensures.place (stands_order c.args.self.now c.requires.stands.0 c.requires.stands.1)

pub returns-in_ok-copy-in-Ok-clause-reply : goal.returns-in_ok-copy-in-Ok-clause-reply
returns-in_ok-copy-in-Ok-clause-reply c = λ st stands.
    let d = c.args.declared.now in
    let there = exists_there c.args.self.now st d.table c.in-Ok.field-0 stands (c.in-Ok.ensures.place (stands_order c.args.self.now st stands)) in
    ap (λ name. Refused (TableExists name)) c.in_ok-copy-in-Ok.ensures
    ∙ ap (λ (s : Step). s.reply) (sym (first_refused st (table_exists st d.table) (schema_refusals d ++ (tables_full st ∷ commits_full st ∷ [])) (created st d) (TableExists d.table) there))

pub returns-in_ok-copy-in-Ok-clause-next : goal.returns-in_ok-copy-in-Ok-clause-next
returns-in_ok-copy-in-Ok-clause-next c = λ st stands.
    let d = c.args.declared.now in
    let there = exists_there c.args.self.now st d.table c.in-Ok.field-0 stands (c.in-Ok.ensures.place (stands_order c.args.self.now st stands)) in
    subst (λ (s : Step). StandsFor c.args.self.now s.next) (sym (first_refused st (table_exists st d.table) (schema_refusals d ++ (tables_full st ∷ commits_full st ∷ [])) (created st d) (TableExists d.table) there)) stands

pub returns-in-Err-clause-reply : goal.returns-in-Err-clause-reply
returns-in-Err-clause-reply c =
    if_ok c.create_at.result c.create_at.ensures.reply (λ r replies st stands.
    let d = c.args.declared.now in
    let nowhere = exists_nowhere c.args.self.now st d.table c.in-Err.place stands (c.in-Err.ensures.place (stands_order c.args.self.now st stands)) in
    replies st stands ∙ ap (λ (s : Step). s.reply) (sym (first_passed st (table_exists st d.table) (schema_refusals d ++ (tables_full st ∷ commits_full st ∷ [])) (created st d) nowhere)))

pub returns-in-Err-clause-next : goal.returns-in-Err-clause-next
returns-in-Err-clause-next c =
    if_ok c.create_at.result c.create_at.ensures.next (λ r moves st stands.
    let d = c.args.declared.now in
    let nowhere = exists_nowhere c.args.self.now st d.table c.in-Err.place stands (c.in-Err.ensures.place (stands_order c.args.self.now st stands)) in
    subst (λ (s : Step). StandsFor c.create_at.new.self s.next) (sym (first_passed st (table_exists st d.table) (schema_refusals d ++ (tables_full st ∷ commits_full st ∷ [])) (created st d) nowhere)) (moves st stands))
