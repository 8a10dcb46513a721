use Rattle.std.proofs.Common.{sym, subst, ap, [], ◌∷◌, Err}
use Rattle.pk_schema.specs.Making.{schema_refusals, Makes}
use Rattle.pk_engine.specs.Refusing.{Step}
use Rattle.pk_engine.specs.Limits.{tables_full, commits_full}
use Rattle.pk_engine.specs.Create.{created}
use Rattle.pk_engine.specs.Stands.{StandsFor}
use Rattle.pk_engine.proofs.AnswerLemmas.{decided_front}
use Rattle.pk_engine.proofs.KeptLemmas.{plain_named}
use Rattle.pk_engine.proofs.engine.Engine.create_at.Goals as goal

pub make-requires : goal.make-requires
make-requires c = c.requires.given.plain

pub make_table-requires-clause-named : goal.make_table-requires-clause-named
make_table-requires-clause-named c =
    let d = c.args.declared.now in
    plain_named d.table (c.declarations_make_shapes.ensures d c.requires.given.plain c.requires.given.names c.in-Ok.ensures.0).0

pub returns-in-Err-Refused-clause-reply : goal.returns-in-Err-Refused-clause-reply
returns-in-Err-Refused-clause-reply c = λ st stands.
    let d = c.args.declared.now in
    ap (λ (s : Step). s.reply) (sym (decided_front st (schema_refusals d) (tables_full st ∷ commits_full st ∷ []) (created st d) c.in-Err-Refused.refusal (subst (λ e. Makes d (Err e)) c.in-Err-Refused.field-0-is c.in-Err-Refused.ensures)))

pub returns-in-Err-Refused-clause-next : goal.returns-in-Err-Refused-clause-next
returns-in-Err-Refused-clause-next c = λ st stands.
    let d = c.args.declared.now in
    subst (λ (s : Step). StandsFor c.args.self.now s.next) (sym (decided_front st (schema_refusals d) (tables_full st ∷ commits_full st ∷ []) (created st d) c.in-Err-Refused.refusal (subst (λ e. Makes d (Err e)) c.in-Err-Refused.field-0-is c.in-Err-Refused.ensures))) stands
