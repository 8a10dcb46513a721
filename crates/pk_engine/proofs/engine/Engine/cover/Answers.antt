use Rattle.std.proofs.Common.{sym, subst, refl}
use Rattle.pk_engine.specs.Reasoning.{cover_told}
use Rattle.pk_engine.proofs.AnswerLemmas.{told_leaves}
use Rattle.pk_engine.specs.Stands.{StandsFor}
use Rattle.pk_engine.proofs.StandsLemmas.{stands_order, ok_replies_about, ok_replies_none, moves_none}
use Rattle.pk_engine.proofs.engine.Engine.cover.Goals as goal

pub cover_at-requires-clause-found : goal.cover_at-requires-clause-found
cover_at-requires-clause-found c = c.in-Ok.ensures.place (stands_order c.args.self.now c.requires.stands.0 c.requires.stands.1)

pub returns-in-Ok-clause-reply : goal.returns-in-Ok-clause-reply
returns-in-Ok-clause-reply c =
    ok_replies_about c.args.self.now c.args.table.now c.in-Ok.place _ c.cover_at.result (c.in-Ok.ensures.place (stands_order c.args.self.now c.requires.stands.0 c.requires.stands.1)) c.cover_at.ensures

pub returns-in-Ok-clause-next : goal.returns-in-Ok-clause-next
returns-in-Ok-clause-next c = λ st stands.
    subst (StandsFor c.args.self.now) (sym (told_leaves st c.args.table.now (λ t. cover_told st t) (λ t. refl))) stands

pub returns-in-Err-clause-reply : goal.returns-in-Err-clause-reply
returns-in-Err-clause-reply c =
    ok_replies_none c.args.self.now c.args.table.now c.in-Err.field-0 _ c.no_table.result (c.in-Err.ensures.place (stands_order c.args.self.now c.requires.stands.0 c.requires.stands.1)) c.no_table.ensures

pub returns-in-Err-clause-next : goal.returns-in-Err-clause-next
returns-in-Err-clause-next c =
    moves_none c.args.self.now c.args.table.now c.in-Err.field-0 _ (c.in-Err.ensures.place (stands_order c.args.self.now c.requires.stands.0 c.requires.stands.1))
