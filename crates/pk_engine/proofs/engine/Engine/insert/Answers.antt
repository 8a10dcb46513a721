use Rattle.pk_engine.proofs.StandsLemmas.{stands_order, ok_replies_about, ok_moves_about, ok_replies_none, ok_moves_none}
use Rattle.pk_engine.proofs.engine.Engine.insert.Goals as goal

pub insert_at-requires-clause-found : goal.insert_at-requires-clause-found
insert_at-requires-clause-found c = c.in-Ok.ensures.place (stands_order c.args.self.now c.requires.stands.0 c.requires.stands.1)

pub returns-in-Ok-clause-reply : goal.returns-in-Ok-clause-reply
returns-in-Ok-clause-reply c =
    ok_replies_about c.args.self.now c.args.insert.now.table c.in-Ok.place _ c.insert_at.result (c.in-Ok.ensures.place (stands_order c.args.self.now c.requires.stands.0 c.requires.stands.1)) c.insert_at.ensures.reply

pub returns-in-Ok-clause-next : goal.returns-in-Ok-clause-next
returns-in-Ok-clause-next c =
    ok_moves_about c.args.self.now c.insert_at.new.self c.args.insert.now.table c.in-Ok.place _ c.insert_at.result (c.in-Ok.ensures.place (stands_order c.args.self.now c.requires.stands.0 c.requires.stands.1)) c.insert_at.ensures.next

pub returns-in-Err-clause-reply : goal.returns-in-Err-clause-reply
returns-in-Err-clause-reply c =
    ok_replies_none c.args.self.now c.args.insert.now.table c.in-Err.field-0 _ c.no_table.result (c.in-Err.ensures.place (stands_order c.args.self.now c.requires.stands.0 c.requires.stands.1)) c.no_table.ensures

pub returns-in-Err-clause-next : goal.returns-in-Err-clause-next
returns-in-Err-clause-next c =
    ok_moves_none c.args.self.now c.args.insert.now.table c.in-Err.field-0 _ c.no_table.result (c.in-Err.ensures.place (stands_order c.args.self.now c.requires.stands.0 c.requires.stands.1))
