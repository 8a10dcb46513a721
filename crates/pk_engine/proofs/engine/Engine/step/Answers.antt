use Rattle.std.proofs.Common.{Result, Ok, Err, IfOk, sym, subst}
use Rattle.pk_syntax.specs.declared.statement.Statement.{Statement}
use Rattle.pk_engine.specs.Answer.{answer}
use Rattle.pk_engine.specs.Stands.{Replies, Moves}
use Rattle.pk_engine.proofs.engine.Engine.step.Goals as goal

-- the arm of IMPLIES, whose statement has two parts

whatever : {A E M : Type 0} (r : Result A E) → M → IfOk r (λ _. M)
whatever (Ok x) holds = holds
whatever (Err e) holds = tt

pub returns-in-Implies-clause-reply : goal.returns-in-Implies-clause-reply
unfolding answer
returns-in-Implies-clause-reply c =
    subst (λ (s : Statement). IfOk c.implies.result (λ r. Replies (λ st. answer st s) c.args.self.now r)) (sym c.in-Implies.is) c.implies.ensures.reply

pub returns-in-Implies-clause-next : goal.returns-in-Implies-clause-next
unfolding answer
returns-in-Implies-clause-next c =
    subst (λ (s : Statement). IfOk c.implies.result (λ _. Moves (λ st. answer st s) c.args.self.now c.args.self.now)) (sym c.in-Implies.is) (whatever c.implies.result c.implies.ensures.next)
