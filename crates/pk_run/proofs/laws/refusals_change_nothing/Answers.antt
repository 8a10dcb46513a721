use Rattle.std.proofs.Common.{◌≡◌, ℕ, Bool, true, false, Result, Ok, Err, refl}
use Rattle.std.specs.Prelude.{if◌then◌else◌}
use Rattle.std.proofs.lemmas.Bool.{false≢true}
use Rattle.pk_values.specs.declared.refusal.Refusal.{Refusal}
use Rattle.pk_values.specs.declared.refusal.Refusal.TheVariants.{NotStatement}
use Rattle.pk_syntax.specs.declared.statement.Statement.{Statement}
use Rattle.pk_parse.specs.Parsed.{parsed}
use Rattle.pk_parse.specs.declared.parsing.ParseErr.{ParseErr}
use Rattle.pk_report.specs.declared.reply.Reply.{Reply}
use Rattle.pk_report.specs.declared.reply.Reply.TheVariants.{Refused}
use Rattle.pk_engine.specs.State.{State}
use Rattle.pk_engine.specs.Answer.{answer, is_answered}
use Rattle.pk_engine.specs.Laws.{RefusalsChangeNothing}
use Rattle.pk_engine.specs.Refusing.{refused}
use Rattle.pk_run.specs.Told.{step, answer_to, is_refusal}
use Rattle.pk_run.proofs.laws.refusals_change_nothing.Goals as goal

-- the refusal that is told
refusal_in : (reply : Reply) → is_refusal reply ≡ true → (r : Refusal) × (reply ≡ Refused r)
refusal_in (Refused r) h = (r, refl)
refusal_in _ h = absurd (false≢true h)

left_by_answer : RefusalsChangeNothing → (st : State) (s : Statement) → is_refusal (answer st s).reply ≡ true → (answer st s).next ≡ st
left_by_answer leave st s h =
    let told = refusal_in (answer st s).reply h in
    leave st s told.0 told.1

left_by_choice : RefusalsChangeNothing → (st : State) (line : ℕ) (s : Statement) (answered : Bool)
    → is_refusal (if answered then answer st s else refused st (NotStatement line)).reply ≡ true
    → (if answered then answer st s else refused st (NotStatement line)).next ≡ st
left_by_choice leave st line s true h = left_by_answer leave st s h
left_by_choice leave st line s false h = refl

left_by_piece : RefusalsChangeNothing → (st : State) (line : ℕ) (read : Result Statement ParseErr) → is_refusal (answer_to st line read).reply ≡ true → (answer_to st line read).next ≡ st
left_by_piece leave st line (Ok s) h = left_by_choice leave st line s (is_answered s) h
left_by_piece leave st line (Err e) h = refl

pub returns : goal.returns
unfolding step
returns c = λ st piece h. left_by_piece c.refusals_change_nothing.ensures st piece.line (parsed piece) h
