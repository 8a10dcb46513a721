use Rattle.std.specs.Prelude.{ℕ, Bool, true, false, List, Option, Some, None}
use Rattle.pk_values.specs.declared.refusal.Refusal.{Refusal}
use Rattle.pk_values.specs.declared.refusal.Refusal.TheVariants.{NoTable}
use Rattle.pk_values.specs.Refusals.{first_some}
use Rattle.pk_report.specs.declared.reply.Reply.{Reply}
use Rattle.pk_report.specs.declared.reply.Reply.TheVariants.{Refused}
use Rattle.pk_engine.specs.Base.{Table, table_named}
use Rattle.pk_engine.specs.State.{State, current}

-- an answer: the reply, and the state after it
pub record Step : Type 0 where
  pub reply : Reply
  pub next : State

-- a refusal where the test holds
abbrev pub when : Bool → Refusal → Option Refusal
when true r = Some r
when false r = None

-- a refusal that leaves this state
abbrev pub refused : State → Refusal → Step
refused left r = record { reply = Refused r; next = left }

-- a refusal that leaves this state, or the answer where none stands
abbrev pub refused_or : State → Option Refusal → Step → Step
refused_or left (Some r) done = refused left r
refused_or left None done = done

-- what is answered: the first refusal of the list that stands, else what is done
abbrev pub decided : State → List (Option Refusal) → Step → Step
decided left refusals done = refused_or left (first_some refusals) done

-- the table of this name in the base as it is now
abbrev pub table_of : State → List ℕ → Option Table
table_of st name = table_named name (current st).tables

-- what is answered about a table that was looked up, or that there is none of this name
abbrev pub about_found : State → List ℕ → (Table → Step) → Option Table → Step
about_found st name answer (Some t) = answer t
about_found st name answer None = refused st (NoTable name)

-- what is answered about the table of this name, or that there is none
unfoldable pub about : State → List ℕ → (Table → Step) → Step
about st name answer = about_found st name answer (table_of st name)
