use Rattle.std.specs.Prelude.{◌≡◌, ℕ, Some, slice_get}
use Rattle.pk_report.specs.declared.reply.Reply.{Reply}
use Rattle.pk_engine.specs.Base.{Base, Table, row_count}
use Rattle.pk_engine.specs.State.{State, current}
use Rattle.pk_engine.specs.Refusing.{Step}
use Rattle.pk_engine.specs.Valid.{IsValid}
use Rattle.pk_engine.specs.declared.engine.Engine.{Engine}

-- the base that an engine holds
abbrev pub base_of : Engine → Base
base_of e = record { commit = e.commit; tables = e.tables.items }

-- the engine holds the base of the state as it is now, which is a valid one, and counts its rows
unfoldable pub StandsFor : Engine → State → Type 0
StandsFor e st = (base_of e ≡ current st) × (e.rows ≡ row_count (current st)) × IsValid (current st)

-- for each state that the engine stood for, the reply is that of this step from it
abbrev pub Replies : (State → Step) → Engine → Reply → Type 0
Replies step old reply = (st : State) → StandsFor old st → reply ≡ (step st).reply

-- for each state that the engine stood for, it stands for the next one of this step
abbrev pub Moves : (State → Step) → Engine → Engine → Type 0
Moves step old new = (st : State) → StandsFor old st → StandsFor new (step st).next

-- the same of a step that is about the table at a place
abbrev pub RepliesAt : ℕ → (State → Table → Step) → Engine → Reply → Type 0
RepliesAt place step old reply = (st : State) (t : Table) → StandsFor old st → slice_get old.tables.items place ≡ Some t → reply ≡ (step st t).reply

abbrev pub MovesAt : ℕ → (State → Table → Step) → Engine → Engine → Type 0
MovesAt place step old new = (st : State) (t : Table) → StandsFor old st → slice_get old.tables.items place ≡ Some t → StandsFor new (step st t).next
