use Rattle.std.specs.Prelude.{◌≡◌, ℕ, ◌++◌, ◌<◌, true, false, List, [], length, IsTrue}
use Rattle.pk_world.specs.Rose.{Rose}
use Rattle.pk_world.specs.declared.source.Source.{Ghosts as SourceGhosts}
use Rattle.pk_world.specs.declared.station.Station.{Ghosts as StationGhosts}
use Rattle.pk_engine.specs.Base.{empty_base}
use Rattle.pk_run.specs.declared.scripts.TheConstants.{MOST_SCRIPT}
use Rattle.pk_run.specs.declared.status.Status.{Status}
use Rattle.pk_run.specs.declared.status.Status.TheVariants.{Done, Refused, Usage, ScriptFault, ReplyFault, OutOfMemory, LongScript}
use Rattle.pk_run.specs.Told.{is_refused, TellsFront}

-- The premise under which bytes are spoken of: source and station tell them.

-- where a source tells its bytes, this holds of those that it has left
abbrev pub WhereTells : {S : Type 0} → SourceGhosts S → S → (List ℕ → Type 0) → Type 0
WhereTells g source P = IsTrue (g.tells source) → P (g.rest source)

-- where a station tells its bytes, it took these
abbrev pub Takes : {W : Type 0} → StationGhosts W → W → W → List ℕ → Type 0
Takes g old new bytes = IsTrue (g.tells old) → g.told new ≡ g.told old ++ bytes

-- where a station tells its bytes, it took a front of these
abbrev pub TakesFront : {W : Type 0} → StationGhosts W → W → W → List ℕ → Type 0
TakesFront g old new bytes = IsTrue (g.tells old) → TellsFront (g.told old) (g.told new) bytes

-- What each status says.

-- a fact for the script's end
abbrev pub OnWholeRun : Status → Type 0 → Type 0
OnWholeRun Done P = P
OnWholeRun Refused P = P
OnWholeRun Usage P = Unit {0}
OnWholeRun ScriptFault P = Unit {0}
OnWholeRun ReplyFault P = Unit {0}
OnWholeRun OutOfMemory P = Unit {0}
OnWholeRun LongScript P = Unit {0}

-- of a script, and of what the source has left of it
abbrev pub IsReadAs : Status → List ℕ → List ℕ → Type 0
IsReadAs Done script left = (left ≡ []) × (is_refused empty_base script ≡ false)
IsReadAs Refused script left = (left ≡ []) × (is_refused empty_base script ≡ true)
IsReadAs ReplyFault script left = left ≡ []
IsReadAs LongScript script left = MOST_SCRIPT < length script
IsReadAs Usage script left = Unit {0}
IsReadAs ScriptFault script left = Unit {0}
IsReadAs OutOfMemory script left = Unit {0}

-- of the source and the station before and after
abbrev pub IsLeftBy : Status → {S W : Type 0} → S → S → W → W → Type 0
IsLeftBy Usage script script' station station' = (script' ≡ script) × (station' ≡ station)
IsLeftBy ScriptFault script script' station station' = station' ≡ station
IsLeftBy LongScript script script' station station' = station' ≡ station
IsLeftBy Done script script' station station' = Unit {0}
IsLeftBy Refused script script' station station' = Unit {0}
IsLeftBy ReplyFault script script' station station' = Unit {0}
IsLeftBy OutOfMemory script script' station station' = Unit {0}

-- of the counts of faults of the source and of the sink: the one that is blamed rose, and else none changed
abbrev pub AreCountedBy : Status → ℕ → ℕ → ℕ → ℕ → Type 0
AreCountedBy ScriptFault pulls pulls' tells tells' = Rose pulls pulls' × (tells' ≡ tells)
AreCountedBy ReplyFault pulls pulls' tells tells' = (pulls' ≡ pulls) × Rose tells tells'
AreCountedBy Done pulls pulls' tells tells' = (pulls' ≡ pulls) × (tells' ≡ tells)
AreCountedBy Refused pulls pulls' tells tells' = (pulls' ≡ pulls) × (tells' ≡ tells)
AreCountedBy Usage pulls pulls' tells tells' = (pulls' ≡ pulls) × (tells' ≡ tells)
AreCountedBy OutOfMemory pulls pulls' tells tells' = (pulls' ≡ pulls) × (tells' ≡ tells)
AreCountedBy LongScript pulls pulls' tells tells' = (pulls' ≡ pulls) × (tells' ≡ tells)

-- a run that nothing stopped but want of memory: all replies were told, or the script is too long
abbrev pub IsUnstopped : Status → Type 0 → Type 0 → Type 0
IsUnstopped Done told long = told
IsUnstopped Refused told long = told
IsUnstopped OutOfMemory told long = Unit {0}
IsUnstopped LongScript told long = long
IsUnstopped Usage told long = ⊥
IsUnstopped ScriptFault told long = ⊥
IsUnstopped ReplyFault told long = ⊥
