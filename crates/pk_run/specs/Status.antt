use Rattle.std.specs.Prelude.{ℕ}
use Rattle.pk_run.specs.declared.status.Status.{Status}
use Rattle.pk_run.specs.declared.status.Status.TheVariants.{Done, Refused, Usage, ScriptFault, ReplyFault, OutOfMemory, LongScript}

-- the exit status of the program
abbrev pub code_of : Status → ℕ
code_of Done = 0
code_of Refused = 1
code_of Usage = 2
code_of ScriptFault = 3
code_of ReplyFault = 4
code_of OutOfMemory = 7
code_of LongScript = 8

-- the script wasn't run
abbrev pub IsUnrun : Status → Type 0
IsUnrun Done = ⊥
IsUnrun Refused = ⊥
IsUnrun ReplyFault = ⊥
IsUnrun Usage = Unit {0}
IsUnrun ScriptFault = Unit {0}
IsUnrun OutOfMemory = Unit {0}
IsUnrun LongScript = Unit {0}
