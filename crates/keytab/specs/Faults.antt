use Rattle.std.specs.Prelude.{◌≡◌, ◌⊎◌, Option, Some, None}
use Rattle.pk_run.specs.declared.status.Status.{Status}
use Rattle.pk_run.specs.declared.status.Status.TheVariants as status
use Rattle.keytab.specs.declared.fault.Fault.{Fault}
use Rattle.keytab.specs.declared.fault.Fault.TheVariants.{Usage, Script, Replies, OutOfMemory, LongScript}

-- the fault that a status stands for
abbrev pub fault_of : Status → Option Fault
fault_of status.Done = None
fault_of status.Refused = None
fault_of status.Usage = Some Usage
fault_of status.ScriptFault = Some Script
fault_of status.ReplyFault = Some Replies
fault_of status.OutOfMemory = Some OutOfMemory
fault_of status.LongScript = Some LongScript

-- the words couldn't be had
abbrev pub IsWordsFault : Status → Type 0
IsWordsFault s = (s ≡ status.Usage) ⊎ (s ≡ status.OutOfMemory)
