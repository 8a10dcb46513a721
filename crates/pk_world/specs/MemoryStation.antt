use Rattle.std.specs.Prelude.{ℕ, ◌-◌, List, length}
use Rattle.pk_world.specs.declared.memory_station.MemoryStation.{MemoryStation}
use Rattle.pk_world.specs.Files.{Files}
use Rattle.pk_world.specs.MemoryFiles.{held}
use Rattle.pk_world.specs.History.{Moment, first_moment, after, inside, MayLeave, LeftSince}

-- the bytes that the sink has taken
abbrev pub taken : MemoryStation → List ℕ
taken s = s.told.items

-- what the two files hold
abbrev pub files_of : MemoryStation → Files
files_of s = held s.files

-- the numbers of the calls that fail, counted from 1
abbrev pub failing_calls : MemoryStation → List ℕ
failing_calls s = s.failing.items

-- how many calls the station has had
abbrev pub call_count : MemoryStation → ℕ
call_count s = length s.calls.items

-- how many of them read the pages
abbrev pub page_read_count : MemoryStation → ℕ
page_read_count s = s.page_reads

-- how many calls on the files have failed
abbrev pub disk_fault_count : MemoryStation → ℕ
disk_fault_count s = s.disk_faults

-- how many calls of tell have failed
abbrev pub sink_fault_count : MemoryStation → ℕ
sink_fault_count s = s.sink_faults

-- the moment that it is at
abbrev pub moment_of : MemoryStation → Moment
moment_of s = after (first_moment (held s.first)) s.calls.items

-- a crash now may leave these files
abbrev pub MayLeaveNow : MemoryStation → Files → Type 0
MayLeaveNow s f = MayLeave (moment_of s) f

-- a crash since the call of this number may have left these files, while the sink had taken these bytes
abbrev pub MayHaveLeft : MemoryStation → ℕ → Files → List ℕ → Type 0
MayHaveLeft s t f told = LeftSince (first_moment (held s.first)) s.calls.items t f told

-- the moment inside the call of this number, counted from 1
abbrev pub moment_in : MemoryStation → ℕ → Moment
moment_in s number = inside (held s.first) s.calls.items (number - 1)
