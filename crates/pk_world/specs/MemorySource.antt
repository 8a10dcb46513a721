use Rattle.std.specs.Prelude.{ℕ, List, drop}
use Rattle.pk_world.specs.declared.memory_source.MemorySource.{MemorySource}

-- the bytes that haven't been pulled
abbrev pub bytes_left : MemorySource → List ℕ
bytes_left s = drop s.at s.bytes.items

-- how many bytes come at a time, at most
abbrev pub step_of : MemorySource → ℕ
step_of s = s.step

-- the numbers of the pulls that fail, counted from 1
abbrev pub failing_pulls : MemorySource → List ℕ
failing_pulls s = s.failing.items

-- how many pulls have failed
abbrev pub fault_count : MemorySource → ℕ
fault_count s = s.faults

-- how many pulls there have been, up to the greatest u64
abbrev pub pull_count : MemorySource → ℕ
pull_count s = s.calls
