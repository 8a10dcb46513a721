use Rattle.std.specs.Prelude.{◌≡◌, ◌≢◌, ℕ, ◌+◌, ◌<◌, ◌≤◌, List, ◌++◌, length, take, drop, slice_index}
use Rattle.pk_gate.specs.declared.steps.Step.{Step}
use Rattle.pk_gate.specs.declared.steps.Step.TheVariants.{Closed, Frame, Bad}
use Rattle.pk_gate.specs.declared.steps.Part.{Part}
use Rattle.pk_gate.specs.Format.{frame, IsLength, Ends}

-- what stands at a gate, of the bytes from the gate on
abbrev pub IsStep : List ℕ → Step → Type 0
IsStep bytes Closed = (0 < length bytes) × (slice_index bytes 0 ≢ 1)
IsStep bytes (Frame len) = IsLength len × (5 + len ≤ length bytes) × (bytes ≡ frame (take len (drop 5 bytes)) ++ drop (5 + len) bytes)
IsStep bytes Bad = (payloads : List (List ℕ)) → Ends bytes payloads → ⊥

-- a frame of at most so many bytes
abbrev pub IsWithin : ℕ → Step → Type 0
IsWithin left Closed = Unit {0}
IsWithin left (Frame len) = IsLength len × (5 + len ≤ left)
IsWithin left Bad = Unit {0}

-- a part of a file is what the file holds there
pub record Shows (log : List ℕ) (part : Part) : Type 0 where
  pub within : part.at + length part.bytes.items ≤ length log
  pub bytes : part.bytes.items ≡ take (length part.bytes.items) (drop part.at log)
