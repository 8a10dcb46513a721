-- Which bytes of a file hold which list of payloads. First eight bytes that say what file this is; then the payloads, each
-- in a frame of its own: the byte 1, its length in four bytes, the highest first, and its bytes; then a byte other than 1;
-- and then any bytes at all. So of a payload that was being appended, whatever a crash left, nothing is read.
use Rattle.std.specs.Prelude.{◌≡◌, ◌≢◌, ℕ, ◌+◌, ◌≤◌, List, [], ◌∷◌, ◌++◌, length}
use Rattle.std.specs.List.{All}
use Rattle.std.specs.Int.{to_be_bytes, w32}

-- the bytes `KEYTLOG1`
abbrev pub magic : List ℕ
magic = 75 ∷ 69 ∷ 89 ∷ 84 ∷ 76 ∷ 79 ∷ 71 ∷ 49 ∷ []

-- how many bytes a payload may have
abbrev pub IsLength : ℕ → Type 0
IsLength n = (1 ≤ n) × (n ≤ 268435456)

abbrev pub IsPayload : List ℕ → Type 0
IsPayload payload = IsLength (length payload)

-- a payload in its frame, behind an open gate
abbrev pub frame : List ℕ → List ℕ
frame payload = 1 ∷ (to_be_bytes w32 (length payload) ++ payload)

abbrev pub frames : List (List ℕ) → List ℕ
frames [] = []
frames (p ∷ ps) = frame p ++ frames ps

-- these bytes are the frames of a list, a gate that isn't open, and any bytes
pub record Ends (bytes : List ℕ) (payloads : List (List ℕ)) : Type 0 where
  pub gate : ℕ
  pub rest : List ℕ
  pub closed : gate ≢ 1
  pub sized : All IsPayload payloads
  pub whole : bytes ≡ frames payloads ++ (gate ∷ rest)

-- a file holds a list
pub record LogHolds (log : List ℕ) (payloads : List (List ℕ)) : Type 0 where
  pub bytes : List ℕ
  pub begins : log ≡ magic ++ bytes
  pub ends : Ends bytes payloads

-- where the gate behind these frames is, if the first begins at `at`
abbrev pub gate_behind : ℕ → List (List ℕ) → ℕ
gate_behind at payloads = at + length (frames payloads)
