use Rattle.std.specs.Prelude.{◌≡◌, ℕ, Bool, true, false, List, [], ◌∷◌, ◌++◌, Result, Ok, Err, if◌then◌else◌}
use Rattle.std.specs.List.{flat_map, list_any}
use Rattle.pk_values.specs.declared.refusal.Refusal.{Refusal}
use Rattle.pk_values.specs.declared.refusal.Refusal.TheVariants.{BadCharacter, UnclosedText, NotStatement}
use Rattle.pk_lex.specs.declared.piece.Piece.{Piece}
use Rattle.pk_lex.specs.Pieces.{pieces}
use Rattle.pk_syntax.specs.declared.statement.Statement.{Statement}
use Rattle.pk_parse.specs.declared.parsing.ParseErr.{ParseErr}
use Rattle.pk_parse.specs.declared.parsing.ParseErr.TheVariants as faults
use Rattle.pk_parse.specs.Parsed.{parsed}
use Rattle.pk_report.specs.declared.reply.Reply.{Reply}
use Rattle.pk_report.specs.declared.reply.Reply.TheVariants.{Refused}
use Rattle.pk_report.specs.Text.{text}
use Rattle.pk_engine.specs.Base.{Base}
use Rattle.pk_engine.specs.State.{State, started}
use Rattle.pk_engine.specs.Refusing.{Step, refused}
use Rattle.pk_engine.specs.Answer.{answer, is_answered}

-- why a piece on this line is no statement; what is read never wants for memory
abbrev pub refusal_of : ℕ → ParseErr → Refusal
refusal_of line (faults.BadCharacter fault) = BadCharacter fault
refusal_of line (faults.UnclosedText fault) = UnclosedText fault
refusal_of line (faults.NotStatement at_line) = NotStatement at_line
refusal_of line faults.Memory = NotStatement line

-- the answer to what a piece on this line says
abbrev pub answer_to : State → ℕ → Result Statement ParseErr → Step
answer_to st line (Ok s) = if is_answered s then answer st s else refused st (NotStatement line)
answer_to st line (Err e) = refused st (refusal_of line e)

-- the answer to a piece
unfoldable pub step : State → Piece → Step
step st piece = answer_to st piece.line (parsed piece)

-- the answers to the pieces, one behind the other
abbrev pub run : State → List Piece → List Step
run st [] = []
run st (piece ∷ pieces) = step st piece ∷ run (step st piece).next pieces

-- the state after pieces
abbrev pub state_after : State → List Piece → State
state_after st [] = st
state_after st (piece ∷ pieces) = state_after (step st piece).next pieces

-- the bytes that tell the replies
abbrev pub told_by : List Step → List ℕ
told_by steps = flat_map (λ s. text s.reply) steps

-- what a whole run over a script tells, from this base on
unfoldable pub told : Base → List ℕ → List ℕ
told b script = told_by (run (started b) (pieces script))

abbrev pub is_refusal : Reply → Bool
is_refusal (Refused r) = true
is_refusal _ = false

-- some reply is a refusal
abbrev pub has_refusal : List Step → Bool
has_refusal steps = list_any (λ s. is_refusal s.reply) steps

-- some reply of a whole run is a refusal
unfoldable pub is_refused : Base → List ℕ → Bool
is_refused b script = has_refusal (run (started b) (pieces script))

-- behind the old bytes the new ones have a front of the whole
abbrev pub TellsFront : List ℕ → List ℕ → List ℕ → Type 0
TellsFront old new whole = (front : List ℕ) × (behind : List ℕ) × (new ≡ old ++ front) × (whole ≡ front ++ behind)
