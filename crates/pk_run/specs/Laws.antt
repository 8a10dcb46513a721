use Rattle.std.specs.Prelude.{◌≡◌, ◌≢◌, ℕ, true, List, [], ◌∷◌, ◌++◌, map, IsTrue, None, Ok}
use Rattle.pk_values.specs.Refusals.{first_some}
use Rattle.pk_lex.specs.declared.piece.Piece.{Piece}
use Rattle.pk_lex.specs.Pieces.{pieces}
use Rattle.pk_syntax.specs.declared.statement.Statement.TheVariants.{Create}
use Rattle.pk_syntax.specs.Printing.{table_text}
use Rattle.pk_parse.specs.Parsed.{parsed}
use Rattle.pk_schema.specs.Making.{schema_refusals}
use Rattle.pk_schema.specs.Shapes.{Shape, IsShape, is_plain_name, shape_of, decl_of}
use Rattle.pk_engine.specs.Base.{empty_base}
use Rattle.pk_engine.specs.State.{State, started, current}
use Rattle.pk_engine.specs.Valid.{IsValid}
use Rattle.pk_run.specs.Told.{step, run, state_after, is_refusal, TellsFront}

-- a run over two halves is the run over the first, and then over the second from the state that the first left
abbrev pub RunsInHalves : Type 0
RunsInHalves = (st : State) (first second : List Piece) → run st (first ++ second) ≡ run st first ++ run (state_after st first) second

-- where the reply is a refusal, the state is as it was
abbrev pub RefusalsChangeNothing : Type 0
RefusalsChangeNothing = (st : State) (piece : Piece) → is_refusal (step st piece).reply ≡ true → (step st piece).next ≡ st

-- the state is one that the run of a script from the empty base comes to: at its start, between two of its pieces, or at its end
abbrev pub IsPassedBy : List ℕ → State → Type 0
IsPassedBy script st = (before : List Piece) × (behind : List Piece) × (pieces script ≡ before ++ behind) × (st ≡ state_after (started empty_base) before)

-- each of them is valid, whatever the script
abbrev pub RunsPassValidStates : Type 0
RunsPassValidStates = (script : List ℕ) (st : State) → IsPassedBy script st → IsValid (current st)

-- the printed text of a schema is one piece, which says CREATE of what is declared for the schema; that is refused nothing, and makes the same schema
pub record ReadsBack (table : List ℕ) (s : Shape) : Type 0 where
  pub read : map parsed (pieces (table_text (decl_of table s))) ≡ Ok (Create (decl_of table s)) ∷ []
  pub unrefused : first_some (schema_refusals (decl_of table s)) ≡ None
  pub same : shape_of (decl_of table s) ≡ s

abbrev pub PrintedSchemasReadBack : Type 0
PrintedSchemasReadBack = (table : List ℕ) (s : Shape) → IsTrue (is_plain_name table) → IsShape s → ReadsBack table s

-- nothing told and all told are fronts, and a wrong byte behind a front isn't
pub record FrontsAreFronts : Type 0 where
  pub nothing : (old whole : List ℕ) → TellsFront old old whole
  pub all : (old whole : List ℕ) → TellsFront old (old ++ whole) whole
  pub wrong : (old front behind : List ℕ) (wrong right : ℕ) → wrong ≢ right → ¬ TellsFront old (old ++ front ++ wrong ∷ []) (front ++ right ∷ behind)
