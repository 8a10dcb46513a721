-- The states of a run are valid, where the laws of the crates below hold.
use Rattle.std.proofs.Common.{◌≡◌, ℕ, Bool, true, false, List, [], ◌∷◌, ◌++◌, Result, Ok, Err, refl, sym, ap, subst, ◌∙◌}
use Rattle.std.specs.Prelude.{if◌then◌else◌}
use Rattle.std.specs.List.{list_all}
use Rattle.std.proofs.lemmas.Bool.{and_parts}
use Rattle.std.proofs.lemmas.List.Sums.{list_all-from_AllPass}
use Rattle.std.proofs.lemmas.List.Folds.{list_all-append}
use Rattle.pk_values.specs.declared.refusal.Refusal.TheVariants.{NotStatement}
use Rattle.pk_lex.specs.declared.piece.Piece.{Piece}
use Rattle.pk_lex.specs.Pieces.{pieces}
use Rattle.pk_lex.specs.Tokens.{is_lexed}
use Rattle.pk_lex.specs.Laws.{PiecesAreLexed}
use Rattle.pk_syntax.specs.declared.statement.Statement.{Statement}
use Rattle.pk_syntax.specs.Given.{IsGiven}
use Rattle.pk_parse.specs.declared.parsing.ParseErr.{ParseErr}
use Rattle.pk_parse.specs.Parsed.{parsed, WhatIsParsedIsGiven}
use Rattle.pk_engine.specs.Answer.{answer, is_answered}
use Rattle.pk_engine.specs.Base.{empty_base}
use Rattle.pk_engine.specs.Refusing.{refused}
use Rattle.pk_engine.specs.State.{State, started, current, after}
use Rattle.pk_engine.specs.Valid.{IsValid, AnswersKeepValid}
use Rattle.pk_run.specs.Told.{step, answer_to, state_after}
use Rattle.pk_run.specs.Laws.{RunsPassValidStates}

-- the base of the state is valid
abbrev Valid : State → Type 0
Valid st = IsValid (current st)

choice_valid : AnswersKeepValid → (st : State) (line : ℕ) (s : Statement) (answered : Bool) → IsGiven s → Valid st
    → Valid (if answered then answer st s else refused st (NotStatement line)).next
choice_valid kept st line s true given valid = kept st s given valid
choice_valid kept st line s false given valid = valid

answer_valid : AnswersKeepValid → (st : State) (line : ℕ) (read : Result Statement ParseErr) → ((s : Statement) → read ≡ Ok s → IsGiven s) → Valid st
    → Valid (answer_to st line read).next
answer_valid kept st line (Ok s) given valid = choice_valid kept st line s (is_answered s) (given s refl) valid
answer_valid kept st line (Err e) given valid = valid

step_valid : WhatIsParsedIsGiven → AnswersKeepValid → (st : State) (piece : Piece) → is_lexed piece ≡ true → Valid st → Valid (step st piece).next
unfolding step
step_valid parses kept st piece lexed valid = answer_valid kept st piece.line (parsed piece) (λ s e. parses piece s lexed e) valid

pieces_valid : WhatIsParsedIsGiven → AnswersKeepValid → (st : State) (ps : List Piece) → list_all is_lexed ps ≡ true → Valid st → Valid (state_after st ps)
pieces_valid parses kept st [] lexed valid = valid
pieces_valid parses kept st (p ∷ ps) lexed valid =
    let both = and_parts (is_lexed p) (list_all is_lexed ps) lexed in
    pieces_valid parses kept (step st p).next ps both.1 (step_valid parses kept st p both.0 valid)

start_valid : IsValid empty_base → Valid (started empty_base)
unfolding current after
start_valid empty = empty

pub passed_valid : PiecesAreLexed → WhatIsParsedIsGiven → IsValid empty_base → AnswersKeepValid → RunsPassValidStates
passed_valid lexed parses empty kept script st passed =
    let before = passed.0 in
    let behind = passed.1 in
    let all : list_all is_lexed (before ++ behind) ≡ true = ap (list_all is_lexed) (sym passed.2) ∙ list_all-from_AllPass is_lexed (pieces script) (lexed script) in
    let front : list_all is_lexed before ≡ true = (and_parts (list_all is_lexed before) (list_all is_lexed behind) (sym (list_all-append is_lexed before behind) ∙ all)).0 in
    subst Valid (sym passed.3) (pieces_valid parses kept (started empty_base) before front (start_valid empty))
