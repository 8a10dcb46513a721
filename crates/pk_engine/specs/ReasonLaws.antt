-- What the replies to IMPLIES and COVER say of all tables of a schema.
use Rattle.std.specs.Prelude.{◌≡◌, ℕ, ◌+◌, List, [], ◌∷◌, Some, None}
use Rattle.pk_values.specs.declared.key.KeyDecl.{KeyDecl}
use Rattle.pk_values.specs.declared.rule.Rule.{Rule}
use Rattle.pk_values.specs.declared.value.Value.{Value}
use Rattle.pk_values.specs.Refusals.{first_some}
use Rattle.pk_syntax.specs.declared.declaration.KeyText.{KeyText}
use Rattle.pk_syntax.specs.declared.statement.Statement.TheVariants as statements
use Rattle.pk_syntax.specs.Declarations.{names_of}
use Rattle.pk_schema.specs.Shapes.{key_of}
use Rattle.pk_report.specs.declared.reply.Reply.TheVariants as replies
use Rattle.pk_rule.specs.Plain.{Plain, plain_of}
use Rattle.pk_rule.specs.Tables.{Implied, Refutes}
use Rattle.pk_imply.specs.Cover.{IsCover}
use Rattle.pk_imply.specs.Deriving.{IsFirstAlone, DerivesFrom}
use Rattle.pk_engine.specs.Base.{Table}
use Rattle.pk_engine.specs.State.{State, current}
use Rattle.pk_engine.specs.Refusing.{Step, table_of}
use Rattle.pk_engine.specs.Reasoning.{implies_refusals}
use Rattle.pk_engine.specs.Valid.{IsValid}
use Rattle.pk_engine.specs.Answer.{answer}

-- Where the key holds in every table of the schema, the reply names the first declared key that alone implies it (counted from 1), and tells rules that begin
-- with this declaration and lead from it to the key. Else it tells two rows that are a table of the schema in which the key fails.
pub record TellsTheTruth (st : State) (s : Plain) (k : KeyDecl) (answered : Step) : Type 0 where
  pub implied : Implied s k → (place : ℕ) × (rules : List Rule) × (answered ≡ record { reply = replies.Implied (place + 1) rules; next = st })
      × IsFirstAlone s k place × DerivesFrom place s rules k
  pub refuted : (¬ Implied s k) → (low high : List Value) × (answered ≡ record { reply = replies.NotImplied low high; next = st }) × Refutes s k (low ∷ high ∷ [])

-- IMPLIES tells the truth about all tables of the schema
abbrev pub ImpliesTellsTheTruth : Type 0
ImpliesTellsTheTruth =
    (st : State) (name : List ℕ) (t : Table) (k : KeyText) → IsValid (current st) → table_of st name ≡ Some t → first_some (implies_refusals t k) ≡ None
    → TellsTheTruth st (plain_of t.shape) (key_of t.shape.columns k) (answer st (statements.Implies name k))

-- COVER tells the cover of the table's keys
abbrev pub CoverIsTold : Type 0
CoverIsTold =
    (st : State) (name : List ℕ) (t : Table) → IsValid (current st) → table_of st name ≡ Some t
    → (keys : List KeyDecl) × (answer st (statements.Cover name) ≡ record { reply = replies.Cover (names_of t.shape.columns) keys; next = st }) × IsCover (plain_of t.shape) keys
