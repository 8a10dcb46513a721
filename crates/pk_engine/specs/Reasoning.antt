-- IMPLIES and COVER: what the keys of a table imply, and the least keys that say the same.
use Rattle.std.specs.Prelude.{◌≡◌, ℕ, ◌+◌, List, Option, Some, None}
use Rattle.pk_values.specs.declared.key.KeyDecl.{KeyDecl}
use Rattle.pk_values.specs.declared.refusal.Refusal.{Refusal}
use Rattle.pk_syntax.specs.declared.declaration.KeyText.{KeyText}
use Rattle.pk_syntax.specs.Declarations.{names_of}
use Rattle.pk_schema.specs.Shapes.{key_of}
use Rattle.pk_report.specs.declared.reply.Reply.{Reply}
use Rattle.pk_report.specs.declared.reply.Reply.TheVariants as replies
use Rattle.pk_rule.specs.Plain.{Plain, plain_of}
use Rattle.pk_rule.specs.TwoRows.{low_row, high_row}
use Rattle.pk_imply.specs.Asking.{ask_refusals}
use Rattle.pk_imply.specs.declared.asking.AskErr.{AskErr}
use Rattle.pk_imply.specs.declared.asking.AskErr.TheVariants.{Refused, Memory}
use Rattle.pk_imply.specs.Cover.{cover_of}
use Rattle.pk_imply.specs.Deriving.{implying_place, rules_of}
use Rattle.pk_engine.specs.Base.{Table}
use Rattle.pk_engine.specs.State.{State}
use Rattle.pk_engine.specs.Refusing.{Step}

-- what IMPLIES is refused for, in this order
abbrev pub implies_refusals : Table → KeyText → List (Option Refusal)
implies_refusals t k = ask_refusals t.name t.shape.columns k.columns

-- the place, counted from 1, of the first declared key that implies the key, and the rules from it; or the two rows that refute the key
abbrev pub implied_or : Plain → KeyDecl → Option ℕ → Reply
implied_or s k (Some place) = replies.Implied (place + 1) (rules_of s k)
implied_or s k None = replies.NotImplied (low_row s k) (high_row s k)

abbrev pub implied_reply : Plain → KeyDecl → Reply
implied_reply s k = implied_or s k (implying_place s k)

-- IMPLIES that isn't refused: no commit
abbrev pub implied_told : State → Table → KeyText → Step
implied_told st t k = record { reply = implied_reply (plain_of t.shape) (key_of t.shape.columns k); next = st }

-- the reply to a question that asks about no key
abbrev pub IsToldAs : AskErr → Reply → Type 0
IsToldAs (Refused r) reply = reply ≡ replies.Refused r
IsToldAs Memory reply = ⊥

-- COVER, with the names of the columns: no commit
abbrev pub cover_told : State → Table → Step
cover_told st t = record { reply = replies.Cover (names_of t.shape.columns) (cover_of (plain_of t.shape)); next = st }
