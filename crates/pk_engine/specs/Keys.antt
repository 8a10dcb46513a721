-- The keys of a table, which are judged on its rows as they would be.
use Rattle.std.specs.Prelude.{Option}
use Rattle.std.specs.Option.{option_map}
use Rattle.pk_values.specs.declared.refusal.Refusal.{Refusal}
use Rattle.pk_values.specs.declared.refusal.Refusal.TheVariants.{BrokenKey}
use Rattle.pk_guard.specs.Breaks.{first_break}
use Rattle.pk_guard.specs.Holds.{KeysHold}
use Rattle.pk_engine.specs.Base.{Table}

-- what the table is refused for by its keys: the first break that its rows have
unfoldable pub key_broken : Table → Option Refusal
key_broken t = option_map (BrokenKey t.name) (first_break t.shape t.rows)

-- every key of the table holds over all completions of its rows
abbrev pub KeepsKeys : Table → Type 0
KeepsKeys t = KeysHold t.shape t.rows
