-- What a base may hold.
use Rattle.std.specs.Prelude.{ℕ, ◌^◌, List, [], ◌∷◌, length, Option, nat_le, nat_lt}
use Rattle.pk_values.specs.declared.refusal.Refusal.{Refusal}
use Rattle.pk_values.specs.declared.refusal.Refusal.TheVariants.{BaseLimit, Limit}
use Rattle.pk_values.specs.declared.refusal.BaseLimitName.TheVariants as base_limits
use Rattle.pk_values.specs.declared.refusal.LimitName.TheVariants as limits
use Rattle.pk_values.specs.declared.changes.Changes.{Changes}
use Rattle.pk_engine.specs.Base.{Table, row_count, changed_by}
use Rattle.pk_engine.specs.State.{State, Commit, Changed, current, committed}
use Rattle.pk_engine.specs.Refusing.{when}

abbrev pub most_tables : ℕ
most_tables = 256

abbrev pub most_rows : ℕ
most_rows = 200000

-- of row ids and of commit numbers
abbrev pub most_ids : ℕ
most_ids = 2 ^ 62

-- the base holds as many tables as it may
abbrev pub tables_full : State → Option Refusal
tables_full st = when (nat_le most_tables (length (current st).tables)) (Limit limits.Tables)

-- the base has had as many commits as it may
abbrev pub commits_full : State → Option Refusal
commits_full st = when (nat_le most_ids (current st).commit) (BaseLimit base_limits.Commits)

-- the base would hold too many rows after a commit
abbrev pub rows_full : State → Commit → Option Refusal
rows_full st c = when (nat_lt most_rows (row_count (committed (current st) c))) (BaseLimit base_limits.Rows)

-- a table would have a next id that is too high after changes
abbrev pub ids_full : Table → Changes → Option Refusal
ids_full t c = when (nat_lt most_ids (changed_by c t).next) (BaseLimit base_limits.RowIds)

-- what changes of a table are refused for by the limits of the base, in this order
abbrev pub limit_refusals : State → Table → Changes → List (Option Refusal)
limit_refusals st t c = rows_full st (Changed ((t.name, c) ∷ [])) ∷ ids_full t c ∷ commits_full st ∷ []
