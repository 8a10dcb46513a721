-- Which rows a walk takes.
use Rattle.std.specs.Prelude.{ℕ, List, [], ◌∷◌, ◌++◌, All, Option, Some, None, IfSome, IsTrue}
use Rattle.std.specs.List.{filter}
use Rattle.pk_values.specs.declared.placed.Placed.{Placed}
use Rattle.pk_values.specs.declared.value.Value.{Value}
use Rattle.pk_logic.specs.declared.condition.Cond.{Cond}
use Rattle.pk_schema.specs.Shapes.{Shape}
use Rattle.pk_schema.specs.Admits.{Admits}
use Rattle.pk_bind.specs.Fitting.{cond_fits}
use Rattle.pk_exec.specs.declared.table_edits.EditedRow.{EditedRow}
use Rattle.pk_exec.specs.declared.view.View.{Ghosts as ViewGhosts}
use Rattle.pk_exec.specs.Fates.{CanJudge}
use Rattle.pk_exec.specs.Works.{Edits, edits_at}
use Rattle.pk_exec.specs.Seen.{IsAdmitted}
use Rattle.pk_exec.specs.Bases.{base_rows, rows_in}
use Rattle.pk_exec.specs.Edits.{takes}

-- the rows that meet the condition
abbrev pub kept_rows : Option Cond → List (List Value) → List (List Value)
kept_rows cond rows = filter (takes cond) rows

-- the row, where there is one
abbrev pub row_list : Option (List Value) → List (List Value)
row_list None = []
row_list (Some row) = row ∷ []

abbrev pub CanJudgeRow : Option Cond → Option (List Value) → Type 0
CanJudgeRow cond row = IfSome row (CanJudge cond)

-- the condition, where there is one, may be judged of each row that may come
abbrev pub CanTake : {V : Type 0} → ViewGhosts V → V → List EditedRow → List (List Value) → Option Cond → Type 0
CanTake g view edited added None = Unit {0}
CanTake g view edited added (Some cond) =
    (s : Shape) × g.fits view s × All (IsAdmitted s) edited × All (Admits s) added × IsTrue (cond_fits s.columns (Some cond))

-- the rows that a transaction sees and that meet the condition
abbrev pub seen_rows : Edits → ℕ → List Placed → Option Cond → List (List Value)
seen_rows w table rows cond = filter (takes cond) (rows_in (base_rows (edits_at w table).edited rows) ++ (edits_at w table).added)
