use Rattle.std.specs.Prelude.{length}
use Rattle.pk_syntax.specs.declared.query.Select.{Select}
use Rattle.pk_syntax.specs.declared.query.What.{What}
use Rattle.pk_syntax.specs.declared.query.What.TheVariants.{All, Columns, Count}
use Rattle.pk_syntax.specs.Declarations.{names_of}
use Rattle.pk_report.specs.declared.reply.Reply.{Reply}
use Rattle.pk_report.specs.declared.reply.Reply.TheVariants as replies
use Rattle.pk_bind.specs.Select.{selection_of}
use Rattle.pk_exec.specs.Selecting.{selected}
use Rattle.pk_exec.specs.declared.selected.Selected.{Selected}
use Rattle.pk_engine.specs.Base.{Table}
use Rattle.pk_engine.specs.State.{State}
use Rattle.pk_engine.specs.Refusing.{Step}
use Rattle.pk_engine.specs.Edits.{entries_in}

-- what a SELECT finds in a table
abbrev pub found : Table → Select → Selected
found t s = selected (selection_of t.shape.columns s) (names_of t.shape.columns) (entries_in t)

-- rows are told with their header, or by their number
abbrev pub told_as : What → Selected → Reply
told_as All rows = replies.Selected rows.header rows.rows
told_as (Columns names) rows = replies.Selected rows.header rows.rows
told_as Count rows = replies.Count (length rows.rows)

-- SELECT that isn't refused: no commit
abbrev pub selected_rows : State → Table → Select → Step
selected_rows st t s = record { reply = told_as s.what (found t s); next = st }
