-- The machine at its edges, computed: tables, changed rows, entries and limits, where none, the first and the last stand, and where
-- two things come at once.
use Rattle.std.specs.Prelude.{◌≡◌, ℕ, ◌-◌, true, false, codes, List, [], ◌∷◌, replicate, Option, Some, None, pos}
use Rattle.pk_values.specs.declared.key.Sort.TheVariants.{Possible}
use Rattle.pk_values.specs.declared.kind.Kind.TheVariants as kinds
use Rattle.pk_values.specs.declared.placed.Placed.{Placed}
use Rattle.pk_values.specs.declared.refusal.BaseLimitName.TheVariants as base_limits
use Rattle.pk_values.specs.declared.refusal.LimitName.TheVariants as limits
use Rattle.pk_values.specs.declared.refusal.Refusal.{Refusal}
use Rattle.pk_values.specs.declared.refusal.Refusal.TheVariants.{TableExists, ManyChanges, Limit, BaseLimit, BrokenKey}
use Rattle.pk_values.specs.declared.value.Value.{Value}
use Rattle.pk_values.specs.declared.value.Value.TheVariants.{Null, Integer}
use Rattle.pk_values.specs.Refusals.{first_some}
use Rattle.pk_syntax.specs.declared.statement.Statement.TheVariants as statements
use Rattle.pk_schema.specs.Shapes.{Shape}
use Rattle.pk_rule.specs.Laws.{key_over}
use Rattle.pk_bind.specs.declared.selection.OrderBy.{OrderBy}
use Rattle.pk_exec.specs.Entries.{Entry, Kept, Touched, New}
use Rattle.pk_exec.specs.Refusals.{many_changes}
use Rattle.pk_exec.specs.Selecting.{sorted_by}
use Rattle.pk_report.specs.declared.reply.Reply.TheVariants.{CommittedNothing}
use Rattle.pk_engine.specs.Answer.{answer}
use Rattle.pk_engine.specs.Base.{Table, empty_base, comes_before, with_table, without_table, changed_by}
use Rattle.pk_engine.specs.Create.{create_refusals}
use Rattle.pk_engine.specs.Edits.{changes_in, change_refusals, commit_refusals, is_unchanged}
use Rattle.pk_engine.specs.Limits.{most_ids, rows_full, limit_refusals}
use Rattle.pk_engine.specs.State.{State, Changed, started}

-- a INTEGER, with POSSIBLE KEY (a)
abbrev pub shape : Shape
shape = record { columns = record { name = codes "a"; kind = kinds.Integer; max = 0; not_null = false } ∷ []; keys = key_over Possible 1 ∷ [] }

-- the table of this name, without a row
abbrev pub table : List ℕ → Table
table name = record { name = name; shape = shape; next = 1; rows = [] }

-- ---- tables

pub record TablesAtTheirEdges : Type 0 where
  pub no_byte_first : comes_before [] (codes "a") ≡ true
  pub fewer_bytes_first : comes_before (codes "a") (codes "a_") ≡ true
  pub not_before_itself : comes_before (codes "a") (codes "a") ≡ false
  pub first_table : with_table (table (codes "b")) [] ≡ table (codes "b") ∷ []
  pub between : with_table (table (codes "b")) (table (codes "a") ∷ table (codes "c") ∷ []) ≡ table (codes "a") ∷ table (codes "b") ∷ table (codes "c") ∷ []
  pub at_the_end : with_table (table (codes "b_")) (table (codes "b") ∷ []) ≡ table (codes "b") ∷ table (codes "b_") ∷ []
  pub last_dropped : without_table (codes "b") (table (codes "b") ∷ []) ≡ []
  pub none_dropped : without_table (codes "a") (table (codes "b") ∷ []) ≡ table (codes "b") ∷ []

-- ---- rows changed

abbrev pub placed : ℕ → Value → Placed
placed id value = record { id = id; row = value ∷ [] }

-- the table t with rows 2 and 4, which has this next id
abbrev pub two_rows : ℕ → Table
two_rows next = record (table (codes "t")) { next = next; rows = placed 2 Null ∷ placed 4 Null ∷ [] }

abbrev pub one : Value
one = Integer (pos 1)

-- the rows behind changes of it, and the next id
abbrev pub Becomes : List ℕ → List Placed → ℕ → List Placed → Type 0
Becomes gone put next rows = changed_by (record { gone = gone; put = put }) (two_rows 5) ≡ record (two_rows next) { rows = rows }

-- entries of it make these changes
abbrev pub Change : List Entry → List ℕ → List Placed → Type 0
Change entries gone put = changes_in (two_rows 5) entries ≡ record { gone = gone; put = put }

pub record ChangesAtTheirEdges : Type 0 where
  pub nothing : Becomes [] [] 5 (placed 2 Null ∷ placed 4 Null ∷ [])
  pub all_gone : Becomes (4 ∷ 2 ∷ 3 ∷ []) [] 5 []
  pub in_its_place : Becomes [] (placed 2 one ∷ []) 5 (placed 2 one ∷ placed 4 Null ∷ [])
  pub at_the_end : Becomes [] (placed 5 one ∷ placed 6 Null ∷ []) 7 (placed 2 Null ∷ placed 4 Null ∷ placed 5 one ∷ placed 6 Null ∷ [])
  pub gone_before_put : Becomes (2 ∷ []) (placed 2 one ∷ []) 5 (placed 2 one ∷ placed 4 Null ∷ [])
  pub between_others : Becomes [] (placed 3 one ∷ []) 5 (placed 2 Null ∷ placed 3 one ∷ placed 4 Null ∷ [])
  pub no_entry : Change [] (2 ∷ 4 ∷ []) []
  pub all_kept : Change (Kept 2 (Null ∷ []) ∷ Kept 4 (Null ∷ []) ∷ []) [] []
  pub touched_as_it_was : Change (Kept 2 (Null ∷ []) ∷ Touched 4 (Null ∷ []) ∷ []) [] (placed 4 Null ∷ [])
  pub gone_touched_and_new : Change (Touched 4 (one ∷ []) ∷ New (Null ∷ []) ∷ New (one ∷ []) ∷ []) (2 ∷ []) (placed 4 one ∷ placed 5 Null ∷ placed 6 one ∷ [])
  pub no_commit : is_unchanged (record { gone = []; put = [] }) ≡ true

-- ---- limits

-- the state over a base of so many commits and tables
abbrev pub state : ℕ → List Table → State
state commit tables = started (record { commit = commit; tables = tables })

-- what the declaration of the table t is refused for after so many commits, over these tables
abbrev pub creating : ℕ → List Table → Option Refusal
creating commit tables = first_some (create_refusals (state commit tables) (record { table = codes "t"; columns = record { name = codes "a"; kind = kinds.Integer; max = 0; not_null = false } ∷ []; keys = [] }))

-- what a row more is refused for after so many commits, where it gets this id and has this value beside the same one
abbrev pub adding : ℕ → ℕ → Value → Option Refusal
adding commit id value =
    first_some (change_refusals (state commit []) (record (table (codes "t")) { next = id; rows = placed 1 one ∷ [] }) (record { gone = []; put = placed id value ∷ [] }))

-- what the first row of the table t is refused for by the number of rows, where the base has these tables beside
abbrev pub rows_with : List Table → Option Refusal
rows_with tables = rows_full (state 0 (table (codes "t") ∷ tables)) (Changed ((codes "t", record { gone = []; put = placed 1 Null ∷ [] }) ∷ []))

-- the table u with so many rows
abbrev pub filled : ℕ → Table
filled n = record (table (codes "u")) { rows = replicate n (placed 1 Null) }

-- what the first row of the table t is refused for by the limits, where it gets this id and the base has these tables beside
abbrev pub limited : List Table → ℕ → Option Refusal
limited tables id =
    let t : Table = record (table (codes "t")) { next = id } in
    first_some (limit_refusals (state 0 (t ∷ tables)) t (record { gone = []; put = placed id Null ∷ [] }))

pub record LimitsAtTheirEdges : Type 0 where
  pub the_last_row : rows_with (filled 999 ∷ replicate 199 (filled 1000)) ≡ None
  pub one_row_more : rows_with (replicate 200 (filled 1000)) ≡ Some (BaseLimit base_limits.Rows)
  pub ids : most_ids ≡ 4611686018427387904
  pub the_last_table : creating 0 (replicate 255 (table (codes "u"))) ≡ None
  pub one_table_more : creating most_ids (replicate 256 (table (codes "u"))) ≡ Some (Limit limits.Tables)
  pub exists_first : creating most_ids (replicate 256 (table (codes "t"))) ≡ Some (TableExists (codes "t"))
  pub the_last_commit : creating (most_ids - 1) [] ≡ None
  pub one_commit_more : creating most_ids [] ≡ Some (BaseLimit base_limits.Commits)
  pub the_last_id : adding 0 (most_ids - 1) Null ≡ None
  pub rows_before_ids : limited (replicate 200 (filled 1000)) most_ids ≡ Some (BaseLimit base_limits.Rows)
  pub ids_behind_rows : limited (filled 999 ∷ replicate 199 (filled 1000)) most_ids ≡ Some (BaseLimit base_limits.RowIds)
  pub ids_before_commits : adding most_ids most_ids one ≡ Some (BaseLimit base_limits.RowIds)
  pub commits_before_keys : adding most_ids 2 one ≡ Some (BaseLimit base_limits.Commits)
  pub a_key_at_last : adding 0 2 one ≡ Some (BrokenKey (codes "t") (record { key = 1; sort = Possible; low = 1; high = 2; values = one ∷ [] }))
  pub nothing_is_refused_without_a_change : commit_refusals (state most_ids []) (table (codes "t")) (record { gone = []; put = [] }) ≡ []
  pub changes_20000 : many_changes 20000 ≡ None
  pub changes_20001 : many_changes 20001 ≡ Some ManyChanges

-- ---- order, and what isn't answered

-- by the first column from the greatest on, then by the second
abbrev pub by_both : List OrderBy
by_both = record { column = 0; down = true } ∷ record { column = 1; down = false } ∷ []

abbrev pub pair : Value → Value → List Value
pair a b = a ∷ b ∷ []

pub record RestAtItsEdges : Type 0 where
  pub no_row : sorted_by by_both [] ≡ []
  pub no_order : sorted_by [] (pair one Null ∷ pair Null one ∷ []) ≡ pair one Null ∷ pair Null one ∷ []
  pub second_column : sorted_by by_both (pair Null one ∷ pair one one ∷ pair one Null ∷ []) ≡ pair one Null ∷ pair one one ∷ pair Null one ∷ []
  pub unanswered : answer (started empty_base) statements.Begin ≡ record { reply = CommittedNothing; next = started empty_base }
