-- What a statement of a transaction is refused for: what the schema's columns say first, and at the end that the transaction
-- would change more rows than one may.
use Rattle.std.specs.Prelude.{ℕ, ◌+◌, List, [], ◌∷◌, ◌++◌, length, nat_le, Option, Some, None, if◌then◌else◌}
use Rattle.pk_values.specs.declared.placed.Placed.{Placed}
use Rattle.pk_values.specs.declared.refusal.Refusal.{Refusal}
use Rattle.pk_values.specs.declared.refusal.Refusal.TheVariants.{ManyChanges}
use Rattle.pk_values.specs.Refusals.{first_by}
use Rattle.pk_syntax.specs.declared.edit.Insert.{Insert}
use Rattle.pk_syntax.specs.declared.edit.Update.{Update}
use Rattle.pk_syntax.specs.declared.edit.Delete.{Delete}
use Rattle.pk_schema.specs.Shapes.{Shape}
use Rattle.pk_bind.specs.declared.edit.Edit.{Edit}
use Rattle.pk_bind.specs.Fitting.{with_sets}
use Rattle.pk_bind.specs.Insert.{insert_refusals, long_row}
use Rattle.pk_bind.specs.Conditions.{cond_asked}
use Rattle.pk_bind.specs.Update.{update_refusals, edit_of}
use Rattle.pk_bind.specs.Delete.{delete_refusals}
use Rattle.pk_exec.specs.Entries.{Entry, row_in}
use Rattle.pk_exec.specs.Edits.{taken, updated, deleted}
use Rattle.pk_exec.specs.Changes.{changed_count}
use Rattle.pk_exec.specs.Works.{most_changes}

-- so many rows would be changed, more than may be
abbrev pub many_changes : ℕ → Option Refusal
many_changes n = if nat_le n most_changes then None else Some ManyChanges

-- the first row that would be too long, in the order in which they are seen
unfoldable pub long_update : Edit → List Entry → Option Refusal
long_update e entries = first_by (λ x. long_row (with_sets e.sets (row_in x))) (taken e.cond entries)

-- of INSERT, where so many rows are changed before it
abbrev pub work_insert_refusals : Shape → ℕ → Insert → List (Option Refusal)
work_insert_refusals shape size i = insert_refusals shape i ++ many_changes (size + length i.rows) ∷ []

-- of UPDATE, where so many rows of other tables are changed, over these rows of the base and what is seen of them
abbrev pub work_update_refusals : Shape → ℕ → List Placed → List Entry → Update → List (Option Refusal)
work_update_refusals shape elsewhere rows entries u =
    update_refusals shape u
    ++ long_update (edit_of shape.columns u) entries
    ∷ many_changes (elsewhere + changed_count rows (updated (edit_of shape.columns u) entries))
    ∷ []

-- of DELETE
abbrev pub work_delete_refusals : Shape → ℕ → List Placed → List Entry → Delete → List (Option Refusal)
work_delete_refusals shape elsewhere rows entries d =
    delete_refusals shape d
    ++ many_changes (elsewhere + changed_count rows (deleted (cond_asked shape.columns d.cond) entries))
    ∷ []
