-- What an INSERT answers.
use Rattle.std.proofs.Common.{◌≡◌, ℕ, ◌+◌, List, [], ◌∷◌, ◌++◌, length, Option, None, Ok, Err, ◌∙◌}
use Rattle.std.specs.Prelude.{Result, OnOk}
use Rattle.std.proofs.lemmas.List.{length-map}
use Rattle.pk_values.specs.declared.value.Value.{Value}
use Rattle.pk_values.specs.declared.refusal.Refusal.{Refusal}
use Rattle.pk_values.specs.Refusals.{first_some}
use Rattle.pk_syntax.specs.declared.declaration.ColumnDecl.{ColumnDecl}
use Rattle.pk_syntax.specs.declared.edit.Insert.{Insert}
use Rattle.pk_bind.specs.Insert.{new_rows, made_row, sources, targets}
use Rattle.pk_exec.specs.declared.insert_err.InsertErr.{InsertErr}
use Rattle.pk_exec.specs.declared.insert_err.InsertErr.TheVariants as causes
use Rattle.pk_exec.specs.Answers.{InsertAnswers, IsInsertCause}
use Rattle.pk_exec.specs.Refusals.{many_changes}
use Rattle.pk_exec.specs.Works.{Edits, edits_at, with_table, add_rows}
use Rattle.pk_values.proofs.RefusalLemmas.{first_behind}

-- as many rows as tuples
pub rows_counted : (columns : List ColumnDecl) (i : Insert) → length (new_rows columns i) ≡ length i.rows
unfolding new_rows
rows_counted columns i = length-map i.rows (made_row (sources columns (targets columns i.columns)))

cause_behind : (before behind : List (Option Refusal)) (e : InsertErr) → first_some before ≡ None → IsInsertCause behind e → IsInsertCause (before ++ behind) e
cause_behind before behind (causes.Refused r) none is = first_behind before behind none ∙ is
cause_behind before behind causes.Memory none is = tt

pub insert_answered : (before : List (Option Refusal)) (size n : ℕ) (r : Result ℕ InsertErr) → first_some before ≡ None
    → InsertAnswers (many_changes (size + n) ∷ []) n r → InsertAnswers (before ++ many_changes (size + n) ∷ []) n r
insert_answered before size n (Ok m) none is = (first_behind before (many_changes (size + n) ∷ []) none ∙ is.0, is.1)
insert_answered before size n (Err e) none is = cause_behind before (many_changes (size + n) ∷ []) e none is

pub inserted_by : (r : Result ℕ InsertErr) (w new : Edits) (k : ℕ) (rows : List (List Value)) (A : Type 0) → OnOk r (new ≡ with_table (add_rows rows (edits_at w k)) w)
    → (new ≡ with_table (add_rows rows (edits_at w k)) w → A) → OnOk r A
inserted_by (Ok n) w new k rows A is each = each is
inserted_by (Err e) w new k rows A is each = tt
