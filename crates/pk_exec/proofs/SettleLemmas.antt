-- What a settled draft leaves.
use Rattle.std.proofs.Common.{◌≡◌, ◌∙◌, ℕ, true, List, All, Ok, Err, ap, sym, subst}
use Rattle.std.specs.Prelude.{Result, OnOk}
use Rattle.pk_values.specs.declared.placed.Placed.{Placed}
use Rattle.pk_schema.specs.Shapes.{Shape}
use Rattle.pk_schema.specs.Admits.{Admits}
use Rattle.pk_exec.specs.declared.draft.Draft.{Draft}
use Rattle.pk_exec.specs.declared.exec_err.ExecErr.{ExecErr}
use Rattle.pk_exec.specs.Rows.{ids_of}
use Rattle.pk_exec.specs.Settling.{IsSettled, table_of}
use Rattle.pk_exec.specs.Works.{Edits, TableEdits, edits_at, edit_ids, with_table, SameElsewhere}
use Rattle.pk_exec.specs.Seen.{is_part, Covers, Fits, IsAdmitted, AreAdmitted}
use Rattle.pk_exec.proofs.WorkLemmas.{edits_put, same_elsewhere}

-- the edits at the table, where the draft is settled
settled_at : (table : ℕ) (d : Draft) (old new : Edits) → new ≡ with_table (table_of table d) old → edits_at new table ≡ table_of table d
settled_at table d old new is = ap (λ (w : Edits). edits_at w table) is ∙ edits_put (table_of table d) old

pub settled_others : (table : ℕ) (d : Draft) (old new : Edits) (r : Result ℕ ExecErr) → IsSettled table d old new r → OnOk r (SameElsewhere table old new)
settled_others table d old new (Ok n) is = subst (SameElsewhere table old) (sym is.2) (same_elsewhere (table_of table d) old)
settled_others table d old new (Err e) is = tt

pub settled_covers : (table : ℕ) (d : Draft) (rows : List Placed) (old new : Edits) (r : Result ℕ ExecErr) → IsSettled table d old new r
    → is_part (edit_ids d.edited.items) (ids_of rows) ≡ true → OnOk r (Covers new table rows)
settled_covers table d rows old new (Ok n) is part =
    subst (λ (t : TableEdits). is_part (edit_ids t.edited) (ids_of rows) ≡ true) (sym (settled_at table d old new is.2)) part
settled_covers table d rows old new (Err e) is part = tt

pub settled_fits : (table : ℕ) (d : Draft) (old new : Edits) (r : Result ℕ ExecErr) (P : Shape → Type 0) → IsSettled table d old new r
    → ((s : Shape) → P s → All (IsAdmitted s) d.edited.items) → ((s : Shape) → P s → All (Admits s) d.added.items)
    → OnOk r ((s : Shape) → P s → Fits new s table)
settled_fits table d old new (Ok n) P is edited added =
    λ s p. subst (AreAdmitted s) (sym (settled_at table d old new is.2)) (edited s p, added s p)
settled_fits table d old new (Err e) P is edited added = tt

pub ok_curried : (r : Result ℕ ExecErr) (A B C : Shape → Type 0) (D : Shape → Type 0) → OnOk r ((s : Shape) → A s × B s × C s → D s)
    → OnOk r ((s : Shape) → A s → B s → C s → D s)
ok_curried (Ok n) A B C D all = λ s a b c. all s (a, b, c)
ok_curried (Err e) A B C D all = tt
