-- What becomes of the base.
use Rattle.std.proofs.Common.{◌≡◌, ◌∙◌, ℕ, ◌+◌, List, [], ◌∷◌, ◌++◌, All, Option, Some, None, ap, sym, subst}
use Rattle.std.specs.List.{cons_option}
use Rattle.std.proofs.lemmas.List.Elements.{All-nil, All-cons, All-head, All-tail, All-append}
use Rattle.pk_values.specs.declared.changes.Changes.{Changes}
use Rattle.pk_values.specs.declared.placed.Placed.{Placed}
use Rattle.pk_values.specs.declared.value.Value.{Value}
use Rattle.pk_schema.specs.Shapes.{Shape}
use Rattle.pk_schema.specs.Admits.{Admits}
use Rattle.pk_exec.specs.declared.table_edits.EditedRow.{EditedRow}
use Rattle.pk_exec.specs.Rows.{AscendFrom}
use Rattle.pk_exec.specs.Bases.{IsRowAdmitted}
use Rattle.pk_exec.specs.Changes.{changes_of, placed_from}
use Rattle.pk_exec.specs.Works.{Edits, edits_at}
use Rattle.pk_exec.specs.Seen.{entries_of, Covers, Fits, IsAdmitted}
use Rattle.pk_exec.specs.Told.{gone_edits, put_by, put_edits}
use Rattle.pk_exec.proofs.CountLemmas.{edits_change}

-- what is told of the edits is what the entries change
pub told_changes :
    (w : Edits) (k : ℕ) (rows : List Placed) (next : ℕ) (edited : List EditedRow) (added : List (List Value)) (gone : List ℕ) (put : List Placed)
    → edited ≡ (edits_at w k).edited → added ≡ (edits_at w k).added → gone ≡ gone_edits edited → put ≡ put_edits edited ++ placed_from next added
    → AscendFrom 1 rows → Covers w k rows → ◌≡◌ {A = Changes} (record { gone = gone; put = put }) (changes_of rows next (entries_of w k rows))
unfolding entries_of
told_changes w k rows next edited added gone put e a g p up covers =
    let t = edits_at w k in
    let gone_is : gone ≡ gone_edits t.edited = g ∙ ap gone_edits e in
    let put_is : put ≡ put_edits t.edited ++ placed_from next t.added =
    p ∙ ap (λ (es : List EditedRow). put_edits es ++ placed_from next added) e ∙ ap (λ (rs : List (List Value)). put_edits t.edited ++ placed_from next rs) a in
    ap (λ (is : List ℕ). record { gone = is; put = put }) gone_is
    ∙ ap (λ (ps : List Placed). record { gone = gone_edits t.edited; put = ps }) put_is
    ∙ sym (edits_change t.edited t.added rows next up covers)

put_admitted : (s : Shape) (es : List EditedRow) → All (IsAdmitted s) es → All (λ (p : Placed). Admits s p.row) (put_edits es)
put_admitted s [] all = All-nil (λ (p : Placed). Admits s p.row)
put_admitted s (e ∷ es) all = by_row e.row (All-head (IsAdmitted s) e es all) (put_admitted s es (All-tail (IsAdmitted s) e es all))
  where
    by_row : (o : Option (List Value)) → IsRowAdmitted s o → All (λ (p : Placed). Admits s p.row) (put_edits es)
        → All (λ (p : Placed). Admits s p.row) (cons_option (put_by e.id o) (put_edits es))
    by_row None one rest = rest
    by_row (Some row) one rest = All-cons (λ (p : Placed). Admits s p.row) (record { id = e.id; row = row }) (put_edits es) one rest

placed_admitted : (s : Shape) (next : ℕ) (rows : List (List Value)) → All (Admits s) rows → All (λ (p : Placed). Admits s p.row) (placed_from next rows)
placed_admitted s next [] all = All-nil (λ (p : Placed). Admits s p.row)
placed_admitted s next (row ∷ rows) all =
    All-cons (λ (p : Placed). Admits s p.row) (record { id = next; row = row }) (placed_from (next + 1) rows) (All-head (Admits s) row rows all)
    (placed_admitted s (next + 1) rows (All-tail (Admits s) row rows all))

-- each row that is put is admitted
pub told_admitted :
    (w : Edits) (k : ℕ) (s : Shape) (next : ℕ) (edited : List EditedRow) (added : List (List Value)) (put : List Placed)
    → edited ≡ (edits_at w k).edited → added ≡ (edits_at w k).added → put ≡ put_edits edited ++ placed_from next added → Fits w s k
    → All (λ (p : Placed). Admits s p.row) put
told_admitted w k s next edited added put e a p fits =
    subst (All (λ (x : Placed). Admits s x.row)) (sym p)
    (All-append (λ (x : Placed). Admits s x.row) (put_edits edited) (placed_from next added)
    (put_admitted s edited (subst (All (IsAdmitted s)) (sym e) fits.0))
    (placed_admitted s next added (subst (All (Admits s)) (sym a) fits.1)))
