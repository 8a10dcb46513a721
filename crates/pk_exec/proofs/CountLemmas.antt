-- What the edits of a table change of the base.
use Rattle.std.proofs.Common.{◌≡◌, ℕ, ◌+◌, ◌<◌, ◌≤◌, Bool, true, false, not, ◌==◌, ◌&&◌, ◌||◌, List, [], ◌∷◌, ◌++◌, length, map, Option, Some, None, is_some, refl, ap, sym, ◌∙◌, arith, append-nil, suc, if◌then◌else◌}
use Rattle.std.specs.List.{filter, filter_map, flat_map, cons_option, list_any}
use Rattle.std.proofs.lemmas.Bool.{eqb-true, eq-eqb, ne_eqb}
use Rattle.pk_values.specs.declared.placed.Placed.{Placed}
use Rattle.pk_values.specs.declared.value.Value.{Value}
use Rattle.pk_exec.specs.declared.base.BaseRow.{BaseRow}
use Rattle.pk_exec.specs.declared.change.Change.{Change}
use Rattle.pk_exec.specs.declared.change.Fate.{Fate}
use Rattle.pk_exec.specs.declared.change.Fate.TheVariants.{Left, Put, Gone, Long}
use Rattle.pk_exec.specs.declared.table_edits.EditedRow.{EditedRow}
use Rattle.pk_exec.specs.Rows.{AscendFrom, ids_of}
use Rattle.pk_exec.specs.Bases.{base_entry, seen_entry, base_by, base_rows, edit_for, edits_behind, edit_by, edits_in}
use Rattle.pk_exec.specs.Changes.{is_entry_of, gone_ids, touched_row, touched_rows, new_row, added_rows, placed_from, changed_count, changes_of}
use Rattle.pk_exec.specs.Fates.{fate_of}
use Rattle.pk_exec.specs.Drafts as drafts
use Rattle.pk_exec.specs.Drafts.{base_by_fate, changed_base, changed_edits}
use Rattle.pk_exec.specs.Works.{edit_ids}
use Rattle.pk_exec.specs.Seen.{is_part, new_entries}
use Rattle.pk_exec.specs.Told.{gone_by, gone_edits, put_by, put_edits}
use Rattle.pk_exec.proofs.DraftLemmas.{changed_id, part_skip}
use Rattle.std.proofs.Math.Bool.{and-false, and-true, or-false}
use Rattle.std.proofs.lemmas.List.Folds.{list_any-append}
use Rattle.pk_exec.proofs.ListLemmas.{rest_from}

-- ---- rows of the base beside what edits leave of them

-- each row as edits leave it is that of its id, and one that isn't edited is the row itself
pub AreOf : List BaseRow → List Placed → Type 0
AreOf [] [] = Unit {0}
AreOf [] (p ∷ ps) = ⊥
AreOf (b ∷ bs) [] = ⊥
AreOf (b ∷ bs) (p ∷ ps) = (b.id ≡ p.id) × (b.edited ≡ false → b.row ≡ Some p.row) × AreOf bs ps

one_of : (o : Option EditedRow) (p : Placed) → ((base_by o p).id ≡ p.id) × ((base_by o p).edited ≡ false → (base_by o p).row ≡ Some p.row)
one_of None p = (refl, λ kept. refl)
one_of (Some e) p = (refl, λ kept. absurd (cc))

bases_of : (es : List EditedRow) (ps : List Placed) → AreOf (base_rows es ps) ps
unfolding base_rows AreOf
bases_of es [] = tt
bases_of es (p ∷ ps) =
    let w = one_of (edit_for es p.id) p in
    (w.0, w.1, bases_of (edits_behind es p.id) ps)

fate_keeps : (b : BaseRow) (f : Fate) → (base_by_fate b f).edited ≡ false → (b.edited ≡ false) × ((base_by_fate b f).row ≡ b.row)
fate_keeps b (Left row) kept = (kept, refl)
fate_keeps b (Put row) kept = absurd (cc)
fate_keeps b Gone kept = absurd (cc)
fate_keeps b (Long n) kept = (kept, refl)

change_keeps : (c : Change) (b : BaseRow) (o : Option (List Value)) → (drafts.base_by c b o).edited ≡ false
    → (b.edited ≡ false) × ((drafts.base_by c b o).row ≡ b.row)
change_keeps c b None kept = (kept, refl)
change_keeps c b (Some row) kept = fate_keeps b (fate_of c row) kept

changed_of : (c : Change) (bs : List BaseRow) (ps : List Placed) → AreOf bs ps → AreOf (map (changed_base c) bs) ps
unfolding AreOf
changed_of c [] [] all = tt
changed_of c [] (p ∷ ps) all = absurd all
changed_of c (b ∷ bs) [] all = absurd all
changed_of c (b ∷ bs) (p ∷ ps) all = (
  changed_id c b b.row ∙ all.0,
  λ kept. (change_keeps c b b.row kept).1 ∙ all.1 (change_keeps c b b.row kept).0,
  changed_of c bs ps all.2,
)

-- no edit is of an id below those of the rows
none_below : (bs : List BaseRow) (ps : List Placed) (least id : ℕ) → id < least → AscendFrom least ps → AreOf bs ps
    → (edit_for (edits_in bs) id ≡ None) × (edits_behind (edits_in bs) id ≡ edits_in bs)
unfolding AreOf
none_below [] ps least id below up all = (refl, refl)
none_below (b ∷ bs) [] least id below up all = absurd all
none_below (b ∷ bs) (p ∷ ps) least id below up all = by_edited b.edited (none_below bs ps (p.id + 1) id (omega (arith, up.1.0, below)) (rest_from least p ps up) all.2)
  where
    by_edited : (edited : Bool) → (edit_for (edits_in bs) id ≡ None) × (edits_behind (edits_in bs) id ≡ edits_in bs)
        → (edit_for (cons_option (edit_by edited b.id b.row) (edits_in bs)) id ≡ None)
        × (edits_behind (cons_option (edit_by edited b.id b.row) (edits_in bs)) id ≡ cons_option (edit_by edited b.id b.row) (edits_in bs))
    by_edited true rest =
        let apart = ne_eqb b.id id (λ e. omega (arith, e, all.0, up.1.0, below)) in
        (rw apart refl, rw apart refl)
    by_edited false rest = rest

same_base : (b : BaseRow) (id : ℕ) (edited : Bool) (row : Option (List Value)) → b.id ≡ id → b.edited ≡ edited → b.row ≡ row
    → ◌≡◌ {A = BaseRow} (record { id = id; edited = edited; row = row }) b
same_base b id edited row i e r =
    let one : ◌≡◌ {A = BaseRow} (record { id = id; edited = edited; row = row }) (record { id = b.id; edited = edited; row = row }) =
    ap (λ (n : ℕ). record { id = n; edited = edited; row = row }) (sym i) in
    let two : ◌≡◌ {A = BaseRow} (record { id = b.id; edited = edited; row = row }) (record { id = b.id; edited = b.edited; row = row }) =
    ap (λ (x : Bool). record { id = b.id; edited = x; row = row }) (sym e) in
    let three : ◌≡◌ {A = BaseRow} (record { id = b.id; edited = b.edited; row = row }) b =
    ap (λ (o : Option (List Value)). record { id = b.id; edited = b.edited; row = o }) (sym r) in
    one ∙ two ∙ three

-- the edits that leave the rows so do leave them so
bases_again : (bs : List BaseRow) (ps : List Placed) (least : ℕ) → AscendFrom least ps → AreOf bs ps → base_rows (edits_in bs) ps ≡ bs
unfolding base_rows AreOf
bases_again [] [] least up all = refl
bases_again [] (p ∷ ps) least up all = absurd all
bases_again (b ∷ bs) [] least up all = absurd all
bases_again (b ∷ bs) (p ∷ ps) least up all = by_edited b.edited refl (bases_again bs ps (p.id + 1) (rest_from least p ps up) all.2)
  where
    by_edited : (edited : Bool) → b.edited ≡ edited → base_rows (edits_in bs) ps ≡ bs
        → base_rows (cons_option (edit_by edited b.id b.row) (edits_in bs)) (p ∷ ps) ≡ b ∷ bs
    by_edited true is rest =
        rw (eq-eqb b.id p.id all.0)
        (ap (λ (x : BaseRow). x ∷ base_rows (edits_in bs) ps) (same_base b p.id true b.row all.0 is refl) ∙ ap (λ (xs : List BaseRow). b ∷ xs) rest)
    by_edited false is rest =
        let w = none_below bs ps (p.id + 1) p.id (omega arith) (rest_from least p ps up) all.2 in
        rw (w.0, w.1)
        (ap (λ (x : BaseRow). x ∷ base_rows (edits_in bs) ps) (same_base b p.id false (Some p.row) all.0 is (all.1 is)) ∙ ap (λ (xs : List BaseRow). b ∷ xs) rest)

-- the rows of the base as the edits after a change leave them
pub changed_bases : (c : Change) (es : List EditedRow) (rows : List Placed) → AscendFrom 1 rows
    → base_rows (changed_edits c (base_rows es rows)) rows ≡ map (changed_base c) (base_rows es rows)
changed_bases c es rows up = bases_again (map (changed_base c) (base_rows es rows)) rows 1 up (changed_of c (base_rows es rows) rows (bases_of es rows))

-- ---- the edits are those of the rows, where each is of one

same_edit : (e : EditedRow) (id : ℕ) → e.id ≡ id → ◌≡◌ {A = EditedRow} (record { id = id; row = e.row }) e
same_edit e id is = ap (λ (n : ℕ). record { id = n; row = e.row }) (sym is)

edits_again : (es : List EditedRow) (ps : List Placed) → is_part (edit_ids es) (ids_of ps) ≡ true → edits_in (base_rows es ps) ≡ es
unfolding base_rows
edits_again [] [] part = refl
edits_again (e ∷ es) [] part = absurd (cc)
edits_again [] (p ∷ ps) part = edits_again [] ps refl
edits_again (e ∷ es) (p ∷ ps) part = by_id (e.id == p.id) refl part (edits_again es ps) (edits_again (e ∷ es) ps)
  where
    by_id : (b : Bool) → (e.id == p.id) ≡ b → (if b then is_part (edit_ids es) (ids_of ps) else is_part (edit_ids (e ∷ es)) (ids_of ps)) ≡ true
        → (is_part (edit_ids es) (ids_of ps) ≡ true → edits_in (base_rows es ps) ≡ es)
        → (is_part (edit_ids (e ∷ es)) (ids_of ps) ≡ true → edits_in (base_rows (e ∷ es) ps) ≡ e ∷ es)
        → edits_in (base_by (if b then Some e else None) p ∷ base_rows (if b then es else e ∷ es) ps) ≡ e ∷ es
    by_id true same part met passed =
        ap (λ (x : EditedRow). x ∷ edits_in (base_rows es ps)) (same_edit e p.id (eqb-true e.id p.id same)) ∙ ap (λ (xs : List EditedRow). e ∷ xs) (met part)
    by_id false differ part met passed = passed part

-- ---- what is put

mapped_append : {X Y : Type 0} (f : X → Option Y) (xs ys : List X) → filter_map f (xs ++ ys) ≡ filter_map f xs ++ filter_map f ys
mapped_append f [] ys = refl
mapped_append {Y = Y} f (x ∷ xs) ys = by_one (f x) (mapped_append f xs ys)
  where
    by_one : (o : Option Y) → filter_map f (xs ++ ys) ≡ filter_map f xs ++ filter_map f ys
        → cons_option o (filter_map f (xs ++ ys)) ≡ cons_option o (filter_map f xs) ++ filter_map f ys
    by_one None same = same
    by_one (Some y) same = ap (λ (zs : List Y). y ∷ zs) same

new_touched : (added : List (List Value)) → touched_rows (new_entries added) ≡ []
new_touched [] = refl
new_touched (row ∷ rows) = new_touched rows

seen_touched : (id : ℕ) (edited : Bool) (o : Option (List Value)) (rest : List Placed) (es : List EditedRow) → rest ≡ put_edits es
    → touched_rows (seen_entry id edited o) ++ rest ≡ put_edits (cons_option (edit_by edited id o) es)
seen_touched id true None rest es same = same
seen_touched id false None rest es same = same
seen_touched id true (Some row) rest es same = ap (λ (ps : List Placed). record { id = id; row = row } ∷ ps) same
seen_touched id false (Some row) rest es same = same

bases_touched : (bs : List BaseRow) → touched_rows (flat_map base_entry bs) ≡ put_edits (edits_in bs)
bases_touched [] = refl
bases_touched (b ∷ bs) =
    mapped_append touched_row (base_entry b) (flat_map base_entry bs)
    ∙ seen_touched b.id b.edited b.row (touched_rows (flat_map base_entry bs)) (edits_in bs) (bases_touched bs)

-- what is seen as changed is what the edits put
entries_touched : (bs : List BaseRow) (added : List (List Value)) → touched_rows (flat_map base_entry bs ++ new_entries added) ≡ put_edits (edits_in bs)
entries_touched bs added =
    mapped_append touched_row (flat_map base_entry bs) (new_entries added)
    ∙ ap (λ (ps : List Placed). touched_rows (flat_map base_entry bs) ++ ps) (new_touched added)
    ∙ append-nil (touched_rows (flat_map base_entry bs))
    ∙ bases_touched bs

-- ---- what is added

seen_added : (id : ℕ) (edited : Bool) (o : Option (List Value)) → added_rows (seen_entry id edited o) ≡ []
seen_added id edited None = refl
seen_added id true (Some row) = refl
seen_added id false (Some row) = refl

bases_added : (bs : List BaseRow) → added_rows (flat_map base_entry bs) ≡ []
bases_added [] = refl
bases_added (b ∷ bs) =
    mapped_append new_row (base_entry b) (flat_map base_entry bs)
    ∙ ap (λ (xs : List (List Value)). xs ++ added_rows (flat_map base_entry bs)) (seen_added b.id b.edited b.row)
    ∙ bases_added bs

new_added : (added : List (List Value)) → added_rows (new_entries added) ≡ added
new_added [] = refl
new_added (row ∷ rows) = ap (λ (xs : List (List Value)). row ∷ xs) (new_added rows)

entries_added : (bs : List BaseRow) (added : List (List Value)) → added_rows (flat_map base_entry bs ++ new_entries added) ≡ added
entries_added bs added =
    mapped_append new_row (flat_map base_entry bs) (new_entries added)
    ∙ ap (λ (xs : List (List Value)). xs ++ added_rows (new_entries added)) (bases_added bs)
    ∙ new_added added

-- ---- what is gone

-- the row of this id is there
abbrev is_there : ℕ → BaseRow → Bool
is_there id b = (b.id == id) && is_some b.row

new_has_none : (id : ℕ) (added : List (List Value)) → list_any (is_entry_of id) (new_entries added) ≡ false
new_has_none id [] = refl
new_has_none id (row ∷ rows) = new_has_none id rows

seen_has : (id i : ℕ) (edited : Bool) (o : Option (List Value)) → list_any (is_entry_of id) (seen_entry i edited o) ≡ ((i == id) && is_some o)
seen_has id i edited None = sym (and-false (i == id))
seen_has id i true (Some row) = or-false (i == id) ∙ sym (and-true (i == id))
seen_has id i false (Some row) = or-false (i == id) ∙ sym (and-true (i == id))

bases_have : (id : ℕ) (bs : List BaseRow) → list_any (is_entry_of id) (flat_map base_entry bs) ≡ list_any (is_there id) bs
bases_have id [] = refl
bases_have id (b ∷ bs) =
    list_any-append (is_entry_of id) (base_entry b) (flat_map base_entry bs)
    ∙ ap (λ (t : Bool). t || list_any (is_entry_of id) (flat_map base_entry bs)) (seen_has id b.id b.edited b.row)
    ∙ ap (λ (t : Bool). is_there id b || t) (bases_have id bs)

entries_have : (id : ℕ) (bs : List BaseRow) (added : List (List Value)) → list_any (is_entry_of id) (flat_map base_entry bs ++ new_entries added) ≡ list_any (is_there id) bs
entries_have id bs added =
    list_any-append (is_entry_of id) (flat_map base_entry bs) (new_entries added)
    ∙ ap (λ (t : Bool). list_any (is_entry_of id) (flat_map base_entry bs) || t) (new_has_none id added)
    ∙ or-false (list_any (is_entry_of id) (flat_map base_entry bs))
    ∙ bases_have id bs

-- a test of the rows of the base, by another that is the same on their ids
kept_same : (p q : ℕ → Bool) (ps : List Placed) (least : ℕ) → AscendFrom least ps → ((id : ℕ) → least ≤ id → p id ≡ q id) → filter p (ids_of ps) ≡ filter q (ids_of ps)
kept_same p q [] least up same = refl
kept_same p q (x ∷ ps) least up same =
    rw (same x.id up.1.0) (by_one (q x.id) (kept_same p q ps (x.id + 1) (rest_from least x ps up) (λ id above. same id (omega (arith, above, up.1.0)))))
  where
    by_one : (b : Bool) → filter p (ids_of ps) ≡ filter q (ids_of ps) → (if b then x.id ∷ filter p (ids_of ps) else filter p (ids_of ps)) ≡ (if b then x.id ∷ filter q (ids_of ps) else filter q (ids_of ps))
    by_one true rest = ap (λ (is : List ℕ). x.id ∷ is) rest
    by_one false rest = rest

-- no row has an id below all of them
none_there : (bs : List BaseRow) (ps : List Placed) (least id : ℕ) → id < least → AscendFrom least ps → AreOf bs ps → list_any (is_there id) bs ≡ false
unfolding AreOf
none_there [] ps least id below up all = refl
none_there (b ∷ bs) [] least id below up all = absurd all
none_there (b ∷ bs) (p ∷ ps) least id below up all =
    rw (ne_eqb b.id id (λ e. omega (arith, e, all.0, up.1.0, below))) (none_there bs ps (p.id + 1) id (omega (arith, up.1.0, below)) (rest_from least p ps up) all.2)

gone_of : (edited : Bool) (id : ℕ) (o : Option (List Value)) (row : List Value) (es : List EditedRow) → (edited ≡ false → o ≡ Some row)
    → gone_edits (cons_option (edit_by edited id o) es) ≡ (if not (is_some o) then id ∷ gone_edits es else gone_edits es)
gone_of true id None row es kept = refl
gone_of true id (Some r) row es kept = refl
gone_of false id None row es kept = absurd (cc (kept refl))
gone_of false id (Some r) row es kept = refl

-- the ids of which no row is there are those of the edits that take a row away
bases_gone : (bs : List BaseRow) (ps : List Placed) (least : ℕ) → AscendFrom least ps → AreOf bs ps
    → filter (λ id. not (list_any (is_there id) bs)) (ids_of ps) ≡ gone_edits (edits_in bs)
unfolding AreOf
bases_gone [] [] least up all = refl
bases_gone [] (p ∷ ps) least up all = absurd all
bases_gone (b ∷ bs) [] least up all = absurd all
bases_gone (b ∷ bs) (p ∷ ps) least up all =
    let here : list_any (is_there p.id) (b ∷ bs) ≡ is_some b.row =
    ap (λ (t : Bool). (t && is_some b.row) || list_any (is_there p.id) bs) (eq-eqb b.id p.id all.0)
    ∙ ap (λ (t : Bool). is_some b.row || t) (none_there bs ps (p.id + 1) p.id (omega arith) (rest_from least p ps up) all.2)
    ∙ or-false (is_some b.row) in
    let later : filter (λ id. not (list_any (is_there id) (b ∷ bs))) (ids_of ps) ≡ gone_edits (edits_in bs) =
    kept_same (λ id. not (list_any (is_there id) (b ∷ bs))) (λ id. not (list_any (is_there id) bs)) ps (p.id + 1) (rest_from least p ps up)
    (λ id above. ap (λ (t : Bool). not ((t && is_some b.row) || list_any (is_there id) bs)) (ne_eqb b.id id (λ e. omega (arith, e, all.0, above))))
    ∙ bases_gone bs ps (p.id + 1) (rest_from least p ps up) all.2 in
    ap (λ (t : Bool). if not t then p.id ∷ filter (λ id. not (list_any (is_there id) (b ∷ bs))) (ids_of ps) else filter (λ id. not (list_any (is_there id) (b ∷ bs))) (ids_of ps)) here
    ∙ ap (λ (is : List ℕ). if not (is_some b.row) then p.id ∷ is else is) later
    ∙ ap (λ (n : ℕ). if not (is_some b.row) then n ∷ gone_edits (edits_in bs) else gone_edits (edits_in bs)) (sym all.0)
    ∙ sym (gone_of b.edited b.id b.row p.row (edits_in bs) all.1)

entries_gone : (bs : List BaseRow) (ps : List Placed) (added : List (List Value)) → AscendFrom 1 ps → AreOf bs ps
    → gone_ids ps (flat_map base_entry bs ++ new_entries added) ≡ gone_edits (edits_in bs)
unfolding gone_ids
entries_gone bs ps added up all =
    kept_same (λ id. not (list_any (is_entry_of id) (flat_map base_entry bs ++ new_entries added))) (λ id. not (list_any (is_there id) bs)) ps 1 up
    (λ id above. ap not (entries_have id bs added))
    ∙ bases_gone bs ps 1 up all

-- ---- together

-- of the edits each takes its row away or puts one
edits_parted : (es : List EditedRow) → length es ≡ length (gone_edits es) + length (put_edits es)
edits_parted [] = omega arith
edits_parted (e ∷ es) = by_row e.row (edits_parted es)
  where
    by_row : (o : Option (List Value)) → length es ≡ length (gone_edits es) + length (put_edits es)
        → suc (length es) ≡ length (cons_option (gone_by e.id o) (gone_edits es)) + length (cons_option (put_by e.id o) (put_edits es))
    by_row None rest = omega (arith, rest)
    by_row (Some row) rest = omega (arith, rest)

-- what edits of these rows change of the base, where new rows get these ids
pub edits_change : (es : List EditedRow) (added : List (List Value)) (rows : List Placed) (next : ℕ) → AscendFrom 1 rows → is_part (edit_ids es) (ids_of rows) ≡ true
    → changes_of rows next (flat_map base_entry (base_rows es rows) ++ new_entries added)
    ≡ record { gone = gone_edits es; put = put_edits es ++ placed_from next added }
edits_change es added rows next up part =
    let bs = base_rows es rows in
    let again = edits_again es rows part in
    rw (entries_gone bs rows added up (bases_of es rows), entries_touched bs added, entries_added bs added, again) refl

-- how many rows they change
pub edits_counted : (es : List EditedRow) (added : List (List Value)) (rows : List Placed) → AscendFrom 1 rows → is_part (edit_ids es) (ids_of rows) ≡ true
    → changed_count rows (flat_map base_entry (base_rows es rows) ++ new_entries added) ≡ length es + length added
edits_counted es added rows up part =
    let bs = base_rows es rows in
    rw (entries_gone bs rows added up (bases_of es rows), entries_touched bs added, entries_added bs added, edits_again es rows part)
    (omega (arith, edits_parted es))

-- edits that leave rows of the base are of these rows
edits_part : (bs : List BaseRow) (ps : List Placed) → AreOf bs ps → is_part (edit_ids (edits_in bs)) (ids_of ps) ≡ true
unfolding AreOf
edits_part [] ps all = refl
edits_part (b ∷ bs) [] all = absurd all
edits_part (b ∷ bs) (p ∷ ps) all = by_edited b.edited (edits_part bs ps all.2)
  where
    by_edited : (edited : Bool) → is_part (edit_ids (edits_in bs)) (ids_of ps) ≡ true
        → is_part (edit_ids (cons_option (edit_by edited b.id b.row) (edits_in bs))) (p.id ∷ ids_of ps) ≡ true
    by_edited true rest = rw (eq-eqb b.id p.id all.0) rest
    by_edited false rest = part_skip (edit_ids (edits_in bs)) (ids_of ps) p.id rest

-- how many rows are changed after a change
pub changed_counted : (c : Change) (es : List EditedRow) (added : List (List Value)) (rows : List Placed) → AscendFrom 1 rows
    → changed_count rows (flat_map base_entry (map (changed_base c) (base_rows es rows)) ++ new_entries added)
    ≡ length (changed_edits c (base_rows es rows)) + length added
changed_counted c es added rows up =
    let bs = map (changed_base c) (base_rows es rows) in
    ap (λ (xs : List BaseRow). changed_count rows (flat_map base_entry xs ++ new_entries added)) (sym (changed_bases c es rows up))
    ∙ edits_counted (changed_edits c (base_rows es rows)) added rows up (edits_part bs rows (changed_of c (base_rows es rows) rows (bases_of es rows)))
