-- What INSERT, UPDATE and DELETE make of the rows of a table that is valid.
use Rattle.std.proofs.Common.{◌≡◌, ℕ, zero, suc, ◌+◌, ◌≤◌, Bool, true, false, not, List, [], ◌∷◌, ◌++◌, Option, Some, None, length, map, if◌then◌else◌, All, refl, sym, subst, ap, ◌∙◌, arith}
use Rattle.std.specs.Prelude.{filter, cond, nat_le, slice_get, slice_set, FitsSigned}
use Rattle.std.specs.Int.{w64}
use Rattle.std.specs.List.{AllByRecursion, list_all, zip}
use Rattle.std.specs.Option.{option_map_or}
use Rattle.std.specs.Str.{is_utf8}
use Rattle.std.proofs.lemmas.Bool.{and_parts, and_from, leb-true, le-leb, not-true, not-false}
use Rattle.std.proofs.lemmas.List.Elements.{All-from_recursion, recursion_from_All}
use Rattle.pk_values.specs.declared.changes.Changes.{Changes}
use Rattle.pk_values.specs.declared.kind.Kind.{Kind}
use Rattle.pk_values.specs.declared.kind.Kind.TheVariants as kinds
use Rattle.pk_values.specs.declared.placed.Placed.{Placed}
use Rattle.pk_values.specs.declared.refusal.Refusal.{Refusal}
use Rattle.pk_values.specs.declared.refusal.Refusal.TheVariants.{LongRow}
use Rattle.pk_values.specs.declared.value.Value.{Value}
use Rattle.pk_values.specs.declared.value.Value.TheVariants as values
use Rattle.pk_values.specs.Records.{row_record}
use Rattle.pk_values.specs.Refusals.{first_some, first_by}
use Rattle.pk_values.specs.Values.{IsStorable}
use Rattle.pk_syntax.specs.declared.declaration.ColumnDecl.{ColumnDecl}
use Rattle.pk_syntax.specs.declared.edit.Insert.{Insert}
use Rattle.pk_syntax.specs.declared.edit.SetPart.{SetPart}
use Rattle.pk_syntax.specs.declared.edit.Update.{Update}
use Rattle.pk_syntax.specs.declared.edit.Delete.{Delete}
use Rattle.pk_syntax.specs.declared.literal.Literal.{Literal}
use Rattle.pk_syntax.specs.declared.literal.Literal.TheVariants as literals
use Rattle.pk_syntax.specs.declared.statement.Statement.TheVariants as statements
use Rattle.pk_syntax.specs.Declarations.{is_plain_length}
use Rattle.pk_syntax.specs.Given.{has_utf8, cond_has_utf8, HasFittingNumber, IsGiven}
use Rattle.pk_report.specs.declared.reply.Reply.{Reply}
use Rattle.pk_schema.specs.Shapes.{Shape, IsShape}
use Rattle.pk_schema.specs.Admits.{Admits, is_long}
use Rattle.pk_schema.specs.Laws.{AdmittedRowsFit}
use Rattle.pk_bind.specs.declared.edit.Edit.{Edit}
use Rattle.pk_bind.specs.declared.edit.SetTo.{SetTo}
use Rattle.pk_bind.specs.Conditions.{cond_asked}
use Rattle.pk_bind.specs.Fitting.{edit_fits, with_sets}
use Rattle.pk_bind.specs.Insert.{insert_refusals, new_rows, long_row, given, made_row, sources, targets}
use Rattle.pk_bind.specs.Laws.{NewRowsAreAdmitted, EditsFit, SetRowsAreAdmitted}
use Rattle.pk_bind.specs.Literals.{stored_value}
use Rattle.pk_bind.specs.Update.{update_refusals, edit_of, set_of}
use Rattle.pk_exec.specs.Entries.{Entry, Kept, Touched, New, row_in, with_row, kept_entries}
use Rattle.pk_exec.specs.Edits.{takes, updated_entry}
use Rattle.pk_exec.specs.Refusals.{many_changes, long_update, work_insert_refusals, work_update_refusals}
use Rattle.pk_engine.specs.Base.{Table}
use Rattle.pk_engine.specs.Edits.{entries_in, changes_in, insert_entries, update_entries, delete_entries, commit_refusals, with_changes}
use Rattle.pk_engine.specs.Entries.{MayBeKept, AreOf}
use Rattle.pk_engine.specs.Laws.{StatementsMakeEntries}
use Rattle.pk_engine.specs.Refusing.{decided}
use Rattle.pk_engine.specs.State.{State}
use Rattle.pk_engine.specs.Valid.{IsValidTable}
use Rattle.pk_engine.proofs.AnswerLemmas.{decided_behind}
use Rattle.pk_engine.proofs.EntryLemmas.{follow_kept, follow_added, follow_reset, follow_chosen}
use Rattle.pk_values.proofs.RefusalLemmas.{front_free, head_free, neither}

-- each entry has a row that a table of the schema may have
abbrev MayAllBeKept : Shape → List Entry → Type 0
MayAllBeKept s es = AllByRecursion (λ e. MayBeKept s (row_in e)) es

both : {X : Type 0} (P Q : X → Type 0) (xs : List X) → AllByRecursion P xs → AllByRecursion Q xs → AllByRecursion (λ x. P x × Q x) xs
both P Q [] ps qs = tt
both P Q (x ∷ xs) ps qs = ((ps.0, qs.0), both P Q xs ps.1 qs.1)

kept_as_were : (s : Shape) (rows : List Placed) → AllByRecursion (λ p. MayBeKept s p.row) rows → MayAllBeKept s (kept_entries rows)
kept_as_were s [] all = tt
kept_as_were s (p ∷ ps) all = (all.0, kept_as_were s ps all.1)

seen_kept : (t : Table) → IsValidTable t → MayAllBeKept t.shape (entries_in t)
seen_kept t valid =
    kept_as_were t.shape t.rows (both (λ (p : Placed). Admits t.shape p.row) (λ (p : Placed). All IsStorable p.row) t.rows
    (recursion_from_All (λ (p : Placed). Admits t.shape p.row) t.rows valid.rows) (recursion_from_All (λ (p : Placed). All IsStorable p.row) t.rows valid.values))

both_kept : (s : Shape) (es : List Entry) (rows : List (List Value)) → MayAllBeKept s es → AllByRecursion (MayBeKept s) rows → MayAllBeKept s (es ++ map (λ row. New row) rows)
both_kept s [] [] seen all = tt
both_kept s [] (row ∷ rows) seen all = (all.0, both_kept s [] rows tt all.1)
both_kept s (e ∷ es) rows seen all = (seen.0, both_kept s es rows seen.1 all)

-- ---- values that may be kept where no text is too long

abbrev Sound : Value → Type 0
Sound values.Null = Unit {0}
Sound (values.Integer z) = FitsSigned w64 z
Sound (values.Text bytes) = is_utf8 bytes ≡ true

stored_sound : (v : Value) → IsStorable v → Sound v
stored_sound values.Null stored = tt
stored_sound (values.Integer z) stored = stored
stored_sound (values.Text bytes) stored = (and_parts (nat_le (length bytes) 255) (is_utf8 bytes) stored).1

row_stored_sound : (row : List Value) → AllByRecursion IsStorable row → AllByRecursion Sound row
row_stored_sound [] all = tt
row_stored_sound (v ∷ vs) all = (stored_sound v all.0, row_stored_sound vs all.1)

-- a literal is a sound value
literal_sound : (l : Literal) → has_utf8 l ≡ true → HasFittingNumber l → Sound (stored_value l)
literal_sound literals.Null utf8 fits = tt
literal_sound (literals.Number z) utf8 fits = fits
literal_sound literals.Wide utf8 fits = tt
literal_sound (literals.Text bytes) utf8 fits = utf8

within_255 : (kind : Kind) (max : ℕ) → is_plain_length kind max ≡ true → max ≤ 255
within_255 kinds.Integer max plain = (let least = leb-true max 0 plain in omega (arith, least))
within_255 kinds.Text max plain = leb-true max 255 (and_parts (nat_le 1 max) (nat_le max 255) plain).1

value_storable : (c : ColumnDecl) (v : Value) → is_plain_length c.kind c.max ≡ true → not (is_long c v) ≡ true → Sound v → IsStorable v
value_storable c values.Null plain short sound = tt
value_storable c (values.Integer z) plain short sound = sound
value_storable c (values.Text bytes) plain short sound =
    let few = leb-true (length bytes) c.max (not-false (nat_le (length bytes) c.max) (not-true (not (nat_le (length bytes) c.max)) short)) in
    let most = within_255 c.kind c.max plain in
    and_from (nat_le (length bytes) 255) (is_utf8 bytes) (le-leb (length bytes) 255 (omega (arith, few, most))) sound

values_storable : (cs : List ColumnDecl) (row : List Value) → length row ≡ length cs → list_all (λ (c : ColumnDecl). is_plain_length c.kind c.max) cs ≡ true
    → list_all (λ pair. not (is_long pair.0 pair.1)) (zip cs row) ≡ true → AllByRecursion Sound row → AllByRecursion IsStorable row
values_storable cs [] same plain short sound = tt
values_storable [] (v ∷ vs) same plain short sound = absurd (omega (arith, same))
values_storable (c ∷ cs) (v ∷ vs) same plain short sound =
    let lengths = and_parts (is_plain_length c.kind c.max) (list_all (λ (d : ColumnDecl). is_plain_length d.kind d.max) cs) plain in
    let shorts = and_parts (not (is_long c v)) (list_all (λ pair. not (is_long pair.0 pair.1)) (zip cs vs)) short in
    (value_storable c v lengths.0 shorts.0 sound.0, values_storable cs vs (omega (arith, same)) lengths.1 shorts.1 sound.1)

-- a row of sound values that the schema admits may be kept
row_kept : AdmittedRowsFit → (s : Shape) (row : List Value) → IsShape s → Admits s row → AllByRecursion Sound row → MayBeKept s row
row_kept fit s row shape admits sound =
    let fits = (fit s row).0 admits in
    (admits, All-from_recursion IsStorable row (values_storable s.columns row fits.width shape.lengths fits.lengths sound))

rows_kept : AdmittedRowsFit → (s : Shape) (rows : List (List Value)) → IsShape s → AllByRecursion (Admits s) rows → AllByRecursion (AllByRecursion Sound) rows → AllByRecursion (MayBeKept s) rows
rows_kept fit s [] shape admits sound = tt
rows_kept fit s (row ∷ rows) shape admits sound = (row_kept fit s row shape admits.0 sound.0, rows_kept fit s rows shape admits.1 sound.1)

-- ---- INSERT

place_sound : (row : List Literal) (place : ℕ) → list_all has_utf8 row ≡ true → AllByRecursion HasFittingNumber row → Sound (option_map_or stored_value (slice_get row place) values.Null)
place_sound [] place utf8 fits = tt
place_sound (l ∷ ls) zero utf8 fits = literal_sound l (and_parts (has_utf8 l) (list_all has_utf8 ls) utf8).0 fits.0
place_sound (l ∷ ls) (suc place) utf8 fits = place_sound ls place (and_parts (has_utf8 l) (list_all has_utf8 ls) utf8).1 fits.1

given_sound : (row : List Literal) (o : Option ℕ) → list_all has_utf8 row ≡ true → AllByRecursion HasFittingNumber row → Sound (given row o)
given_sound row None utf8 fits = tt
given_sound row (Some place) utf8 fits = place_sound row place utf8 fits

made_sound : (places : List (Option ℕ)) (row : List Literal) → list_all has_utf8 row ≡ true → AllByRecursion HasFittingNumber row → AllByRecursion Sound (map (given row) places)
made_sound [] row utf8 fits = tt
made_sound (o ∷ os) row utf8 fits = (given_sound row o utf8 fits, made_sound os row utf8 fits)

tuples_sound : (places : List (Option ℕ)) (rows : List (List Literal)) → list_all (list_all has_utf8) rows ≡ true → AllByRecursion (All HasFittingNumber) rows
    → AllByRecursion (AllByRecursion Sound) (map (made_row places) rows)
unfolding made_row
tuples_sound places [] utf8 fits = tt
tuples_sound places (row ∷ rows) utf8 fits =
    let texts = and_parts (list_all has_utf8 row) (list_all (list_all has_utf8) rows) utf8 in
    (made_sound places row texts.0 (recursion_from_All HasFittingNumber row fits.0), tuples_sound places rows texts.1 fits.1)

new_sound : (columns : List ColumnDecl) (i : Insert) → IsGiven (statements.Insert i) → AllByRecursion (AllByRecursion Sound) (new_rows columns i)
unfolding new_rows
new_sound columns i is_given =
    tuples_sound (sources columns (targets columns i.columns)) i.rows is_given.texts (recursion_from_All (All HasFittingNumber) i.rows is_given.numbers)

insert_of : NewRowsAreAdmitted → AdmittedRowsFit → (t : Table) (i : Insert) → IsValidTable t → IsGiven (statements.Insert i) → first_some (work_insert_refusals t.shape 0 i) ≡ None
    → AreOf t (changes_in t (insert_entries t i))
insert_of admitted fit t i valid is_given free =
    let rows = new_rows t.shape.columns i in
    let admits = admitted t.shape i valid.shape is_given.texts (front_free (insert_refusals t.shape i) (many_changes (0 + length i.rows) ∷ []) free).0 in
    let kept = rows_kept fit t.shape rows valid.shape (recursion_from_All (Admits t.shape) rows admits) (new_sound t.shape.columns i is_given) in (
      insert_entries t i,
      follow_added rows t.rows (entries_in t) (follow_kept t.rows),
      All-from_recursion (λ (e : Entry). MayBeKept t.shape (row_in e)) (insert_entries t i) (both_kept t.shape (entries_in t) rows (seen_kept t valid) kept),
      refl,
    )

-- ---- UPDATE

row_of_set : (row : List Value) (e : Entry) → row_in (with_row row e) ≡ row
row_of_set row (Kept id old) = refl
row_of_set row (Touched id old) = refl
row_of_set row (New old) = refl

within_4000 : (n : ℕ) → nat_le n 4000 ≡ true → n ≤ 4000
within_4000 n test = grind (arith, test)

small_enough : (row : List Value) → long_row row ≡ None → length (row_record row) ≤ 4000
small_enough row free = go (nat_le (length (row_record row)) 4000) refl free
  where
    go : (b : Bool) → nat_le (length (row_record row)) 4000 ≡ b → if b then None else Some (LongRow (length (row_record row))) ≡ None → length (row_record row) ≤ 4000
    go true test free = within_4000 (length (row_record row)) test
    go false test free = absurd cc

value_set_sound : (row : List Value) (i : ℕ) (v : Value) → AllByRecursion Sound row → Sound v → AllByRecursion Sound (slice_set row i v)
value_set_sound [] i v row sound = tt
value_set_sound (w ∷ ws) zero v row sound = (sound, row.1)
value_set_sound (w ∷ ws) (suc i) v row sound = (row.0, value_set_sound ws i v row.1 sound)

sets_sound : (sets : List SetTo) (row : List Value) → AllByRecursion (λ s. Sound s.value) sets → AllByRecursion Sound row → AllByRecursion Sound (with_sets sets row)
sets_sound [] row sets sound = sound
sets_sound (s ∷ ss) row sets sound = sets_sound ss (slice_set row s.column s.value) sets.1 (value_set_sound row s.column s.value sound sets.0)

parts_sound : (columns : List ColumnDecl) (parts : List SetPart) → list_all (λ (p : SetPart). has_utf8 p.value) parts ≡ true → AllByRecursion (λ (p : SetPart). HasFittingNumber p.value) parts
    → AllByRecursion (λ s. Sound s.value) (map (set_of columns) parts)
parts_sound columns [] utf8 fits = tt
parts_sound columns (p ∷ ps) utf8 fits =
    let texts = and_parts (has_utf8 p.value) (list_all (λ (q : SetPart). has_utf8 q.value) ps) utf8 in
    (literal_sound p.value texts.0 fits.0, parts_sound columns ps texts.1 fits.1)

edit_sound : (columns : List ColumnDecl) (u : Update) → IsGiven (statements.Update u) → AllByRecursion (λ s. Sound s.value) (edit_of columns u).sets
unfolding edit_of
edit_sound columns u is_given =
    parts_sound columns u.sets (and_parts (list_all (λ (p : SetPart). has_utf8 p.value) u.sets) (cond_has_utf8 u.cond) is_given.texts).0
    (recursion_from_All (λ (p : SetPart). HasFittingNumber p.value) u.sets is_given.numbers)

-- a row that is set may be kept, where it isn't too long
set_kept : SetRowsAreAdmitted → AdmittedRowsFit → (s : Shape) (row : List Value) (e : Edit) → IsShape s → edit_fits s.columns e ≡ true → AllByRecursion (λ part. Sound part.value) e.sets
    → MayBeKept s row → length (row_record (with_sets e.sets row)) ≤ 4000 → MayBeKept s (with_sets e.sets row)
set_kept admitted fit s row e shape fits sound kept small =
    row_kept fit s (with_sets e.sets row) shape (admitted s row e kept.0 fits small) (sets_sound e.sets row sound (row_stored_sound row (recursion_from_All IsStorable row kept.1)))

updated_kept : SetRowsAreAdmitted → AdmittedRowsFit → (s : Shape) (e : Edit) (xs : List Entry) → IsShape s → edit_fits s.columns e ≡ true → AllByRecursion (λ part. Sound part.value) e.sets
    → MayAllBeKept s xs → first_by (λ x. long_row (with_sets e.sets (row_in x))) (filter (λ x. takes e.cond (row_in x)) xs) ≡ None → MayAllBeKept s (map (updated_entry e) xs)
updated_kept admitted fit s e [] shape fits sound seen short = tt
updated_kept admitted fit s e (x ∷ xs) shape fits sound seen short =
    go (takes e.cond (row_in x)) short (updated_kept admitted fit s e xs shape fits sound seen.1)
  where
    go : (b : Bool) → first_by (λ y. long_row (with_sets e.sets (row_in y))) (cond b (x ∷ filter (λ y. takes e.cond (row_in y)) xs) (filter (λ y. takes e.cond (row_in y)) xs)) ≡ None
        → (first_by (λ y. long_row (with_sets e.sets (row_in y))) (filter (λ y. takes e.cond (row_in y)) xs) ≡ None → MayAllBeKept s (map (updated_entry e) xs))
        → MayAllBeKept s ((if b then with_row (with_sets e.sets (row_in x)) x else x) ∷ map (updated_entry e) xs)
    go true short rest =
        let w = neither (long_row (with_sets e.sets (row_in x))) _ short in
        (subst (MayBeKept s) (sym (row_of_set (with_sets e.sets (row_in x)) x)) (set_kept admitted fit s (row_in x) e shape fits sound seen.0 (small_enough (with_sets e.sets (row_in x)) w.0)), rest w.1)
    go false short rest = (seen.0, rest short)

update_of : EditsFit → SetRowsAreAdmitted → AdmittedRowsFit → (t : Table) (u : Update) → IsValidTable t → IsGiven (statements.Update u)
    → first_some (work_update_refusals t.shape 0 t.rows (entries_in t) u) ≡ None → AreOf t (changes_in t (update_entries t u))
unfolding long_update
update_of edits admitted fit t u valid is_given free =
    let e = edit_of t.shape.columns u in
    let parts = front_free (update_refusals t.shape u) _ free in
    let fits = edits t.shape u is_given.texts parts.0 in
    let short = (head_free (long_update e (entries_in t)) _ parts.1).0 in (
      update_entries t u,
      follow_reset (λ x. takes e.cond (row_in x)) (λ x. with_sets e.sets (row_in x)) t.rows (entries_in t) (follow_kept t.rows),
      All-from_recursion (λ (x : Entry). MayBeKept t.shape (row_in x)) (update_entries t u)
          (updated_kept admitted fit t.shape e (entries_in t) valid.shape fits (edit_sound t.shape.columns u is_given) (seen_kept t valid) short),
      refl,
    )

-- ---- DELETE

chosen_kept : (s : Shape) (keeps : Entry → Bool) (xs : List Entry) → MayAllBeKept s xs → MayAllBeKept s (filter keeps xs)
chosen_kept s keeps [] seen = tt
chosen_kept s keeps (x ∷ xs) seen = go (keeps x) (filter keeps xs) (chosen_kept s keeps xs seen.1)
  where
    go : (b : Bool) (us : List Entry) → MayAllBeKept s us → MayAllBeKept s (cond b (x ∷ us) us)
    go true us rest = (seen.0, rest)
    go false us rest = rest

delete_of : (t : Table) (d : Delete) → IsValidTable t → AreOf t (changes_in t (delete_entries t d))
delete_of t d valid =
    let keeps = λ (x : Entry). not (takes (cond_asked t.shape.columns d.cond) (row_in x)) in (
      delete_entries t d,
      follow_chosen keeps t.rows (entries_in t) (follow_kept t.rows),
      All-from_recursion (λ (x : Entry). MayBeKept t.shape (row_in x)) (delete_entries t d) (chosen_kept t.shape keeps (entries_in t) (seen_kept t valid)),
      refl,
    )

-- ---- all three

pub statements_make_entries : NewRowsAreAdmitted → EditsFit → SetRowsAreAdmitted → AdmittedRowsFit → StatementsMakeEntries
statements_make_entries new edits sets fit t valid = record {
  inserts = λ i is_given free. insert_of new fit t i valid is_given free;
  updates = λ u is_given free. update_of edits sets fit t u valid is_given free;
  deletes = λ d. delete_of t d valid;
}

-- ---- a statement of which nothing is refused but by the limits of the base

-- what is settled is what is answered
pub settled_is : (st : State) (t : Table) (refusals : List (Option Refusal)) (asked made : Changes) (reply said : Reply) → first_some refusals ≡ None → made ≡ asked → said ≡ reply
    → decided st (refusals ++ commit_refusals st t asked) (record { reply = reply; next = with_changes st t asked })
    ≡ decided st (commit_refusals st t made) (record { reply = said; next = with_changes st t made })
settled_is st t refusals asked made reply said free changes replies =
    decided_behind st refusals (commit_refusals st t asked) (record { reply = reply; next = with_changes st t asked }) free
    ∙ ap (λ (c : Changes). decided st (commit_refusals st t c) (record { reply = reply; next = with_changes st t c })) (sym changes)
    ∙ ap (λ (r : Reply). decided st (commit_refusals st t made) (record { reply = r; next = with_changes st t made })) (sym replies)
