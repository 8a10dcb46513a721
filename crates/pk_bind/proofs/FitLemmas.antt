-- What is bound of a DELETE, SELECT or UPDATE that isn't refused fits the columns.
use Rattle.std.proofs.Common.{◌≡◌, refl, sym, ◌∙◌, ap, subst, ℕ, zero, suc, ◌+◌, ◌≤◌, true, ◌&&◌, List, [], ◌∷◌, ◌++◌, map, length, Some, None, nat_lt, arith}
use Rattle.std.specs.List.{list_all, range_with_len}
use Rattle.std.proofs.lemmas.Bool.{and_parts, and_from, lt-ltb}
use Rattle.std.proofs.lemmas.Option.{slice_get_within}
use Rattle.pk_values.specs.Refusals.{first_some, or_else, first_by}
use Rattle.pk_syntax.specs.declared.declaration.ColumnDecl.{ColumnDecl}
use Rattle.pk_syntax.specs.declared.edit.Delete.{Delete}
use Rattle.pk_syntax.specs.declared.edit.SetPart.{SetPart}
use Rattle.pk_syntax.specs.declared.edit.Update.{Update}
use Rattle.pk_syntax.specs.declared.query.OrderPart.{OrderPart}
use Rattle.pk_syntax.specs.declared.query.Select.{Select}
use Rattle.pk_syntax.specs.declared.query.What.{What}
use Rattle.pk_syntax.specs.declared.query.What.TheVariants.{All, Columns, Count}
use Rattle.pk_syntax.specs.Given.{has_utf8, cond_has_utf8}
use Rattle.pk_schema.specs.Shapes.{Shape, IsShape}
use Rattle.pk_bind.specs.declared.literals.Check.{Check}
use Rattle.pk_bind.specs.declared.literals.Check.TheVariants as checks
use Rattle.pk_bind.specs.declared.searching.Search.TheVariants as searches
use Rattle.pk_bind.specs.Columns.{no_column, column_at}
use Rattle.pk_bind.specs.Literals.{has_words, stored_value}
use Rattle.pk_bind.specs.Conditions.{cond_fault, cond_has_words, cond_asked}
use Rattle.pk_bind.specs.Update.{found_fault, set_fault, update_refusals, set_of, edit_of}
use Rattle.pk_bind.specs.Delete.{delete_refusals}
use Rattle.pk_bind.specs.Select.{missing_shown, missing_order, select_refusals, shown_of, order_of, selection_of}
use Rattle.pk_bind.specs.Fitting.{cond_fits, holds_at, set_fits, edit_fits, shown_fits, order_fits, selection_fits}
use Rattle.pk_bind.proofs.FoundLemmas.{none_stand, column_found}
use Rattle.pk_bind.proofs.LiteralLemmas.{by_check, stored_holds}
use Rattle.pk_bind.proofs.ConditionLemmas.{cond_bound_fits}
use Rattle.pk_bind.proofs.WordsLemmas.{shape_keeps, sets_words, cond_words}
use Rattle.pk_values.proofs.RefusalLemmas.{neither}

-- ---- places

-- one place more
pub places_more : (n : ℕ) → range_with_len 0 (n + 1) ≡ range_with_len 0 n ++ n ∷ []
places_more n = let e : n + 1 ≡ suc n = omega arith in ap (range_with_len 0) e ∙ more 0 n ∙ ap (λ i. range_with_len 0 n ++ i ∷ []) (omega arith) where
  more : (a k : ℕ) → range_with_len a (suc k) ≡ range_with_len a k ++ (a + k) ∷ []
  more a zero = ap (λ i. i ∷ []) (omega arith)
  more a (suc k) = ap (λ is. a ∷ is) (more (a + 1) k ∙ ap (λ i. range_with_len (a + 1) k ++ i ∷ []) (omega arith))

all_within : (a k n : ℕ) → a + k ≤ n → list_all (λ c. nat_lt c n) (range_with_len a k) ≡ true
all_within a zero n within = refl
all_within a (suc k) n within = and_from (nat_lt a n) _ (lt-ltb a n (omega (arith, within))) (all_within (a + 1) k n (omega (arith, within)))

place_within : (columns : List ColumnDecl) (table name : List ℕ) → no_column columns table name ≡ None → nat_lt (column_at columns name) (length columns) ≡ true
place_within columns table name free =
    let c = column_found columns table name free in
    lt-ltb (column_at columns name) (length columns) (slice_get_within columns (column_at columns name) c.0 c.2)

names_within : (columns : List ColumnDecl) (table : List ℕ) (names : List (List ℕ)) → first_by (no_column columns table) names ≡ None
    → list_all (λ c. nat_lt c (length columns)) (map (column_at columns) names) ≡ true
names_within columns table [] free = refl
names_within columns table (n ∷ ns) free =
    let parts = neither (no_column columns table n) (first_by (no_column columns table) ns) free in
    and_from (nat_lt (column_at columns n) (length columns)) _ (place_within columns table n parts.0) (names_within columns table ns parts.1)

shown_within : (columns : List ColumnDecl) (table : List ℕ) (what : What) → missing_shown columns table what ≡ None → shown_fits columns (shown_of columns what) ≡ true
shown_within columns table All free = all_within 0 (length columns) (length columns) (omega arith)
shown_within columns table (Columns names) free = names_within columns table names free
shown_within columns table Count free = refl

order_within : (columns : List ColumnDecl) (table : List ℕ) (order : List OrderPart) → missing_order columns table order ≡ None
    → order_fits columns (map (order_of columns) order) ≡ true
order_within columns table [] free = refl
order_within columns table (part ∷ parts) free =
    let each = neither (no_column columns table part.column) (missing_order columns table parts) free in
    and_from (nat_lt (column_at columns part.column) (length columns)) _ (place_within columns table part.column each.0) (order_within columns table parts each.1)

-- ---- DELETE and SELECT

pub deleted_fits : (s : Shape) (d : Delete) → cond_has_utf8 d.cond ≡ true → first_some (delete_refusals s d) ≡ None
    → cond_fits s.columns (cond_asked s.columns d.cond) ≡ true
unfolding delete_refusals
deleted_fits s d utf8 free =
    let none = none_stand (delete_refusals s d) free in
    cond_bound_fits s.columns d.table d.cond utf8 none.0 none.1.0

pub deleted_words : (s : Shape) (d : Delete) → cond_has_utf8 d.cond ≡ true → first_some (delete_refusals s d) ≡ None → cond_has_words d.cond ≡ true
unfolding delete_refusals
deleted_words s d utf8 free =
    let none = none_stand (delete_refusals s d) free in
    cond_words s.columns d.table d.cond utf8 none.1.1.1.0

pub selected_fits : (s : Shape) (q : Select) → cond_has_utf8 q.cond ≡ true → first_some (select_refusals s q) ≡ None
    → selection_fits s.columns (selection_of s.columns q) ≡ true
unfolding select_refusals selection_of
selected_fits s q utf8 free =
    let none = none_stand (select_refusals s q) free in
    let missing = cond_fault searches.Missing s.columns q.table q.cond in
    let unordered = missing_order s.columns q.table q.order in
    let shown = neither (missing_shown s.columns q.table q.what) (or_else missing unordered) none.0 in
    let asked = neither missing unordered shown.1 in
    let cond = cond_asked s.columns q.cond in
    and_from (cond_fits s.columns cond && shown_fits s.columns (shown_of s.columns q.what)) _
    (and_from (cond_fits s.columns cond) _ (cond_bound_fits s.columns q.table q.cond utf8 asked.0 none.1.0) (shown_within s.columns q.table q.what shown.0))
    (order_within s.columns q.table q.order asked.1)

pub selected_words : (s : Shape) (q : Select) → cond_has_utf8 q.cond ≡ true → first_some (select_refusals s q) ≡ None → cond_has_words q.cond ≡ true
unfolding select_refusals
selected_words s q utf8 free =
    let none = none_stand (select_refusals s q) free in
    cond_words s.columns q.table q.cond utf8 none.1.1.1.0

-- ---- UPDATE

set_bound_fits : (columns : List ColumnDecl) (table : List ℕ) (s : SetPart) → has_utf8 s.value ≡ true → no_column columns table s.column ≡ None
    → ((check : Check) → set_fault check columns s ≡ None) → set_fits columns (set_of columns s) ≡ true
set_bound_fits columns table s utf8 there free =
    let c = column_found columns table s.column there in
    let found : (check : Check) → found_fault check (Some c.0) s.value ≡ None = λ check. subst (λ o. found_fault check o s.value ≡ None) c.1 (free check) in
    subst (λ o. holds_at o (stored_value s.value) ≡ true) (sym c.2)
    (stored_holds c.0 s.value utf8 (found checks.Kind) (found checks.Wide) (found checks.Length) (found checks.Null))

sets_fit : (columns : List ColumnDecl) (table : List ℕ) (sets : List SetPart) → list_all (λ (part : SetPart). has_utf8 part.value) sets ≡ true
    → first_by (λ (part : SetPart). no_column columns table part.column) sets ≡ None → ((check : Check) → first_by (set_fault check columns) sets ≡ None)
    → list_all (set_fits columns) (map (set_of columns) sets) ≡ true
sets_fit columns table [] utf8 there free = refl
sets_fit columns table (s ∷ ss) utf8 there free =
    let texts = and_parts (has_utf8 s.value) (list_all (λ (part : SetPart). has_utf8 part.value) ss) utf8 in
    let names = neither (no_column columns table s.column) (first_by (λ (part : SetPart). no_column columns table part.column) ss) there in
    let each : (check : Check) → _ = λ check. neither (set_fault check columns s) (first_by (set_fault check columns) ss) (free check) in
    and_from (set_fits columns (set_of columns s)) _
    (set_bound_fits columns table s texts.0 names.0 (λ check. (each check).0))
    (sets_fit columns table ss texts.1 names.1 (λ check. (each check).1))

pub edited_fits : (s : Shape) (u : Update) → (list_all (λ (part : SetPart). has_utf8 part.value) u.sets && cond_has_utf8 u.cond) ≡ true
    → first_some (update_refusals s u) ≡ None → edit_fits s.columns (edit_of s.columns u) ≡ true
unfolding update_refusals edit_of
edited_fits s u utf8 free =
    let texts = and_parts (list_all (λ (part : SetPart). has_utf8 part.value) u.sets) (cond_has_utf8 u.cond) utf8 in
    let none = none_stand (update_refusals s u) free in
    let there = neither (first_by (λ (part : SetPart). no_column s.columns u.table part.column) u.sets) (cond_fault searches.Missing s.columns u.table u.cond) none.0 in
    let same = neither (first_by (set_fault checks.Kind s.columns) u.sets) (cond_fault searches.Kind s.columns u.table u.cond) none.1.1.0 in
    let small = neither (first_by (set_fault checks.Wide s.columns) u.sets) (cond_fault searches.Wide s.columns u.table u.cond) none.1.1.1.0 in
    let short = neither (first_by (set_fault checks.Length s.columns) u.sets) (cond_fault searches.Length s.columns u.table u.cond) none.1.1.1.1.0 in
    and_from (list_all (set_fits s.columns) (map (set_of s.columns) u.sets)) _
    (sets_fit s.columns u.table u.sets texts.0 there.0
    (by_check (λ check. first_by (set_fault check s.columns) u.sets ≡ None) same.0 small.0 short.0 none.1.1.1.1.1.0))
    (cond_bound_fits s.columns u.table u.cond texts.1 there.1 same.1)

pub edited_words : (s : Shape) (u : Update) → IsShape s → (list_all (λ (part : SetPart). has_utf8 part.value) u.sets && cond_has_utf8 u.cond) ≡ true
    → first_some (update_refusals s u) ≡ None → (list_all (λ (part : SetPart). has_words part.value) u.sets ≡ true) × (cond_has_words u.cond ≡ true)
unfolding update_refusals
edited_words s u shape utf8 free =
    let texts = and_parts (list_all (λ (part : SetPart). has_utf8 part.value) u.sets) (cond_has_utf8 u.cond) utf8 in
    let none = none_stand (update_refusals s u) free in
    let there = neither (first_by (λ (part : SetPart). no_column s.columns u.table part.column) u.sets) (cond_fault searches.Missing s.columns u.table u.cond) none.0 in
    let short = neither (first_by (set_fault checks.Length s.columns) u.sets) (cond_fault searches.Length s.columns u.table u.cond) none.1.1.1.1.0 in
    (sets_words s.columns u.table u.sets (shape_keeps s shape) texts.0 there.0 short.0, cond_words s.columns u.table u.cond texts.1 short.1)
