-- What a SELECT tells.
use Rattle.std.proofs.Common.{◌≡◌, ℕ, zero, suc, ◌+◌, ◌<◌, Bool, true, false, not, List, [], ◌∷◌, length, map, get_or, Option, Some, None, if◌then◌else◌, refl, sym, subst, ap, ◌∙◌, arith, Ordering}
use Rattle.std.specs.Prelude.{filter, cond, find}
use Rattle.std.specs.Option.{option_map, unwrap_or}
use Rattle.std.specs.Ordering.{is_lt, is_gt, ordering_reverse}
use Rattle.std.specs.declared.cmp.Ordering.TheVariants.{Less, Equal, Greater}
use Rattle.std.specs.List.{AllByRecursion, range_with_len}
use Rattle.std.proofs.lemmas.List.Elements.{recursion_from_All}
use Rattle.std.specs.List.Sorted.{IsPermutation, ties}
use Rattle.std.proofs.lemmas.Bool.{and_parts, not-true}
use Rattle.std.proofs.lemmas.Cmp.{upto}
use Rattle.std.proofs.lemmas.List.{length-map}
use Rattle.std.proofs.lemmas.List.Sorted.{IsPermutation-refl, IsPermutation-trans, IsPermutation-cons, IsPermutation-middle, length_permutation}
use Rattle.std.proofs.lemmas.Option.{slice_get-map, unwrap_or-slice_get}
use Rattle.std.proofs.lemmas.Slice.Eq.{bytes_eq-Decides}
use Rattle.pk_values.specs.declared.placed.Placed.{Placed}
use Rattle.pk_values.specs.declared.refusal.Refusal.{Refusal}
use Rattle.pk_values.specs.declared.value.Value.{Value}
use Rattle.pk_values.specs.declared.value.Value.TheVariants.{Null}
use Rattle.pk_values.specs.Refusals.{first_some, first_by}
use Rattle.pk_values.specs.Values.{value_at}
use Rattle.pk_syntax.specs.declared.declaration.ColumnDecl.{ColumnDecl}
use Rattle.pk_syntax.specs.declared.query.Select.{Select}
use Rattle.pk_syntax.specs.declared.query.What.{What}
use Rattle.pk_syntax.specs.declared.query.What.TheVariants as whats
use Rattle.pk_syntax.specs.declared.statement.Statement.TheVariants as statements
use Rattle.pk_syntax.specs.Declarations.{names_of}
use Rattle.pk_report.specs.declared.reply.Reply.{Reply}
use Rattle.pk_report.specs.declared.reply.Reply.TheVariants as replies
use Rattle.pk_schema.specs.Admits.{Admits}
use Rattle.pk_schema.specs.Shapes.{Shape, is_column, column_named}
use Rattle.pk_bind.specs.declared.selection.OrderBy.{OrderBy}
use Rattle.pk_bind.specs.Columns.{no_column, column_at}
use Rattle.pk_bind.specs.Conditions.{cond_asked}
use Rattle.pk_bind.specs.Select.{select_refusals, missing_shown, missing_from, shown_of, selection_of}
use Rattle.pk_exec.specs.Entries.{row_in, kept_entry}
use Rattle.pk_exec.specs.Edits.{takes}
use Rattle.pk_exec.specs.Selecting.{row_cmp, put_in_order, sorted_by, values_at, name_of, shown, selected}
use Rattle.pk_schema.specs.Laws.{AdmittedRowsFit}
use Rattle.pk_bind.specs.Laws.{NamedColumnsAreFound}
use Rattle.pk_exec.specs.Laws.{OrdersAreTotal}
use Rattle.pk_engine.specs.Base.{Table}
use Rattle.pk_engine.specs.State.{State}
use Rattle.pk_engine.specs.Refusing.{Step, about, about_found, decided, refused_or, table_of}
use Rattle.pk_engine.specs.Select.{told_as, found, selected_rows}
use Rattle.pk_engine.specs.Answer.{answer}
use Rattle.pk_engine.specs.Laws.{rows_met, order_asked, values_under, SelectsTellTheirRows, WholeRowsAreTold, RowsArePutInOrder, CountsAreOfTheRowsShown}
use Rattle.pk_engine.proofs.KeptLemmas.{found_valid}
use Rattle.pk_engine.proofs.OtherLemmas.{about_says}
use Rattle.pk_values.proofs.RefusalLemmas.{head_free, neither}
use Rattle.pk_values.proofs.ListLemmas.{map_same}

-- ---- how two rows stand is a total order

-- ---- the same rows

put_moves : (order : List OrderBy) (row : List Value) (rows : List (List Value)) → IsPermutation (row ∷ rows) (put_in_order order row rows)
put_moves order row [] = IsPermutation-refl (row ∷ [])
put_moves order row (r ∷ rs) = elim (is_gt (row_cmp order row r)) as (λ b. IsPermutation (row ∷ r ∷ rs) (if b then r ∷ put_in_order order row rs else row ∷ r ∷ rs)) [
  | true ↦ IsPermutation-trans (row ∷ r ∷ rs) (r ∷ row ∷ rs) (r ∷ put_in_order order row rs) (IsPermutation-middle (row ∷ []) r rs)
      (IsPermutation-cons r (row ∷ rs) (put_in_order order row rs) (put_moves order row rs))
  | false ↦ IsPermutation-refl (row ∷ r ∷ rs)
]

sorted_moves : (order : List OrderBy) (rows : List (List Value)) → IsPermutation rows (sorted_by order rows)
unfolding sorted_by
sorted_moves order [] = IsPermutation-refl []
sorted_moves order (row ∷ rows) =
    IsPermutation-trans (row ∷ rows) (row ∷ sorted_by order rows) (put_in_order order row (sorted_by order rows))
    (IsPermutation-cons row rows (sorted_by order rows) (sorted_moves order rows)) (put_moves order row (sorted_by order rows))

-- ---- in order

-- no row is behind one that stands behind it
abbrev Rises : List OrderBy → List (List Value) → Type 0
Rises order [] = Unit {0}
Rises order (r ∷ rs) = AllByRecursion (λ x. is_gt (row_cmp order r x) ≡ false) rs × Rises order rs

put_all : (P : List Value → Type 0) (order : List OrderBy) (row : List Value) (rows : List (List Value)) → P row → AllByRecursion P rows → AllByRecursion P (put_in_order order row rows)
put_all P order row [] p all = (p, tt)
put_all P order row (r ∷ rs) p all = elim (is_gt (row_cmp order row r)) as (λ b. AllByRecursion P (if b then r ∷ put_in_order order row rs else row ∷ r ∷ rs)) [
  | true ↦ (all.0, put_all P order row rs p all.1)
  | false ↦ (p, all)
]

from_gt : (o : Ordering) → is_gt o ≡ true → is_gt (ordering_reverse o) ≡ false
from_gt Less gt = absurd cc
from_gt Equal gt = absurd cc
from_gt Greater gt = refl

module _ (total : OrdersAreTotal) where
  above_all : (order : List OrderBy) (row r : List Value) (rs : List (List Value)) → is_gt (row_cmp order row r) ≡ false → AllByRecursion (λ x. is_gt (row_cmp order r x) ≡ false) rs
      → AllByRecursion (λ x. is_gt (row_cmp order row x) ≡ false) rs
  above_all order row r [] below all = tt
  above_all order row r (x ∷ xs) below all = (upto (total order) row r x below all.0, above_all order row r xs below all.1)

  put_rises : (order : List OrderBy) (row : List Value) (rows : List (List Value)) → Rises order rows → Rises order (put_in_order order row rows)
  put_rises order row [] rise = (tt, tt)
  put_rises order row (r ∷ rs) rise = go (is_gt (row_cmp order row r)) refl (put_rises order row rs rise.1)
    where
      go : (b : Bool) → is_gt (row_cmp order row r) ≡ b → Rises order (put_in_order order row rs) → Rises order (if b then r ∷ put_in_order order row rs else row ∷ r ∷ rs)
      go true is rest =
          let under : is_gt (row_cmp order r row) ≡ false = ap is_gt ((total order).antisymm r row) ∙ from_gt (row_cmp order row r) is in
          (put_all (λ x. is_gt (row_cmp order r x) ≡ false) order row rs under rise.0, rest)
      go false is rest = ((is, above_all order row r rs is rise.0), rise)

  sorted_rises : (order : List OrderBy) (rows : List (List Value)) → Rises order (sorted_by order rows)
  unfolding sorted_by
  sorted_rises order [] = tt
  sorted_rises order (row ∷ rows) = put_rises order row (sorted_by order rows) (sorted_rises order rows)

  lt_of_turned : (o : Ordering) → is_lt (ordering_reverse o) ≡ is_gt o
  lt_of_turned Less = refl
  lt_of_turned Equal = refl
  lt_of_turned Greater = refl

  -- the first comes before the second as far as the second comes behind the first
  lt_is_gt : (order : List OrderBy) (a b : List Value) → is_lt (row_cmp order a b) ≡ is_gt (row_cmp order b a)
  lt_is_gt order a b = ap is_lt ((total order).antisymm a b) ∙ lt_of_turned (row_cmp order b a)

  neighbours : (order : List OrderBy) (rows : List (List Value)) → Rises order rows → (k : ℕ) (d : List Value) → suc k < length rows
      → is_lt (row_cmp order (get_or rows (suc k) d) (get_or rows k d)) ≡ false
  neighbours order [] rise k d within = absurd (omega (arith, within))
  neighbours order (r ∷ []) rise k d within = absurd (omega (arith, within))
  neighbours order (r ∷ x ∷ xs) rise zero d within = lt_is_gt order x r ∙ rise.0.0
  neighbours order (r ∷ x ∷ xs) rise (suc k) d within = neighbours order (x ∷ xs) rise.1 k d (omega (arith, within))

  next_to : (order : List OrderBy) (rows : List (List Value)) → Rises order rows → (k : ℕ) (d : List Value) → k + 1 < length rows
      → is_lt (row_cmp order (get_or rows (k + 1) d) (get_or rows k d)) ≡ false
  next_to order rows rise k d within =
      let one_more : k + 1 ≡ suc k = omega arith in
      ap (λ i. is_lt (row_cmp order (get_or rows i d) (get_or rows k d))) one_more ∙ neighbours order rows rise k d (omega (arith, within))

  -- ---- rows that tie

  -- two rows that tie with one aren't behind each other
  tied_rows : (order : List OrderBy) (x a b : List Value) → ties (λ u v. is_lt (row_cmp order u v)) x a ≡ true → ties (λ u v. is_lt (row_cmp order u v)) x b ≡ true
      → is_gt (row_cmp order a b) ≡ false
  tied_rows order x a b with_a with_b =
      let one = and_parts (not (is_lt (row_cmp order x a))) (not (is_lt (row_cmp order a x))) with_a in
      let two = and_parts (not (is_lt (row_cmp order x b))) (not (is_lt (row_cmp order b x))) with_b in
      upto (total order) a x b (sym (lt_is_gt order x a) ∙ not-true _ one.0) (sym (lt_is_gt order b x) ∙ not-true _ two.1)

  exchanged : (a b : Bool) (x y : List Value) (rest : List (List Value)) → (a ≡ true → b ≡ true → ⊥)
      → cond b (y ∷ cond a (x ∷ rest) rest) (cond a (x ∷ rest) rest) ≡ cond a (x ∷ cond b (y ∷ rest) rest) (cond b (y ∷ rest) rest)
  exchanged true true x y rest never = absurd (never refl refl)
  exchanged true false x y rest never = refl
  exchanged false true x y rest never = refl
  exchanged false false x y rest never = refl

  put_stable : (order : List OrderBy) (x row : List Value) (rows : List (List Value))
      → filter (ties (λ u v. is_lt (row_cmp order u v)) x) (put_in_order order row rows) ≡ filter (ties (λ u v. is_lt (row_cmp order u v)) x) (row ∷ rows)
  put_stable order x row [] = refl
  put_stable order x row (r ∷ rs) = go (is_gt (row_cmp order row r)) refl (put_stable order x row rs)
    where
      go : (b : Bool) → is_gt (row_cmp order row r) ≡ b
          → filter (ties (λ u v. is_lt (row_cmp order u v)) x) (put_in_order order row rs) ≡ filter (ties (λ u v. is_lt (row_cmp order u v)) x) (row ∷ rs)
          → filter (ties (λ u v. is_lt (row_cmp order u v)) x) (if b then r ∷ put_in_order order row rs else row ∷ r ∷ rs)
          ≡ filter (ties (λ u v. is_lt (row_cmp order u v)) x) (row ∷ r ∷ rs)
      go true is rest =
          ap (λ us. cond (ties (λ u v. is_lt (row_cmp order u v)) x r) (r ∷ us) us) rest
          ∙ exchanged (ties (λ u v. is_lt (row_cmp order u v)) x row) (ties (λ u v. is_lt (row_cmp order u v)) x r) row r (filter (ties (λ u v. is_lt (row_cmp order u v)) x) rs)
          (λ a b. differ (tied_rows order x row r a b) is)
        where
          differ : {b : Bool} → b ≡ false → b ≡ true → ⊥
          differ no_one yes_one = cc
      go false is rest = refl

  sorted_stable : (order : List OrderBy) (rows : List (List Value)) (x : List Value)
      → filter (ties (λ u v. is_lt (row_cmp order u v)) x) (sorted_by order rows) ≡ filter (ties (λ u v. is_lt (row_cmp order u v)) x) rows
  unfolding sorted_by
  sorted_stable order [] x = refl
  sorted_stable order (row ∷ rows) x =
      put_stable order x row (sorted_by order rows) ∙ ap (λ us. cond (ties (λ u v. is_lt (row_cmp order u v)) x row) (row ∷ us) us) (sorted_stable order rows x)

  pub put_in_order_rows : RowsArePutInOrder
  put_in_order_rows order rows = record {
    same = sorted_moves order rows;
    sorted = λ k d least within. next_to order (sorted_by order rows) (sorted_rises order rows) k d within;
    stable = λ x. sorted_stable order rows x;
  }

-- ---- what is told

about_done : (st : State) (name : List ℕ) (refusals : Table → List (Option Refusal)) (done : Table → Step) (t : Table) → table_of st name ≡ Some t → first_some (refusals t) ≡ None
    → about st name (λ u. decided st (refusals u) (done u)) ≡ done t
unfolding about
about_done st name refusals done t there free =
    ap (about_found st name (λ u. decided st (refusals u) (done u))) there ∙ ap (λ (o : Option Refusal). refused_or st o (done t)) free

met_rows : (meets : List Value → Bool) (rows : List Placed) → map row_in (filter (λ x. meets (row_in x)) (map kept_entry rows)) ≡ filter meets (map (λ (p : Placed). p.row) rows)
met_rows meets [] = refl
met_rows meets (p ∷ ps) = go (meets p.row) (met_rows meets ps)
  where
    go : (b : Bool) → map row_in (filter (λ x. meets (row_in x)) (map kept_entry ps)) ≡ filter meets (map (λ (p : Placed). p.row) ps)
        → map row_in (cond b (kept_entry p ∷ filter (λ x. meets (row_in x)) (map kept_entry ps)) (filter (λ x. meets (row_in x)) (map kept_entry ps)))
        ≡ cond b (p.row ∷ filter meets (map (λ (p : Placed). p.row) ps)) (filter meets (map (λ (p : Placed). p.row) ps))
    go true rest = ap (λ us. p.row ∷ us) rest
    go false rest = rest

-- what is told of rows that were taken
abbrev told_of : Table → Select → What → List (List Value) → Reply
told_of t s what rows = told_as what (shown (shown_of t.shape.columns what) (names_of t.shape.columns) (order_asked t s) rows)

told_is : (t : Table) (s : Select) → told_as s.what (found t s) ≡ told_of t s s.what (rows_met t s)
unfolding selected selection_of
told_is t s = ap (told_of t s s.what) (met_rows (takes (cond_asked t.shape.columns s.cond)) t.rows)

select_says : (st : State) (s : Select) (t : Table) → table_of st s.table ≡ Some t → first_some (select_refusals t.shape s) ≡ None
    → (answer st (statements.Select s)).reply ≡ told_of t s s.what (rows_met t s)
unfolding answer
select_says st s t there free =
    ap (λ (x : Step). x.reply) (about_done st s.table (λ u. select_refusals u.shape s) (λ u. selected_rows st u s) t there free) ∙ told_is t s

map_both : {X Y Z : Type 0} (f : Y → Z) (g : X → Y) (xs : List X) → map f (map g xs) ≡ map (λ x. f (g x)) xs
map_both f g [] = refl
map_both f g (x ∷ xs) = ap (λ us. f (g x) ∷ us) (map_both f g xs)

found_passes : (p : ColumnDecl → Bool) (cs : List ColumnDecl) (c : ColumnDecl) → find p cs ≡ Some c → p c ≡ true
found_passes p [] c is = absurd cc
found_passes p (d ∷ ds) c is = go (p d) refl is (found_passes p ds c)
  where
    go : (b : Bool) → p d ≡ b → if b then Some d else find p ds ≡ Some c → (find p ds ≡ Some c → p c ≡ true) → p c ≡ true
    go true passes is rest = (let same : d ≡ c = cc in subst (λ x. p x ≡ true) same passes)
    go false fails is rest = rest is

-- the name at the place of a column is its own
named_again : NamedColumnsAreFound → (columns : List ColumnDecl) (table name : List ℕ) → no_column columns table name ≡ None → name_of (names_of columns) (column_at columns name) ≡ name
unfolding column_named
named_again found_at columns table name free =
    let w = found_at columns table name free in
    let own : w.0.name ≡ name = (bytes_eq-Decides w.0.name name).0 (found_passes (is_column name) columns w.0 w.1) in
    ap (λ o. unwrap_or o []) (slice_get-map (λ (c : ColumnDecl). c.name) columns (column_at columns name) ∙ ap (option_map (λ (c : ColumnDecl). c.name)) w.2) ∙ own

header_is : NamedColumnsAreFound → (columns : List ColumnDecl) (table : List ℕ) (names : List (List ℕ)) → first_by (no_column columns table) names ≡ None
    → map (name_of (names_of columns)) (map (column_at columns) names) ≡ names
header_is found_at columns table [] free = refl
header_is found_at columns table (name ∷ names) free =
    let w = neither (no_column columns table name) _ free in
    rw (named_again found_at columns table name w.0, header_is found_at columns table names w.1) refl

none_missing : (t : Table) (s : Select) → first_some (select_refusals t.shape s) ≡ None → missing_shown t.shape.columns s.table s.what ≡ None
unfolding select_refusals
none_missing t s free = (neither (missing_shown t.shape.columns s.table s.what) _ (head_free (missing_from t.shape.columns s) _ free).0).0

pub selects_tell : NamedColumnsAreFound → SelectsTellTheirRows
selects_tell found_at st s t names there free what =
    let columns = t.shape.columns in
    let rows = sorted_by (order_asked t s) (rows_met t s) in
    let known : first_by (no_column columns s.table) names ≡ None = subst (λ w. missing_shown columns s.table w ≡ None) what (none_missing t s free) in
    select_says st s t there free
    ∙ ap (λ w. told_of t s w (rows_met t s)) what
    ∙ ap (λ header. replies.Selected header (map (values_at (map (column_at columns) names)) rows)) (header_is found_at columns s.table names known)
    ∙ ap (replies.Selected names) (map_same (values_at (map (column_at columns) names)) (values_under columns names) (λ row. map_both (value_at row) (column_at columns) names) rows)

-- ---- SELECT *

-- a list read at its places, one behind the other
all_read : {X : Type 0} (d : X) (xs : List X) (f : ℕ → X) (a : ℕ) → ((i : ℕ) → i < length xs → f (a + i) ≡ get_or xs i d) → map f (range_with_len a (length xs)) ≡ xs
all_read d [] f a reads = refl
all_read d (x ∷ xs) f a reads =
    let here : a ≡ a + 0 = omega arith in
    let first : f a ≡ x = ap f here ∙ reads zero (omega arith) in
    let rest = all_read d xs f (a + 1) (λ i within. ap f (step i) ∙ reads (suc i) (omega (arith, within))) in
    rw (first, rest) refl
  where
    step : (i : ℕ) → a + 1 + i ≡ a + suc i
    step i = omega arith

value_or_null : (row : List Value) (i : ℕ) → value_at row i ≡ get_or row i Null
value_or_null [] i = refl
value_or_null (v ∷ vs) zero = refl
value_or_null (v ∷ vs) (suc i) = value_or_null vs i

from_zero : (i : ℕ) → 0 + i ≡ i
from_zero i = omega arith

whole_header : (columns : List ColumnDecl) → map (name_of (names_of columns)) (range_with_len 0 (length columns)) ≡ names_of columns
whole_header columns =
    let names = names_of columns in
    ap (λ n. map (name_of names) (range_with_len 0 n)) (sym (length-map columns (λ (c : ColumnDecl). c.name)))
    ∙ all_read [] names (name_of names) 0 (λ i within. ap (name_of names) (from_zero i) ∙ unwrap_or-slice_get names i [])

-- each row has so many values
abbrev AreWide : ℕ → List (List Value) → Type 0
AreWide n rows = AllByRecursion (λ row. length row ≡ n) rows

whole_rows : (n : ℕ) (rows : List (List Value)) → AreWide n rows → map (values_at (range_with_len 0 n)) rows ≡ rows
whole_rows n [] wide = refl
whole_rows n (row ∷ rows) wide =
    let one : values_at (range_with_len 0 n) row ≡ row =
    ap (λ k. map (value_at row) (range_with_len 0 k)) (sym wide.0) ∙ all_read Null row (value_at row) 0 (λ i within. ap (value_at row) (from_zero i) ∙ value_or_null row i) in
    rw (one, whole_rows n rows wide.1) refl

sorted_wide : (n : ℕ) (order : List OrderBy) (rows : List (List Value)) → AreWide n rows → AreWide n (sorted_by order rows)
unfolding sorted_by
sorted_wide n order [] wide = tt
sorted_wide n order (row ∷ rows) wide = put_all (λ r. length r ≡ n) order row (sorted_by order rows) wide.0 (sorted_wide n order rows wide.1)

met_wide : AdmittedRowsFit → (s : Shape) (meets : List Value → Bool) (rows : List Placed) → AllByRecursion (λ (p : Placed). Admits s p.row) rows
    → AreWide (length s.columns) (filter meets (map (λ (p : Placed). p.row) rows))
met_wide fit s meets [] all = tt
met_wide fit s meets (p ∷ ps) all = go (meets p.row) (met_wide fit s meets ps all.1)
  where
    go : (b : Bool) → AreWide (length s.columns) (filter meets (map (λ (p : Placed). p.row) ps))
        → AreWide (length s.columns) (cond b (p.row ∷ filter meets (map (λ (p : Placed). p.row) ps)) (filter meets (map (λ (p : Placed). p.row) ps)))
    go true rest = (((fit s p.row).0 all.0).width, rest)
    go false rest = rest

pub whole_told : AdmittedRowsFit → WholeRowsAreTold
whole_told fit st s t valid there free what =
    let columns = t.shape.columns in
    let rows = sorted_by (order_asked t s) (rows_met t s) in
    let good = found_valid st s.table t valid there in
    let wide = met_wide fit t.shape (takes (cond_asked columns s.cond)) t.rows (recursion_from_All (λ (p : Placed). Admits t.shape p.row) t.rows good.rows) in
    select_says st s t there free
    ∙ ap (λ w. told_of t s w (rows_met t s)) what
    ∙ ap (λ header. replies.Selected header (map (values_at (range_with_len 0 (length columns))) rows)) (whole_header columns)
    ∙ ap (replies.Selected (names_of columns)) (whole_rows (length columns) rows (sorted_wide (length columns) (order_asked t s) (rows_met t s) wide))

-- ---- COUNT(*)

shown_rows : (x y : List (List ℕ)) (us vs : List (List Value)) → replies.Selected x us ≡ replies.Selected y vs → us ≡ vs
shown_rows x y us vs e = cc

as_many : (order : List OrderBy) (columns : List ℕ) (rows : List (List Value)) → length (map (values_at columns) (sorted_by order rows)) ≡ length rows
as_many order columns rows = length-map (sorted_by order rows) (values_at columns) ∙ length_permutation rows (sorted_by order rows) (sorted_moves order rows)

told_many : (t : Table) (s : Select) (what : What) (header : List (List ℕ)) (rows : List (List Value)) → told_of t s what (rows_met t s) ≡ replies.Selected header rows
    → length rows ≡ length (rows_met t s)
told_many t s whats.All header rows is = ap length (sym (shown_rows _ header _ rows is)) ∙ as_many (order_asked t s) _ (rows_met t s)
told_many t s (whats.Columns names) header rows is = ap length (sym (shown_rows _ header _ rows is)) ∙ as_many (order_asked t s) _ (rows_met t s)
told_many t s whats.Count header rows is = absurd cc

first_swapped : (a b : Option Refusal) (rs : List (Option Refusal)) → first_some (a ∷ rs) ≡ None → b ≡ None → first_some (b ∷ rs) ≡ None
first_swapped a b rs free none = ap (λ (o : Option Refusal). first_some (o ∷ rs)) none ∙ (head_free a rs free).1

counted_free : (t : Table) (s : Select) → first_some (select_refusals t.shape s) ≡ None → first_some (select_refusals t.shape (record s { what = whats.Count })) ≡ None
unfolding select_refusals
counted_free t s free =
    let columns = t.shape.columns in
    let w = head_free (missing_from columns s) _ free in
    let rest = (neither (missing_shown columns s.table s.what) _ w.0).1 in
    first_swapped (missing_from columns s) (missing_from columns (record s { what = whats.Count })) _ free rest

answer_found : (st : State) (s : Select) (header : List (List ℕ)) (rows : List (List Value)) → (answer st (statements.Select s)).reply ≡ replies.Selected header rows
    → (t : Table) × (table_of st s.table ≡ Some t) × (first_some (select_refusals t.shape s) ≡ None)
unfolding answer
answer_found st s header rows is =
    let w = about_says st s.table (λ t. select_refusals t.shape s) (λ t. selected_rows st t s) (replies.Selected header rows) (λ r e. cc) is in
    (w.0, w.1, w.2)

pub counts_are : CountsAreOfTheRowsShown
counts_are st s header rows is =
    let w = answer_found st s header rows is in
    let t = w.0 in
    let many = told_many t s s.what header rows (sym (select_says st s t w.1 w.2) ∙ is) in
    select_says st (record s { what = whats.Count }) t w.1 (counted_free t s w.2)
    ∙ ap replies.Count (length-map (rows_met t s) (λ (row : List Value). []) ∙ sym many)
