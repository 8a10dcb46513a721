-- The rows of an INSERT that isn't refused are admitted.
use Rattle.std.proofs.Common.{◌≡◌, refl, sym, ◌∙◌, subst, ℕ, zero, suc, ◌<◌, Bool, true, false, cond, ◌&&◌, List, [], ◌∷◌, map, length, get_or, Option, Some, None, is_none, nat_le, All}
use Rattle.std.specs.Prelude.{◌==◌}
use Rattle.std.specs.List.{find, list_all, slice_get, AllByRecursion as Each}
use Rattle.std.specs.Option.{option_map, option_map_or}
use Rattle.std.proofs.lemmas.Bool.{and_parts, and_from, eqb-true}
use Rattle.std.proofs.lemmas.List.{length-map}
use Rattle.std.proofs.lemmas.List.Elements.{All-from_recursion}
use Rattle.std.proofs.lemmas.Option.{slice_get-get_or, slice_get_within}
use Rattle.pk_values.specs.declared.value.Value.TheVariants as values
use Rattle.pk_values.specs.Records.{row_record}
use Rattle.pk_values.specs.Refusals.{first_some, first_by}
use Rattle.pk_syntax.specs.declared.declaration.ColumnDecl.{ColumnDecl}
use Rattle.pk_syntax.specs.declared.edit.Insert.{Insert}
use Rattle.pk_syntax.specs.declared.literal.Literal.{Literal}
use Rattle.pk_syntax.specs.declared.literal.Literal.TheVariants as literals
use Rattle.pk_syntax.specs.Given.{has_utf8}
use Rattle.pk_schema.specs.Shapes.{Shape, IsShape, place_of_column}
use Rattle.pk_schema.specs.Admits.{Admits}
use Rattle.pk_bind.specs.declared.literals.Check.{Check}
use Rattle.pk_bind.specs.declared.literals.Check.TheVariants as checks
use Rattle.pk_bind.specs.Literals.{stored_fault, stored_value}
use Rattle.pk_bind.specs.Insert.{targets, miscounted, tuple_fault, is_left_null, null_value, long_row, given, sources, made_row, insert_refusals, new_rows}
use Rattle.pk_bind.specs.Fitting.{may_hold}
use Rattle.pk_bind.proofs.FoundLemmas.{none_stand}
use Rattle.pk_bind.proofs.LiteralLemmas.{by_check, null_holds, stored_holds}
use Rattle.pk_bind.proofs.HeldLemmas.{held, no_other, held_admits}
use Rattle.pk_bind.proofs.ListedLemmas.{Own, own_columns, own_targets, listed_at}
use Rattle.pk_values.proofs.RefusalLemmas.{neither}
use Rattle.pk_values.proofs.ListLemmas.{map_none}

-- ---- one column

fault_at : (check : Check) (listed : List ColumnDecl) (row : List Literal) (i : ℕ) (c : ColumnDecl) (l : Literal) → tuple_fault check listed row ≡ None
    → slice_get listed i ≡ Some c → slice_get row i ≡ Some l → stored_fault check c l ≡ None
fault_at check [] row i c l free here there = absurd cc
fault_at check (d ∷ ds) [] i c l free here there = absurd cc
fault_at check (d ∷ ds) (m ∷ ms) zero c l free here there =
    let column : d ≡ c = cc in
    let literal : m ≡ l = cc in
    subst (λ x. stored_fault check x l ≡ None) column (subst (λ x. stored_fault check d x ≡ None) literal (neither (stored_fault check d m) (tuple_fault check ds ms) free).0)
fault_at check (d ∷ ds) (m ∷ ms) (suc i) c l free here there =
    fault_at check ds ms i c l (neither (stored_fault check d m) (tuple_fault check ds ms) free).1 here there

pub holds_at : {X : Type 0} (p : X → Bool) (xs : List X) (i : ℕ) (x : X) → list_all p xs ≡ true → slice_get xs i ≡ Some x → p x ≡ true
holds_at p [] i x all at = absurd cc
holds_at p (y ∷ ys) zero x all at =
    let same : y ≡ x = cc in
    subst (λ z. p z ≡ true) same (and_parts (p y) (list_all p ys) all).0
holds_at p (y ∷ ys) (suc i) x all at = holds_at p ys i x (and_parts (p y) (list_all p ys) all).1 at

takes_null : (b : Bool) → (b && true) ≡ false → b ≡ false
takes_null true free = cc
takes_null false free = refl

-- what is so of a tuple that isn't refused
record IsFree (columns listed : List ColumnDecl) (row : List Literal) : Type 0 where
  own : Each (Own columns) listed
  counted : length row ≡ length listed
  utf8 : list_all has_utf8 row ≡ true
  faults : (check : Check) → tuple_fault check listed row ≡ None
  nulls : find (is_left_null listed) columns ≡ None

given_holds : (columns listed : List ColumnDecl) (row : List Literal) (c : ColumnDecl) → IsFree columns listed row → Own columns c → is_left_null listed c ≡ false
    → (o : Option ℕ) → place_of_column listed c.name ≡ o → may_hold c (given row o) ≡ true
given_holds columns listed row c free own kept None is = null_holds c (takes_null c.not_null (subst (λ o. (c.not_null && is_none o) ≡ false) is kept))
given_holds columns listed row c free own kept (Some i) is =
    let column = listed_at columns listed c i own free.own is in
    let within = subst (λ n. i < n) (sym free.counted) (slice_get_within listed i c column) in
    let l = get_or row i literals.Null in
    let literal = slice_get-get_or row i literals.Null within in
    let fault : (check : Check) → stored_fault check c l ≡ None = λ check. fault_at check listed row i c l (free.faults check) column literal in
    subst (λ o. may_hold c (option_map_or stored_value o values.Null) ≡ true) (sym literal)
    (stored_holds c l (holds_at has_utf8 row i l free.utf8 literal) (fault checks.Kind) (fault checks.Wide) (fault checks.Length) (fault checks.Null))

-- ---- one row

left_step : (b : Bool) (c : ColumnDecl) (others : Option ColumnDecl) → cond b (Some c) others ≡ None → (b ≡ false) × (others ≡ None)
left_step true c others free = absurd cc
left_step false c others free = (refl, free)

columns_hold : (columns listed cs : List ColumnDecl) (row : List Literal) → IsFree columns listed row → Each (Own columns) cs → find (is_left_null listed) cs ≡ None
    → held cs (map (given row) (sources cs listed)) ≡ true
columns_hold columns listed [] row free own kept = refl
columns_hold columns listed (c ∷ cs) row free own kept =
    let parts = left_step (is_left_null listed c) c (find (is_left_null listed) cs) kept in
    and_from (may_hold c (given row (place_of_column listed c.name))) _
    (given_holds columns listed row c free own.0 parts.0 (place_of_column listed c.name) refl)
    (columns_hold columns listed cs row free own.1 parts.1)

row_admitted : (s : Shape) (listed : List ColumnDecl) (row : List Literal) → IsShape s → IsFree s.columns listed row
    → long_row (made_row (sources s.columns listed) row) ≡ None → Admits s (made_row (sources s.columns listed) row)
unfolding made_row
row_admitted s listed row shape free short =
    let made = map (given row) (sources s.columns listed) in
    held_admits s made
    (length-map (sources s.columns listed) (given row) ∙ length-map s.columns (λ (c : ColumnDecl). place_of_column listed c.name))
    (columns_hold s.columns listed s.columns row free (own_columns s.columns shape.distinct) free.nulls)
    (no_other (nat_le (length (row_record made)) 4000) _ short)

-- ---- all rows

rows_admitted : (s : Shape) (listed : List ColumnDecl) (rows : List (List Literal)) → IsShape s → Each (Own s.columns) listed
    → list_all (list_all has_utf8) rows ≡ true → first_by (miscounted (length listed)) rows ≡ None
    → first_by (tuple_fault checks.Kind listed) rows ≡ None → first_by (tuple_fault checks.Wide listed) rows ≡ None
    → first_by (tuple_fault checks.Length listed) rows ≡ None → first_by (null_value s.columns listed) rows ≡ None
    → first_by long_row (map (made_row (sources s.columns listed)) rows) ≡ None
    → Each (Admits s) (map (made_row (sources s.columns listed)) rows)
rows_admitted s listed [] shape own utf8 counted kind wide long null short = tt
rows_admitted s listed (row ∷ rows) shape own utf8 counted kind wide long null short =
    let texts = and_parts (list_all has_utf8 row) (list_all (list_all has_utf8) rows) utf8 in
    let counts = neither (miscounted (length listed) row) (first_by (miscounted (length listed)) rows) counted in
    let kinds = neither (tuple_fault checks.Kind listed row) (first_by (tuple_fault checks.Kind listed) rows) kind in
    let wides = neither (tuple_fault checks.Wide listed row) (first_by (tuple_fault checks.Wide listed) rows) wide in
    let longs = neither (tuple_fault checks.Length listed row) (first_by (tuple_fault checks.Length listed) rows) long in
    let nulls = neither (null_value s.columns listed row) (first_by (null_value s.columns listed) rows) null in
    let shorts = neither (long_row (made_row (sources s.columns listed) row)) (first_by long_row (map (made_row (sources s.columns listed)) rows)) short in
    let left = neither (tuple_fault checks.Null listed row) (option_map _ (find (is_left_null listed) s.columns)) nulls.0 in
    let free : IsFree s.columns listed row = record {
      own = own;
      counted = eqb-true (length row) (length listed) (no_other (length row == length listed) _ counts.0);
      utf8 = texts.0;
      faults = by_check (λ check. tuple_fault check listed row ≡ None) kinds.0 wides.0 longs.0 left.0;
      nulls = map_none _ (find (is_left_null listed) s.columns) left.1;
    } in (
      row_admitted s listed row shape free shorts.0,
      rows_admitted s listed rows shape own texts.1 counts.1 kinds.1 wides.1 longs.1 nulls.1 shorts.1,
    )

pub new_rows_admitted : (s : Shape) (i : Insert) → IsShape s → list_all (list_all has_utf8) i.rows ≡ true → first_some (insert_refusals s i) ≡ None
    → All (Admits s) (new_rows s.columns i)
unfolding insert_refusals new_rows
new_rows_admitted s i shape utf8 free =
    let none = none_stand (insert_refusals s i) free in
    let tuples = none.1.1 in
    All-from_recursion (Admits s) (new_rows s.columns i)
    (rows_admitted s (targets s.columns i.columns) i.rows shape (own_targets s.columns i.columns shape.distinct) utf8
    tuples.0 tuples.1.0 tuples.1.1.0 tuples.1.1.1.0 tuples.1.1.1.1.0 tuples.1.1.1.1.1.0)
