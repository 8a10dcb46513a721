-- In a row of an INSERT each literal stands at the column that is listed for it.
use Rattle.std.proofs.Common.{◌≡◌, refl, sym, ◌∙◌, ap, subst, ℕ, zero, suc, ◌+◌, Bool, true, false, cond, not, List, [], ◌∷◌, ◌++◌, map, length, Option, Some, None, nat_lt, arith}
use Rattle.std.specs.Prelude.{◌==◌}
use Rattle.std.specs.List.{cons_option, filter_map, list_all, position_or_len, slice_get, AllByRecursion as Each}
use Rattle.std.specs.Option.{option_map, option_map_or}
use Rattle.std.specs.Str.{bytes_eq}
use Rattle.std.proofs.lemmas.Bool.{and_from, or_parts, eqb-true, lt-ltb}
use Rattle.std.proofs.lemmas.List.{length-map}
use Rattle.std.proofs.lemmas.List.Folds.{list_any-append}
use Rattle.std.proofs.lemmas.List.Quantifiers.{position-Some}
use Rattle.std.proofs.lemmas.Option.{slice_get_within, slice_get-map, get_or_from_slice_get}
use Rattle.std.proofs.lemmas.Slice.Eq.{bytes_eq-Decides}
use Rattle.pk_values.specs.declared.value.Value.{Value}
use Rattle.pk_values.specs.declared.value.Value.TheVariants as values
use Rattle.pk_values.specs.declared.refusal.Refusal.{Refusal}
use Rattle.pk_values.specs.Refusals.{first_some, first_by}
use Rattle.pk_syntax.specs.declared.declaration.ColumnDecl.{ColumnDecl}
use Rattle.pk_syntax.specs.declared.edit.Insert.{Insert}
use Rattle.pk_syntax.specs.declared.literal.Literal.{Literal}
use Rattle.pk_syntax.specs.Declarations.{has_name, names_of, twice, twice_behind}
use Rattle.pk_schema.specs.Shapes.{Shape, IsShape, is_column, place_of_column, column_named}
use Rattle.pk_bind.specs.Columns.{no_column}
use Rattle.pk_bind.specs.Literals.{stored_value}
use Rattle.pk_bind.specs.Insert.{targets, missing_target, target_twice, miscounted, given, sources, made_row, insert_refusals, new_rows}
use Rattle.pk_bind.specs.Laws.{listed_names, Lands}
use Rattle.pk_bind.proofs.FoundLemmas.{none_stand, found, column_found}
use Rattle.pk_bind.proofs.HeldLemmas.{no_other}
use Rattle.pk_bind.proofs.ListedLemmas.{Own, own_targets, each_at}
use Rattle.pk_values.proofs.ListLemmas.{map_none, no_place}
use Rattle.pk_values.proofs.RefusalLemmas.{neither}

-- ---- names

-- a column that is found by a name has it
named : (columns : List ColumnDecl) (name : List ℕ) (c : ColumnDecl) → column_named columns name ≡ Some c → c.name ≡ name
unfolding column_named
named columns name c is =
    let at = found (is_column name) columns c is in
    let there = position-Some (is_column name) columns at.0 c at.1 in
    (bytes_eq-Decides c.name name).0
    (subst (λ d. is_column name d ≡ true) (get_or_from_slice_get columns at.0 c c at.2) there.1)

-- where each name is one of a column, the listed columns have the names
names_kept : (columns : List ColumnDecl) (table : List ℕ) (names : List (List ℕ)) → first_by (no_column columns table) names ≡ None
    → names_of (filter_map (column_named columns) names) ≡ names
names_kept columns table [] free = refl
names_kept columns table (n ∷ ns) free =
    let parts = neither (no_column columns table n) (first_by (no_column columns table) ns) free in
    let c = column_found columns table n parts.0 in
    ap (λ o. names_of (cons_option o (filter_map (column_named columns) ns))) c.1
    ∙ ap (λ name. name ∷ names_of (filter_map (column_named columns) ns)) (named columns n c.0 c.1)
    ∙ ap (λ names. n ∷ names) (names_kept columns table ns parts.1)

pub listed_named : (columns : List ColumnDecl) (table : List ℕ) (names : Option (List (List ℕ))) → missing_target columns table names ≡ None
    → names_of (targets columns names) ≡ listed_names columns names
unfolding missing_target
listed_named columns table None free = refl
listed_named columns table (Some names) free = names_kept columns table names free

listed_once : (columns : List ColumnDecl) (names : Option (List (List ℕ))) → twice (names_of columns) ≡ None → target_twice names ≡ None
    → twice (listed_names columns names) ≡ None
unfolding target_twice
listed_once columns None distinct free = distinct
listed_once columns (Some names) distinct free = map_none _ (twice names) free

-- ---- places

once : (b : Bool) (n : List ℕ) (others : Option (List ℕ)) → cond b (Some n) others ≡ None → (b ≡ false) × (others ≡ None)
once true n others free = absurd cc
once false n others free = (refl, free)

-- a name that stands has not stood before
not_before : (before names : List (List ℕ)) (k : ℕ) (name : List ℕ) → twice_behind before names ≡ None → slice_get names k ≡ Some name
    → has_name before name ≡ false
not_before before [] k name free at = absurd cc
not_before before (n ∷ ns) zero name free at =
    let same : n ≡ name = cc in
    subst (λ m. has_name before m ≡ false) same (once (has_name before n) n (twice_behind (before ++ n ∷ []) ns) free).0
not_before before (n ∷ ns) (suc k) name free at =
    let behind = not_before (before ++ n ∷ []) ns k name (once (has_name before n) n (twice_behind (before ++ n ∷ []) ns) free).1 at in
    (or_parts (has_name before name) (has_name (n ∷ []) name) (sym (list_any-append (λ m. bytes_eq m name) before (n ∷ [])) ∙ behind)).0

last_fails : (before : List (List ℕ)) (n name : List ℕ) → has_name (before ++ n ∷ []) name ≡ false → bytes_eq n name ≡ false
last_fails before n name free =
    let last = (or_parts (has_name before name) (has_name (n ∷ []) name) (sym (list_any-append (λ m. bytes_eq m name) before (n ∷ [])) ∙ free)).1 in
    (or_parts (bytes_eq n name) false last).0

-- among columns of distinct names a column stands at the first place of its name
place_once : (before : List (List ℕ)) (cs : List ColumnDecl) (k : ℕ) (c : ColumnDecl) → twice_behind before (names_of cs) ≡ None → slice_get cs k ≡ Some c
    → position_or_len (is_column c.name) cs ≡ k
place_once before [] k c free at = absurd cc
place_once before (d ∷ ds) zero c free at =
    let same : d ≡ c = cc in
    let itself : is_column c.name d ≡ true = subst (λ x. is_column c.name x ≡ true) (sym same) ((bytes_eq-Decides c.name c.name).1 refl) in
    rw itself refl
place_once before (d ∷ ds) (suc k) c free at =
    let rest = (once (has_name before d.name) d.name (twice_behind (before ++ d.name ∷ []) (names_of ds)) free).1 in
    let named_at = slice_get-map (λ (x : ColumnDecl). x.name) ds k ∙ ap (option_map (λ (x : ColumnDecl). x.name)) at in
    let differs : is_column c.name d ≡ false = last_fails before d.name c.name (not_before (before ++ d.name ∷ []) (names_of ds) k c.name rest named_at) in
    let e : 1 + k ≡ suc k = omega arith in
    rw differs (ap (λ n. 1 + n) (place_once (before ++ d.name ∷ []) ds k c rest at) ∙ e)

pub own_place : (cs : List ColumnDecl) (k : ℕ) (c : ColumnDecl) → twice (names_of cs) ≡ None → slice_get cs k ≡ Some c → place_of_column cs c.name ≡ Some k
unfolding place_of_column
own_place cs k c free at =
    let is = place_once [] cs k c free at in
    ap (λ i. cond (nat_lt i (length cs)) (Some i) None) is ∙ ap (λ b. cond b (Some k) None) (lt-ltb k (length cs) (slice_get_within cs k c at))

-- a column that isn't listed has no place among those that are
none_of_name : (cs : List ColumnDecl) (name : List ℕ) → has_name (names_of cs) name ≡ false → list_all (λ c. not (is_column name c)) cs ≡ true
none_of_name [] name free = refl
none_of_name (c ∷ cs) name free =
    let parts = or_parts (bytes_eq c.name name) (has_name (names_of cs) name) free in
    and_from (not (is_column name c)) _ (ap not parts.0) (none_of_name cs name parts.1)

pub no_own_place : (cs : List ColumnDecl) (name : List ℕ) → has_name (names_of cs) name ≡ false → place_of_column cs name ≡ None
unfolding place_of_column
no_own_place cs name free = no_place (is_column name) cs (none_of_name cs name free)

-- ---- one row

-- what is mapped to a value at a place
from_map : {X Y : Type 0} (f : X → Y) (xs : List X) (k : ℕ) (y : Y) → slice_get (map f xs) k ≡ Some y → (x : X) × (slice_get xs k ≡ Some x) × (f x ≡ y)
from_map f [] k y at = absurd cc
from_map f (x ∷ xs) zero y at = (x, refl, cc)
from_map f (x ∷ xs) (suc k) y at = from_map f xs k y at

-- the value at the place of a column
value_there : (columns listed : List ColumnDecl) (tuple : List Literal) (c : ℕ) (d : ColumnDecl) → slice_get columns c ≡ Some d
    → slice_get (made_row (sources columns listed) tuple) c ≡ Some (given tuple (place_of_column listed d.name))
unfolding made_row
value_there columns listed tuple c d at =
    slice_get-map (given tuple) (sources columns listed) c
    ∙ ap (option_map (given tuple)) (slice_get-map (λ (x : ColumnDecl). place_of_column listed x.name) columns c
    ∙ ap (option_map (λ (x : ColumnDecl). place_of_column listed x.name)) at)

row_lands : (columns listed : List ColumnDecl) (names : List (List ℕ)) (tuple : List Literal) → names_of listed ≡ names → twice names ≡ None
    → Each (Own columns) listed → length tuple ≡ length listed → Lands columns names tuple (made_row (sources columns listed) tuple)
unfolding column_named place_of_column
row_lands columns listed names tuple are distinct own counted = record {
  counted = counted ∙ sym (length-map listed (λ (c : ColumnDecl). c.name)) ∙ ap length are;
  listed = λ k name literal at here.
      let d = from_map (λ (c : ColumnDecl). c.name) listed k name (subst (λ ns. slice_get ns k ≡ Some name) (sym are) at) in
      let place = found (is_column d.0.name) columns d.0 (each_at (Own columns) listed k d.0 own d.1) in
      let source = own_place listed k d.0 (subst (λ ns. twice ns ≡ None) (sym are) distinct) d.1 in
      let value = value_there columns listed tuple place.0 d.0 place.2 ∙ ap (λ o. Some (given tuple o)) source
      ∙ ap (λ o. Some (option_map_or stored_value o values.Null)) here in
      (place.0, subst (λ n. place_of_column columns n ≡ Some place.0) d.2 place.1, value);
  others = λ c column at free.
      value_there columns listed tuple c column at
      ∙ ap (λ o. Some (given tuple o)) (no_own_place listed column.name (subst (λ ns. has_name ns column.name ≡ false) (sym are) free));
}

-- ---- all rows

none_at : {X : Type 0} (f : X → Option Refusal) (xs : List X) (n : ℕ) (x : X) → first_by f xs ≡ None → slice_get xs n ≡ Some x → f x ≡ None
none_at f [] n x free at = absurd cc
none_at f (y ∷ ys) zero x free at = let same : y ≡ x = cc in subst (λ z. f z ≡ None) same (neither (f y) (first_by f ys) free).0
none_at f (y ∷ ys) (suc n) x free at = none_at f ys n x (neither (f y) (first_by f ys) free).1 at

pub literals_land : (s : Shape) (i : Insert) (n : ℕ) (tuple : List Literal) (row : List Value) → IsShape s → first_some (insert_refusals s i) ≡ None
    → slice_get i.rows n ≡ Some tuple → slice_get (new_rows s.columns i) n ≡ Some row → Lands s.columns (listed_names s.columns i.columns) tuple row
unfolding insert_refusals new_rows
literals_land s i n tuple row shape free here there =
    let none = none_stand (insert_refusals s i) free in
    let listed = targets s.columns i.columns in
    let counted = none_at (miscounted (length listed)) i.rows n tuple none.1.1.0 here in
    let made = from_map (made_row (sources s.columns listed)) i.rows n row there in
    let same : made.0 ≡ tuple = some_same (sym made.1 ∙ here) in
    let is : made_row (sources s.columns listed) tuple ≡ row = ap (made_row (sources s.columns listed)) (sym same) ∙ made.2 in
    subst (Lands s.columns (listed_names s.columns i.columns) tuple) is
    (row_lands s.columns listed (listed_names s.columns i.columns) tuple (listed_named s.columns i.table i.columns none.0)
    (listed_once s.columns i.columns shape.distinct none.1.0) (own_targets s.columns i.columns shape.distinct)
    (eqb-true (length tuple) (length listed) (no_other (length tuple == length listed) _ counted)))
  where
    some_same : {X : Type 0} {x y : X} → ◌≡◌ {A = Option X} (Some x) (Some y) → x ≡ y
    some_same e = cc

-- as many rows as tuples
pub rows_counted : (columns : List ColumnDecl) (i : Insert) → length (new_rows columns i) ≡ length i.rows
unfolding new_rows
rows_counted columns i = length-map i.rows (made_row (sources columns (targets columns i.columns)))
