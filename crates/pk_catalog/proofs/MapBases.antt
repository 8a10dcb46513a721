-- A map that has what maps of bases have stands for a base.
use Rattle.std.proofs.Common.{◌≡◌, refl, sym, ◌∙◌, ap, subst, ℕ, zero, suc, ◌+◌, ◌-◌, ◌<◌, ◌≤◌, cond, ◌==◌, List, [], ◌∷◌, ◌++◌, length, map, All, Option, Some, None, inl, inr, ◌⊎◌, arith}
use Rattle.std.specs.List.{range_with_len, sum_by}
use Rattle.std.specs.List.Sorted.{IsStrictlySortedBy}
use Rattle.std.specs.Option.{option_map}
use Rattle.std.specs.Ordering.{nat_cmp, ordering_reverse, is_eq}
use Rattle.std.specs.Cmp.Lexicographic.{slice_cmp, nat_list_cmp_total}
use Rattle.std.proofs.lemmas.Slice.Eq.{bytes_eq-Decides}
use Rattle.std.specs.declared.cmp.Ordering.{Ordering}
use Rattle.std.specs.declared.cmp.Ordering.TheVariants.{Less, Equal, Greater}
use Rattle.std.proofs.lemmas.Bool.{cases_eq, cases_lt, eq-eqb, ne_eqb}
use Rattle.std.proofs.lemmas.List.{length-map}
use Rattle.std.proofs.lemmas.List.Elements.{All-nil, All-cons, All-head, All-tail, All-weaker}
use Rattle.std.proofs.lemmas.List.FromFn.{length-range_with_len}
use Rattle.std.proofs.lemmas.Map.Text.{is_eq-slice_cmp}
use Rattle.pk_values.specs.declared.placed.Placed.{Placed}
use Rattle.pk_values.specs.declared.value.Value.{Value}
use Rattle.pk_values.specs.Records.{row_record, AreStorable}
use Rattle.pk_schema.specs.Admits.{Admits}
use Rattle.pk_catalog.specs.declared.table_record.TableRecord.{TableRecord}
use Rattle.pk_catalog.specs.Bases.{Table, Base, Numbered, Map, IsKept, IsBase, IdsRise, AreDistinct, Keeps, StandsFor, empty_base, known_of, numbers_of, tables_of, row_of, record_in, table_of, records}
use Rattle.pk_catalog.specs.BaseMaps.{IsEmpty, HasTable, IsPlace, HasRowAt, IsBaseMap, MapsOfBases}
use Rattle.pk_catalog.proofs.OneBase.{IsIn, AreSorted, AllAfter, member_has, first_table, behind_table, none_before, first_row, behind_row, at_id, found_number, numbered_member, at_place}
use Rattle.pk_catalog.proofs.Committing.{among, found_in_front, bases_have_maps}
use Rattle.pk_catalog.proofs.Members.{all_members, no_more_members, in_either, distinct_both}
use Rattle.pk_catalog.proofs.BaseMaps.{places_in, row_places, count_places, beside_none, base_is_map}
use Rattle.pk_catalog.proofs.NoBases.{one_table}

-- ---- the rows of a table

-- those from an id on
record RowsFrom (m : Map) (number : ℕ) (t : TableRecord) (least : ℕ) : Type 0 where
  rows : List Placed
  ids : IdsRise least rows t.next
  admitted : All (λ (p : Placed). Admits t.schema p.row) rows
  storable : All (λ (p : Placed). AreStorable p.row) rows
  each : (id : ℕ) → least ≤ id → m number id ≡ option_map row_record (row_of rows id)

-- nothing stands at the table's next id or above
none_above : (m : Map) → IsBaseMap m → (number id : ℕ) (t : TableRecord) → HasTable m number t → t.next ≤ id → (o : Option (List ℕ)) → m number id ≡ o → o ≡ None
none_above m is number id t has high None here = refl
none_above m is number id t has high (Some bytes) here =
    let first = has.table.first in
    let there = is.rows number id bytes has.numbered (omega (arith, first, high)) here in
    let same : there.0.next ≡ t.next = ap (λ (u : TableRecord). u.next) (one_table m number there.0 t there.1 has) in
    let below = there.2.below in
    absurd (omega (arith, same, below, high))

from_lower : (least more next : ℕ) (ps : List Placed) → least ≤ more → IdsRise more ps next → IdsRise least ps next
from_lower least more next [] low rise = omega (arith, low, rise)
from_lower least more next (p ∷ ps) low rise = (omega (arith, low, rise.0), rise.1)

-- with what stands at the id before
one_lower : (m : Map) → IsBaseMap m → (number least : ℕ) (t : TableRecord) → HasTable m number t → 1 ≤ least → RowsFrom m number t (least + 1) → (o : Option (List ℕ)) → m number least ≡ o
    → RowsFrom m number t least
one_lower m is number least t has low rest None none = record {
  rows = rest.rows;
  ids = from_lower least (least + 1) t.next rest.rows (omega arith) rest.ids;
  admitted = rest.admitted;
  storable = rest.storable;
  each = λ id above. elim (cases_eq least id) [
    | inl here ↦ ap (m number) (sym here) ∙ none ∙ ap (option_map row_record) (sym (none_before (least + 1) t.next id rest.rows rest.ids (omega (arith, here))))
    | inr other ↦ rest.each id (omega (arith, above, other))
  ];
}
one_lower m is number least t has low rest (Some bytes) some =
    let there = is.rows number least bytes has.numbered low some in
    let row = there.2.row in
    let admitted : Admits t.schema row = subst (λ (u : TableRecord). Admits u.schema row) (one_table m number there.0 t there.1 has) there.2.spelled.admitted in
    let p : Placed = record { id = least; row = row } in
    let spelled : m number least ≡ Some (row_record row) = some ∙ ap (λ b. Some b) there.2.spelled.spelled in
    record {
      rows = p ∷ rest.rows;
      ids = (omega arith, rest.ids);
      admitted = All-cons (λ (q : Placed). Admits t.schema q.row) p rest.rows admitted rest.admitted;
      storable = All-cons (λ (q : Placed). AreStorable q.row) p rest.rows there.2.spelled.storable rest.storable;
      each = λ id above. elim (cases_eq least id) [
        | inl here ↦ ap (m number) (sym here) ∙ spelled ∙ ap (option_map row_record) (sym (first_row p rest.rows) ∙ ap (row_of (p ∷ rest.rows)) here)
        | inr other ↦ rest.each id (omega (arith, above, other)) ∙ ap (option_map row_record) (sym (behind_row p rest.rows id other))
      ];
    }

rows_from : (m : Map) → IsBaseMap m → (number : ℕ) (t : TableRecord) → HasTable m number t → (left least : ℕ) → 1 ≤ least → left + least ≡ t.next → RowsFrom m number t least
rows_from m is number t has zero least low same = record {
  rows = [];
  ids = omega (arith, same);
  admitted = All-nil (λ (p : Placed). Admits t.schema p.row);
  storable = All-nil (λ (p : Placed). AreStorable p.row);
  each = λ id above. none_above m is number id t has (omega (arith, same, above)) (m number id) refl;
}
rows_from m is number t has (suc left) least low same =
    one_lower m is number least t has low (rows_from m is number t has left (least + 1) (omega arith) (omega (arith, same))) (m number least) refl

-- ---- a table

record TableAt (m : Map) (number : ℕ) (t : TableRecord) : Type 0 where
  table : Table
  kept : IsKept table
  named : table.name ≡ t.name
  each : (id : ℕ) → m number id ≡ record_in (Some table) id

table_at : (m : Map) → IsBaseMap m → (number : ℕ) (t : TableRecord) → HasTable m number t → TableAt m number t
table_at m is number t has =
    let first = has.table.first in
    let rows = rows_from m is number t has (t.next - 1) 1 (omega arith) (omega (arith, first)) in
    let table : Table = record { name = t.name; shape = t.schema; next = t.next; rows = rows.rows } in
    record {
      table = table;
      kept = record { known = has.table; ids = rows.ids; admitted = rows.admitted; storable = rows.storable };
      named = refl;
      each = λ id. elim (cases_eq 0 id) [
        | inl here ↦ subst (λ i. m number i ≡ record_in (Some table) i) here has.here
        | inr other ↦ rows.each id (omega (arith, other)) ∙ sym (at_id table id other)
      ];
    }

-- ---- a table among others by their names

equal_names : (a b : List ℕ) → slice_cmp nat_cmp a b ≡ Equal → a ≡ b
equal_names a b equal = (bytes_eq-Decides a b).0 (sym (is_eq-slice_cmp a b) ∙ ap is_eq equal)

pub all_with : {A : Type 0} (f : Numbered → A) (P : A → Type 0) (x : Numbered) (front back : List Numbered) → P (f x) → All P (map f (front ++ back)) → All P (map f (front ++ x ∷ back))
all_with f P x [] back first all = All-cons P (f x) (map f back) first all
all_with f P x (y ∷ front) back first all =
    All-cons P (f y) (map f (front ++ x ∷ back)) (All-head P (f y) (map f (front ++ back)) all) (all_with f P x front back first (All-tail P (f y) (map f (front ++ back)) all))

pub distinct_with : (x : Numbered) (front back : List Numbered) → (IsIn x.number (numbers_of (front ++ back)) → ⊥) → AreDistinct (numbers_of (front ++ back)) → AreDistinct (numbers_of (front ++ x ∷ back))
distinct_with x [] back new distinct = (all_members (λ n. x.number ≡ n → ⊥) (numbers_of back) (λ n is same. new (subst (λ k. IsIn k (numbers_of back)) (sym same) is)), distinct)
distinct_with x (y ∷ front) back new distinct = (
  all_with (λ (z : Numbered). z.number) (λ n. y.number ≡ n → ⊥) x front back (λ same. new (inl (sym same))) distinct.0,
  distinct_with x front back (λ is. new (inr is)) distinct.1,
)

after_more : (x y : Table) (us : List Table) → slice_cmp nat_cmp x.name y.name ≡ Less → AllAfter y us → AllAfter x us
after_more x y [] less all = tt
after_more x y (u ∷ us) less all = (nat_list_cmp_total.trans x.name y.name u.name less all.0, after_more x y us less all.1)

after_with : (y : Table) (x : Numbered) (front back : List Numbered) → slice_cmp nat_cmp y.name x.table.name ≡ Less → AllAfter y (tables_of (front ++ back)) → AllAfter y (tables_of (front ++ x ∷ back))
after_with y x [] back less all = (less, all)
after_with y x (z ∷ front) back less all = (all.0, after_with y x front back less all.1)

-- where it stands among them
record Among (x : Numbered) (ts : List Numbered) : Type 0 where
  front : List Numbered
  back : List Numbered
  whole : ts ≡ front ++ back
  sorted : AreSorted (tables_of (front ++ x ∷ back))

among_names : (x : Numbered) (ts : List Numbered) → AreSorted (tables_of ts) → ((u : Table) → IsIn u (tables_of ts) → x.table.name ≡ u.name → ⊥) → Among x ts
unfolding IsStrictlySortedBy
among_names x [] sorted other = record { front = []; back = []; whole = refl; sorted = (tt, tt) }
among_names x (y ∷ ts) sorted other = by_order (among_names x ts sorted.1 (λ u is. other u (inr is))) (slice_cmp nat_cmp x.table.name y.table.name) refl
  where
    by_order : Among x ts → (o : Ordering) → slice_cmp nat_cmp x.table.name y.table.name ≡ o → Among x (y ∷ ts)
    by_order rest Less less = record { front = []; back = y ∷ ts; whole = refl; sorted = ((less, after_more x.table y.table (tables_of ts) less sorted.0), sorted) }
    by_order rest Equal equal = absurd (other y.table (inl refl) (equal_names x.table.name y.table.name equal))
    by_order rest Greater greater =
        let less : slice_cmp nat_cmp y.table.name x.table.name ≡ Less = nat_list_cmp_total.antisymm y.table.name x.table.name ∙ ap ordering_reverse greater in
        record {
          front = y ∷ rest.front;
          back = rest.back;
          whole = ap (λ us. y ∷ us) rest.whole;
          sorted = (after_with y.table x rest.front rest.back less (subst (λ us. AllAfter y.table (tables_of us)) rest.whole sorted.0), rest.sorted);
        }

-- ---- all tables

-- those with numbers up to the most
record TablesUpTo (m : Map) (most : ℕ) : Type 0 where
  ts : List Numbered
  sorted : AreSorted (tables_of ts)
  distinct : AreDistinct (numbers_of ts)
  inside : All (λ n. (1 ≤ n) × (n ≤ most)) (numbers_of ts)
  kept : All IsKept (tables_of ts)
  each : (number id : ℕ) → 1 ≤ number → number ≤ most → m number id ≡ record_in (table_of ts number) id

-- no table has a number above the most
none_over : (ts : List Numbered) (most number : ℕ) → All (λ n. (1 ≤ n) × (n ≤ most)) (numbers_of ts) → most < number → (o : Option Table) → table_of ts number ≡ o → o ≡ None
none_over ts most number inside high None found = refl
none_over ts most number inside high (Some t) found =
    let low = member_has (λ n. (1 ≤ n) × (n ≤ most)) number (numbers_of ts) inside (found_number ts t number found) in
    absurd (omega (arith, low.1, high))

-- without its table no row stands under a number
none_under : (m : Map) → IsBaseMap m → (number id : ℕ) → 1 ≤ number → m number 0 ≡ None → (o : Option (List ℕ)) → m number id ≡ o → o ≡ None
none_under m is number id low none None here = refl
none_under m is number id low none (Some bytes) here =
    elim (cases_eq 0 id) [
      | inl own ↦ sym here ∙ ap (m number) (sym own) ∙ none
      | inr other ↦ let there = is.rows number id bytes low (omega (arith, other)) here in let some = sym there.1.here ∙ none in absurd cc
    ]

-- a table with the next number
one_table_more : (m : Map) → IsBaseMap m → (most : ℕ) (t : TableRecord) → HasTable m (suc most) t → TablesUpTo m most → TablesUpTo m (suc most)
one_table_more m is most t has rest = record {
  ts = place.front ++ x ∷ place.back;
  sorted = place.sorted;
  distinct = distinct_with x place.front place.back new (subst (λ us. AreDistinct (numbers_of us)) place.whole rest.distinct);
  inside = all_with (λ (z : Numbered). z.number) (λ n. (1 ≤ n) × (n ≤ suc most)) x place.front place.back (omega arith, omega arith)
      (subst (λ us. All (λ n. (1 ≤ n) × (n ≤ suc most)) (numbers_of us)) place.whole
      (All-weaker (λ n. (1 ≤ n) × (n ≤ most)) (λ n. (1 ≤ n) × (n ≤ suc most)) (λ n low. (low.0, omega (arith, low.1))) (numbers_of rest.ts) rest.inside));
  kept = all_with (λ (z : Numbered). z.table) IsKept x place.front place.back at.kept (subst (λ us. All IsKept (tables_of us)) place.whole rest.kept);
  each = each;
}
  where
    at : TableAt m (suc most) t
    at = table_at m is (suc most) t has

    x : Numbered
    x = record { number = suc most; table = at.table }

    inside : (number : ℕ) → IsIn number (numbers_of rest.ts) → (1 ≤ number) × (number ≤ most)
    inside number is_in = member_has (λ n. (1 ≤ n) × (n ≤ most)) number (numbers_of rest.ts) rest.inside is_in

    -- the tables before have other names
    other_name : (u : Table) → IsIn u (tables_of rest.ts) → at.table.name ≡ u.name → ⊥
    other_name u is_in same =
        let found = numbered_member rest.ts u rest.distinct is_in in
        let low = inside found.0 found.1 in
        let u_kept = member_has IsKept u (tables_of rest.ts) rest.kept is_in in
        let u_has : HasTable m found.0 (known_of u) = record { numbered = low.0; table = u_kept.known; here = rest.each found.0 0 low.0 low.1 ∙ ap (λ o. record_in o 0) found.2 } in
        let one = is.names (suc most) found.0 t (known_of u) has u_has (sym at.named ∙ same) in
        omega (arith, one, low.1)

    place : Among x rest.ts
    place = among_names x rest.ts rest.sorted other_name

    new : IsIn (suc most) (numbers_of (place.front ++ place.back)) → ⊥
    new is_in = let low = inside (suc most) (subst (λ us. IsIn (suc most) (numbers_of us)) (sym place.whole) is_in) in omega (arith, low.1)

    found : (number : ℕ) → table_of (place.front ++ x ∷ place.back) number ≡ cond (suc most == number) (Some at.table) (table_of (place.front ++ place.back) number)
    found number = among (suc most) at.table place.front place.back number (λ is_in. new (found_in_front place.front place.back (suc most) is_in))

    each : (number id : ℕ) → 1 ≤ number → number ≤ suc most → m number id ≡ record_in (table_of (place.front ++ x ∷ place.back) number) id
    each number id low high =
        elim (cases_eq (suc most) number) [
          | inl same ↦
              let here : table_of (place.front ++ x ∷ place.back) number ≡ Some at.table = found number ∙ rw (eq-eqb (suc most) number same) refl in
              ap (λ n. m n id) (sym same) ∙ at.each id ∙ ap (λ o. record_in o id) (sym here)
          | inr other ↦
              let there : table_of (place.front ++ x ∷ place.back) number ≡ table_of (place.front ++ place.back) number = found number ∙ rw (ne_eqb (suc most) number other) refl in
              rest.each number id low (omega (arith, high, other)) ∙ ap (λ us. record_in (table_of us number) id) place.whole ∙ ap (λ o. record_in o id) (sym there)
        ]

-- whatever stands under the next number
one_number_more : (m : Map) → IsBaseMap m → (most : ℕ) → TablesUpTo m most → (o : Option (List ℕ)) → m (suc most) 0 ≡ o → TablesUpTo m (suc most)
one_number_more m is most rest None none = record {
  ts = rest.ts;
  sorted = rest.sorted;
  distinct = rest.distinct;
  inside = All-weaker (λ n. (1 ≤ n) × (n ≤ most)) (λ n. (1 ≤ n) × (n ≤ suc most)) (λ n low. (low.0, omega (arith, low.1))) (numbers_of rest.ts) rest.inside;
  kept = rest.kept;
  each = λ number id low high. elim (cases_eq (suc most) number) [
    | inl same ↦
        ap (λ n. m n id) (sym same) ∙ none_under m is (suc most) id (omega arith) none (m (suc most) id) refl
        ∙ ap (λ o. record_in o id) (sym (none_over rest.ts most number rest.inside (omega (arith, same)) (table_of rest.ts number) refl))
    | inr other ↦ rest.each number id low (omega (arith, high, other))
  ];
}
one_number_more m is most rest (Some bytes) some =
    let table = is.tables (suc most) bytes (omega arith) some in
    one_table_more m is most table.0 (record { numbered = omega arith; table = table.1.table; here = some ∙ ap (λ b. Some b) table.1.spelled }) rest

tables_up_to : (m : Map) → IsBaseMap m → (most : ℕ) → TablesUpTo m most
unfolding IsStrictlySortedBy
tables_up_to m is zero = record {
  ts = [];
  sorted = tt;
  distinct = tt;
  inside = All-nil (λ n. (1 ≤ n) × (n ≤ 0));
  kept = All-nil IsKept;
  each = λ number id low high. absurd (omega (arith, low, high));
}
tables_up_to m is (suc most) = one_number_more m is most (tables_up_to m is most) (m (suc most) 0) refl

-- ---- places of rows

pub in_range : (from n k : ℕ) → from ≤ k → k < from + n → IsIn k (range_with_len from n)
in_range from zero k low high = absurd (omega (arith, low, high))
in_range from (suc n) k low high =
    elim (cases_eq k from) [
      | inl same ↦ inl same
      | inr other ↦ inr (in_range (from + 1) n k (omega (arith, low, other)) (omega (arith, high)))
    ]

-- a place of a table has its number, and an id from the least on
of_places : (number least next : ℕ) (ps : List Placed) (place : ℕ × ℕ) → IdsRise least ps next → IsIn place (places_in number ps) → (place.0 ≡ number) × (least ≤ place.1)
of_places number least next [] place rise is_in = absurd is_in
of_places number least next (p ∷ ps) place rise (inl same) = (ap (λ (q : ℕ × ℕ). q.0) same, omega (arith, rise.0, ap (λ (q : ℕ × ℕ). q.1) same))
of_places number least next (p ∷ ps) place rise (inr later) =
    let rest = of_places number (p.id + 1) next ps place rise.1 later in
    (rest.0, omega (arith, rise.0, rest.1))

distinct_places : (number least next : ℕ) (ps : List Placed) → IdsRise least ps next → AreDistinct (places_in number ps)
distinct_places number least next [] rise = tt
distinct_places number least next (p ∷ ps) rise = (
  all_members (λ place. (number, p.id) ≡ place → ⊥) (places_in number ps) (λ place is_in same.
      let rest = of_places number (p.id + 1) next ps place rise.1 is_in in
      omega (arith, rest.1, ap (λ (q : ℕ × ℕ). q.1) same)),
  distinct_places number (p.id + 1) next ps rise.1,
)

row_found : (number : ℕ) (ps : List Placed) (place : ℕ × ℕ) → IsIn place (places_in number ps) → (row : List Value) × (row_of ps place.1 ≡ Some row)
row_found number [] place is_in = absurd is_in
row_found number (p ∷ ps) place (inl same) = (p.row, ap (λ (q : ℕ × ℕ). row_of (p ∷ ps) q.1) same ∙ first_row p ps)
row_found number (p ∷ ps) place (inr later) =
    elim (cases_eq p.id place.1) [
      | inl here ↦ (p.row, ap (row_of (p ∷ ps)) (sym here) ∙ first_row p ps)
      | inr there ↦ let rest = row_found number ps place later in (rest.0, behind_row p ps place.1 there ∙ rest.1)
    ]

-- a row is found by its place
record RowFound (ts : List Numbered) (place : ℕ × ℕ) : Type 0 where
  table : Table
  found : table_of ts place.0 ≡ Some table
  row : List Value
  here : row_of table.rows place.1 ≡ Some row
  low : 1 ≤ place.1

place_found : (ts : List Numbered) (place : ℕ × ℕ) → AreDistinct (numbers_of ts) → All IsKept (tables_of ts) → IsIn place (row_places ts) → RowFound ts place
place_found [] place distinct kept is_in = absurd is_in
place_found (x ∷ ts) place distinct kept is_in =
    by_part (λ later. place_found ts place distinct.1 (All-tail IsKept x.table (tables_of ts) kept) later) (in_either place (places_in x.number x.table.rows) (row_places ts) is_in)
  where
    by_part : (IsIn place (row_places ts) → RowFound ts place) → IsIn place (places_in x.number x.table.rows) ⊎ IsIn place (row_places ts) → RowFound (x ∷ ts) place
    by_part on (inl first) =
        let x_kept = All-head IsKept x.table (tables_of ts) kept in
        let of = of_places x.number 1 x.table.next x.table.rows place x_kept.ids first in
        let row = row_found x.number x.table.rows place first in
        record { table = x.table; found = ap (table_of (x ∷ ts)) of.0 ∙ first_table x ts; row = row.0; here = row.1; low = of.1 }
    by_part on (inr later) =
        let rest = on later in
        let other : x.number ≡ place.0 → ⊥ = member_has (λ n. x.number ≡ n → ⊥) place.0 (numbers_of ts) distinct.0 (found_number ts rest.table place.0 rest.found) in
        record { table = rest.table; found = behind_table x ts place.0 other ∙ rest.found; row = rest.row; here = rest.here; low = rest.low }

all_distinct : (ts : List Numbered) → AreDistinct (numbers_of ts) → All IsKept (tables_of ts) → AreDistinct (row_places ts)
all_distinct [] distinct kept = tt
all_distinct (x ∷ ts) distinct kept =
    let x_kept = All-head IsKept x.table (tables_of ts) kept in
    let ts_kept = All-tail IsKept x.table (tables_of ts) kept in
    distinct_both (places_in x.number x.table.rows) (row_places ts) (distinct_places x.number 1 x.table.next x.table.rows x_kept.ids) (all_distinct ts distinct.1 ts_kept) (λ place first later.
    let of = of_places x.number 1 x.table.next x.table.rows place x_kept.ids first in
    let rest = place_found ts place distinct.1 ts_kept later in
    member_has (λ n. x.number ≡ n → ⊥) place.0 (numbers_of ts) distinct.0 (found_number ts rest.table place.0 rest.found) (sym of.0))

-- ---- the base

map_has_base : (m : Map) → IsBaseMap m → (b : Base) × StandsFor m b
map_has_base m is = (b, record { base = base; kept = inr (record { numbered = all.ts; tables = refl; numbers = record { distinct = all.distinct; inside = all.inside }; keeps = keeps }) })
  where
    all : TablesUpTo m 256
    all = tables_up_to m is 256

    b : Base
    b = record { commit = is.base.2.0; tables = tables_of all.ts }

    has_row : (place : ℕ × ℕ) → IsIn place (row_places all.ts) → HasRowAt m place
    has_row place is_in =
        let at = place_found all.ts place all.distinct all.kept is_in in
        let low = at.low in
        let number = member_has (λ n. (1 ≤ n) × (n ≤ 256)) place.0 (numbers_of all.ts) all.inside (found_number all.ts at.table place.0 at.found) in
        record {
          numbered = number.0;
          row = low;
          bytes = row_record at.row;
          here = all.each place.0 place.1 number.0 number.1 ∙ ap (λ o. record_in o place.1) at.found ∙ at_id at.table place.1 (λ none. absurd (omega (arith, none, low))) ∙ ap (option_map row_record) at.here;
        }

    few_tables : length (tables_of all.ts) ≤ 256
    few_tables =
        let no_more = no_more_members (numbers_of all.ts) (range_with_len 1 256) all.distinct (λ number is_in.
        let low = member_has (λ n. (1 ≤ n) × (n ≤ 256)) number (numbers_of all.ts) all.inside is_in in
        in_range 1 256 number low.0 (omega (arith, low.1))) in
        let numbers : length (numbers_of all.ts) ≡ length all.ts = length-map all.ts (λ (x : Numbered). x.number) in
        let tables : length (tables_of all.ts) ≡ length all.ts = length-map all.ts (λ (x : Numbered). x.table) in
        omega (arith, no_more, numbers, tables, length-range_with_len 1 256)

    few_rows : sum_by (λ (t : Table). length t.rows) (tables_of all.ts) ≤ 200000
    few_rows =
        let few = is.few_rows (row_places all.ts) (all_distinct all.ts all.distinct all.kept) (all_members (HasRowAt m) (row_places all.ts) has_row) in
        omega (arith, few, count_places all.ts)

    base : IsBase b
    base = record { names = all.sorted; kept = all.kept; few_tables = few_tables; few_rows = few_rows; few_commits = is.base.2.1.few }

    -- beside the base's own record nothing stands under its number, and nothing above the last number
    not_beside : (id : ℕ) → (0 ≡ id → ⊥) → (o : Option (List ℕ)) → m 0 id ≡ o → o ≡ None
    not_beside id other None here = refl
    not_beside id other (Some bytes) here = absurd (no_place (is.places 0 id bytes here))
      where
        no_place : IsPlace 0 id → ⊥
        no_place (inl own) = other (sym own.1)
        no_place (inr low) = let one = low.0 in omega (arith, one)

    not_over : (number id : ℕ) → 256 < number → (o : Option (List ℕ)) → m number id ≡ o → o ≡ None
    not_over number id high None here = refl
    not_over number id high (Some bytes) here = absurd (no_place (is.places number id bytes here))
      where
        no_place : IsPlace number id → ⊥
        no_place (inl own) = omega (arith, own.0, high)
        no_place (inr low) = omega (arith, low.1, high)

    under_base : (id : ℕ) → m 0 id ≡ records b.commit all.ts 0 id
    under_base id =
        elim (cases_eq 0 id) [
          | inl same ↦ subst (λ i. m 0 i ≡ records b.commit all.ts 0 i) same (is.base.1 ∙ ap (λ x. Some x) is.base.2.1.spelled)
          | inr other ↦ not_beside id other (m 0 id) refl ∙ sym (beside_none b.commit all.ts id (record { distinct = all.distinct; inside = all.inside }) other)
        ]

    keeps : Keeps m b.commit all.ts
    keeps number id =
        elim (cases_eq 0 number) [
          | inl same ↦ subst (λ n. m n id ≡ records b.commit all.ts n id) same (under_base id)
          | inr other ↦
              elim (cases_lt 256 number) [
                | inl high ↦
                    not_over number id high (m number id) refl ∙ ap (λ o. record_in o id) (sym (none_over all.ts 256 number all.inside high (table_of all.ts number) refl))
                    ∙ sym (at_place b.commit all.ts number id other)
                | inr low ↦ all.each number id (omega (arith, other)) low ∙ sym (at_place b.commit all.ts number id other)
              ]
        ]

pub maps_of_bases : MapsOfBases
maps_of_bases = record { is_map = base_is_map; has_base = by_sort }
  where
    by_sort : (m : Map) → IsEmpty m ⊎ IsBaseMap m → (b : Base) × StandsFor m b
    by_sort m (inl empty) = (empty_base, record { base = bases_have_maps.fresh.base; kept = inl (record { none = empty; empty = refl }) })
    by_sort m (inr is) = map_has_base m is
