-- A map that stands for a base has what maps of bases have.
use Rattle.std.proofs.Common.{◌≡◌, refl, sym, ◌∙◌, ap, subst, ℕ, ◌+◌, ◌<◌, ◌≤◌, List, [], ◌∷◌, ◌++◌, length, map, All, Option, Some, None, inl, inr, ◌⊎◌, arith}
use Rattle.std.specs.List.{sum_by}
use Rattle.std.specs.List.Sorted.{IsStrictlySortedBy}
use Rattle.std.specs.Option.{option_map}
use Rattle.std.specs.Cmp.Lexicographic.{slice_cmp}
use Rattle.std.specs.Ordering.{nat_cmp}
use Rattle.std.proofs.lemmas.Bool.{cases_eq, ne_eqb}
use Rattle.std.proofs.lemmas.List.{length-append, length-map}
use Rattle.std.proofs.lemmas.List.Sums.{sum_by-cons}
use Rattle.std.proofs.lemmas.Option.{same_Some}
use Rattle.pk_values.specs.declared.placed.Placed.{Placed}
use Rattle.pk_values.specs.declared.value.Value.{Value}
use Rattle.pk_values.specs.Records.{row_record, AreStorable}
use Rattle.pk_schema.specs.Admits.{Admits}
use Rattle.pk_catalog.specs.declared.table_record.TableRecord.{TableRecord}
use Rattle.pk_catalog.specs.Records.{base_record, table_record}
use Rattle.pk_catalog.specs.Bases.{Table, Base, Numbered, Map, IsKept, IsBase, IdsRise, AreNumbers, AreDistinct, KeepsBase, IsFresh, StandsFor, known_of, numbers_of, tables_of, row_of, record_in, table_of, records}
use Rattle.pk_catalog.specs.BaseMaps.{Has, IsEmpty, HasTable, IsRowOf, IsPlace, HasRowAt, IsBaseMap}
use Rattle.pk_catalog.proofs.OneRecord.{one_table_record}
use Rattle.pk_catalog.proofs.OneBase.{IsIn, AreSorted, member_has, first_table, behind_table, behind_row, row_has, at_id, found_member, found_number, not_less_itself, comes_after, no_zero, at_place}
use Rattle.pk_catalog.proofs.Members.{in_front, in_back, no_more_members}

-- ---- rows of tables

least_below : (least next : ℕ) (ps : List Placed) → IdsRise least ps next → least ≤ next
least_below least next [] rise = rise
least_below least next (p ∷ ps) rise = let rest = least_below (p.id + 1) next ps rise.1 in omega (arith, rise.0, rest)

row_below : (least next id : ℕ) (ps : List Placed) (row : List Value) → IdsRise least ps next → row_of ps id ≡ Some row → id < next
row_below least next id [] row rise found = absurd cc
row_below least next id (p ∷ ps) row rise found =
    elim (cases_eq p.id id) [
      | inl here ↦ let rest = least_below (p.id + 1) next ps rise.1 in omega (arith, rest, here)
      | inr there ↦ row_below (p.id + 1) next id ps row rise.1 (sym (behind_row p ps id there) ∙ found)
    ]

-- a record that is found is that of a row
of_row : (o : Option (List Value)) (bytes : List ℕ) → option_map row_record o ≡ Some bytes → (row : List Value) × (o ≡ Some row) × (bytes ≡ row_record row)
of_row None bytes found = absurd cc
of_row (Some row) bytes found = (row, refl, sym (same_Some (row_record row) bytes found))

-- ---- places of rows

abbrev pub places_in : ℕ → List Placed → List (ℕ × ℕ)
places_in number rows = map (λ (p : Placed). (number, p.id)) rows

-- the places of all rows of tables
abbrev pub row_places : List Numbered → List (ℕ × ℕ)
row_places [] = []
row_places (x ∷ ts) = places_in x.number x.table.rows ++ row_places ts

pub count_places : (ts : List Numbered) → length (row_places ts) ≡ sum_by (λ (t : Table). length t.rows) (tables_of ts)
count_places [] = refl
count_places (x ∷ ts) =
    let rest = count_places ts in
    let all = sum_by-cons (λ (t : Table). length t.rows) x.table (tables_of ts) in
    omega (arith, rest, all, length-append (places_in x.number x.table.rows) (row_places ts), length-map {B = ℕ × ℕ} x.table.rows (λ (p : Placed). (x.number, p.id)))

row_place : (number id : ℕ) (ps : List Placed) (row : List Value) → row_of ps id ≡ Some row → IsIn (number, id) (places_in number ps)
row_place number id [] row found = absurd cc
row_place number id (p ∷ ps) row found =
    elim (cases_eq p.id id) [
      | inl here ↦ inl (ap (λ i. (number, i)) (sym here))
      | inr there ↦ inr (row_place number id ps row (sym (behind_row p ps id there) ∙ found))
    ]

place_among : (number id : ℕ) (ts : List Numbered) (t : Table) (row : List Value) → table_of ts number ≡ Some t → row_of t.rows id ≡ Some row → IsIn (number, id) (row_places ts)
place_among number id [] t row found here = absurd cc
place_among number id (x ∷ ts) t row found here =
    elim (cases_eq x.number number) [
      | inl same ↦
          let table : x.table ≡ t = same_Some x.table t (sym (first_table x ts) ∙ ap (table_of (x ∷ ts)) same ∙ found) in
          let first = row_place number id x.table.rows row (ap (λ (u : Table). row_of u.rows id) table ∙ here) in
          in_front (number, id) (places_in x.number x.table.rows) (row_places ts) (subst (λ n. IsIn (number, id) (places_in n x.table.rows)) (sym same) first)
      | inr other ↦ in_back (number, id) (places_in x.number x.table.rows) (row_places ts) (place_among number id ts t row (sym (behind_table x ts number other) ∙ found) here)
    ]

-- ---- names

-- tables of one name have one number
one_name : (ts : List Numbered) (a b : ℕ) (t u : Table) → AreSorted (tables_of ts) → table_of ts a ≡ Some t → table_of ts b ≡ Some u → t.name ≡ u.name → a ≡ b
unfolding IsStrictlySortedBy
one_name [] a b t u sorted t_found u_found same = absurd cc
one_name (x ∷ ts) a b t u sorted t_found u_found same =
    by_numbers (λ t_behind u_behind. one_name ts a b t u sorted.1 t_behind u_behind same) (cases_eq x.number a) (cases_eq x.number b)
  where
    here : (n : ℕ) (v : Table) → x.number ≡ n → table_of (x ∷ ts) n ≡ Some v → x.table ≡ v
    here n v is found = same_Some x.table v (sym (first_table x ts) ∙ ap (table_of (x ∷ ts)) is ∙ found)

    -- the first table has another name than those behind it
    apart : (n : ℕ) (v : Table) → (x.number ≡ n → ⊥) → table_of (x ∷ ts) n ≡ Some v → x.table.name ≡ v.name → ⊥
    apart n v other found one =
        let behind = comes_after x.table v (tables_of ts) sorted.0 (found_member ts v n (sym (behind_table x ts n other) ∙ found)) in
        not_less_itself x.table.name (ap (λ name. slice_cmp nat_cmp x.table.name name) one ∙ behind)

    by_numbers : (table_of ts a ≡ Some t → table_of ts b ≡ Some u → a ≡ b) → (x.number ≡ a) ⊎ (x.number ≡ a → ⊥) → (x.number ≡ b) ⊎ (x.number ≡ b → ⊥) → a ≡ b
    by_numbers behind (inl first) (inl second) = sym first ∙ second
    by_numbers behind (inl first) (inr other) = absurd (apart b u other u_found (ap (λ (v : Table). v.name) (here a t first t_found) ∙ same))
    by_numbers behind (inr other) (inl second) = absurd (apart a t other t_found (ap (λ (v : Table). v.name) (here b u second u_found) ∙ sym same))
    by_numbers behind (inr other) (inr another) = behind (sym (behind_table x ts a other) ∙ t_found) (sym (behind_table x ts b another) ∙ u_found)

-- ---- the map

-- what is found is of a table
of_table : (o : Option Table) (id : ℕ) (bytes : List ℕ) → record_in o id ≡ Some bytes → (t : Table) × (o ≡ Some t) × (record_in (Some t) id ≡ Some bytes)
of_table None id bytes found = absurd cc
of_table (Some t) id bytes found = (t, refl, found)

-- beside the record of the base nothing stands under its number
pub beside_none : (commit : ℕ) (ts : List Numbered) (id : ℕ) → AreNumbers (numbers_of ts) → (0 ≡ id → ⊥) → records commit ts 0 id ≡ None
beside_none commit ts id numbers other = rw (ne_eqb 0 id other) (ap (λ o. record_in o id) (no_zero ts numbers (table_of ts 0) refl))

kept_is_map : (m : Map) (b : Base) → IsBase b → KeepsBase m b → IsBaseMap m
kept_is_map m b base kept = record {
  places = places;
  base = (base_record b.commit, kept.keeps 0 0, (b.commit, record { spelled = refl; few = base.few_commits }));
  tables = λ number bytes low has. let at = found number 0 bytes low has in (known_of at.0, record { spelled = sym (same_Some _ bytes at.2); table = (kept_at number at.0 at.1).known });
  rows = rows;
  names = names;
  few_rows = few_rows;
}
  where
    ts : List Numbered
    ts = kept.numbered

    found : (number id : ℕ) (bytes : List ℕ) → 1 ≤ number → Has m number id bytes → (t : Table) × (table_of ts number ≡ Some t) × (record_in (Some t) id ≡ Some bytes)
    found number id bytes low has =
        of_table (table_of ts number) id bytes (sym (at_place b.commit ts number id (λ none. absurd (omega (arith, none, low)))) ∙ sym (kept.keeps number id) ∙ has)

    kept_at : (number : ℕ) (t : Table) → table_of ts number ≡ Some t → IsKept t
    kept_at number t is = member_has IsKept t (tables_of ts) (subst (All IsKept) (sym kept.tables) base.kept) (found_member ts t number is)

    has_table : (number : ℕ) (t : Table) → 1 ≤ number → table_of ts number ≡ Some t → HasTable m number (known_of t)
    has_table number t low is = record {
      numbered = low;
      table = (kept_at number t is).known;
      here = kept.keeps number 0 ∙ at_place b.commit ts number 0 (λ none. absurd (omega (arith, none, low))) ∙ ap (λ o. record_in o 0) is;
    }

    under_base : (id : ℕ) (bytes : List ℕ) → Has m 0 id bytes → IsPlace 0 id
    under_base id bytes has =
        elim (cases_eq 0 id) [
          | inl same ↦ inl (refl, sym same)
          | inr other ↦ let none = sym has ∙ kept.keeps 0 id ∙ beside_none b.commit ts id kept.numbers other in absurd cc
        ]

    places : (number id : ℕ) (bytes : List ℕ) → Has m number id bytes → IsPlace number id
    places number id bytes has =
        elim (cases_eq 0 number) [
          | inl same ↦ subst (λ n. IsPlace n id) same (under_base id bytes (subst (λ n. Has m n id bytes) (sym same) has))
          | inr other ↦
              let at = found number id bytes (omega (arith, other)) has in
              inr (member_has (λ n. (1 ≤ n) × (n ≤ 256)) number (numbers_of ts) kept.numbers.inside (found_number ts at.0 number at.1))
        ]

    rows : (number id : ℕ) (bytes : List ℕ) → 1 ≤ number → 1 ≤ id → Has m number id bytes → (t : TableRecord) × HasTable m number t × IsRowOf t id bytes
    rows number id bytes low row has =
        let at = found number id bytes low has in
        let table = kept_at number at.0 at.1 in
        let here = of_row (row_of at.0.rows id) bytes (sym (at_id at.0 id (λ none. absurd (omega (arith, none, row)))) ∙ at.2) in (
          known_of at.0,
          has_table number at.0 low at.1,
          record {
            below = row_below 1 at.0.next id at.0.rows here.0 table.ids here.1;
            row = here.0;
            spelled = record {
              spelled = here.2;
              admitted = row_has (Admits at.0.shape) at.0.rows id here.0 table.admitted here.1;
              storable = row_has AreStorable at.0.rows id here.0 table.storable here.1;
            };
          },
        )

    -- the table that is known so stands under that number
    known_at : (number : ℕ) (t : TableRecord) → HasTable m number t → (u : Table) × (table_of ts number ≡ Some u) × (known_of u ≡ t)
    known_at number t has =
        let at = found number 0 (table_record t) has.numbered has.here in (
          at.0,
          at.1,
          one_table_record (table_record t) (known_of at.0) t (record { spelled = sym (same_Some _ (table_record t) at.2); table = (kept_at number at.0 at.1).known }) (record { spelled = refl; table = has.table }),
        )

    names : (a b : ℕ) (t u : TableRecord) → HasTable m a t → HasTable m b u → t.name ≡ u.name → a ≡ b
    names a c t u t_has u_has same =
        let one = known_at a t t_has in
        let other = known_at c u u_has in
        one_name ts a c one.0 other.0 (subst AreSorted (sym kept.tables) base.names) one.1 other.1
        (ap (λ (k : TableRecord). k.name) one.2 ∙ same ∙ ap (λ (k : TableRecord). k.name) (sym other.2))

    is_row_place : (place : ℕ × ℕ) → HasRowAt m place → IsIn place (row_places ts)
    is_row_place place has =
        let at = found place.0 place.1 has.bytes has.numbered has.here in
        let row = has.row in
        let here = of_row (row_of at.0.rows place.1) has.bytes (sym (at_id at.0 place.1 (λ none. absurd (omega (arith, none, row)))) ∙ at.2) in
        place_among place.0 place.1 ts at.0 here.0 at.1 here.1

    few_rows : (rows : List (ℕ × ℕ)) → AreDistinct rows → All (HasRowAt m) rows → length rows ≤ 200000
    few_rows rows distinct all =
        let no_more = no_more_members rows (row_places ts) distinct (λ place is. is_row_place place (member_has (HasRowAt m) place rows all is)) in
        let count = count_places ts ∙ ap (sum_by (λ (t : Table). length t.rows)) kept.tables in
        let few = base.few_rows in
        omega (arith, no_more, count, few)

pub base_is_map : (m : Map) (b : Base) → StandsFor m b → IsEmpty m ⊎ IsBaseMap m
base_is_map m b stands = by_sort stands.kept
  where
    by_sort : IsFresh m b ⊎ KeepsBase m b → IsEmpty m ⊎ IsBaseMap m
    by_sort (inl fresh) = inl fresh.none
    by_sort (inr kept) = inr (kept_is_map m b stands.base kept)
