-- What no map of a base has.
use Rattle.std.proofs.Common.{◌≡◌, refl, sym, ◌∙◌, ap, subst, ℕ, ◌≤◌, List, [], ◌∷◌, length, All, None, inl, inr, ◌⊎◌, arith}
use Rattle.std.proofs.lemmas.Bool.{cases_eq}
use Rattle.std.proofs.lemmas.List.Elements.{All-head}
use Rattle.std.proofs.lemmas.Option.{same_Some}
use Rattle.pk_values.specs.declared.value.Value.{Value}
use Rattle.pk_catalog.specs.declared.table_record.TableRecord.{TableRecord}
use Rattle.pk_catalog.specs.Records.{IsBaseRecord, IsTableRecord, IsRowRecord, table_record}
use Rattle.pk_catalog.specs.Bases.{Map, AreDistinct}
use Rattle.pk_catalog.specs.BaseMaps.{Has, HasTable, HasRowAt, IsEmpty, IsPlace, IsBaseMap, StandsForNone, MapsOfNone}
use Rattle.pk_catalog.proofs.OneRecord.{one_table_record}
use Rattle.pk_catalog.proofs.BaseMaps.{base_is_map}

-- a map that has something stands for a base only where it is a map of one
by_map : (m : Map) (number id : ℕ) (bytes : List ℕ) → Has m number id bytes → (IsBaseMap m → ⊥) → StandsForNone m
by_map m number id bytes has wrong b stands = by_sort (base_is_map m b stands)
  where
    by_sort : IsEmpty m ⊎ IsBaseMap m → ⊥
    by_sort (inl empty) = let none = sym has ∙ empty number id in cc
    by_sort (inr is) = wrong is

no_place : (number id : ℕ) → (number ≡ 0 → id ≡ 0 → ⊥) → (1 ≤ number → number ≤ 256 → ⊥) → IsPlace number id → ⊥
no_place number id base table (inl is) = base is.0 is.1
no_place number id base table (inr is) = table is.0 is.1

-- a number has one table
pub one_table : (m : Map) (number : ℕ) (t u : TableRecord) → HasTable m number t → HasTable m number u → t ≡ u
one_table m number t u t_has u_has =
    let same = same_Some (table_record t) (table_record u) (sym t_has.here ∙ u_has.here) in
    one_table_record (table_record t) t u (record { spelled = refl; table = t_has.table }) (record { spelled = same; table = u_has.table })

beside_base : (m : Map) (bytes : List ℕ) → Has m 0 1 bytes → StandsForNone m
beside_base m bytes has = by_map m 0 1 bytes has (λ is. no_place 0 1 (λ zero one. absurd cc) (λ low high. absurd (omega (arith, low))) (is.places 0 1 bytes has))

number_257 : (m : Map) (bytes : List ℕ) → Has m 257 0 bytes → StandsForNone m
number_257 m bytes has = by_map m 257 0 bytes has (λ is. no_place 257 0 (λ zero none. absurd cc) (λ low high. absurd (omega (arith, high))) (is.places 257 0 bytes has))

no_base : (m : Map) (number id : ℕ) (bytes : List ℕ) → m 0 0 ≡ None → Has m number id bytes → StandsForNone m
no_base m number id bytes none has = by_map m number id bytes has (λ is. let some = sym is.base.1 ∙ none in cc)

-- below the first id is the place of the table
is_row : (m : Map) (number id : ℕ) (bytes : List ℕ) → m number 0 ≡ None → Has m number id bytes → 1 ≤ id
is_row m number id bytes none has =
    elim (cases_eq id 0) [
      | inl same ↦ let both = sym has ∙ ap (m number) same ∙ none in absurd cc
      | inr other ↦ omega (arith, other)
    ]

no_table : (m : Map) (number id : ℕ) (bytes : List ℕ) → 1 ≤ number → m number 0 ≡ None → Has m number id bytes → StandsForNone m
no_table m number id bytes low none has =
    by_map m number id bytes has (λ is. let there = is.rows number id bytes low (is_row m number id bytes none has) has in let some = sym there.1.here ∙ none in cc)

at_next : (m : Map) (number : ℕ) (t : TableRecord) (bytes : List ℕ) → HasTable m number t → Has m number t.next bytes → StandsForNone m
at_next m number t bytes table has =
    by_map m number t.next bytes has (λ is.
    let there = is.rows number t.next bytes table.numbered table.table.first has in
    let same : there.0.next ≡ t.next = ap (λ (u : TableRecord). u.next) (one_table m number there.0 t there.1 table) in
    let below = there.2.below in
    absurd (omega (arith, same, below)))

name_twice : (m : Map) (a b : ℕ) (t u : TableRecord) → HasTable m a t → HasTable m b u → t.name ≡ u.name → (a ≡ b → ⊥) → StandsForNone m
name_twice m a b t u t_has u_has same other = by_map m a 0 (table_record t) t_has.here (λ is. other (is.names a b t u t_has u_has same))

many_rows : (m : Map) (rows : List (ℕ × ℕ)) → AreDistinct rows → All (HasRowAt m) rows → length rows ≡ 200001 → StandsForNone m
many_rows m [] distinct all many = absurd cc
many_rows m (place ∷ rows) distinct all many =
    let first = All-head (HasRowAt m) place rows all in
    by_map m place.0 place.1 first.bytes first.here (λ is. let few = is.few_rows (place ∷ rows) distinct all in absurd (omega (arith, few, many)))

other_base : (m : Map) (bytes : List ℕ) → Has m 0 0 bytes → ((commit : ℕ) → IsBaseRecord bytes commit → ⊥) → StandsForNone m
other_base m bytes has other =
    by_map m 0 0 bytes has (λ is. other is.base.2.0 (subst (λ b. IsBaseRecord b is.base.2.0) (same_Some is.base.0 bytes (sym is.base.1 ∙ has)) is.base.2.1))

other_table : (m : Map) (number : ℕ) (bytes : List ℕ) → 1 ≤ number → Has m number 0 bytes → ((t : TableRecord) → IsTableRecord bytes t → ⊥) → StandsForNone m
other_table m number bytes low has other = by_map m number 0 bytes has (λ is. let there = is.tables number bytes low has in other there.0 there.1)

other_row : (m : Map) (number id : ℕ) (t : TableRecord) (bytes : List ℕ) → HasTable m number t → 1 ≤ id → Has m number id bytes
    → ((row : List Value) → IsRowRecord t.schema bytes row → ⊥) → StandsForNone m
other_row m number id t bytes table row has other =
    by_map m number id bytes has (λ is.
    let there = is.rows number id bytes table.numbered row has in
    let same = one_table m number there.0 t there.1 table in
    other there.2.row (subst (λ (u : TableRecord). IsRowRecord u.schema bytes there.2.row) same there.2.spelled))

pub maps_of_no_base : MapsOfNone
maps_of_no_base = record {
  beside_base = beside_base;
  number_257 = number_257;
  no_base = no_base;
  no_table = no_table;
  at_next = at_next;
  name_twice = name_twice;
  many_rows = many_rows;
  other_base = other_base;
  other_table = other_table;
  other_row = other_row;
}
