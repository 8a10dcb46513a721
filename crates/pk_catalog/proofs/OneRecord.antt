-- The bytes of a record tell what it is of; and what is read is so, and nothing else.
use Rattle.std.proofs.Common.{◌≡◌, sym, ◌∙◌, ap, ℕ, ◌^◌, ◌<◌, ◌≤◌, true, not, ◌&&◌, nat_le, List, [], ◌∷◌, length, All, Some, None, arith}
use Rattle.std.specs.List.{list_all, AllByRecursion}
use Rattle.std.specs.Int.{w64, to_be_bytes, from_be_bytes}
use Rattle.std.proofs.lemmas.Bool.{and_parts, leb-true}
use Rattle.std.proofs.lemmas.List.Elements.{All-head, All-tail}
use Rattle.std.proofs.lemmas.Option.{same_Some}
use Rattle.std.proofs.Math.Pow.{pow_mono}
use Rattle.pk_values.specs.declared.key.KeyDecl.{KeyDecl}
use Rattle.pk_values.specs.declared.kind.Kind.{Kind}
use Rattle.pk_values.specs.declared.kind.Kind.TheVariants.{Integer, Text}
use Rattle.pk_values.specs.declared.value.Value.{Value}
use Rattle.pk_values.specs.Name.{is_name}
use Rattle.pk_values.proofs.RecordLemmas.{row_records_differ}
use Rattle.pk_syntax.specs.declared.declaration.ColumnDecl.{ColumnDecl}
use Rattle.pk_syntax.specs.Declarations.{names_of, is_plain_length}
use Rattle.pk_syntax.specs.Words.{is_reserved}
use Rattle.pk_schema.specs.Shapes.{Shape, is_plain_name}
use Rattle.pk_catalog.specs.declared.table_parts.TableParts.{TableParts}
use Rattle.pk_catalog.specs.declared.table_record.TableRecord.{TableRecord}
use Rattle.pk_catalog.specs.Records.{table_record, IsTable, IsBaseRecord, IsTableRecord, IsRowRecord}
use Rattle.pk_catalog.specs.Reading.{table_at}
use Rattle.pk_catalog.proofs.PartReading.{IsBytes, wide_64, IsPassing}
use Rattle.pk_catalog.proofs.Tables.{IsColumn, IsKey, AreParts, table_takes, table_again}

-- ---- rows

pub one_row_record : (s : Shape) (bytes : List ℕ) (a b : List Value) → IsRowRecord s bytes a → IsRowRecord s bytes b → a ≡ b
one_row_record s bytes a b a_is b_is = row_records_differ a b a_is.storable b_is.storable (sym a_is.spelled ∙ b_is.spelled)

-- ---- bases

abbrev pub behind_version : List ℕ → List ℕ
behind_version [] = []
behind_version (b ∷ bytes) = bytes

pub one_base_record : (bytes : List ℕ) (a b : ℕ) → IsBaseRecord bytes a → IsBaseRecord bytes b → a ≡ b
one_base_record bytes a b a_is b_is =
    let a_few = a_is.few in
    let b_few = b_is.few in
    let same : to_be_bytes w64 a ≡ to_be_bytes w64 b = ap behind_version (sym a_is.spelled ∙ b_is.spelled) in
    sym (wide_64.again a (omega (arith, a_few))) ∙ ap (from_be_bytes w64) same ∙ wide_64.again b (omega (arith, b_few))

-- ---- tables

-- a table by its parts
abbrev pub parts_of : TableRecord → TableParts
parts_of t = record { name = t.name; columns = t.schema.columns; keys = t.schema.keys; next = t.next }

abbrev pub table_of_parts : TableParts → TableRecord
table_of_parts p = record { name = p.name; schema = record { columns = p.columns; keys = p.keys }; next = p.next }

pub plain_short : (name : List ℕ) → is_plain_name name ≡ true → IsPassing is_name name
plain_short name is =
    let parts = and_parts (is_name name && not (is_reserved name)) (nat_le (length name) 30) is in
    let short : length name ≤ 30 = leb-true _ _ parts.1 in
    ((and_parts (is_name name) (not (is_reserved name)) parts.0).0, omega (arith, short))

plain_max : (kind : Kind) (max : ℕ) → is_plain_length kind max ≡ true → max < 256
plain_max Integer max is = let most : max ≤ 0 = leb-true _ _ is in omega (arith, most)
plain_max Text max is = let most : max ≤ 255 = leb-true _ _ (and_parts (nat_le 1 max) (nat_le max 255) is).1 in omega (arith, most)

plain_columns : (cs : List ColumnDecl) → list_all is_plain_name (names_of cs) ≡ true → list_all (λ (c : ColumnDecl). is_plain_length c.kind c.max) cs ≡ true → AllByRecursion IsColumn cs
plain_columns [] names lengths = tt
plain_columns (c ∷ cs) names lengths =
    let name = and_parts (is_plain_name c.name) (list_all is_plain_name (names_of cs)) names in
    let max = and_parts (is_plain_length c.kind c.max) (list_all (λ (d : ColumnDecl). is_plain_length d.kind d.max) cs) lengths in
    (record { name = plain_short c.name name.0; max = plain_max c.kind c.max max.0 }, plain_columns cs name.1 max.1)

small_keys : (width : ℕ) (ks : List KeyDecl) → width ≤ 32 → All (λ (k : KeyDecl). k.columns < 2 ^ width) ks → AllByRecursion IsKey ks
small_keys width [] few all = tt
small_keys width (k ∷ ks) few all =
    let most : 2 ^ width ≤ 2 ^ 32 = pow_mono few in
    let first : k.columns < 2 ^ width = All-head (λ (j : KeyDecl). j.columns < 2 ^ width) k ks all in
    (omega (arith, most, first), small_keys width ks few (All-tail (λ (j : KeyDecl). j.columns < 2 ^ width) k ks all))

table_parts_are : (t : TableRecord) → IsTable t → AreParts (parts_of t)
table_parts_are t is =
    let shape = is.shape in
    let few = is.few in
    let columns = shape.few_columns in
    let keys = shape.few_keys in
    let parts = and_parts (is_name t.name && not (is_reserved t.name)) (nat_le (length t.name) 255) is.named in
    let named = and_parts (is_name t.name) (not (is_reserved t.name)) parts.0 in
    let short : length t.name ≤ 255 = leb-true _ _ parts.1 in
    record {
      next = omega (arith, few);
      name = (named.0, omega (arith, short));
      columns = (plain_columns t.schema.columns shape.names shape.lengths, omega (arith, columns));
      keys = (small_keys (length t.schema.columns) t.schema.keys columns shape.keys_inside, omega (arith, keys));
    }

-- a table is found in its record
pub table_is : (bytes : List ℕ) (t : TableRecord) → IsTableRecord bytes t → table_at bytes ≡ Some (parts_of t)
table_is bytes t is = ap table_at is.spelled ∙ table_again (parts_of t) (table_parts_are t is.table)

pub one_table_record : (bytes : List ℕ) (a b : TableRecord) → IsTableRecord bytes a → IsTableRecord bytes b → a ≡ b
one_table_record bytes a b a_is b_is = ap table_of_parts (same_Some (parts_of a) (parts_of b) (sym (table_is bytes a a_is) ∙ table_is bytes b b_is))

-- parts that were found where they make a table
pub table_found : (bytes : List ℕ) (p : TableParts) (t : TableRecord) → IsBytes bytes → table_at bytes ≡ Some p → t ≡ table_of_parts p → IsTable t → IsTableRecord bytes t
table_found bytes p t fits found same is = record { spelled = (table_takes bytes p fits found).0 ∙ ap table_record (sym same); table = is }

pub short_found : (bytes : List ℕ) (p : TableParts) → IsBytes bytes → table_at bytes ≡ Some p → length p.name ≤ 255
short_found bytes p fits found = let name = (table_takes bytes p fits found).1.name.1 in omega (arith, name)

pub table_missed : (bytes : List ℕ) → table_at bytes ≡ None → (t : TableRecord) → IsTableRecord bytes t → ⊥
table_missed bytes none t is = let some = table_is bytes t is in cc

pub table_other : (bytes : List ℕ) (p : TableParts) → table_at bytes ≡ Some p → (t : TableRecord) → IsTableRecord bytes t → t ≡ table_of_parts p
table_other bytes p found t is = ap table_of_parts (same_Some (parts_of t) p (sym (table_is bytes t is) ∙ found))
