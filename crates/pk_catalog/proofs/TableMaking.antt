-- Tables of their parts.
use Rattle.std.proofs.Common.{◌≡◌, sym, ap, subst, ℕ, ◌^◌, ◌<◌, ◌≤◌, true, false, not, ◌&&◌, nat_le, List, [], ◌∷◌, length, All, Some, Result, Ok, Err, IsTrue, arith}
use Rattle.std.specs.List.{list_all, AllByRecursion}
use Rattle.std.proofs.lemmas.Bool.{and_parts, and_from, leb-true, le-leb, both_ways as not_both}
use Rattle.std.proofs.lemmas.List.Elements.{All-from_recursion, All-weaker}
use Rattle.std.proofs.Math.Pow.{pow_mono}
use Rattle.pk_values.specs.declared.key.KeyDecl.{KeyDecl}
use Rattle.pk_values.specs.ColumnSet.{IsColumnSet}
use Rattle.pk_values.specs.Name.{is_name}
use Rattle.pk_syntax.specs.declared.declaration.ColumnDecl.{ColumnDecl}
use Rattle.pk_syntax.specs.Declarations.{names_of}
use Rattle.pk_syntax.specs.Words.{is_reserved}
use Rattle.pk_schema.specs.Shapes.{Shape, IsShape, is_plain_name}
use Rattle.pk_catalog.specs.declared.cat_err.CatErr.{CatErr}
use Rattle.pk_catalog.specs.declared.cat_err.CatErr.TheVariants.{Bad, Memory}
use Rattle.pk_catalog.specs.declared.table_parts.TableParts.{TableParts}
use Rattle.pk_catalog.specs.declared.table_record.TableRecord.{TableRecord}
use Rattle.pk_catalog.specs.Records.{IsTable, IsTableRecord, Gets}
use Rattle.pk_catalog.specs.Making.{IsMadeOf, IsOfParts, is_head}
use Rattle.pk_catalog.specs.Reading.{Misses, table_at}
use Rattle.pk_catalog.proofs.PartReading.{IsBytes}
use Rattle.pk_catalog.proofs.OneRecord.{plain_short, table_of_parts, table_found, table_missed, table_other}

-- ---- writing

short_names : (cs : List ColumnDecl) → list_all is_plain_name (names_of cs) ≡ true → AllByRecursion (λ (c : ColumnDecl). length c.name ≤ 255) cs
short_names [] names = tt
short_names (c ∷ cs) names =
    let parts = and_parts (is_plain_name c.name) (list_all is_plain_name (names_of cs)) names in
    let short = (plain_short c.name parts.0).1 in
    (omega (arith, short), short_names cs parts.1)

pub short_columns : (s : Shape) (cs : List ColumnDecl) → IsShape s → cs ≡ s.columns → All (λ (c : ColumnDecl). length c.name ≤ 255) cs
short_columns s cs shape same = subst (All (λ (c : ColumnDecl). length c.name ≤ 255)) (sym same) (All-from_recursion (λ (c : ColumnDecl). length c.name ≤ 255) s.columns (short_names s.columns shape.names))

pub bounded_keys : (s : Shape) (ks : List KeyDecl) → IsShape s → ks ≡ s.keys → All (λ (k : KeyDecl). IsColumnSet k.columns) ks
bounded_keys s ks shape same =
    let few = shape.few_columns in
    let most : 2 ^ length s.columns ≤ 2 ^ 32 = pow_mono few in
    subst (All (λ (k : KeyDecl). IsColumnSet k.columns)) (sym same)
    (All-weaker (λ (k : KeyDecl). k.columns < 2 ^ length s.columns) (λ (k : KeyDecl). IsColumnSet k.columns) (λ k small. omega (arith, most, small)) s.keys shape.keys_inside)

-- ---- reading

pub head_wrong : (p : TableParts) → is_head p.next p.name ≡ false → (t : TableRecord) → IsOfParts p t → ⊥
head_wrong p other t is =
    let table : IsTable (table_of_parts p) = subst IsTable is.same is.table in
    let named = and_parts (is_name p.name && not (is_reserved p.name)) (nat_le (length p.name) 255) table.named in
    let free = (and_parts (is_name p.name) (not (is_reserved p.name)) named.0).1 in
    let head : is_head p.next p.name ≡ true =
    and_from (nat_le 1 p.next) (nat_le p.next 4611686018427387904 && not (is_reserved p.name)) (le-leb 1 p.next table.first)
    (and_from (nat_le p.next 4611686018427387904) (not (is_reserved p.name)) (le-leb p.next 4611686018427387904 table.few) free) in
    not_both (is_head p.next p.name) other head

pub table_made : (p : TableParts) (s : Shape) → is_head p.next p.name ≡ true → IsTrue (is_name p.name) → length p.name ≤ 255 → IsMadeOf p.columns p.keys s
    → IsOfParts p (record { name = p.name; schema = s; next = p.next })
table_made p s head name short is =
    let parts = and_parts (nat_le 1 p.next) (nat_le p.next 4611686018427387904 && not (is_reserved p.name)) head in
    let few = and_parts (nat_le p.next 4611686018427387904) (not (is_reserved p.name)) parts.1 in
    record {
      same = ap (λ t. record { name = p.name; schema = t; next = p.next }) is.same;
      table = record {
        named = and_from (is_name p.name && not (is_reserved p.name)) (nat_le (length p.name) 255) (and_from (is_name p.name) (not (is_reserved p.name)) name few.1) (le-leb (length p.name) 255 short);
        shape = is.shape;
        first = leb-true _ _ parts.0;
        few = leb-true _ _ few.0;
      };
    }

pub table_unmade : (p : TableParts) (e : CatErr) → Gets (IsMadeOf p.columns p.keys) (Err e) → Gets (IsOfParts p) (Err e)
table_unmade p Bad given = λ t is. given t.schema (record { same = ap (λ (u : TableRecord). u.schema) is.same; shape = is.table.shape })
table_unmade p Memory given = tt

pub table_given : (bytes : List ℕ) (p : TableParts) (r : Result TableRecord CatErr) → IsBytes bytes → table_at bytes ≡ Some p → Gets (IsOfParts p) r → Gets (IsTableRecord bytes) r
table_given bytes p (Ok t) fits found given = table_found bytes p t fits found given.same given.table
table_given bytes p (Err Bad) fits found given = λ t is. given t (record { same = table_other bytes p found t is; table = is.table })
table_given bytes p (Err Memory) fits found given = tt

pub table_error : (bytes : List ℕ) (e : CatErr) → Misses e (table_at bytes) → Gets (IsTableRecord bytes) (Err e)
table_error bytes Bad missed = table_missed bytes missed
table_error bytes Memory missed = tt
