-- What a declaration makes where nothing refuses it.
use Rattle.std.proofs.Common.{◌≡◌, refl, sym, ◌∙◌, ap, ℕ, ◌^◌, ◌<◌, ◌≤◌, Bool, true, false, not, ◌&&◌, ◌||◌, List, [], ◌∷◌, ◌++◌, Option, Some, None, length, map, nat_le, IsTrue, arith}
use Rattle.std.specs.List.{list_all, flat_map, All}
use Rattle.std.proofs.lemmas.Bool.{and_parts, and_from, leb-true}
use Rattle.std.proofs.lemmas.List.Elements.{All-nil, All-cons, All-map}
use Rattle.std.proofs.lemmas.List.{length-map}
use Rattle.std.proofs.lemmas.List.Folds.{list_all-map, list_all-append}
use Rattle.pk_values.specs.Name.{is_name}
use Rattle.pk_values.specs.Refusals.{first_some}
use Rattle.pk_values.specs.declared.key.KeyDecl.{KeyDecl}
use Rattle.pk_values.specs.declared.refusal.LimitName.{LimitName}
use Rattle.pk_syntax.specs.declared.declaration.ColumnDecl.{ColumnDecl}
use Rattle.pk_syntax.specs.declared.declaration.KeyText.{KeyText}
use Rattle.pk_syntax.specs.declared.declaration.TableDecl.{TableDecl}
use Rattle.pk_syntax.specs.Declarations.{has_column, has_name, names_of, is_plain, twice, first_of, is_certain, nullable_in, names_are_short, columns_are_few, keys_are_few, nullable_are_few}
use Rattle.pk_syntax.specs.Words.{is_reserved}
use Rattle.pk_schema.specs.Shapes.{IsShape, shape_of, key_of, is_plain_name, has_few_nullable}
use Rattle.pk_schema.specs.Laws.{DeclarationsMakeShapes}
use Rattle.pk_schema.specs.Making.{schema_refusals, no_column, declared_twice, limit_unless}
use Rattle.pk_schema.proofs.SetLemmas.{set_small}
use Rattle.pk_schema.proofs.CountLemmas.{count_without}
use Rattle.pk_values.proofs.RefusalLemmas.{head_free}
use Rattle.pk_values.proofs.ListLemmas.{map_none, all_same}

-- none of the refusals stands
pub record Unrefused (decl : TableDecl) : Type 0 where
  pub no_column : no_column decl ≡ None
  pub twice : declared_twice decl ≡ None
  pub names : names_are_short decl ≡ true
  pub columns : columns_are_few decl ≡ true
  pub keys : keys_are_few decl ≡ true
  pub nullable : nullable_are_few decl ≡ true

within_limit : (what : LimitName) (b : Bool) → limit_unless what b ≡ None → b ≡ true
within_limit what true free = refl
within_limit what false free = absurd (cc)

pub unrefused : (decl : TableDecl) → first_some (schema_refusals decl) ≡ None → Unrefused decl
unrefused decl free =
    let one = head_free _ _ free in
    let two = head_free _ _ one.1 in
    let three = head_free _ _ two.1 in
    let four = head_free _ _ three.1 in
    let five = head_free _ _ four.1 in
    let six = head_free _ _ five.1 in
    record {
      no_column = one.0;
      twice = two.0;
      names = within_limit _ _ three.0;
      columns = within_limit _ _ four.0;
      keys = within_limit _ _ five.0;
      nullable = within_limit _ _ six.0;
    }

none_first : {A : Type 0} (o : Option A) (os : List (Option A)) → first_of (o ∷ os) ≡ None → o ≡ None
none_first None os none = refl
none_first (Some x) os none = absurd (cc)

columns_distinct : (decl : TableDecl) → declared_twice decl ≡ None → twice (names_of decl.columns) ≡ None
unfolding declared_twice
columns_distinct decl none = none_first _ _ (map_none _ _ none)

three_hold : (a b c : Bool) → a ≡ true → b ≡ true → c ≡ true → (a && b && c) ≡ true
three_hold a b c x y z = rw (x, y, z) refl

column_names : (names : List (List ℕ)) → list_all is_name names ≡ true → list_all (λ n. not (is_reserved n)) names ≡ true → list_all (λ n. nat_le (length n) 30) names ≡ true
    → list_all is_plain_name names ≡ true
column_names [] names free short = refl
column_names (n ∷ ns) names free short =
    let a = and_parts _ _ names in
    let b = and_parts _ _ free in
    let c = and_parts _ _ short in
    rw (three_hold (is_name n) (not (is_reserved n)) (nat_le (length n) 30) a.0 b.0 c.0) (column_names ns a.1 b.1 c.1)

all_everywhere : {X : Type 0} (P : X → Type 0) → ((x : X) → P x) → (xs : List X) → All P xs
all_everywhere P holds [] = All-nil P
all_everywhere P holds (x ∷ xs) = All-cons P x xs (holds x) (all_everywhere P holds xs)

pub few_nullable : (cols : List ColumnDecl) → length cols ≤ 32 → (k : KeyText)
    → has_few_nullable cols (key_of cols k) ≡ (not (is_certain k.sort) || nat_le (length (nullable_in cols k.columns)) 5)
few_nullable cols few k =
    ap (λ n. not (is_certain k.sort) || nat_le n 5) (count_without (λ (c : ColumnDecl). has_name k.columns c.name) (λ (c : ColumnDecl). c.not_null) cols few)

pub made_shape : (decl : TableDecl) → IsTrue (is_plain decl) → first_some (schema_refusals decl) ≡ None → list_all is_name (names_of decl.columns) ≡ true → IsShape (shape_of decl)
made_shape decl plain free names =
    let u = unrefused decl free in
    let parts = and_parts _ _ plain in
    let front = and_parts _ _ parts.0 in
    let few : length decl.columns ≤ 32 = leb-true _ _ u.columns in
    let unreserved = and_parts _ _ front.1 in
    record {
      some_column = at_least_one decl.columns front.0;
      few_columns = few;
      names = column_names (names_of decl.columns) names (and_parts _ _ (sym (list_all-append (λ n. not (is_reserved n)) (names_of decl.columns) _) ∙ unreserved.1)).0 (and_parts _ _ u.names).1;
      distinct = columns_distinct decl u.twice;
      lengths = parts.1;
      few_keys = rw (length-map decl.keys (key_of decl.columns)) (leb-true _ _ u.keys);
      keys_inside = All-map (λ (k : KeyDecl). k.columns < 2 ^ length decl.columns) (key_of decl.columns) decl.keys (all_everywhere _ (λ k. set_small (λ (c : ColumnDecl). has_name k.columns c.name) decl.columns) decl.keys);
      few_nullable = list_all-map (has_few_nullable decl.columns) (key_of decl.columns) decl.keys ∙ all_same _ _ (few_nullable decl.columns few) decl.keys ∙ u.nullable;
    }
  where
    at_least_one : (cs : List ColumnDecl) → has_column cs ≡ true → 1 ≤ length cs
    at_least_one [] some = absurd (cc)
    at_least_one (c ∷ cs) some = omega arith

-- and its table may have its name
pub declarations_make_shapes : DeclarationsMakeShapes
declarations_make_shapes decl plain names free =
    let unreserved = and_parts _ _ (and_parts _ _ (and_parts _ _ plain).0).1 in
    let named = and_parts (is_name decl.table) (list_all is_name (names_of decl.columns ++ flat_map (λ (k : KeyText). k.columns) decl.keys)) names in (
      and_from _ _ (and_from _ _ named.0 unreserved.0) (and_parts _ _ (unrefused decl free).names).0,
      made_shape decl plain free (and_parts _ _ (sym (list_all-append is_name (names_of decl.columns) (flat_map (λ (k : KeyText). k.columns) decl.keys)) ∙ named.1)).0,
    )

pub few_columns : (decl : TableDecl) (columns : List ColumnDecl) → first_some (schema_refusals decl) ≡ None → columns ≡ decl.columns → length columns ≤ 32
few_columns decl columns free same = let few : length decl.columns ≤ 32 = leb-true _ _ (unrefused decl free).columns in rw same few

pub copied_shape : (decl : TableDecl) (read columns : List ColumnDecl) (texts : List KeyText) (keys : List KeyDecl) → IsTrue (is_plain decl) → first_some (schema_refusals decl) ≡ None
    → read ≡ decl.columns → list_all is_name (names_of read) ≡ true → columns ≡ read → texts ≡ decl.keys → keys ≡ map (key_of columns) texts
    → IsShape (record { columns = columns; keys = keys })
copied_shape decl read columns texts keys plain free same names copied listed made =
    let all : columns ≡ decl.columns = copied ∙ same in
    let keyed : keys ≡ map (key_of decl.columns) decl.keys = made ∙ ap (λ cs. map (key_of cs) texts) all ∙ ap (map (key_of decl.columns)) listed in
    rw (all, keyed) (made_shape decl plain free (ap (λ cs. list_all is_name (names_of cs)) (sym same) ∙ names))
