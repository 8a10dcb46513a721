-- What is declared for a schema makes the schema again.
use Rattle.std.proofs.Common.{◌≡◌, refl, sym, ◌∙◌, ap, ℕ, ◌^◌, ◌<◌, ◌≤◌, Bool, true, not, ◌&&◌, ◌||◌, List, [], ◌∷◌, None, length, map, nat_le, IsTrue, arith}
use Rattle.std.specs.List.{find, flat_map, list_all, All}
use Rattle.std.proofs.lemmas.Bool.{and_parts, le-leb}
use Rattle.std.proofs.lemmas.List.{length-map}
use Rattle.std.proofs.lemmas.List.Elements.{All-head, All-tail, All-map, All-weaker}
use Rattle.std.proofs.lemmas.List.Folds.{list_all-append}
use Rattle.pk_values.specs.Name.{is_name}
use Rattle.pk_values.specs.Refusals.{first_some}
use Rattle.pk_values.specs.declared.key.KeyDecl.{KeyDecl}
use Rattle.pk_syntax.specs.declared.declaration.ColumnDecl.{ColumnDecl}
use Rattle.pk_syntax.specs.declared.declaration.KeyText.{KeyText}
use Rattle.pk_syntax.specs.Declarations.{has_column, has_name, names_of, names_in, is_plain, twice, first_of, is_certain, nullable_in, in_column_order}
use Rattle.pk_syntax.specs.Words.{is_reserved}
use Rattle.pk_schema.specs.Shapes.{Shape, IsShape, is_plain_name, has_few_nullable, key_of, key_text_of, decl_of, name_at, names_at}
use Rattle.pk_schema.specs.Making.{schema_refusals}
use Rattle.pk_schema.specs.Laws.{MakesTheSame}
use Rattle.pk_schema.proofs.CauseLemmas.{first_cause}
use Rattle.pk_schema.proofs.NamedLemmas.{at_each, at_set, is_named, not_twice, ordered, set_again}
use Rattle.pk_schema.proofs.ShapeLemmas.{few_nullable}
use Rattle.pk_values.proofs.ListLemmas.{all_weaker}

abbrev Inside : List ColumnDecl → KeyDecl → Type 0
Inside cols k = k.columns < 2 ^ length cols

abbrev with_columns : KeyDecl → ℕ → KeyDecl
with_columns k set = record { sort = k.sort; columns = set }

abbrev with_keys : Shape → List KeyDecl → Shape
with_keys s keys = record { columns = s.columns; keys = keys }

plain_is_name : (n : List ℕ) → is_plain_name n ≡ true → is_name n ≡ true
plain_is_name n plain = (and_parts _ _ (and_parts (is_name n && not (is_reserved n)) _ plain).0).0

plain_is_free : (n : List ℕ) → is_plain_name n ≡ true → not (is_reserved n) ≡ true
plain_is_free n plain = (and_parts _ _ (and_parts (is_name n && not (is_reserved n)) _ plain).0).1

plain_is_short : (n : List ℕ) → is_plain_name n ≡ true → nat_le (length n) 30 ≡ true
plain_is_short n plain = (and_parts (is_name n && not (is_reserved n)) _ plain).1

-- ---- names

names_in_keys : (p : List ℕ → Bool) (cols : List ColumnDecl) (keys : List KeyDecl) → ((k : ℕ) → k < length cols → p (name_at cols k) ≡ true) → All (Inside cols) keys
    → list_all p (flat_map (λ (k : KeyText). k.columns) (map (key_text_of cols) keys)) ≡ true
names_in_keys p cols [] each inside = refl
names_in_keys p cols (k ∷ ks) each inside =
    list_all-append p (names_at cols k.columns) (flat_map (λ (t : KeyText). t.columns) (map (key_text_of cols) ks))
    ∙ rw (at_set p cols k.columns each (All-head (Inside cols) k ks inside), names_in_keys p cols ks each (All-tail (Inside cols) k ks inside)) refl

all_names : (p : List ℕ → Bool) (table : List ℕ) (s : Shape) → p table ≡ true → list_all p (names_of s.columns) ≡ true → All (Inside s.columns) s.keys
    → list_all p (names_in (decl_of table s)) ≡ true
all_names p table s here all inside =
    list_all-append p (table ∷ names_of s.columns) (flat_map (λ (k : KeyText). k.columns) (map (key_text_of s.columns) s.keys))
    ∙ rw (here, all, names_in_keys p s.columns s.keys (λ k within. at_each p s.columns k all within) inside) refl

declared_plain : (table : List ℕ) (s : Shape) → IsTrue (is_plain_name table) → IsShape s → IsTrue (is_plain (decl_of table s))
declared_plain table s named shape =
    let free = all_names (λ n. not (is_reserved n)) table s (plain_is_free table named) (all_weaker is_plain_name _ plain_is_free (names_of s.columns) shape.names) shape.keys_inside in
    rw (has_some s.columns shape.some_column, free) shape.lengths
  where
    has_some : (cs : List ColumnDecl) → 1 ≤ length cs → has_column cs ≡ true
    has_some [] some = absurd (omega (arith, some))
    has_some (c ∷ cs) some = refl

-- ---- nothing is refused

none_found : (p : List ℕ → Bool) (ns : List (List ℕ)) → list_all p ns ≡ true → find (λ n. not (p n)) ns ≡ None
none_found p [] all = refl
none_found p (n ∷ ns) all =
    let parts = and_parts (p n) (list_all p ns) all in
    rw parts.0 (none_found p ns parts.1)

none_twice : (cols : List ColumnDecl) (keys : List KeyDecl) → length cols ≤ 32 → twice (names_of cols) ≡ None → All (Inside cols) keys
    → first_of (map (λ (k : KeyText). twice k.columns) (map (key_text_of cols) keys)) ≡ None
none_twice cols [] few distinct inside = refl
none_twice cols (k ∷ ks) few distinct inside =
    rw (not_twice cols k.columns few distinct (All-head (Inside cols) k ks inside)) (none_twice cols ks few distinct (All-tail (Inside cols) k ks inside))

key_again : (cols : List ColumnDecl) (k : KeyDecl) → length cols ≤ 32 → twice (names_of cols) ≡ None → Inside cols k → key_of cols (key_text_of cols k) ≡ k
key_again cols k few distinct inside = ap (with_columns k) (set_again cols k.columns few distinct inside)

keys_again : (cols : List ColumnDecl) (keys : List KeyDecl) → length cols ≤ 32 → twice (names_of cols) ≡ None → All (Inside cols) keys
    → map (key_of cols) (map (key_text_of cols) keys) ≡ keys
keys_again cols [] few distinct inside = refl
keys_again cols (k ∷ ks) few distinct inside =
    rw (key_again cols k few distinct (All-head (Inside cols) k ks inside), keys_again cols ks few distinct (All-tail (Inside cols) k ks inside)) refl

nullable_again : (cols : List ColumnDecl) (keys : List KeyDecl) → length cols ≤ 32 → twice (names_of cols) ≡ None → All (Inside cols) keys → list_all (has_few_nullable cols) keys ≡ true
    → list_all (λ (k : KeyText). not (is_certain k.sort) || nat_le (length (nullable_in cols k.columns)) 5) (map (key_text_of cols) keys) ≡ true
nullable_again cols [] few distinct inside all = refl
nullable_again cols (k ∷ ks) few distinct inside all =
    let parts = and_parts (has_few_nullable cols k) _ all in
    let here = sym (few_nullable cols few (key_text_of cols k)) ∙ ap (has_few_nullable cols) (key_again cols k few distinct (All-head (Inside cols) k ks inside)) ∙ parts.0 in
    rw (here, nullable_again cols ks few distinct (All-tail (Inside cols) k ks inside) parts.1) refl

declared_unrefused : (table : List ℕ) (s : Shape) → IsTrue (is_plain_name table) → IsShape s → first_some (schema_refusals (decl_of table s)) ≡ None
declared_unrefused table s named shape =
    let there = names_in_keys (has_name (names_of s.columns)) s.columns s.keys (λ k within. is_named s.columns k within) shape.keys_inside in
    (first_cause (decl_of table s)).none
    (none_found (has_name (names_of s.columns)) _ there)
    (rw shape.distinct (none_twice s.columns s.keys shape.few_columns shape.distinct shape.keys_inside))
    (rw (plain_is_short table named) (all_weaker is_plain_name _ plain_is_short (names_of s.columns) shape.names))
    (le-leb _ _ shape.few_columns)
    (le-leb _ _ (rw (length-map s.keys (key_text_of s.columns)) shape.few_keys))
    (nullable_again s.columns s.keys shape.few_columns shape.distinct shape.keys_inside shape.few_nullable)

pub declarations_make_the_same : (table : List ℕ) (s : Shape) → IsTrue (is_plain_name table) → IsShape s → MakesTheSame table s
declarations_make_the_same table s named shape = record {
  names = all_names is_name table s (plain_is_name table named) (all_weaker is_plain_name _ plain_is_name (names_of s.columns) shape.names) shape.keys_inside;
  plain = declared_plain table s named shape;
  ordered =
      All-map (λ (t : KeyText). in_column_order s.columns t.columns ≡ t.columns) (key_text_of s.columns) s.keys
      (All-weaker (Inside s.columns) _ (λ k small. ordered s.columns k.columns shape.few_columns shape.distinct small) s.keys shape.keys_inside);
  unrefused = declared_unrefused table s named shape;
  same = ap (with_keys s) (keys_again s.columns s.keys shape.few_columns shape.distinct shape.keys_inside);
}
