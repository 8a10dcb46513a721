-- Schemas of columns and of keys by their sets.
use Rattle.std.proofs.Common.{◌≡◌, refl, sym, ◌∙◌, ap, subst, ℕ, zero, suc, ◌^◌, ◌<◌, ◌≤◌, Bool, true, false, not, ◌&&◌, ◌==◌, nat_lt, List, [], ◌∷◌, ◌++◌, length, get_or, map, All, append_assoc, Some, None, Result, Ok, Err, IsTrue, arith}
use Rattle.std.specs.List.{list_all, filter, flat_map, zip}
use Rattle.std.proofs.lemmas.Bool.{and_parts, and_from, eqb-true, eq-eqb, lt-ltb, le-ltb, both_ways as not_both}
use Rattle.std.proofs.lemmas.List.Concat.{flat_map-cons}
use Rattle.std.proofs.lemmas.List.Elements.{All-head, All-tail}
use Rattle.std.proofs.lemmas.List.Folds.{list_all-append, list_all-map}
use Rattle.std.proofs.lemmas.List.{append-nil}
use Rattle.std.proofs.lemmas.Option.{same_Some}
use Rattle.pk_values.specs.declared.key.KeyDecl.{KeyDecl}
use Rattle.pk_values.specs.declared.key.Sort.{Sort}
use Rattle.pk_values.specs.declared.key.Sort.TheVariants.{Certain, Possible}
use Rattle.pk_values.specs.ColumnSet.{columns}
use Rattle.pk_values.specs.declared.refusal.Refusal.{Refusal}
use Rattle.pk_values.specs.Refusals.{first_some}
use Rattle.pk_values.proofs.ColumnLemmas.{columns_below}
use Rattle.pk_syntax.specs.declared.declaration.ColumnDecl.{ColumnDecl}
use Rattle.pk_syntax.specs.declared.declaration.KeyText.{KeyText}
use Rattle.pk_syntax.specs.declared.declaration.TableDecl.{TableDecl}
use Rattle.pk_syntax.specs.Declarations.{has_column, names_of, names_in, is_plain, is_plain_length}
use Rattle.pk_syntax.specs.Words.{is_reserved}
use Rattle.pk_schema.specs.Shapes.{Shape, IsShape, shape_of, decl_of, key_text_of, name_at, names_at, is_plain_name}
use Rattle.pk_schema.specs.Making.{schema_refusals}
use Rattle.pk_schema.specs.Laws.{DeclarationsMakeTheSame}
use Rattle.pk_catalog.specs.declared.cat_err.CatErr.{CatErr}
use Rattle.pk_catalog.specs.declared.cat_err.CatErr.TheVariants.{Bad, Memory}
use Rattle.pk_catalog.specs.Records.{Gets}
use Rattle.pk_catalog.specs.Reading.{Misses}
use Rattle.pk_catalog.specs.Making.{IsMadeOf, IsDeclared, HasKeys, has_free_names, is_plain_by_parts, decl_inside, same_sort, same_key, same_keys, names_inside, key_text_inside}

-- ---- names of columns

filter_all : (p : ℕ → Bool) (xs : List ℕ) → list_all p xs ≡ true → filter p xs ≡ xs
filter_all p [] all = refl
filter_all p (x ∷ xs) all = let parts = and_parts (p x) (list_all p xs) all in rw (parts.0, filter_all p xs parts.1) refl

-- a table has all columns of a set inside it
inside_names : (cs : List ColumnDecl) (set : ℕ) → set < 2 ^ length cs → names_inside cs set ≡ names_at cs set
unfolding names_inside
inside_names cs set small = ap (map (name_at cs)) (filter_all (λ c. nat_lt c (length cs)) (columns set) (columns_below set (length cs) small))

inside_keys : (cs : List ColumnDecl) (ks : List KeyDecl) → All (λ (k : KeyDecl). k.columns < 2 ^ length cs) ks → map (key_text_inside cs) ks ≡ map (key_text_of cs) ks
inside_keys cs [] all = refl
inside_keys cs (k ∷ ks) all =
    let first : key_text_inside cs k ≡ key_text_of cs k = ap (λ names. record { sort = k.sort; columns = names }) (inside_names cs k.columns (All-head (λ (j : KeyDecl). j.columns < 2 ^ length cs) k ks all)) in
    ap (λ t. t ∷ map (key_text_inside cs) ks) first ∙ ap (λ ts. key_text_of cs k ∷ ts) (inside_keys cs ks (All-tail (λ (j : KeyDecl). j.columns < 2 ^ length cs) k ks all))

name_read : (cs : List ColumnDecl) (c : ℕ) (d : ColumnDecl) → c < length cs → name_at cs c ≡ (get_or cs c d).name
name_read [] c d within = absurd (omega (arith, within))
name_read (e ∷ es) zero d within = refl
name_read (e ∷ es) (suc c) d within = name_read es c d (omega (arith, within))

-- one name more
pub name_more : (cs : List ColumnDecl) (set rest c : ℕ) (names pushed : List (List ℕ)) (name : List ℕ) (d : ColumnDecl)
    → columns set ≡ c ∷ columns rest → c < length cs → name ≡ (get_or cs c d).name → pushed ≡ names ++ name ∷ []
    → pushed ++ names_inside cs rest ≡ names ++ names_inside cs set
unfolding names_inside
name_more cs set rest c names pushed name d split within copied more =
    let kept : filter (λ k. nat_lt k (length cs)) (c ∷ columns rest) ≡ c ∷ filter (λ k. nat_lt k (length cs)) (columns rest) = rw (lt-ltb c (length cs) within) refl in
    ap (λ xs. xs ++ names_inside cs rest) more ∙ append_assoc names (name ∷ []) (names_inside cs rest)
    ∙ ap (λ n. names ++ n ∷ names_inside cs rest) (copied ∙ sym (name_read cs c d within))
    ∙ ap (λ xs. names ++ map (name_at cs) xs) (sym kept ∙ ap (filter (λ k. nat_lt k (length cs))) (sym split))

-- a column that the table doesn't have
pub name_passed : (cs : List ColumnDecl) (set rest c : ℕ) (names : List (List ℕ)) → columns set ≡ c ∷ columns rest → length cs ≤ c → names ++ names_inside cs rest ≡ names ++ names_inside cs set
unfolding names_inside
name_passed cs set rest c names split high =
    let passed : filter (λ k. nat_lt k (length cs)) (c ∷ columns rest) ≡ filter (λ k. nat_lt k (length cs)) (columns rest) = rw (le-ltb c (length cs) high) refl in
    ap (λ xs. names ++ map (name_at cs) xs) (sym passed ∙ ap (filter (λ k. nat_lt k (length cs))) (sym split))

-- no column is left
pub no_more : (cs : List ColumnDecl) (set rest : ℕ) (names : List (List ℕ)) → columns rest ≡ [] → names ++ names_inside cs rest ≡ names_inside cs set → names ≡ names_inside cs set
unfolding names_inside
no_more cs set rest names none all = sym (append-nil names) ∙ ap (λ xs. names ++ map (name_at cs) (filter (λ k. nat_lt k (length cs)) xs)) (sym none) ∙ all

-- ---- keys

sorts_same : (a b : Sort) → same_sort a b ≡ true → a ≡ b
sorts_same Certain Certain same = refl
sorts_same Certain Possible same = absurd cc
sorts_same Possible Certain same = absurd cc
sorts_same Possible Possible same = refl

sort_itself : (a : Sort) → same_sort a a ≡ true
sort_itself Certain = refl
sort_itself Possible = refl

key_same : (a b : KeyDecl) → same_key a b ≡ true → a ≡ b
key_same a b same =
    let parts = and_parts (a.columns == b.columns) (same_sort a.sort b.sort) same in
    ap (λ s. record { sort = s; columns = a.columns }) (sorts_same a.sort b.sort parts.1) ∙ ap (λ n. record { sort = b.sort; columns = n }) (eqb-true a.columns b.columns parts.0)

key_itself : (a : KeyDecl) → same_key a a ≡ true
key_itself a = and_from (a.columns == a.columns) (same_sort a.sort a.sort) (eq-eqb a.columns a.columns refl) (sort_itself a.sort)

pairs_same : (ks ls : List KeyDecl) → length ks ≡ length ls → list_all (λ pair. same_key pair.0 pair.1) (zip ks ls) ≡ true → ks ≡ ls
pairs_same [] [] len same = refl
pairs_same [] (l ∷ ls) len same = absurd (omega (arith, len))
pairs_same (k ∷ ks) [] len same = absurd (omega (arith, len))
pairs_same (k ∷ ks) (l ∷ ls) len same =
    let pairs = and_parts (same_key k l) (list_all (λ pair. same_key pair.0 pair.1) (zip ks ls)) same in
    ap (λ j. j ∷ ks) (key_same k l pairs.0) ∙ ap (λ js. l ∷ js) (pairs_same ks ls (omega (arith, len)) pairs.1)

pub keys_same : (ks ls : List KeyDecl) → same_keys ks ls ≡ true → ks ≡ ls
unfolding same_keys
keys_same ks ls same =
    let parts = and_parts (length ks == length ls) (list_all (λ pair. same_key pair.0 pair.1) (zip ks ls)) same in
    pairs_same ks ls (eqb-true (length ks) (length ls) parts.0) parts.1

pub keys_themselves : (ks : List KeyDecl) → same_keys ks ks ≡ true
unfolding same_keys
keys_themselves ks = and_from (length ks == length ks) (list_all (λ pair. same_key pair.0 pair.1) (zip ks ks)) (eq-eqb (length ks) (length ks) refl) (each ks)
  where
    each : (js : List KeyDecl) → list_all (λ pair. same_key pair.0 pair.1) (zip js js) ≡ true
    each [] = refl
    each (j ∷ js) = and_from (same_key j j) (list_all (λ pair. same_key pair.0 pair.1) (zip js js)) (key_itself j) (each js)

-- ---- plain declarations

abbrev pub is_free : List ℕ → Bool
is_free name = not (is_reserved name)

free_keys : (ks : List KeyText) → list_all is_free (flat_map (λ (k : KeyText). k.columns) ks) ≡ list_all (λ (k : KeyText). list_all is_free k.columns) ks
free_keys [] = refl
free_keys (k ∷ ks) =
    ap (list_all is_free) (flat_map-cons (λ (j : KeyText). j.columns) k ks) ∙ list_all-append is_free k.columns (flat_map (λ (j : KeyText). j.columns) ks)
    ∙ ap (λ b. list_all is_free k.columns && b) (free_keys ks)

-- the names of a declaration by its table, its columns and its keys
pub free_names : (decl : TableDecl)
    → list_all is_free (names_in decl) ≡ (is_free decl.table && (list_all (λ (c : ColumnDecl). is_free c.name) decl.columns && list_all (λ (k : KeyText). list_all is_free k.columns) decl.keys))
free_names decl =
    ap (λ b. is_free decl.table && b)
    (list_all-append is_free (names_of decl.columns) (flat_map (λ (k : KeyText). k.columns) decl.keys)
    ∙ ap (λ b. b && list_all is_free (flat_map (λ (k : KeyText). k.columns) decl.keys)) (list_all-map is_free (λ (c : ColumnDecl). c.name) decl.columns)
    ∙ ap (λ b. list_all (λ (c : ColumnDecl). is_free c.name) decl.columns && b) (free_keys decl.keys))

pub plain_parts : (decl : TableDecl) → is_plain decl ≡ is_plain_by_parts decl
plain_parts decl =
    ap (λ b. (has_column decl.columns && b) && list_all (λ (c : ColumnDecl). is_plain_length c.kind c.max) decl.columns) (free_names decl)
    ∙ regrouped (has_column decl.columns) (has_free_names decl) (list_all (λ (c : ColumnDecl). is_plain_length c.kind c.max) decl.columns)
  where
    regrouped : (a b c : Bool) → ((a && b) && c) ≡ (a && (b && c))
    regrouped true b c = refl
    regrouped false b c = refl

pub plain_from_parts : (decl : TableDecl) → is_plain_by_parts decl ≡ true → IsTrue (is_plain decl)
plain_from_parts decl is = plain_parts decl ∙ is

-- ---- schemas

-- what is made of columns and keys is declared so, under the first column's name
pub made_declared : DeclarationsMakeTheSame → (table : List ℕ) (cs : List ColumnDecl) (ks : List KeyDecl) (s : Shape) → IsTrue (is_plain_name table) → IsMadeOf cs ks s
    → IsDeclared (record { table = table; columns = cs; keys = map (key_text_inside cs) ks }) ks s
made_declared same table cs ks s named is =
    let shape : IsShape (record { columns = cs; keys = ks }) = subst IsShape is.same is.shape in
    let law = same table (record { columns = cs; keys = ks }) named shape in
    let decl : TableDecl = record { table = table; columns = cs; keys = map (key_text_inside cs) ks } in
    let as_declared : decl_of table (record { columns = cs; keys = ks }) ≡ decl = ap (λ texts. record { table = table; columns = cs; keys = texts }) (sym (inside_keys cs ks shape.keys_inside)) in
    record {
      plain = subst (λ d. IsTrue (is_plain d)) as_declared law.plain;
      unrefused = subst (λ d. first_some (schema_refusals d) ≡ None) as_declared law.unrefused;
      same = is.same ∙ sym law.same ∙ ap shape_of as_declared;
      kept = ap (λ (t : Shape). t.keys) is.same;
      shape = is.shape;
    }

-- the first column's name may be a table's
pub first_named : (c : ColumnDecl) (cs : List ColumnDecl) (ks : List KeyDecl) (s : Shape) → IsMadeOf (c ∷ cs) ks s → IsTrue (is_plain_name c.name)
first_named c cs ks s is =
    let shape : IsShape (record { columns = c ∷ cs; keys = ks }) = subst IsShape is.same is.shape in
    (and_parts (is_plain_name c.name) (list_all is_plain_name (names_of cs)) shape.names).0

pub no_column : (ks : List KeyDecl) (s : Shape) → IsMadeOf [] ks s → ⊥
no_column ks s is =
    let shape : IsShape (record { columns = []; keys = ks }) = subst IsShape is.same is.shape in
    let some = shape.some_column in
    omega (arith, some)

-- and what is declared so is made of them
pub declared_made : (table : List ℕ) (cs : List ColumnDecl) (ks : List KeyDecl) (s : Shape) → IsDeclared (record { table = table; columns = cs; keys = map (key_text_inside cs) ks }) ks s → IsMadeOf cs ks s
declared_made table cs ks s is = record {
  same = ap (λ cols. record { columns = cols; keys = s.keys }) (ap (λ (t : Shape). t.columns) is.same) ∙ ap (λ keys. record { columns = cs; keys = keys }) is.kept;
  shape = is.shape;
}

-- what was made where its keys are these
pub with_these : (made : Shape) (ks : List KeyDecl) → IsShape made → same_keys made.keys ks ≡ true → HasKeys made ks made
with_these made ks shape same = record { same = refl; kept = keys_same made.keys ks same; shape = shape }

pub with_others : (made : Shape) (ks : List KeyDecl) → same_keys made.keys ks ≡ false → (s : Shape) → HasKeys made ks s → ⊥
with_others made ks other s is =
    let same : made.keys ≡ ks = ap (λ (t : Shape). t.keys) (sym is.same) ∙ is.kept in
    not_both (same_keys made.keys ks) other (subst (λ js. same_keys made.keys js ≡ true) same (keys_themselves made.keys))

-- a declaration that isn't plain, or is refused something, declares nothing
pub not_plain : (decl : TableDecl) (ks : List KeyDecl) → is_plain_by_parts decl ≡ false → (s : Shape) → IsDeclared decl ks s → ⊥
not_plain decl ks other s is = not_both (is_plain decl) (plain_parts decl ∙ other) is.plain

pub refused : (decl : TableDecl) (ks : List KeyDecl) (r : Refusal) → first_some (schema_refusals decl) ≡ Some r → (s : Shape) → IsDeclared decl ks s → ⊥
refused decl ks r some s is = let none = is.unrefused in let both = sym some ∙ none in no_some r both
  where
    no_some : (q : Refusal) → Some q ≡ None → ⊥
    no_some q same = cc

pub made_given : (decl : TableDecl) (ks : List KeyDecl) (made : Shape) (r : Result Shape CatErr) → IsTrue (is_plain decl) → first_some (schema_refusals decl) ≡ None → made ≡ shape_of decl
    → Gets (HasKeys made ks) r → Gets (IsDeclared decl ks) r
made_given decl ks made (Ok s) plain unrefused is given = record { plain = plain; unrefused = unrefused; same = given.same ∙ is; kept = given.kept; shape = given.shape }
made_given decl ks made (Err Bad) plain unrefused is given = λ s declared. given s (record { same = declared.same ∙ sym is; kept = declared.kept; shape = declared.shape })
made_given decl ks made (Err Memory) plain unrefused is given = tt

-- what was declared of columns and keys
pub schema_given : DeclarationsMakeTheSame → (cs : List ColumnDecl) (ks : List KeyDecl) (decl : TableDecl) (r : Result Shape CatErr) → decl_inside cs ks ≡ Some decl
    → Gets (IsDeclared decl ks) r → Gets (IsMadeOf cs ks) r
schema_given same [] ks decl r found given = absurd cc
schema_given same (c ∷ cs) ks decl r found given =
    by_result r (subst (λ d. Gets (IsDeclared d ks) r) (sym (same_Some (record { table = c.name; columns = c ∷ cs; keys = map (key_text_inside (c ∷ cs)) ks }) decl found)) given)
  where
    by_result : (q : Result Shape CatErr) → Gets (IsDeclared (record { table = c.name; columns = c ∷ cs; keys = map (key_text_inside (c ∷ cs)) ks }) ks) q → Gets (IsMadeOf (c ∷ cs) ks) q
    by_result (Ok s) made = declared_made c.name (c ∷ cs) ks s made
    by_result (Err Bad) none = λ s is. none s (made_declared same c.name (c ∷ cs) ks s (first_named c cs ks s is) is)
    by_result (Err Memory) any = tt

pub schema_error : (cs : List ColumnDecl) (ks : List KeyDecl) (e : CatErr) → Misses e (decl_inside cs ks) → Gets (IsMadeOf cs ks) (Err e)
schema_error [] ks Bad missed = no_column ks
schema_error (c ∷ cs) ks Bad missed = absurd cc
schema_error cs ks Memory missed = tt
