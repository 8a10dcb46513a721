-- What the parts of a CREATE TABLE declare is plain, and its names are names.
use Rattle.std.proofs.Common.{◌≡◌, ℕ, Bool, true, ◌&&◌, not, List, [], ◌∷◌, ◌++◌, map, Some, refl, subst, ◌∙◌}
use Rattle.std.specs.Prelude.{codes}
use Rattle.std.specs.List.{list_all, filter_map, flat_map}
use Rattle.std.proofs.lemmas.Bool.{le-leb, and_parts}
use Rattle.std.proofs.lemmas.List.Folds.{list_all-append}
use Rattle.pk_values.specs.Name.{is_name}
use Rattle.pk_lex.specs.declared.token.Token.{Token}
use Rattle.pk_lex.specs.declared.token.Token.TheVariants.{Word}
use Rattle.pk_lex.specs.Tokens.{is_token}
use Rattle.pk_syntax.specs.declared.statement.Statement.{Statement}
use Rattle.pk_syntax.specs.declared.declaration.TableDecl.{TableDecl}
use Rattle.pk_syntax.specs.declared.declaration.ColumnDecl.{ColumnDecl}
use Rattle.pk_syntax.specs.declared.declaration.KeyText.{KeyText}
use Rattle.pk_parse.specs.declared.table_part.TablePart.{TablePart}
use Rattle.pk_parse.specs.declared.table_part.TablePart.TheVariants.{Column, Key}
use Rattle.pk_parse.specs.declared.table_part.ColumnText.{ColumnText}
use Rattle.pk_parse.specs.declared.table_part.ColumnForm.{ColumnForm}
use Rattle.pk_parse.specs.declared.table_part.KeyPart.{KeyPart}
use Rattle.pk_parse.specs.declared.table_part.Mark.{Mark}
use Rattle.pk_parse.specs.declared.table_part.Mark.TheVariants.{NotNull, Unique, Primary}
use Rattle.pk_syntax.specs.Words.{is_reserved}
use Rattle.pk_parse.specs.Create.{key_of_mark, keys_of_part, keys_of, columns_of, declared_columns, declared_by, declared}
use Rattle.pk_syntax.specs.Declarations.{names_of, names_in, is_plain_length, is_plain}
use Rattle.pk_parse.specs.LiteralGrammar.{IsFree}
use Rattle.pk_parse.specs.Grammar.{IsName, IsNames, IsForm, IsKey, IsKeyPart, IsPart, IsStatement}
use Rattle.pk_parse.specs.Grammar as grammar
use Rattle.pk_syntax.specs.Given.{declares_plain, names_are_names}
use Rattle.pk_parse.proofs.TokensGiven.{AreTokens, behind_token, behind_two, parens_given}

-- it is a name, and isn't reserved
abbrev is_free : List ℕ → Bool
is_free name = is_name name && not (is_reserved name)

-- a word that isn't reserved
free_is : (name : List ℕ) (behind : List Token) → IsFree name → AreTokens (Word name ∷ behind) → is_free name ≡ true
free_is name behind free are = rw ((and_parts (is_name name) (list_all is_token behind) are).0, free) refl

name_free : (tokens : List Token) (name : List ℕ) → IsName tokens name → AreTokens tokens → is_free name ≡ true
name_free tokens name (grammar.named word free) are = free_is word [] free are

names_free : (tokens : List Token) (names : List (List ℕ)) → IsNames tokens names → AreTokens tokens → list_all is_free names ≡ true
names_free tokens names grammar.no_names are = refl
names_free tokens names (grammar.some_names ts ns parens) are = parens_given IsName is_free name_free ns ts parens are

key_free : (tokens : List Token) (k : KeyText) → IsKey tokens k → AreTokens tokens → list_all is_free k.columns ≡ true
key_free tokens k (grammar.certain ts columns is) are = names_free ts columns is (behind_two (codes "certain") (codes "key") ts are)
key_free tokens k (grammar.possible ts columns is) are = names_free ts columns is (behind_two (codes "possible") (codes "key") ts are)

key_part_free : (tokens : List Token) (k : KeyPart) → IsKeyPart tokens k → AreTokens tokens → list_all is_free k.key.columns ≡ true
key_part_free tokens k (grammar.plain_key ts key is) are = key_free ts key is are
key_part_free tokens k (grammar.unique_key ts columns is) are = names_free ts columns is (behind_token (Word (codes "unique")) ts are)
key_part_free tokens k (grammar.primary_key ts columns is) are = names_free ts columns is (behind_two (codes "primary") (codes "key") ts are)

abbrev form_fits : ColumnForm → Bool
form_fits f = is_plain_length f.kind f.max

form_plain : (tokens : List Token) (f : ColumnForm) → IsForm tokens f → form_fits f ≡ true
form_plain tokens f grammar.integer = refl
form_plain tokens f grammar.int = refl
form_plain tokens f grammar.bigint = refl
form_plain tokens f grammar.text = refl
form_plain tokens f (grammar.varchar digits least most) = rw (le-leb 1 _ least, le-leb _ 255 most) refl

-- a part with free names, and a length that fits
abbrev is_fine : TablePart → Bool
is_fine (Column c) = is_free c.name && form_fits c.form
is_fine (Key k) = list_all is_free k.key.columns

part_fine : (tokens : List Token) (p : TablePart) → IsPart tokens p → AreTokens tokens → is_fine p ≡ true
part_fine tokens p (grammar.column name types more form marks free is marked) are = rw (free_is name (types ++ more) free are, form_plain types form is) refl
part_fine tokens p (grammar.key ts k is) are = key_part_free ts k is are

-- ---- from the parts to what they declare

columns_free : (parts : List TablePart) → list_all is_fine parts ≡ true → list_all (λ (c : ColumnText). is_free c.name) (columns_of parts) ≡ true
columns_free [] fine = refl
columns_free (Column c ∷ ps) fine =
    let both = and_parts (is_free c.name && form_fits c.form) (list_all is_fine ps) fine in
    rw ((and_parts (is_free c.name) (form_fits c.form) both.0).0) (columns_free ps both.1)
columns_free (Key k ∷ ps) fine = columns_free ps (and_parts (list_all is_free k.key.columns) (list_all is_fine ps) fine).1

columns_fit : (parts : List TablePart) → list_all is_fine parts ≡ true → list_all (λ (c : ColumnText). form_fits c.form) (columns_of parts) ≡ true
columns_fit [] fine = refl
columns_fit (Column c ∷ ps) fine =
    let both = and_parts (is_free c.name && form_fits c.form) (list_all is_fine ps) fine in
    rw ((and_parts (is_free c.name) (form_fits c.form) both.0).1) (columns_fit ps both.1)
columns_fit (Key k ∷ ps) fine = columns_fit ps (and_parts (list_all is_free k.key.columns) (list_all is_fine ps) fine).1

-- the names in keys are free
abbrev keys_free : List KeyPart → Bool
keys_free keys = list_all (λ (k : KeyPart). list_all is_free k.key.columns) keys

marks_free : (name : List ℕ) → is_free name ≡ true → (marks : List Mark) → keys_free (filter_map (key_of_mark name) marks) ≡ true
marks_free name free [] = refl
marks_free name free (NotNull ∷ ms) = marks_free name free ms
marks_free name free (Unique ∷ ms) = rw free (marks_free name free ms)
marks_free name free (Primary ∷ ms) = rw free (marks_free name free ms)

part_keys_free : (p : TablePart) → is_fine p ≡ true → keys_free (keys_of_part p) ≡ true
part_keys_free (Column c) fine = marks_free c.name (and_parts (is_free c.name) (form_fits c.form) fine).0 c.marks
part_keys_free (Key k) fine = rw fine refl

all_keys_free : (parts : List TablePart) → list_all is_fine parts ≡ true → keys_free (keys_of parts) ≡ true
all_keys_free [] fine = refl
all_keys_free (p ∷ ps) fine =
    let both = and_parts (is_fine p) (list_all is_fine ps) fine in
    list_all-append (λ (k : KeyPart). list_all is_free k.key.columns) (keys_of_part p) (keys_of ps) ∙ rw (part_keys_free p both.0) (all_keys_free ps both.1)

-- all names of the keys
key_names_free : (keys : List KeyPart) → keys_free keys ≡ true → list_all is_free (flat_map (λ (k : KeyText). k.columns) (map (λ (k : KeyPart). k.key) keys)) ≡ true
key_names_free [] free = refl
key_names_free (k ∷ ks) free =
    let both = and_parts (list_all is_free k.key.columns) (keys_free ks) free in
    list_all-append is_free k.key.columns (flat_map (λ (k : KeyText). k.columns) (map (λ (k : KeyPart). k.key) ks)) ∙ rw (both.0) (key_names_free ks both.1)

column_names_free : (keys : List KeyPart) (columns : List ColumnText) → list_all (λ (c : ColumnText). is_free c.name) columns ≡ true → list_all is_free (names_of (declared_columns keys columns)) ≡ true
column_names_free keys [] free = refl
column_names_free keys (c ∷ cs) free =
    let both = and_parts (is_free c.name) (list_all (λ (c : ColumnText). is_free c.name) cs) free in
    rw (both.0) (column_names_free keys cs both.1)

column_lengths_fit : (keys : List KeyPart) (columns : List ColumnText) → list_all (λ (c : ColumnText). form_fits c.form) columns ≡ true → list_all (λ (c : ColumnDecl). is_plain_length c.kind c.max) (declared_columns keys columns) ≡ true
column_lengths_fit keys [] fit = refl
column_lengths_fit keys (c ∷ cs) fit =
    let both = and_parts (form_fits c.form) (list_all (λ (c : ColumnText). form_fits c.form) cs) fit in
    rw (both.0) (column_lengths_fit keys cs both.1)

-- ---- from names that are free

-- all names of what is declared are free
names_declared : (table : List ℕ) (columns : List ColumnText) (keys : List KeyPart) → is_free table ≡ true
    → list_all (λ (c : ColumnText). is_free c.name) columns ≡ true → keys_free keys ≡ true
    → list_all is_free (names_in (record { table = table; columns = declared_columns keys columns; keys = map (λ (k : KeyPart). k.key) keys })) ≡ true
names_declared table columns keys free named keyed =
    rw (free, list_all-append is_free (names_of (declared_columns keys columns)) (flat_map (λ (k : KeyText). k.columns) (map (λ (k : KeyPart). k.key) keys)), column_names_free keys columns named, key_names_free keys keyed) refl

are_names : (names : List (List ℕ)) → list_all is_free names ≡ true → list_all is_name names ≡ true
are_names [] free = refl
are_names (n ∷ ns) free =
    let both = and_parts (is_free n) (list_all is_free ns) free in
    rw ((and_parts (is_name n) (not (is_reserved n)) both.0).0) (are_names ns both.1)

none_reserved : (names : List (List ℕ)) → list_all is_free names ≡ true → list_all (λ name. not (is_reserved name)) names ≡ true
none_reserved [] free = refl
none_reserved (n ∷ ns) free =
    let both = and_parts (is_free n) (list_all is_free ns) free in
    rw ((and_parts (is_name n) (not (is_reserved n)) both.0).1) (none_reserved ns both.1)

-- the declaration is plain, and its names are names
abbrev IsFine : TableDecl → Type 0
IsFine decl = (is_plain decl ≡ true) × (list_all is_name (names_in decl) ≡ true)

declared_fine : (table : List ℕ) (columns : List ColumnText) (keys : List KeyPart) (decl : TableDecl) → is_free table ≡ true
    → list_all (λ (c : ColumnText). is_free c.name) columns ≡ true → list_all (λ (c : ColumnText). form_fits c.form) columns ≡ true → keys_free keys ≡ true
    → declared_by table columns keys ≡ Some decl → IsFine decl
declared_fine table [] keys decl free named fit keyed e = absurd cc
declared_fine table (c ∷ cs) keys decl free named fit keyed e = subst IsFine same (plain, are_names (names_in made) all)
  where
    made : TableDecl
    made = record { table = table; columns = declared_columns keys (c ∷ cs); keys = map (λ (k : KeyPart). k.key) keys }

    same : made ≡ decl
    same = cc e

    all : list_all is_free (names_in made) ≡ true
    all = names_declared table (c ∷ cs) keys free named keyed

    plain : is_plain made ≡ true
    plain = rw (none_reserved (names_in made) all, column_lengths_fit keys (c ∷ cs) fit) refl

pub declaration_given : (tokens : List Token) (s : Statement) → IsStatement tokens s → AreTokens tokens → (declares_plain s ≡ true) × (names_are_names s ≡ true)
unfolding declared
declaration_given tokens s (grammar.create table ts parts decl free is declares) are =
    let named = behind_two (codes "create") (codes "table") (Word table ∷ ts) are in
    let fine = parens_given IsPart is_fine part_fine parts ts is (behind_token (Word table) ts named) in
    declared_fine table (columns_of parts) (keys_of parts) decl (free_is table ts free named) (columns_free parts fine) (columns_fit parts fine) (all_keys_free parts fine) declares
declaration_given tokens s (grammar.drop table free) are = (refl, refl)
declaration_given tokens s (grammar.insert table listed tuples columns rows free lists joined) are = (refl, refl)
declaration_given tokens s (grammar.update table parts behind assigned c free joined tested) are = (refl, refl)
declaration_given tokens s (grammar.delete table behind c free tested) are = (refl, refl)
declaration_given tokens s (grammar.select table asked tested ordered what c order free asks tests orders) are = (refl, refl)
declaration_given tokens s grammar.begin are = (refl, refl)
declaration_given tokens s grammar.commit are = (refl, refl)
declaration_given tokens s grammar.rollback are = (refl, refl)
declaration_given tokens s (grammar.session name free) are = (refl, refl)
declaration_given tokens s (grammar.show table free) are = (refl, refl)
declaration_given tokens s (grammar.implies table ts key free is) are = (refl, refl)
declaration_given tokens s (grammar.cover table free) are = (refl, refl)
declaration_given tokens s (grammar.examples table free) are = (refl, refl)
declaration_given tokens s (grammar.discover table ts over free is) are = (refl, refl)
declaration_given tokens s grammar.checkpoint are = (refl, refl)
