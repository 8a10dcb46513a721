-- Texts that are UTF-8 and not refused for their length are words.
use Rattle.std.proofs.Common.{◌≡◌, refl, sym, ◌∙◌, ap, subst, ℕ, ◌+◌, ◌≤◌, ◌<◌, Bool, true, List, [], ◌∷◌, ◌++◌, map, take, drop, length, get_or, Option, Some, None, nat_le, arith}
use Rattle.std.specs.Prelude.{◌==◌}
use Rattle.std.specs.List.{cons_option, filter_map, list_all}
use Rattle.std.specs.Str.{is_utf8}
use Rattle.std.proofs.lemmas.Bool.{and_parts, and_from, eqb-true, leb-true, le-leb}
use Rattle.std.proofs.lemmas.List.{take_more, drop_more, map-append}
use Rattle.std.proofs.lemmas.Option.{slice_get_read}
use Rattle.pk_values.specs.declared.kind.Kind.{Kind}
use Rattle.pk_values.specs.declared.kind.Kind.TheVariants as kinds
use Rattle.pk_values.specs.declared.refusal.Refusal.{Refusal}
use Rattle.pk_values.specs.Refusals.{first_some, first_by}
use Rattle.pk_syntax.specs.declared.declaration.ColumnDecl.{ColumnDecl}
use Rattle.pk_syntax.specs.declared.edit.SetPart.{SetPart}
use Rattle.pk_syntax.specs.declared.literal.Literal.{Literal}
use Rattle.pk_syntax.specs.declared.literal.Literal.TheVariants.{Null, Number, Wide, Text}
use Rattle.pk_syntax.specs.declared.condition.Operand.{Operand}
use Rattle.pk_syntax.specs.declared.condition.Operand.TheVariants.{Known, Column}
use Rattle.pk_syntax.specs.declared.condition.Test.{Test}
use Rattle.pk_syntax.specs.declared.condition.Test.TheOpen as layers
use Rattle.pk_syntax.specs.declared.condition.Test.TheOpen.{Test-F}
use Rattle.pk_syntax.specs.declared.condition.Test.TheViews.{roll-Test}
use Rattle.pk_syntax.specs.declared.condition.Test.TheFolds.{map-Test, fold-roll-Test, ind-Test}
use Rattle.pk_syntax.specs.Declarations.{is_plain_length}
use Rattle.pk_syntax.specs.Given.{has_utf8, test_step, test_has_utf8, cond_has_utf8, operand_has_utf8}
use Rattle.pk_schema.specs.Shapes.{Shape, IsShape, is_column, column_named}
use Rattle.pk_bind.specs.declared.literals.Check.TheVariants as checks
use Rattle.pk_bind.specs.declared.searching.Search.TheVariants as searches
use Rattle.pk_bind.specs.Columns.{no_column}
use Rattle.pk_bind.specs.Literals.{stored_fault, long_fault, has_words, keeps_words}
use Rattle.pk_bind.specs.Conditions.{long_in, fault_step, test_fault, cond_fault, operand_has_words, words_step, test_has_words, cond_has_words}
use Rattle.pk_bind.specs.Insert.{miscounted, tuple_fault}
use Rattle.pk_bind.specs.Update.{found_fault, set_fault}
use Rattle.pk_bind.proofs.FoundLemmas.{found, column_found}
use Rattle.pk_bind.proofs.HeldLemmas.{no_other}
use Rattle.pk_bind.proofs.InsertLemmas.{holds_at}
use Rattle.pk_values.proofs.ListLemmas.{all_weaker}
use Rattle.pk_values.proofs.RefusalLemmas.{neither, head_free}

-- what all have, one at a place has
pub item_has : {X : Type 0} (p : X → Bool) (xs : List X) (i : ℕ) (x : X) → list_all p xs ≡ true → i < length xs → x ≡ get_or xs i x → p x ≡ true
item_has p xs i x all within is = holds_at p xs i x all (slice_get_read xs (length xs) i x refl within is)

-- of those that are left, all but the first are left then
pub others_left : {X : Type 0} (p : X → Bool) (xs : List X) (i : ℕ) (x : X) → i < length xs → x ≡ get_or xs i x
    → list_all (λ b. b) (map p (drop i xs)) ≡ true → list_all (λ b. b) (map p (drop (i + 1) xs)) ≡ true
others_left p xs i x within is all =
    let parted = drop_more xs i x within ∙ ap (λ y. y ∷ drop (i + 1) xs) (sym is) in
    (and_parts (p x) (list_all (λ b. b) (map p (drop (i + 1) xs))) (subst (λ ys. list_all (λ b. b) (map p ys) ≡ true) parted all)).1

-- one element more is mapped
pub map_more : {X Y : Type 0} (f : X → Y) (xs : List X) (i : ℕ) (x : X) (ys new : List Y) → i < length xs → x ≡ get_or xs i x
    → ys ≡ map f (take i xs) → new ≡ ys ++ f x ∷ [] → new ≡ map f (take (i + 1) xs)
map_more f xs i x ys new within is before made =
    made ∙ ap (λ zs. zs ++ f x ∷ []) before ∙ sym (map-append f (take i xs) (x ∷ []))
    ∙ ap (map f) (sym (take_more xs i x within ∙ ap (λ z. take i xs ++ z ∷ []) (sym is)))

-- ---- one literal

literal_words : (name : List ℕ) (most : ℕ) (l : Literal) → most ≤ 255 → has_utf8 l ≡ true → long_fault name most l ≡ None → has_words l ≡ true
literal_words name most Null few utf8 short = refl
literal_words name most (Number z) few utf8 short = refl
literal_words name most Wide few utf8 short = refl
literal_words name most (Text bytes) few utf8 short =
    let fits = leb-true (length bytes) most (no_other (nat_le (length bytes) most) _ short) in
    and_from (nat_le (length bytes) 255) (is_utf8 bytes) (le-leb (length bytes) 255 (omega (arith, few, fits))) utf8

-- a literal that is stored in a column of short texts
stored_words : (c : ColumnDecl) (l : Literal) → keeps_words c ≡ true → has_utf8 l ≡ true → stored_fault checks.Length c l ≡ None → has_words l ≡ true
stored_words c l keeps utf8 short = literal_words c.name c.max l (leb-true c.max 255 keeps) utf8 short

-- ---- columns

plain_keeps : (k : Kind) (max : ℕ) → is_plain_length k max ≡ true → nat_le max 255 ≡ true
plain_keeps kinds.Integer max is = le-leb max 255 (omega (arith, leb-true max 0 is))
plain_keeps kinds.Text max is = (and_parts (nat_le 1 max) (nat_le max 255) is).1

-- the columns of a schema
pub shape_keeps : (s : Shape) → IsShape s → list_all keeps_words s.columns ≡ true
shape_keeps s shape =
    all_weaker (λ (c : ColumnDecl). is_plain_length c.kind c.max) keeps_words (λ c is. plain_keeps c.kind c.max is) s.columns shape.lengths

-- those that are listed
pub listed_keep : (columns : List ColumnDecl) (names : List (List ℕ)) → list_all keeps_words columns ≡ true
    → list_all keeps_words (filter_map (column_named columns) names) ≡ true
unfolding column_named
listed_keep columns [] keep = refl
listed_keep columns (n ∷ ns) keep = step (column_named columns n) refl (listed_keep columns ns keep) where
  step : (o : Option ColumnDecl) → column_named columns n ≡ o → list_all keeps_words (filter_map (column_named columns) ns) ≡ true
      → list_all keeps_words (cons_option o (filter_map (column_named columns) ns)) ≡ true
  step None is others = others
  step (Some c) is others =
      let at = found (is_column n) columns c is in
      and_from (keeps_words c) _ (holds_at keeps_words columns at.0 c keep at.2) others

-- ---- tuples

tuple_words : (listed : List ColumnDecl) (row : List Literal) → list_all keeps_words listed ≡ true → list_all has_utf8 row ≡ true
    → length row ≡ length listed → tuple_fault checks.Length listed row ≡ None → list_all has_words row ≡ true
tuple_words [] [] keep utf8 counted short = refl
tuple_words [] (l ∷ ls) keep utf8 counted short = absurd (omega (arith, counted))
tuple_words (c ∷ cs) [] keep utf8 counted short = refl
tuple_words (c ∷ cs) (l ∷ ls) keep utf8 counted short =
    let keeps = and_parts (keeps_words c) (list_all keeps_words cs) keep in
    let texts = and_parts (has_utf8 l) (list_all has_utf8 ls) utf8 in
    let shorts = neither (stored_fault checks.Length c l) (tuple_fault checks.Length cs ls) short in
    and_from (has_words l) (list_all has_words ls) (stored_words c l keeps.0 texts.0 shorts.0)
    (tuple_words cs ls keeps.1 texts.1 (omega (arith, counted)) shorts.1)

pub rows_words : (listed : List ColumnDecl) (rows : List (List Literal)) → list_all keeps_words listed ≡ true → list_all (list_all has_utf8) rows ≡ true
    → first_by (miscounted (length listed)) rows ≡ None → first_by (tuple_fault checks.Length listed) rows ≡ None
    → list_all (list_all has_words) rows ≡ true
rows_words listed [] keep utf8 counted short = refl
rows_words listed (row ∷ rows) keep utf8 counted short =
    let texts = and_parts (list_all has_utf8 row) (list_all (list_all has_utf8) rows) utf8 in
    let counts = neither (miscounted (length listed) row) (first_by (miscounted (length listed)) rows) counted in
    let shorts = neither (tuple_fault checks.Length listed row) (first_by (tuple_fault checks.Length listed) rows) short in
    and_from (list_all has_words row) (list_all (list_all has_words) rows)
    (tuple_words listed row keep texts.0 (eqb-true (length row) (length listed) (no_other (length row == length listed) _ counts.0)) shorts.0)
    (rows_words listed rows keep texts.1 counts.1 shorts.1)

-- ---- columns that are set

set_words : (columns : List ColumnDecl) (table : List ℕ) (s : SetPart) → list_all keeps_words columns ≡ true → has_utf8 s.value ≡ true
    → no_column columns table s.column ≡ None → set_fault checks.Length columns s ≡ None → has_words s.value ≡ true
set_words columns table s keep utf8 there short =
    let c = column_found columns table s.column there in
    stored_words c.0 s.value (holds_at keeps_words columns _ c.0 keep c.2) utf8
    (subst (λ o. found_fault checks.Length o s.value ≡ None) c.1 short)

pub sets_words : (columns : List ColumnDecl) (table : List ℕ) (sets : List SetPart) → list_all keeps_words columns ≡ true
    → list_all (λ (part : SetPart). has_utf8 part.value) sets ≡ true
    → first_by (λ (part : SetPart). no_column columns table part.column) sets ≡ None → first_by (set_fault checks.Length columns) sets ≡ None
    → list_all (λ (part : SetPart). has_words part.value) sets ≡ true
sets_words columns table [] keep utf8 there short = refl
sets_words columns table (s ∷ ss) keep utf8 there short =
    let texts = and_parts (has_utf8 s.value) (list_all (λ (part : SetPart). has_utf8 part.value) ss) utf8 in
    let names = neither (no_column columns table s.column) (first_by (λ (part : SetPart). no_column columns table part.column) ss) there in
    let shorts = neither (set_fault checks.Length columns s) (first_by (set_fault checks.Length columns) ss) short in
    and_from (has_words s.value) _ (set_words columns table s keep texts.0 names.0 shorts.0) (sets_words columns table ss keep texts.1 names.1 shorts.1)

-- ---- conditions

rolled_utf8 : (x : Test-F Test) → test_has_utf8 (roll-Test x) ≡ test_step (map-Test Test Bool test_has_utf8 x)
rolled_utf8 x = fold-roll-Test Bool test_step x

rolled_words : (x : Test-F Test) → test_has_words (roll-Test x) ≡ words_step (map-Test Test Bool test_has_words x)
rolled_words x = fold-roll-Test Bool words_step x

rolled_fault : (columns : List ColumnDecl) (table : List ℕ) (x : Test-F Test)
    → test_fault searches.Length columns table (roll-Test x) ≡ fault_step searches.Length columns table (map-Test Test (Option Refusal) (test_fault searches.Length columns table) x)
rolled_fault columns table x = fold-roll-Test (Option Refusal) (fault_step searches.Length columns table) x

abbrev Short : List ColumnDecl → List ℕ → Test → Type 0
Short columns table t = test_has_utf8 t ≡ true → test_fault searches.Length columns table t ≡ None → test_has_words t ≡ true

abbrev Part : List ColumnDecl → List ℕ → Type 0
Part columns table = (t : Test) × Short columns table t

abbrev tests : (columns : List ColumnDecl) (table : List ℕ) → List (Part columns table) → List Test
tests columns table parts = map (λ part. part.0) parts

operand_words : (name : List ℕ) (with : Operand) → operand_has_utf8 with ≡ true → long_in name with ≡ None → operand_has_words with ≡ true
operand_words name (Known literal) utf8 short = literal_words name 255 literal (omega arith) utf8 short
operand_words name (Column other) utf8 short = refl

all_words : (columns : List ColumnDecl) (table : List ℕ) (parts : List (Part columns table))
    → list_all (λ m. m) (map test_has_utf8 (tests columns table parts)) ≡ true
    → first_some (map (test_fault searches.Length columns table) (tests columns table parts)) ≡ None
    → list_all (λ m. m) (map test_has_words (tests columns table parts)) ≡ true
all_words columns table [] utf8 short = refl
all_words columns table (p ∷ ps) utf8 short =
    let texts = and_parts (test_has_utf8 p.0) (list_all (λ m. m) (map test_has_utf8 (tests columns table ps))) utf8 in
    let shorts = head_free (test_fault searches.Length columns table p.0) (map (test_fault searches.Length columns table) (tests columns table ps)) short in
    and_from (test_has_words p.0) _ (p.1 texts.0 shorts.0) (all_words columns table ps texts.1 shorts.1)

layer_words : (columns : List ColumnDecl) (table : List ℕ) (y : Test-F (Part columns table))
    → Short columns table (roll-Test (map-Test (Part columns table) Test (λ part. part.0) y))
layer_words columns table (layers.Compare name op with) utf8 short =
    let x = layers.Compare name op with in
    rolled_words x ∙ operand_words name with (sym (rolled_utf8 x) ∙ utf8) (sym (rolled_fault columns table x) ∙ short)
layer_words columns table (layers.IsNull name negated) utf8 short = rolled_words (layers.IsNull name negated)
layer_words columns table (layers.Not part) utf8 short =
    let x = layers.Not part.0 in
    rolled_words x ∙ part.1 (sym (rolled_utf8 x) ∙ utf8) (sym (rolled_fault columns table x) ∙ short)
layer_words columns table (layers.All parts) utf8 short =
    let x = layers.All (tests columns table parts) in
    rolled_words x ∙ all_words columns table parts (sym (rolled_utf8 x) ∙ utf8) (sym (rolled_fault columns table x) ∙ short)
layer_words columns table (layers.Any parts) utf8 short =
    let x = layers.Any (tests columns table parts) in
    rolled_words x ∙ all_words columns table parts (sym (rolled_utf8 x) ∙ utf8) (sym (rolled_fault columns table x) ∙ short)

test_words : (columns : List ColumnDecl) (table : List ℕ) (t : Test) → Short columns table t
test_words columns table = ind-Test (Short columns table)
    (λ x y is. subst (λ z. Short columns table (roll-Test z)) is (layer_words columns table y))

-- the texts of a condition that is refused for none of them
pub cond_words : (columns : List ColumnDecl) (table : List ℕ) (cond : Option Test) → cond_has_utf8 cond ≡ true
    → cond_fault searches.Length columns table cond ≡ None → cond_has_words cond ≡ true
cond_words columns table None utf8 short = refl
cond_words columns table (Some t) utf8 short = test_words columns table t utf8 short
