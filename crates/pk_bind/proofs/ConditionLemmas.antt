-- A condition that isn't refused is over the kinds of the columns.
use Rattle.std.proofs.Common.{◌≡◌, refl, sym, ◌∙◌, ap, subst, ℕ, Bool, true, List, [], ◌∷◌, map, Option, Some, None}
use Rattle.std.specs.List.{list_all}
use Rattle.std.proofs.lemmas.Bool.{and_parts, and_from}
use Rattle.pk_values.specs.declared.kind.Kind.{Kind}
use Rattle.pk_values.specs.declared.kind.Kind.TheVariants as kinds
use Rattle.pk_values.specs.declared.refusal.Refusal.{Refusal}
use Rattle.pk_values.specs.Refusals.{first_some}
use Rattle.pk_syntax.specs.declared.declaration.ColumnDecl.{ColumnDecl}
use Rattle.pk_syntax.specs.declared.condition.Operand.{Operand}
use Rattle.pk_syntax.specs.declared.condition.Operand.TheVariants.{Known, Column}
use Rattle.pk_syntax.specs.declared.condition.Test.{Test}
use Rattle.pk_syntax.specs.declared.condition.Test.TheOpen as layers
use Rattle.pk_syntax.specs.declared.condition.Test.TheOpen.{Test-F}
use Rattle.pk_syntax.specs.declared.condition.Test.TheViews.{roll-Test}
use Rattle.pk_syntax.specs.declared.condition.Test.TheFolds.{map-Test, fold-roll-Test, ind-Test}
use Rattle.pk_syntax.specs.Given.{operand_has_utf8, test_step, test_has_utf8, cond_has_utf8}
use Rattle.pk_logic.specs.declared.condition.Op.{Op}
use Rattle.pk_logic.specs.declared.condition.Side.{Side}
use Rattle.pk_logic.specs.declared.condition.Cond.{Cond}
use Rattle.pk_logic.specs.declared.condition.Cond.TheVariants as conds
use Rattle.pk_logic.specs.declared.condition.Cond.TheVariants.{rolls-Compare, rolls-IsNull, rolls-Not, rolls-All, rolls-Any}
use Rattle.pk_logic.specs.declared.condition.Cond.TheOpen as cond_layers
use Rattle.pk_logic.specs.declared.condition.Cond.TheFolds.{fold-roll-Cond}
use Rattle.pk_logic.specs.Conditions.{all_hold}
use Rattle.pk_logic.specs.Kinds.{kind_at, is_of_kind, side_is_of_kind, compares_one_kind, is_column, over_kinds_step, is_over_kinds}
use Rattle.pk_schema.specs.Shapes.{column_named, kinds_of}
use Rattle.pk_bind.specs.declared.searching.Search.{Search}
use Rattle.pk_bind.specs.declared.searching.Search.TheVariants.{Missing, Kind as OfKind}
use Rattle.pk_bind.specs.Columns.{no_column, column_at}
use Rattle.pk_bind.specs.Literals.{unless_kind}
use Rattle.pk_bind.specs.Conditions.{missing_in, unless_same_kind, kind_beside, kind_in, fault_step, test_fault, cond_fault, side_of, op_of, cond_step, cond_of, cond_asked}
use Rattle.pk_bind.specs.Fitting.{cond_fits}
use Rattle.pk_bind.proofs.FoundLemmas.{column_found, kind_of_place}
use Rattle.pk_bind.proofs.LiteralLemmas.{stored_fits}
use Rattle.pk_values.proofs.RefusalLemmas.{neither, head_free}

-- ---- layers

rolled_utf8 : (x : Test-F Test) → test_has_utf8 (roll-Test x) ≡ test_step (map-Test Test Bool test_has_utf8 x)
rolled_utf8 x = fold-roll-Test Bool test_step x

rolled_fault : (search : Search) (columns : List ColumnDecl) (table : List ℕ) (x : Test-F Test)
    → test_fault search columns table (roll-Test x) ≡ fault_step search columns table (map-Test Test (Option Refusal) (test_fault search columns table) x)
rolled_fault search columns table x = fold-roll-Test (Option Refusal) (fault_step search columns table) x

rolled_cond : (columns : List ColumnDecl) (x : Test-F Test) → cond_of columns (roll-Test x) ≡ cond_step columns (map-Test Test Cond (cond_of columns) x)
rolled_cond columns x = fold-roll-Test Cond (cond_step columns) x

over-Compare : (ks : List Kind) (column : ℕ) (op : Op) (with : Side)
    → is_over_kinds ks (conds.Compare column op with) ≡ compares_one_kind ks (kind_at ks column) with
over-Compare ks column op with =
    ap (is_over_kinds ks) (sym (rolls-Compare column op with)) ∙ fold-roll-Cond Bool (over_kinds_step ks) (cond_layers.Compare column op with)

over-IsNull : (ks : List Kind) (column : ℕ) (negated : Bool) → is_over_kinds ks (conds.IsNull column negated) ≡ is_column (kind_at ks column)
over-IsNull ks column negated =
    ap (is_over_kinds ks) (sym (rolls-IsNull column negated)) ∙ fold-roll-Cond Bool (over_kinds_step ks) (cond_layers.IsNull column negated)

over-Not : (ks : List Kind) (cond : Cond) → is_over_kinds ks (conds.Not cond) ≡ is_over_kinds ks cond
over-Not ks cond = ap (is_over_kinds ks) (sym (rolls-Not cond)) ∙ fold-roll-Cond Bool (over_kinds_step ks) (cond_layers.Not cond)

over-All : (ks : List Kind) (members : List Cond) → is_over_kinds ks (conds.All members) ≡ all_hold (map (is_over_kinds ks) members)
over-All ks members = ap (is_over_kinds ks) (sym (rolls-All members)) ∙ fold-roll-Cond Bool (over_kinds_step ks) (cond_layers.All members)

over-Any : (ks : List Kind) (members : List Cond) → is_over_kinds ks (conds.Any members) ≡ all_hold (map (is_over_kinds ks) members)
over-Any ks members = ap (is_over_kinds ks) (sym (rolls-Any members)) ∙ fold-roll-Cond Bool (over_kinds_step ks) (cond_layers.Any members)

-- ---- comparisons

same_kind : (name : List ℕ) (k other : Kind) → unless_kind name k other ≡ None → is_of_kind (Some other) k ≡ true
same_kind name kinds.Integer kinds.Integer free = refl
same_kind name kinds.Integer kinds.Text free = cc
same_kind name kinds.Text kinds.Integer free = cc
same_kind name kinds.Text kinds.Text free = refl

-- the names of a comparison that is refused for none of them
left_there : (columns : List ColumnDecl) (table name : List ℕ) (with : Operand) → missing_in columns table name with ≡ None → no_column columns table name ≡ None
left_there columns table name (Known literal) free = free
left_there columns table name (Column other) free = (neither (no_column columns table name) (no_column columns table other) free).0

-- the other side is of the column's kind
side_fits : (columns : List ColumnDecl) (table name : List ℕ) (c : ColumnDecl) (with : Operand)
    → operand_has_utf8 with ≡ true → missing_in columns table name with ≡ None → kind_beside columns c with ≡ None
    → side_is_of_kind (kinds_of columns) (side_of columns with) c.kind ≡ true
side_fits columns table name c (Known literal) utf8 there free = stored_fits c literal utf8 free
side_fits columns table name c (Column other) utf8 there free =
    let d = column_found columns table other (neither (no_column columns table name) (no_column columns table other) there).1 in
    let same = same_kind c.name c.kind d.0.kind (subst (λ o. unless_same_kind c o ≡ None) d.1 free) in
    subst (λ k. is_of_kind k c.kind ≡ true) (sym (kind_of_place columns (column_at columns other) d.0 d.2)) same

comparison_fits : (columns : List ColumnDecl) (table name : List ℕ) (with : Operand)
    → operand_has_utf8 with ≡ true → missing_in columns table name with ≡ None → kind_in columns (column_named columns name) with ≡ None
    → compares_one_kind (kinds_of columns) (kind_at (kinds_of columns) (column_at columns name)) (side_of columns with) ≡ true
comparison_fits columns table name with utf8 there free =
    let c = column_found columns table name (left_there columns table name with there) in
    let fits = side_fits columns table name c.0 with utf8 there (subst (λ o. kind_in columns o with ≡ None) c.1 free) in
    subst (λ k. compares_one_kind (kinds_of columns) k (side_of columns with) ≡ true) (sym (kind_of_place columns (column_at columns name) c.0 c.2)) fits

null_test_fits : (columns : List ColumnDecl) (table name : List ℕ) → no_column columns table name ≡ None
    → is_column (kind_at (kinds_of columns) (column_at columns name)) ≡ true
null_test_fits columns table name there =
    let c = column_found columns table name there in
    ap is_column (kind_of_place columns (column_at columns name) c.0 c.2)

-- ---- conditions

abbrev Fits : List ColumnDecl → List ℕ → Test → Type 0
Fits columns table t =
    test_has_utf8 t ≡ true → test_fault Missing columns table t ≡ None → test_fault OfKind columns table t ≡ None
    → is_over_kinds (kinds_of columns) (cond_of columns t) ≡ true

abbrev Part : List ColumnDecl → List ℕ → Type 0
Part columns table = (t : Test) × Fits columns table t

abbrev tests : (columns : List ColumnDecl) (table : List ℕ) → List (Part columns table) → List Test
tests columns table parts = map (λ part. part.0) parts

all_fit : (columns : List ColumnDecl) (table : List ℕ) (parts : List (Part columns table))
    → list_all (λ m. m) (map test_has_utf8 (tests columns table parts)) ≡ true
    → first_some (map (test_fault Missing columns table) (tests columns table parts)) ≡ None
    → first_some (map (test_fault OfKind columns table) (tests columns table parts)) ≡ None
    → all_hold (map (is_over_kinds (kinds_of columns)) (map (cond_of columns) (tests columns table parts))) ≡ true
all_fit columns table [] utf8 there free = refl
all_fit columns table (p ∷ ps) utf8 there free =
    let texts = and_parts (test_has_utf8 p.0) (list_all (λ m. m) (map test_has_utf8 (tests columns table ps))) utf8 in
    let names = head_free (test_fault Missing columns table p.0) (map (test_fault Missing columns table) (tests columns table ps)) there in
    let same = head_free (test_fault OfKind columns table p.0) (map (test_fault OfKind columns table) (tests columns table ps)) free in
    and_from (is_over_kinds (kinds_of columns) (cond_of columns p.0)) _ (p.1 texts.0 names.0 same.0) (all_fit columns table ps texts.1 names.1 same.1)

layer_fits : (columns : List ColumnDecl) (table : List ℕ) (y : Test-F (Part columns table))
    → Fits columns table (roll-Test (map-Test (Part columns table) Test (λ part. part.0) y))
layer_fits columns table (layers.Compare name op with) utf8 there free =
    let x = layers.Compare name op with in
    ap (is_over_kinds (kinds_of columns)) (rolled_cond columns x)
    ∙ over-Compare (kinds_of columns) (column_at columns name) (op_of op) (side_of columns with)
    ∙ comparison_fits columns table name with (sym (rolled_utf8 x) ∙ utf8) (sym (rolled_fault Missing columns table x) ∙ there) (sym (rolled_fault OfKind columns table x) ∙ free)
layer_fits columns table (layers.IsNull name negated) utf8 there free =
    let x = layers.IsNull name negated in
    ap (is_over_kinds (kinds_of columns)) (rolled_cond columns x)
    ∙ over-IsNull (kinds_of columns) (column_at columns name) negated
    ∙ null_test_fits columns table name (sym (rolled_fault Missing columns table x) ∙ there)
layer_fits columns table (layers.Not part) utf8 there free =
    let x = layers.Not part.0 in
    ap (is_over_kinds (kinds_of columns)) (rolled_cond columns x)
    ∙ over-Not (kinds_of columns) (cond_of columns part.0)
    ∙ part.1 (sym (rolled_utf8 x) ∙ utf8) (sym (rolled_fault Missing columns table x) ∙ there) (sym (rolled_fault OfKind columns table x) ∙ free)
layer_fits columns table (layers.All parts) utf8 there free =
    let x = layers.All (tests columns table parts) in
    ap (is_over_kinds (kinds_of columns)) (rolled_cond columns x)
    ∙ over-All (kinds_of columns) (map (cond_of columns) (tests columns table parts))
    ∙ all_fit columns table parts (sym (rolled_utf8 x) ∙ utf8) (sym (rolled_fault Missing columns table x) ∙ there) (sym (rolled_fault OfKind columns table x) ∙ free)
layer_fits columns table (layers.Any parts) utf8 there free =
    let x = layers.Any (tests columns table parts) in
    ap (is_over_kinds (kinds_of columns)) (rolled_cond columns x)
    ∙ over-Any (kinds_of columns) (map (cond_of columns) (tests columns table parts))
    ∙ all_fit columns table parts (sym (rolled_utf8 x) ∙ utf8) (sym (rolled_fault Missing columns table x) ∙ there) (sym (rolled_fault OfKind columns table x) ∙ free)

test_fits : (columns : List ColumnDecl) (table : List ℕ) (t : Test) → Fits columns table t
test_fits columns table = ind-Test (Fits columns table)
    (λ x y is. subst (λ z. Fits columns table (roll-Test z)) is (layer_fits columns table y))

-- what is asked of a row is over the kinds of the columns, where neither a name nor a kind is refused
pub cond_bound_fits : (columns : List ColumnDecl) (table : List ℕ) (cond : Option Test) → cond_has_utf8 cond ≡ true
    → cond_fault Missing columns table cond ≡ None → cond_fault OfKind columns table cond ≡ None → cond_fits columns (cond_asked columns cond) ≡ true
cond_bound_fits columns table None utf8 there free = refl
cond_bound_fits columns table (Some t) utf8 there free = test_fits columns table t utf8 there free
