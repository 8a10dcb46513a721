-- Rows by their entries, and the sets that say them.
use Rattle.std.proofs.Common.{◌≡◌, refl, sym, ◌∙◌, ap, ℕ, suc, ◌+◌, ◌<◌, ◌≤◌, Bool, true, false, not, ◌&&◌, ◌==◌, List, [], ◌∷◌, ◌++◌, length, take, get_or, if◌then◌else◌, arith}
use Rattle.std.specs.List.{list_any}
use Rattle.std.proofs.lemmas.Bool.{lt-ltb}
use Rattle.std.proofs.lemmas.List.{take_more, length-take-le, length-map}
use Rattle.pk_values.specs.declared.key.KeyDecl.{KeyDecl}
use Rattle.pk_values.specs.declared.key.Sort.TheVariants as sorts
use Rattle.pk_values.specs.declared.kind.Kind.{Kind}
use Rattle.pk_values.specs.declared.value.Value.{Value}
use Rattle.pk_values.specs.declared.value.Value.TheVariants.{Null}
use Rattle.pk_values.specs.ColumnSet.{IsColumnSet, has_column, columns}
use Rattle.pk_values.proofs.ColumnLemmas.{listed_columns}
use Rattle.pk_syntax.specs.declared.declaration.ColumnDecl.{ColumnDecl}
use Rattle.pk_syntax.specs.Declarations.{is_certain}
use Rattle.pk_schema.specs.Shapes.{Shape, kinds_of, not_null_of, all_of}
use Rattle.pk_schema.proofs.SetLemmas.{has_all}
use Rattle.pk_values.specs.Values.{blank}
use Rattle.pk_rule.specs.Plain.{plain_of}
use Rattle.pk_rule.specs.TwoRows.{mark, is_left_null, low_entry, high_entry, row_from, low_row, high_row}
use Rattle.pk_examples.specs.Entries.{entry_by}

-- ---- the loop over columns

pub row_length : (entry : Kind → ℕ → Value) (c : ℕ) (kinds : List Kind) → length (row_from entry c kinds) ≡ length kinds
row_length entry c [] = refl
row_length entry c (kind ∷ kinds) = ap suc (row_length entry (suc c) kinds)

-- one column more, which is behind all others
row_more :
    (entry : Kind → ℕ → Value) (c j : ℕ) (cs : List ColumnDecl) (d : ColumnDecl) → j ≡ c + length cs
    → row_from entry c (kinds_of (cs ++ d ∷ [])) ≡ row_from entry c (kinds_of cs) ++ entry d.kind j ∷ []
row_more entry c j [] d is = let same : c ≡ j = omega (arith, is) in ap (λ i. entry d.kind i ∷ []) same
row_more entry c j (b ∷ bs) d is = ap (λ vs. entry b.kind c ∷ vs) (row_more entry (suc c) j bs d (omega (arith, is)))

-- the row with the entry of one column more of the table, which is at this place
pub row_seen :
    (entry : Kind → ℕ → Value) (cs : List ColumnDecl) (i : ℕ) (c : ColumnDecl) (value : Value) (values : List Value) → i < length cs → c ≡ get_or cs i c
    → value ≡ entry c.kind i → values ≡ row_from entry 0 (kinds_of (take i cs)) → values ++ value ∷ [] ≡ row_from entry 0 (kinds_of (take (i + 1) cs))
row_seen entry cs i c value values within is entered so_far =
    let seen : take (i + 1) cs ≡ take i cs ++ c ∷ [] = take_more cs i c within ∙ ap (λ d. take i cs ++ d ∷ []) (sym is) in
    let count : length (take i cs) ≡ i = length-take-le i cs (omega (arith, within)) in
    ap (λ v. values ++ v ∷ []) entered ∙ ap (λ vs. vs ++ entry c.kind i ∷ []) so_far
    ∙ sym (row_more entry 0 i (take i cs) c (omega (arith, count))) ∙ ap (λ ds. row_from entry 0 (kinds_of ds)) (sym seen)

-- a row has no more values than there are columns
pub row_short :
    (entry : Kind → ℕ → Value) (cs : List ColumnDecl) (i : ℕ) (values : List Value) → i ≤ length cs → values ≡ row_from entry 0 (kinds_of (take i cs))
    → length values ≤ length cs
row_short entry cs i values within all =
    let count : length values ≡ i =
    ap length all ∙ row_length entry 0 (kinds_of (take i cs)) ∙ length-map (take i cs) (λ (c : ColumnDecl). c.kind) ∙ length-take-le i cs within in
    omega (arith, count, within)

-- ---- the sets

pub has_none : (set c : ℕ) → IsColumnSet set → columns set ≡ [] → has_column set c ≡ false
has_none set c is_set none = sym (listed_columns set c is_set) ∙ ap (list_any (λ d. d == c)) none

-- a possible key leaves no column null
pub possible_known : (known c : ℕ) (k : KeyDecl) → k.sort ≡ sorts.Possible → is_left_null known k c ≡ false
possible_known known c k possible = ap (λ sort. is_certain sort && has_column k.columns c && not (has_column known c)) possible

-- rows of entries that are the same in each of their columns
same_rows :
    (entry other : Kind → ℕ → Value) (c : ℕ) (kinds : List Kind) → ((kind : Kind) (i : ℕ) → i < c + length kinds → entry kind i ≡ other kind i)
    → row_from entry c kinds ≡ row_from other c kinds
same_rows entry other c [] same = refl
same_rows entry other c (kind ∷ kinds) same =
    rw (same kind c (omega arith), same_rows entry other (suc c) kinds (λ k i within. same k i (omega (arith, within)))) refl

pub low_is :
    (s : Shape) (k : KeyDecl) (nulls none : ℕ) (cs : List ColumnDecl) (row : List Value) → cs ≡ s.columns → ((c : ℕ) → has_column nulls c ≡ is_left_null (not_null_of s.columns) k c)
    → IsColumnSet none → columns none ≡ [] → row ≡ row_from (entry_by nulls none) 0 (kinds_of cs) → row ≡ low_row (plain_of s) k
low_is s k nulls none cs row same members is_set empty made =
    made ∙ ap (λ ds. row_from (entry_by nulls none) 0 (kinds_of ds)) same
    ∙ same_rows (entry_by nulls none) (low_entry (not_null_of s.columns) k) 0 (kinds_of s.columns)
    (λ kind c within. rw (members c, has_none none c is_set empty) refl)

pub high_is :
    (s : Shape) (k : KeyDecl) (nulls outside : ℕ) (cs : List ColumnDecl) (row : List Value) → cs ≡ s.columns → ((c : ℕ) → has_column nulls c ≡ is_left_null (not_null_of s.columns) k c)
    → ((c : ℕ) → has_column outside c ≡ (has_column (all_of s.columns) c && not (has_column k.columns c)))
    → row ≡ row_from (entry_by nulls outside) 0 (kinds_of cs) → row ≡ high_row (plain_of s) k
high_is s k nulls outside cs row same members besides made =
    made ∙ ap (λ ds. row_from (entry_by nulls outside) 0 (kinds_of ds)) same
    ∙ same_rows (entry_by nulls outside) (high_entry (not_null_of s.columns) k) 0 (kinds_of s.columns)
    (λ kind c within.
    let here : has_column outside c ≡ not (has_column k.columns c) = besides c ∙ ap (λ t. t && not (has_column k.columns c)) (in_all c (omega (arith, within))) in
    rw (members c, here) (either kind (is_certain k.sort) (has_column k.columns c) (has_column (not_null_of s.columns) c)))
  where
    in_all : (c : ℕ) → c < length (kinds_of s.columns) → has_column (all_of s.columns) c ≡ true
    in_all c within =
        let count = length-map s.columns (λ (d : ColumnDecl). d.kind) in
        has_all s.columns c ∙ lt-ltb c (length s.columns) (omega (arith, count, within))

    either :
        (kind : Kind) (certain inside known : Bool)
        → (if certain && inside && not known then Null else if not inside then mark kind else blank kind)
        ≡ (if inside then if certain && inside && not known then Null else blank kind else mark kind)
    either kind true true true = refl
    either kind true true false = refl
    either kind true false known = refl
    either kind false true known = refl
    either kind false false known = refl
