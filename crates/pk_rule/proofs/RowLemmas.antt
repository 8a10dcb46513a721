-- The two rows of a key: that they fit, and where they are similar.
use Rattle.std.proofs.Common.{◌≡◌, refl, sym, ◌∙◌, ap, subst, ℕ, zero, suc, ◌+◌, ◌^◌, ◌<◌, Bool, true, false, not, ◌&&◌, ◌||◌, List, [], ◌∷◌, length, inl, inr, if◌then◌else◌, arith}
use Rattle.std.specs.List.{list_all}
use Rattle.std.proofs.lemmas.Bool.{cases_Bool}
use Rattle.pk_values.specs.declared.key.KeyDecl.{KeyDecl}
use Rattle.pk_values.specs.declared.kind.Kind.{Kind}
use Rattle.pk_values.specs.declared.kind.Kind.TheVariants as kinds
use Rattle.pk_values.specs.declared.value.Value.{Value}
use Rattle.pk_values.specs.declared.value.Value.TheVariants.{Null}
use Rattle.pk_values.specs.ColumnSet.{has_column, columns, is_subset}
use Rattle.pk_values.specs.Values.{is_null, fits_kind, fits_kinds, value_at, same_value, blank}
use Rattle.pk_syntax.specs.Declarations.{is_certain}
use Rattle.pk_similar.specs.Filling.{kind_at}
use Rattle.pk_similar.specs.Similarity.{weak_entries, strong_entries, weak, strong}
use Rattle.pk_rule.specs.Plain.{Plain}
use Rattle.pk_rule.specs.Tables.{is_known_on}
use Rattle.pk_rule.specs.TwoRows.{mark, is_left_null, low_entry, high_entry, row_from, low_row, high_row}
use Rattle.pk_values.proofs.ColumnLemmas.{all_members, same_on_members, member_below}

-- ---- rows by their entries

entry_at :
    (entry : Kind → ℕ → Value) (c i j : ℕ) (kinds : List Kind) → i < length kinds → j ≡ c + i
    → value_at (row_from entry c kinds) i ≡ entry (kind_at kinds i) j
entry_at entry c i j [] within is = absurd (omega (arith, within))
entry_at entry c zero j (kind ∷ kinds) within is = let same : c ≡ j = omega (arith, is) in ap (entry kind) same
entry_at entry c (suc i) j (kind ∷ kinds) within is = entry_at entry (suc c) i j kinds (omega (arith, within)) (omega (arith, is))

pub low_at : (s : Plain) (k : KeyDecl) (c : ℕ) → c < length s.kinds → value_at (low_row s k) c ≡ low_entry s.known k (kind_at s.kinds c) c
low_at s k c within = entry_at (low_entry s.known k) 0 c c s.kinds within (omega arith)

pub high_at : (s : Plain) (k : KeyDecl) (c : ℕ) → c < length s.kinds → value_at (high_row s k) c ≡ high_entry s.known k (kind_at s.kinds c) c
high_at s k c within = entry_at (high_entry s.known k) 0 c c s.kinds within (omega arith)

-- ---- they fit

entries_fit : (entry : Kind → ℕ → Value) (c : ℕ) (kinds : List Kind) → ((kind : Kind) (i : ℕ) → fits_kind kind (entry kind i) ≡ true) → fits_kinds kinds (row_from entry c kinds) ≡ true
entries_fit entry c [] fit = refl
entries_fit entry c (kind ∷ kinds) fit = rw (fit kind c, entries_fit entry (suc c) kinds fit) refl

low_fits : (left : Bool) (kind : Kind) → fits_kind kind (if left then Null else blank kind) ≡ true
low_fits true kind = refl
low_fits false kinds.Integer = refl
low_fits false kinds.Text = refl

mark_fits : (kind : Kind) → fits_kind kind (mark kind) ≡ true
mark_fits kinds.Integer = refl
mark_fits kinds.Text = refl

pub low_row_fits : (s : Plain) (k : KeyDecl) → fits_kinds s.kinds (low_row s k) ≡ true
low_row_fits s k = entries_fit (low_entry s.known k) 0 s.kinds (λ kind c. low_fits (is_left_null s.known k c) kind)

pub high_row_fits : (s : Plain) (k : KeyDecl) → fits_kinds s.kinds (high_row s k) ≡ true
high_row_fits s k = entries_fit (high_entry s.known k) 0 s.kinds (λ kind c. either (has_column k.columns c) kind c)
  where
    either : (inside : Bool) (kind : Kind) (c : ℕ) → fits_kind kind (if inside then low_entry s.known k kind c else mark kind) ≡ true
    either true kind c = low_fits (is_left_null s.known k c) kind
    either false kind c = mark_fits kind

-- ---- NOT NULL columns are known

not_left_null : (known : ℕ) (k : KeyDecl) (c : ℕ) → has_column known c ≡ true → is_left_null known k c ≡ false
not_left_null known k c holds = rw holds (and_false (is_certain k.sort) (has_column k.columns c))
  where
    and_false : (a b : Bool) → (a && b && false) ≡ false
    and_false true true = refl
    and_false true false = refl
    and_false false b = refl

blank_is_known : (kind : Kind) → is_null (blank kind) ≡ false
blank_is_known kinds.Integer = refl
blank_is_known kinds.Text = refl

mark_is_known : (kind : Kind) → is_null (mark kind) ≡ false
mark_is_known kinds.Integer = refl
mark_is_known kinds.Text = refl

pub low_known : (known : ℕ) (k : KeyDecl) (kind : Kind) (c : ℕ) → has_column known c ≡ true → is_null (low_entry known k kind c) ≡ false
low_known known k kind c holds = rw (not_left_null known k c holds) (blank_is_known kind)

pub high_known : (known : ℕ) (k : KeyDecl) (kind : Kind) (c : ℕ) → has_column known c ≡ true → is_null (high_entry known k kind c) ≡ false
high_known known k kind c holds = either (has_column k.columns c)
  where
    either : (inside : Bool) → is_null (if inside then low_entry known k kind c else mark kind) ≡ false
    either true = low_known known k kind c holds
    either false = mark_is_known kind

pub low_row_known : (s : Plain) (k : KeyDecl) → s.known < 2 ^ length s.kinds → is_known_on (columns s.known) (low_row s k) ≡ true
low_row_known s k small =
    all_members (λ c. not (is_null (value_at (low_row s k) c))) s.known
    (λ c holds. rw (low_at s k c (member_below s.known (length s.kinds) c small holds), low_known s.known k (kind_at s.kinds c) c holds) refl)

pub high_row_known : (s : Plain) (k : KeyDecl) → s.known < 2 ^ length s.kinds → is_known_on (columns s.known) (high_row s k) ≡ true
high_row_known s k small =
    all_members (λ c. not (is_null (value_at (high_row s k) c))) s.known
    (λ c holds. rw (high_at s k c (member_below s.known (length s.kinds) c small holds), high_known s.known k (kind_at s.kinds c) c holds) refl)

-- ---- where they are similar

-- an entry is weakly similar to itself, and strongly so where it is known
low_weak : (left : Bool) (kind : Kind) → weak_entries (if left then Null else blank kind) (if left then Null else blank kind) ≡ true
unfolding same_value
low_weak true kind = refl
low_weak false kinds.Integer = refl
low_weak false kinds.Text = refl

low_strong : (left : Bool) (kind : Kind) → strong_entries (if left then Null else blank kind) (if left then Null else blank kind) ≡ not left
unfolding same_value
low_strong true kind = refl
low_strong false kinds.Integer = refl
low_strong false kinds.Text = refl

-- the blank and the mark are known to differ
marked_weak : (kind : Kind) → weak_entries (blank kind) (mark kind) ≡ false
unfolding same_value
marked_weak kinds.Integer = refl
marked_weak kinds.Text = refl

marked_strong : (kind : Kind) → strong_entries (blank kind) (mark kind) ≡ false
unfolding same_value
marked_strong kinds.Integer = refl
marked_strong kinds.Text = refl

outside_not_left : (known : ℕ) (k : KeyDecl) (c : ℕ) → has_column k.columns c ≡ false → is_left_null known k c ≡ false
outside_not_left known k c outside = rw outside (and_false (is_certain k.sort) (not (has_column known c)))
  where
    and_false : (a b : Bool) → (a && false && b) ≡ false
    and_false true b = refl
    and_false false b = refl

entries_weak : (known : ℕ) (k : KeyDecl) (kind : Kind) (c : ℕ) → weak_entries (low_entry known k kind c) (high_entry known k kind c) ≡ has_column k.columns c
entries_weak known k kind c =
    elim (cases_Bool (has_column k.columns c)) [
      | inl inside ↦ subst (λ t. weak_entries (low_entry known k kind c) (if t then low_entry known k kind c else mark kind) ≡ t) (sym inside) (low_weak (is_left_null known k c) kind)
      | inr outside ↦
          subst (λ t. weak_entries (low_entry known k kind c) (if t then low_entry known k kind c else mark kind) ≡ t) (sym outside)
          (subst (λ t. weak_entries (if t then Null else blank kind) (mark kind) ≡ false) (sym (outside_not_left known k c outside)) (marked_weak kind))
    ]

entries_strong :
    (known : ℕ) (k : KeyDecl) (kind : Kind) (c : ℕ)
    → strong_entries (low_entry known k kind c) (high_entry known k kind c) ≡ (has_column k.columns c && not (is_left_null known k c))
entries_strong known k kind c =
    elim (cases_Bool (has_column k.columns c)) [
      | inl inside ↦
          subst (λ t. strong_entries (low_entry known k kind c) (if t then low_entry known k kind c else mark kind) ≡ (t && not (is_left_null known k c))) (sym inside)
          (low_strong (is_left_null known k c) kind)
      | inr outside ↦
          subst (λ t. strong_entries (low_entry known k kind c) (if t then low_entry known k kind c else mark kind) ≡ (t && not (is_left_null known k c))) (sym outside)
          (subst (λ t. strong_entries (if t then Null else blank kind) (mark kind) ≡ false) (sym (outside_not_left known k c outside)) (marked_strong kind))
    ]

-- so on the columns of a set they are weakly similar exactly where the set is inside the key
pub two_rows_weak : (s : Plain) (k : KeyDecl) (set : ℕ) → set < 2 ^ length s.kinds → weak (columns set) (low_row s k) (high_row s k) ≡ is_subset set k.columns
unfolding weak is_subset
two_rows_weak s k set small =
    same_on_members (λ c. weak_entries (value_at (low_row s k) c) (value_at (high_row s k) c)) (has_column k.columns) set
    (λ c holds.
    let within = member_below set (length s.kinds) c small holds in
    rw (low_at s k c within, high_at s k c within) (entries_weak s.known k (kind_at s.kinds c) c))

-- and strongly where it is, and where, for a certain key, it is inside the NOT NULL columns too
pub two_rows_strong :
    (s : Plain) (k : KeyDecl) (set : ℕ) → set < 2 ^ length s.kinds
    → strong (columns set) (low_row s k) (high_row s k) ≡ (is_subset set k.columns && (not (is_certain k.sort) || is_subset set s.known))
unfolding strong is_subset
two_rows_strong s k set small =
    same_on_members (λ c. strong_entries (value_at (low_row s k) c) (value_at (high_row s k) c)) (λ c. has_column k.columns c && (not (is_certain k.sort) || has_column s.known c)) set
    (λ c holds.
    let within = member_below set (length s.kinds) c small holds in
    rw (low_at s k c within, high_at s k c within) (entries_strong s.known k (kind_at s.kinds c) c ∙ untangled (is_certain k.sort) (has_column k.columns c) (has_column s.known c)))
    ∙ both (is_certain k.sort) (columns set)
  where
    untangled : (certain inside known : Bool) → (inside && not (certain && inside && not known)) ≡ (inside && (not certain || known))
    untangled true true true = refl
    untangled true true false = refl
    untangled true false known = refl
    untangled false true known = refl
    untangled false false known = refl

    regroup : (a b c d : Bool) → ((a && b) && (c && d)) ≡ ((a && c) && (b && d))
    regroup true true c d = refl
    regroup true false true d = refl
    regroup true false false d = refl
    regroup false b c d = refl

    both :
        (certain : Bool) (cs : List ℕ)
        → list_all (λ c. has_column k.columns c && (not certain || has_column s.known c)) cs
        ≡ (list_all (has_column k.columns) cs && (not certain || list_all (has_column s.known) cs))
    both true [] = refl
    both true (c ∷ cs) =
        rw (both true cs) (regroup (has_column k.columns c) (has_column s.known c) (list_all (has_column k.columns) cs) (list_all (has_column s.known) cs))
    both false [] = refl
    both false (c ∷ cs) =
        rw (both false cs) (regroup (has_column k.columns c) true (list_all (has_column k.columns) cs) true)
