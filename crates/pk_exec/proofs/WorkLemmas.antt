-- The edits of tables in one work.
use Rattle.std.proofs.Common.{◌≡◌, ℕ, ◌+◌, ◌≤◌, ◌<◌, Bool, true, false, not, ◌==◌, List, [], ◌∷◌, map, Option, Some, None, nat_le, refl, ap, sym, ◌∙◌, subst, arith, if◌then◌else◌}
use Rattle.std.specs.Prelude.{sum_by}
use Rattle.std.specs.List.{filter, find, AllByRecursion}
use Rattle.std.specs.List.Sorted.{IsStrictlySortedBy}
use Rattle.std.specs.Option.{unwrap_or}
use Rattle.std.specs.Ordering.{nat_cmp}
use Rattle.std.specs.declared.cmp.Ordering.TheVariants.{Less}
use Rattle.std.proofs.lemmas.Bool.{eqb-true, eqb-false, eq-eqb, ne_eqb, leb-true, leb-false, lt-ltb}
use Rattle.std.proofs.lemmas.List.Sums.{sum_by-cons}
use Rattle.pk_exec.specs.Works.{most_changes, TableEdits, Edits, IsWork, no_edits, edits_at, edit_count, is_for, work_size, size_elsewhere, put_table, with_table, SameElsewhere}
use Rattle.pk_values.proofs.NumberLemmas.{less_numbers}

-- nothing edited is a work
pub no_edits_is_work : IsWork no_edits
unfolding IsStrictlySortedBy
no_edits_is_work = record { ascend = tt; most = omega arith }

abbrev pub tables_of : List TableEdits → List ℕ
tables_of ts = map (λ (t : TableEdits). t.table) ts

none_of : ℕ → TableEdits
none_of table = record { table = table; edited = []; added = [] }

-- the edits at a table, by the list
abbrev at_in : List TableEdits → ℕ → TableEdits
at_in ts table = unwrap_or (find (is_for table) ts) (record { table = table; edited = []; added = [] })

-- ---- what is put is there, and all else stays

put_here : (t : TableEdits) (ts : List TableEdits) → find (is_for t.table) (put_table t ts) ≡ Some t
put_here t [] = rw (eq-eqb t.table t.table refl) refl
put_here t (u ∷ us) = by_order (nat_le t.table u.table) refl (put_here t us)
  where
    by_order : (b : Bool) → nat_le t.table u.table ≡ b → find (is_for t.table) (put_table t us) ≡ Some t
        → find (is_for t.table) (if b then (if u.table == t.table then t ∷ us else t ∷ u ∷ us) else u ∷ put_table t us) ≡ Some t
    by_order true at deeper = elim (u.table == t.table) as (λ b. find (is_for t.table) (if b then t ∷ us else t ∷ u ∷ us) ≡ Some t) [
      | true ↦ rw (eq-eqb t.table t.table refl) refl
      | false ↦ rw (eq-eqb t.table t.table refl) refl
    ]
    by_order false behind deeper = rw (ne_eqb u.table t.table (λ e. omega (arith, e, leb-false t.table u.table behind))) deeper

put_other : (t : TableEdits) (ts : List TableEdits) (k : ℕ) → (k ≡ t.table → ⊥) → find (is_for k) (put_table t ts) ≡ find (is_for k) ts
put_other t [] k apart = rw (ne_eqb t.table k (λ e. apart (sym e))) refl
put_other t (u ∷ us) k apart = elim (nat_le t.table u.table) as (λ b.
    find (is_for k) (if b then (if u.table == t.table then t ∷ us else t ∷ u ∷ us) else u ∷ put_table t us) ≡ find (is_for k) (u ∷ us)) [
      | true ↦ by_same (u.table == t.table) refl
      | false ↦ ap (λ (o : Option TableEdits). if u.table == k then Some u else o) (put_other t us k apart)
    ]
  where
    by_same : (b : Bool) → (u.table == t.table) ≡ b → find (is_for k) (if b then t ∷ us else t ∷ u ∷ us) ≡ find (is_for k) (u ∷ us)
    by_same true same = rw (ne_eqb t.table k (λ e. apart (sym e)), ne_eqb u.table k (λ e. apart (sym e ∙ eqb-true u.table t.table same))) refl
    by_same false differ = rw (ne_eqb t.table k (λ e. apart (sym e))) refl

pub edits_put : (t : TableEdits) (w : Edits) → edits_at (with_table t w) t.table ≡ t
unfolding edits_at
edits_put t w = ap (λ (o : Option TableEdits). unwrap_or o (record { table = t.table; edited = []; added = [] })) (put_here t w.tables)

pub same_elsewhere : (t : TableEdits) (w : Edits) → SameElsewhere t.table w (with_table t w)
unfolding edits_at
same_elsewhere t w k apart = ap (λ (o : Option TableEdits). unwrap_or o (record { table = k; edited = []; added = [] })) (put_other t w.tables k apart)

-- ---- sizes

abbrev elsewhere_in : List TableEdits → ℕ → ℕ
elsewhere_in ts table = sum_by edit_count (filter (λ t. not (is_for table t)) ts)

pub cmp_from_less : (k n : ℕ) → k < n → nat_cmp k n ≡ Less
cmp_from_less k n less = rw (lt-ltb k n less) refl

pub above_all : (k : ℕ) (ts : List TableEdits) → AllByRecursion (λ (n : ℕ). nat_cmp k n ≡ Less) (tables_of ts)
    → (filter (λ t. not (is_for k t)) ts ≡ ts) × (find (is_for k) ts ≡ None)
above_all k [] all = (refl, refl)
above_all k (t ∷ ts) all =
    let apart = ne_eqb t.table k (λ e. omega (arith, e, less_numbers k t.table all.0)) in
    let rest = above_all k ts all.1 in
    (rw apart (ap (λ (us : List TableEdits). t ∷ us) rest.0), rw apart rest.1)

size_in : (ts : List TableEdits) (k : ℕ) → IsStrictlySortedBy nat_cmp (tables_of ts) → sum_by edit_count ts ≡ elsewhere_in ts k + edit_count (at_in ts k)
unfolding IsStrictlySortedBy
size_in [] k rise = refl
size_in (t ∷ ts) k rise = by_table (t.table == k) refl (size_in ts k rise.1)
  where
    by_table : (b : Bool) → (t.table == k) ≡ b → sum_by edit_count ts ≡ elsewhere_in ts k + edit_count (at_in ts k)
        → sum_by edit_count (t ∷ ts)
        ≡ sum_by edit_count (if not b then t ∷ filter (λ u. not (is_for k u)) ts else filter (λ u. not (is_for k u)) ts)
        + edit_count (unwrap_or (if b then Some t else find (is_for k) ts) (record { table = k; edited = []; added = [] }))
    by_table true same deeper =
        let all = above_all k ts (subst (λ (n : ℕ). AllByRecursion (λ (m : ℕ). nat_cmp n m ≡ Less) (tables_of ts)) (eqb-true t.table k same) rise.0) in
        rw all.0 (omega (arith, sum_by-cons edit_count t ts))
    by_table false differ deeper =
        let kept = filter (λ u. not (is_for k u)) ts in
        omega (arith, deeper, sum_by-cons edit_count t ts, sum_by-cons edit_count t kept)

-- the changed rows of a work are those of one table and those elsewhere
pub size_parts : (w : Edits) (table : ℕ) → IsWork w → work_size w ≡ size_elsewhere w table + edit_count (edits_at w table)
unfolding size_elsewhere edits_at
size_parts w table is = size_in w.tables table is.ascend

-- ---- what is put leaves a work

all_put : (P : ℕ → Type 0) (t : TableEdits) (ts : List TableEdits) → P t.table → AllByRecursion P (tables_of ts) → AllByRecursion P (tables_of (put_table t ts))
all_put P t [] p ps = (p, tt)
all_put P t (u ∷ us) p ps = elim (nat_le t.table u.table) as (λ b. AllByRecursion P (tables_of (if b then (if u.table == t.table then t ∷ us else t ∷ u ∷ us) else u ∷ put_table t us))) [
  | true ↦ elim (u.table == t.table) as (λ b. AllByRecursion P (tables_of (if b then t ∷ us else t ∷ u ∷ us))) [
    | true ↦ (p, ps.1)
    | false ↦ (p, ps)
  ]
  | false ↦ (ps.0, all_put P t us p ps.1)
]

pub all_above : (k n : ℕ) (ks : List ℕ) → k < n → AllByRecursion (λ (m : ℕ). nat_cmp n m ≡ Less) ks → AllByRecursion (λ (m : ℕ). nat_cmp k m ≡ Less) ks
all_above k n [] less all = tt
all_above k n (m ∷ ks) less all = (cmp_from_less k m (omega (arith, less, less_numbers n m all.0)), all_above k n ks less all.1)

rise_put : (t : TableEdits) (ts : List TableEdits) → IsStrictlySortedBy nat_cmp (tables_of ts) → IsStrictlySortedBy nat_cmp (tables_of (put_table t ts))
unfolding IsStrictlySortedBy
rise_put t [] rise = (tt, tt)
rise_put t (u ∷ us) rise = by_order (nat_le t.table u.table) refl (rise_put t us rise.1)
  where
    by_same : (b : Bool) → (u.table == t.table) ≡ b → t.table ≤ u.table → IsStrictlySortedBy nat_cmp (tables_of (if b then t ∷ us else t ∷ u ∷ us))
    by_same true same at = (subst (λ (n : ℕ). AllByRecursion (λ (m : ℕ). nat_cmp n m ≡ Less) (tables_of us)) (eqb-true u.table t.table same) rise.0, rise.1)
    by_same false differ at =
        let less : t.table < u.table = omega (arith, at, eqb-false u.table t.table differ) in
        ((cmp_from_less t.table u.table less, all_above t.table u.table (tables_of us) less rise.0), rise)

    by_order : (b : Bool) → nat_le t.table u.table ≡ b → IsStrictlySortedBy nat_cmp (tables_of (put_table t us))
        → IsStrictlySortedBy nat_cmp (tables_of (if b then (if u.table == t.table then t ∷ us else t ∷ u ∷ us) else u ∷ put_table t us))
    by_order true at deeper = by_same (u.table == t.table) refl (leb-true t.table u.table at)
    by_order false behind deeper =
        (all_put (λ (m : ℕ). nat_cmp u.table m ≡ Less) t us (cmp_from_less u.table t.table (leb-false t.table u.table behind)) rise.0, deeper)

put_elsewhere : (t : TableEdits) (ts : List TableEdits) → filter (λ u. not (is_for t.table u)) (put_table t ts) ≡ filter (λ u. not (is_for t.table u)) ts
put_elsewhere t [] = rw (eq-eqb t.table t.table refl) refl
put_elsewhere t (u ∷ us) = elim (nat_le t.table u.table) as (λ b.
    filter (λ x. not (is_for t.table x)) (if b then (if u.table == t.table then t ∷ us else t ∷ u ∷ us) else u ∷ put_table t us)
    ≡ filter (λ x. not (is_for t.table x)) (u ∷ us)) [
      | true ↦ by_same (u.table == t.table) refl
      | false ↦ ap (λ (xs : List TableEdits). if not (u.table == t.table) then u ∷ xs else xs) (put_elsewhere t us)
    ]
  where
    by_same : (b : Bool) → (u.table == t.table) ≡ b
        → filter (λ x. not (is_for t.table x)) (if b then t ∷ us else t ∷ u ∷ us) ≡ filter (λ x. not (is_for t.table x)) (u ∷ us)
    by_same true same = rw (eq-eqb t.table t.table refl, same) refl
    by_same false differ = rw (eq-eqb t.table t.table refl) refl

-- what is put in leaves a work, if it isn't too much
pub put_is_work : (t : TableEdits) (w : Edits) → IsWork w → size_elsewhere w t.table + edit_count t ≤ most_changes → IsWork (with_table t w)
unfolding size_elsewhere
put_is_work t w is few =
    let rise = rise_put t w.tables is.ascend in
    let size : sum_by edit_count (put_table t w.tables) ≡ elsewhere_in (put_table t w.tables) t.table + edit_count t =
    size_in (put_table t w.tables) t.table rise
    ∙ ap (λ (o : Option TableEdits). elsewhere_in (put_table t w.tables) t.table + edit_count (unwrap_or o (record { table = t.table; edited = []; added = [] }))) (put_here t w.tables) in
    record {
      ascend = rise;
      most = omega (arith, size, few, ap (sum_by edit_count) (put_elsewhere t w.tables));
    }

-- no more is changed elsewhere than may be
pub elsewhere_few : (w : Edits) (table : ℕ) → IsWork w → size_elsewhere w table ≤ most_changes
elsewhere_few w table is = omega (arith, is.most, size_parts w table is)

pub elsewhere_in_few : (w : Edits) (table : ℕ) → IsWork w → sum_by edit_count (filter (λ t. not (is_for table t)) w.tables) ≤ most_changes
unfolding size_elsewhere
elsewhere_in_few w table is = elsewhere_few w table is

all_kept : (P : ℕ → Type 0) (p : TableEdits → Bool) (ts : List TableEdits) → AllByRecursion P (tables_of ts) → AllByRecursion P (tables_of (filter p ts))
all_kept P p [] all = tt
all_kept P p (t ∷ ts) all = elim (p t) as (λ b. AllByRecursion P (tables_of (if b then t ∷ filter p ts else filter p ts))) [
  | true ↦ (all.0, all_kept P p ts all.1)
  | false ↦ all_kept P p ts all.1
]

-- some of the tables are still in order
pub rise_kept : (p : TableEdits → Bool) (ts : List TableEdits) → IsStrictlySortedBy nat_cmp (tables_of ts) → IsStrictlySortedBy nat_cmp (tables_of (filter p ts))
unfolding IsStrictlySortedBy
rise_kept p [] rise = tt
rise_kept p (t ∷ ts) rise = elim (p t) as (λ b. IsStrictlySortedBy nat_cmp (tables_of (if b then t ∷ filter p ts else filter p ts))) [
  | true ↦ (all_kept (λ (m : ℕ). nat_cmp t.table m ≡ Less) p ts rise.0, rise_kept p ts rise.1)
  | false ↦ rise_kept p ts rise.1
]
