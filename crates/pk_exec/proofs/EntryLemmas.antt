-- What a change makes of what a transaction sees.
use Rattle.std.proofs.Common.{◌≡◌, ℕ, ◌+◌, Bool, true, false, not, List, [], ◌∷◌, ◌++◌, length, map, Option, Some, None, nat_le, refl, ap, sym, ◌∙◌, arith, length-append, if◌then◌else◌}
use Rattle.std.specs.List.{filter, flat_map}
use Rattle.std.proofs.lemmas.List.{map-append}
use Rattle.std.proofs.lemmas.List.Sums.{sum_by-cons}
use Rattle.pk_values.specs.declared.value.Value.{Value}
use Rattle.pk_values.specs.declared.refusal.Refusal.{Refusal}
use Rattle.pk_values.specs.declared.refusal.Refusal.TheVariants.{LongRow}
use Rattle.pk_values.specs.Refusals.{or_else, first_by}
use Rattle.pk_values.specs.Records.{row_record}
use Rattle.pk_logic.specs.declared.condition.Cond.{Cond}
use Rattle.pk_bind.specs.declared.edit.Edit.{Edit}
use Rattle.pk_bind.specs.declared.edit.SetTo.{SetTo}
use Rattle.pk_bind.specs.Fitting.{with_sets}
use Rattle.pk_bind.specs.Insert.{long_row}
use Rattle.pk_exec.specs.declared.base.BaseRow.{BaseRow}
use Rattle.pk_exec.specs.declared.change.Change.{Change}
use Rattle.pk_exec.specs.declared.change.Fate.{Fate}
use Rattle.pk_exec.specs.declared.change.Fate.TheVariants.{Left, Put, Gone, Long}
use Rattle.pk_exec.specs.Entries.{Entry, Kept, Touched, New, row_in, with_row}
use Rattle.pk_exec.specs.Bases.{base_entry, seen_entry}
use Rattle.pk_exec.specs.Edits.{takes, taken, updated, updated_entry, deleted}
use Rattle.pk_exec.specs.Fates.{fate_of, fate_refusal, taken_fate, put_fate, edit_change, removal}
use Rattle.pk_exec.specs.Drafts.{base_by, base_by_fate, changed_base, changed_added, base_taken, base_refusal, added_taken, added_refusal, added_by_fate, row_taken, row_refusal, taken_by}
use Rattle.pk_exec.specs.Refusals.{long_update}
use Rattle.pk_exec.specs.Seen.{new_entries}
use Rattle.pk_values.proofs.RefusalLemmas.{neither}

-- ---- UPDATE, one row

-- whether the row is taken and would be too long
abbrev long_entry : Edit → Entry → Option Refusal
long_entry e x = if takes e.cond (row_in x) then long_row (with_sets e.sets (row_in x)) else None

-- the refusal of a row's fate is that of its new row
fate_long : (e : Edit) (row : List Value)
    → fate_refusal (fate_of (edit_change e) row) ≡ (if takes e.cond row then long_row (with_sets e.sets row) else None)
unfolding fate_of
fate_long e row = elim (takes e.cond row) as (λ b. fate_refusal (if b then put_fate e.sets row else Left row) ≡ (if b then long_row (with_sets e.sets row) else None)) [
  | true ↦ elim (nat_le (length (row_record (with_sets e.sets row))) 4000) as (λ b.
      fate_refusal (if b then Put (with_sets e.sets row) else Long (length (row_record (with_sets e.sets row))))
      ≡ (if b then None else Some (LongRow (length (row_record (with_sets e.sets row)))))) [
        | true ↦ refl
        | false ↦ refl
      ]
  | false ↦ refl
]

-- how many rows a fate takes
fate_takes : (c : Change) (row : List Value) → taken_by (fate_of c row) ≡ (if takes c.cond row then 1 else 0)
unfolding fate_of
fate_takes c row = elim (takes c.cond row) as (λ b. taken_by (if b then taken_fate c.sets row else Left row) ≡ (if b then 1 else 0)) [
  | true ↦ by_sets c.sets
  | false ↦ refl
]
  where
    by_sets : (sets : Option (List SetTo)) → taken_by (taken_fate sets row) ≡ 1
    by_sets None = refl
    by_sets (Some sets) = elim (nat_le (length (row_record (with_sets sets row))) 4000) as (λ b.
        taken_by (if b then Put (with_sets sets row) else Long (length (row_record (with_sets sets row)))) ≡ 1) [
          | true ↦ refl
          | false ↦ refl
        ]

-- a fate that isn't refused puts the new row where the row is taken
fate_puts : (e : Edit) (row : List Value) → fate_refusal (fate_of (edit_change e) row) ≡ None
    → fate_of (edit_change e) row ≡ (if takes e.cond row then Put (with_sets e.sets row) else Left row)
unfolding fate_of
fate_puts e row none = by_taken (takes e.cond row) none
  where
    by_length : (b : Bool) (n : ℕ) → fate_refusal (if b then Put (with_sets e.sets row) else Long n) ≡ None
        → (if b then Put (with_sets e.sets row) else Long n) ≡ Put (with_sets e.sets row)
    by_length true n none = refl
    by_length false n none = absurd (cc)

    by_taken : (b : Bool) → fate_refusal (if b then put_fate e.sets row else Left row) ≡ None
        → (if b then put_fate e.sets row else Left row) ≡ (if b then Put (with_sets e.sets row) else Left row)
    by_taken true none = by_length (nat_le (length (row_record (with_sets e.sets row))) 4000) (length (row_record (with_sets e.sets row))) none
    by_taken false none = refl

-- ---- rows of the base

-- what is seen of a row of the base after an UPDATE
base_updated : (e : Edit) (b : BaseRow) (o : Option (List Value)) → b.row ≡ o → row_refusal (edit_change e) o ≡ None
    → base_entry (base_by (edit_change e) b o) ≡ updated e (seen_entry b.id b.edited o)
base_updated e b None is none = ap (seen_entry b.id b.edited) is
base_updated e b (Some row) is none =
    ap (λ (f : Fate). base_entry (base_by_fate b f)) (fate_puts e row none) ∙ by_taken (takes e.cond row) refl
  where
    by_edited : (edited : Bool) → Touched b.id (with_sets e.sets row) ∷ [] ≡ map (λ (x : Entry). with_row (with_sets e.sets (row_in x)) x) (seen_entry b.id edited (Some row))
    by_edited true = refl
    by_edited false = refl

    seen_taken : (edited t : Bool) → takes e.cond row ≡ t
        → updated e (seen_entry b.id edited (Some row))
        ≡ (if t then map (λ (x : Entry). with_row (with_sets e.sets (row_in x)) x) (seen_entry b.id edited (Some row)) else seen_entry b.id edited (Some row))
    seen_taken true true at = rw at refl
    seen_taken true false at = rw at refl
    seen_taken false true at = rw at refl
    seen_taken false false at = rw at refl

    by_taken : (t : Bool) → takes e.cond row ≡ t
        → base_entry (base_by_fate b (if t then Put (with_sets e.sets row) else Left row)) ≡ updated e (seen_entry b.id b.edited (Some row))
    by_taken true at = by_edited b.edited ∙ sym (seen_taken b.edited true at)
    by_taken false at = ap (seen_entry b.id b.edited) is ∙ sym (seen_taken b.edited false at)

-- ---- refusals one behind the other

else_assoc : (a b d : Option Refusal) → or_else (or_else a b) d ≡ or_else a (or_else b d)
else_assoc None b d = refl
else_assoc (Some r) b d = refl

else_none_right : (a : Option Refusal) → or_else a None ≡ a
else_none_right None = refl
else_none_right (Some r) = refl

first_append : {X : Type 0} (f : X → Option Refusal) (xs ys : List X) → first_by f (xs ++ ys) ≡ or_else (first_by f xs) (first_by f ys)
first_append f [] ys = refl
first_append f (x ∷ xs) ys = ap (or_else (f x)) (first_append f xs ys) ∙ sym (else_assoc (f x) (first_by f xs) (first_by f ys))

first_kept : {X : Type 0} (f : X → Option Refusal) (p : X → Bool) (xs : List X) → first_by f (filter p xs) ≡ first_by (λ x. if p x then f x else None) xs
first_kept f p [] = refl
first_kept f p (x ∷ xs) = elim (p x) as (λ b. first_by f (if b then x ∷ filter p xs else filter p xs) ≡ or_else (if b then f x else None) (first_by (λ y. if p y then f y else None) xs)) [
  | true ↦ ap (or_else (f x)) (first_kept f p xs)
  | false ↦ first_kept f p xs
]

-- ---- UPDATE, all rows

bases_updated : (e : Edit) (bs : List BaseRow) → base_refusal (edit_change e) bs ≡ None
    → flat_map base_entry (map (changed_base (edit_change e)) bs) ≡ updated e (flat_map base_entry bs)
bases_updated e [] none = refl
bases_updated e (b ∷ bs) none =
    let w = neither (row_refusal (edit_change e) b.row) (base_refusal (edit_change e) bs) none in
    ap (λ (xs : List Entry). xs ++ flat_map base_entry (map (changed_base (edit_change e)) bs)) (base_updated e b b.row refl w.0)
    ∙ ap (λ (xs : List Entry). updated e (base_entry b) ++ xs) (bases_updated e bs w.1)
    ∙ sym (map-append (updated_entry e) (base_entry b) (flat_map base_entry bs))

added_updated : (e : Edit) (added : List (List Value)) → added_refusal (edit_change e) added ≡ None
    → new_entries (changed_added (edit_change e) added) ≡ updated e (new_entries added)
added_updated e [] none = refl
added_updated e (row ∷ rows) none =
    let w = neither (fate_refusal (fate_of (edit_change e) row)) (added_refusal (edit_change e) rows) none in
    ap (λ (f : Fate). new_entries (added_by_fate f ++ changed_added (edit_change e) rows)) (fate_puts e row w.0)
    ∙ by_taken (takes e.cond row) refl (added_updated e rows w.1)
  where
    by_taken : (t : Bool) → takes e.cond row ≡ t → new_entries (changed_added (edit_change e) rows) ≡ updated e (new_entries rows)
        → new_entries (added_by_fate (if t then Put (with_sets e.sets row) else Left row) ++ changed_added (edit_change e) rows) ≡ updated e (New row ∷ new_entries rows)
    by_taken true at rest = rw at (ap (λ (xs : List Entry). New (with_sets e.sets row) ∷ xs) rest)
    by_taken false at rest = rw at (ap (λ (xs : List Entry). New row ∷ xs) rest)

-- what is seen after an UPDATE that isn't refused
pub entries_updated :
    (e : Edit) (bs : List BaseRow) (added : List (List Value)) → base_refusal (edit_change e) bs ≡ None → added_refusal (edit_change e) added ≡ None
    → flat_map base_entry (map (changed_base (edit_change e)) bs) ++ new_entries (changed_added (edit_change e) added)
    ≡ updated e (flat_map base_entry bs ++ new_entries added)
entries_updated e bs added base new =
    ap (λ (xs : List Entry). xs ++ new_entries (changed_added (edit_change e) added)) (bases_updated e bs base)
    ∙ ap (λ (xs : List Entry). updated e (flat_map base_entry bs) ++ xs) (added_updated e added new)
    ∙ sym (map-append (updated_entry e) (flat_map base_entry bs) (new_entries added))

seen_long : (e : Edit) (id : ℕ) (edited : Bool) (o : Option (List Value)) → first_by (long_entry e) (seen_entry id edited o) ≡ row_refusal (edit_change e) o
seen_long e id edited None = refl
seen_long e id true (Some row) = else_none_right (long_entry e (Touched id row)) ∙ sym (fate_long e row)
seen_long e id false (Some row) = else_none_right (long_entry e (Kept id row)) ∙ sym (fate_long e row)

bases_long : (e : Edit) (bs : List BaseRow) → first_by (long_entry e) (flat_map base_entry bs) ≡ base_refusal (edit_change e) bs
bases_long e [] = refl
bases_long e (b ∷ bs) =
    first_append (long_entry e) (base_entry b) (flat_map base_entry bs)
    ∙ ap (λ (r : Option Refusal). or_else r (first_by (long_entry e) (flat_map base_entry bs))) (seen_long e b.id b.edited b.row)
    ∙ ap (or_else (row_refusal (edit_change e) b.row)) (bases_long e bs)

added_long : (e : Edit) (added : List (List Value)) → first_by (long_entry e) (new_entries added) ≡ added_refusal (edit_change e) added
added_long e [] = refl
added_long e (row ∷ rows) =
    ap (λ (r : Option Refusal). or_else r (first_by (long_entry e) (new_entries rows))) (sym (fate_long e row))
    ∙ ap (or_else (fate_refusal (fate_of (edit_change e) row))) (added_long e rows)

-- the first row that would be too long
pub entries_long :
    (e : Edit) (bs : List BaseRow) (added : List (List Value))
    → long_update e (flat_map base_entry bs ++ new_entries added) ≡ or_else (base_refusal (edit_change e) bs) (added_refusal (edit_change e) added)
unfolding long_update
entries_long e bs added =
    first_kept (λ x. long_row (with_sets e.sets (row_in x))) (λ x. takes e.cond (row_in x)) (flat_map base_entry bs ++ new_entries added)
    ∙ first_append (long_entry e) (flat_map base_entry bs) (new_entries added)
    ∙ ap (λ (r : Option Refusal). or_else r (first_by (long_entry e) (new_entries added))) (bases_long e bs)
    ∙ ap (or_else (base_refusal (edit_change e) bs)) (added_long e added)

-- ---- how many rows are taken

pub kept_append : {X : Type 0} (p : X → Bool) (xs ys : List X) → filter p (xs ++ ys) ≡ filter p xs ++ filter p ys
kept_append {X = X} p [] ys = refl
kept_append {X = X} p (x ∷ xs) ys = elim (p x) as (λ b. (if b then x ∷ filter p (xs ++ ys) else filter p (xs ++ ys)) ≡ (if b then x ∷ filter p xs else filter p xs) ++ filter p ys) [
  | true ↦ ap (λ (zs : List X). x ∷ zs) (kept_append p xs ys)
  | false ↦ kept_append p xs ys
]

one_kept : {X : Type 0} (b : Bool) (x : X) (xs : List X) → length (if b then x ∷ xs else xs) ≡ (if b then 1 else 0) + length xs
one_kept true x xs = omega arith
one_kept false x xs = omega arith

seen_taken_count : (c : Change) (id : ℕ) (edited : Bool) (o : Option (List Value)) → length (taken c.cond (seen_entry id edited o)) ≡ row_taken c o
seen_taken_count c id edited None = refl
seen_taken_count c id true (Some row) = one_kept (takes c.cond row) (Touched id row) [] ∙ omega (arith, fate_takes c row)
seen_taken_count c id false (Some row) = one_kept (takes c.cond row) (Kept id row) [] ∙ omega (arith, fate_takes c row)

bases_taken : (c : Change) (bs : List BaseRow) → length (taken c.cond (flat_map base_entry bs)) ≡ base_taken c bs
bases_taken c [] = refl
bases_taken c (b ∷ bs) =
    ap length (kept_append (λ (x : Entry). takes c.cond (row_in x)) (base_entry b) (flat_map base_entry bs))
    ∙ length-append (taken c.cond (base_entry b)) (taken c.cond (flat_map base_entry bs))
    ∙ omega (arith, seen_taken_count c b.id b.edited b.row, bases_taken c bs, sum_by-cons (λ (x : BaseRow). row_taken c x.row) b bs)

added_taken_count : (c : Change) (added : List (List Value)) → length (taken c.cond (new_entries added)) ≡ added_taken c added
added_taken_count c [] = refl
added_taken_count c (row ∷ rows) =
    one_kept (takes c.cond row) (New row) (taken c.cond (new_entries rows))
    ∙ omega (arith, fate_takes c row, added_taken_count c rows, sum_by-cons (λ (r : List Value). taken_by (fate_of c r)) row rows)

-- as many rows are taken as are seen that meet the condition
pub entries_taken :
    (c : Change) (bs : List BaseRow) (added : List (List Value))
    → length (taken c.cond (flat_map base_entry bs ++ new_entries added)) ≡ base_taken c bs + added_taken c added
entries_taken c bs added =
    ap length (kept_append (λ (x : Entry). takes c.cond (row_in x)) (flat_map base_entry bs) (new_entries added))
    ∙ length-append (taken c.cond (flat_map base_entry bs)) (taken c.cond (new_entries added))
    ∙ omega (arith, bases_taken c bs, added_taken_count c added)

-- ---- DELETE

fate_removed : (cond : Option Cond) (row : List Value) → fate_of (removal cond) row ≡ (if takes cond row then Gone else Left row)
unfolding fate_of
fate_removed cond row = refl

removed_free : (cond : Option Cond) (row : List Value) → fate_refusal (fate_of (removal cond) row) ≡ None
removed_free cond row = ap fate_refusal (fate_removed cond row) ∙ by_taken (takes cond row)
  where
    by_taken : (t : Bool) → fate_refusal (if t then Gone else Left row) ≡ None
    by_taken true = refl
    by_taken false = refl

-- a DELETE makes no row too long
pub removal_free_base : (cond : Option Cond) (bs : List BaseRow) → base_refusal (removal cond) bs ≡ None
removal_free_base cond [] = refl
removal_free_base cond (b ∷ bs) = by_row b.row (removal_free_base cond bs)
  where
    by_row : (o : Option (List Value)) → base_refusal (removal cond) bs ≡ None → or_else (row_refusal (removal cond) o) (base_refusal (removal cond) bs) ≡ None
    by_row None rest = rest
    by_row (Some row) rest = rw (removed_free cond row) rest

pub removal_free_added : (cond : Option Cond) (added : List (List Value)) → added_refusal (removal cond) added ≡ None
removal_free_added cond [] = refl
removal_free_added cond (row ∷ rows) = rw (removed_free cond row) (removal_free_added cond rows)

base_deleted : (cond : Option Cond) (b : BaseRow) (o : Option (List Value)) → b.row ≡ o
    → base_entry (base_by (removal cond) b o) ≡ deleted cond (seen_entry b.id b.edited o)
base_deleted cond b None is = ap (seen_entry b.id b.edited) is
base_deleted cond b (Some row) is =
    ap (λ (f : Fate). base_entry (base_by_fate b f)) (fate_removed cond row) ∙ by_taken (takes cond row) refl
  where
    seen_kept : (edited t : Bool) → takes cond row ≡ t → deleted cond (seen_entry b.id edited (Some row)) ≡ (if t then [] else seen_entry b.id edited (Some row))
    seen_kept true true at = rw at refl
    seen_kept true false at = rw at refl
    seen_kept false true at = rw at refl
    seen_kept false false at = rw at refl

    by_taken : (t : Bool) → takes cond row ≡ t → base_entry (base_by_fate b (if t then Gone else Left row)) ≡ deleted cond (seen_entry b.id b.edited (Some row))
    by_taken true at = sym (seen_kept b.edited true at)
    by_taken false at = ap (seen_entry b.id b.edited) is ∙ sym (seen_kept b.edited false at)

bases_deleted : (cond : Option Cond) (bs : List BaseRow) → flat_map base_entry (map (changed_base (removal cond)) bs) ≡ deleted cond (flat_map base_entry bs)
bases_deleted cond [] = refl
bases_deleted cond (b ∷ bs) =
    ap (λ (xs : List Entry). xs ++ flat_map base_entry (map (changed_base (removal cond)) bs)) (base_deleted cond b b.row refl)
    ∙ ap (λ (xs : List Entry). deleted cond (base_entry b) ++ xs) (bases_deleted cond bs)
    ∙ sym (kept_append (λ (x : Entry). not (takes cond (row_in x))) (base_entry b) (flat_map base_entry bs))

added_deleted : (cond : Option Cond) (added : List (List Value)) → new_entries (changed_added (removal cond) added) ≡ deleted cond (new_entries added)
added_deleted cond [] = refl
added_deleted cond (row ∷ rows) =
    ap (λ (f : Fate). new_entries (added_by_fate f ++ changed_added (removal cond) rows)) (fate_removed cond row)
    ∙ by_taken (takes cond row) (added_deleted cond rows)
  where
    by_taken : (t : Bool) → new_entries (changed_added (removal cond) rows) ≡ deleted cond (new_entries rows)
        → new_entries (added_by_fate (if t then Gone else Left row) ++ changed_added (removal cond) rows)
        ≡ (if not t then New row ∷ deleted cond (new_entries rows) else deleted cond (new_entries rows))
    by_taken true rest = rest
    by_taken false rest = ap (λ (xs : List Entry). New row ∷ xs) rest

-- what is seen after a DELETE
pub entries_deleted :
    (cond : Option Cond) (bs : List BaseRow) (added : List (List Value))
    → flat_map base_entry (map (changed_base (removal cond)) bs) ++ new_entries (changed_added (removal cond) added)
    ≡ deleted cond (flat_map base_entry bs ++ new_entries added)
entries_deleted cond bs added =
    ap (λ (xs : List Entry). xs ++ new_entries (changed_added (removal cond) added)) (bases_deleted cond bs)
    ∙ ap (λ (xs : List Entry). deleted cond (flat_map base_entry bs) ++ xs) (added_deleted cond added)
    ∙ sym (kept_append (λ (x : Entry). not (takes cond (row_in x))) (flat_map base_entry bs) (new_entries added))
