-- The rows of a table with the changes that entries make of it, on which its keys are judged.
use Rattle.std.proofs.Common.{◌≡◌, ℕ, ◌+◌, ◌≤◌, ◌<◌, List, [], ◌∷◌, ◌++◌, length, refl, sym, ◌∙◌, ap, arith, subst, append_assoc}
use Rattle.std.specs.Ordering.{nat_cmp}
use Rattle.std.specs.List.Sorted.{IsStrictlySortedBy}
use Rattle.std.specs.List.{All, AllByRecursion}
use Rattle.std.proofs.lemmas.List.Elements.{All-from_recursion, recursion_from_All}
use Rattle.std.proofs.lemmas.List.{append-nil}
use Rattle.pk_values.specs.declared.changes.Changes.{Changes}
use Rattle.pk_values.specs.declared.placed.Placed.{Placed}
use Rattle.pk_values.specs.declared.value.Value.{Value}
use Rattle.pk_schema.specs.Admits.{Admits}
use Rattle.pk_exec.specs.Rows.{ids_of}
use Rattle.pk_exec.specs.Entries.{Entry, Kept, Touched, New, row_in}
use Rattle.pk_exec.specs.Changes.{touched_rows, added_rows, placed_from, changes_of}
use Rattle.pk_guard.specs.Changed.{put_row, put_rows, changed_rows}
use Rattle.pk_engine.specs.Base.{Table, changed_by}
use Rattle.pk_engine.specs.Entries.{Follow, Ends, Goes, Stays, Turns, placed, AreOf}
use Rattle.pk_engine.specs.Valid.{IsValidTable}
use Rattle.pk_engine.proofs.RowLemmas.{AreFrom, IdsRise, rises, rise_room, all_above}
use Rattle.pk_engine.proofs.EntryLemmas.{AreWithin, id_of_itself, kept_by_entries, found_whole, with_entries, olds, nows, touched_none, touched_within, all_placed, not_below, put_counted}
use Rattle.std.proofs.lemmas.Bool.{lt-ltb}

-- ---- one row put

-- a row with a lower id stands before it
lower_stays : (p q : Placed) (qs : List Placed) → q.id < p.id → put_row p (q ∷ qs) ≡ q ∷ put_row p qs
unfolding put_row
lower_stays p q qs lt = rw (lt-ltb q.id p.id lt) refl

-- the row with its id is replaced
same_goes : (id : ℕ) (row old : List Value) (qs : List Placed) → put_row (record { id = id; row = row }) (record { id = id; row = old } ∷ qs) ≡ record { id = id; row = row } ∷ qs
unfolding put_row
same_goes id row old qs = rw (not_below id, id_of_itself id) refl

-- behind all others it stands last
last_put : (p : Placed) (qs : List Placed) → AllByRecursion (λ q. q.id < p.id) qs → put_row p qs ≡ qs ++ p ∷ []
unfolding put_row
last_put p [] all = refl
last_put p (q ∷ qs) all = lower_stays p q qs all.0 ∙ ap (λ (rest : List Placed). q ∷ rest) (last_put p qs all.1)

-- ---- rows put, one behind the other

put_both : (xs ys rows : List Placed) → put_rows (xs ++ ys) rows ≡ put_rows ys (put_rows xs rows)
unfolding put_rows
put_both [] ys rows = refl
put_both (x ∷ xs) ys rows = put_both xs ys (put_row x rows)

-- rows with higher ids leave the first
first_kept : (ps : List Placed) (r : Placed) (rows : List Placed) → AreFrom (r.id + 1) ps → put_rows ps (r ∷ rows) ≡ r ∷ put_rows ps rows
unfolding put_rows
first_kept [] r rows from = refl
first_kept (p ∷ ps) r rows from = ap (put_rows ps) (lower_stays p r rows (omega (arith, from.0))) ∙ first_kept ps r (put_row p rows) from.1

within_from : (least next : ℕ) (ps : List Placed) → AreWithin least next ps → AreFrom least ps
within_from least next [] within = tt
within_from least next (p ∷ ps) within = (within.0.0, within_from least next ps within.1)

-- rows that are touched stand where they stood
touched_stand : (rows : List Placed) (es : List Entry) (least next : ℕ) → (d : Follow rows es) → IdsRise least rows next → put_rows (touched_rows es) (olds rows es d) ≡ nows rows es d
unfolding olds nows put_rows
touched_stand _ _ least next (Ends es new) rise = ap (λ (ts : List Placed). put_rows ts []) (touched_none es new)
touched_stand _ _ least next (Goes p ps es d) rise = touched_stand ps es (p.id + 1) next d rise.1
touched_stand _ _ least next (Stays p ps es d) rise =
    first_kept (touched_rows es) p (olds ps es d) (within_from (p.id + 1) next (touched_rows es) (touched_within ps es (p.id + 1) next d rise.1))
    ∙ ap (λ (rest : List Placed). p ∷ rest) (touched_stand ps es (p.id + 1) next d rise.1)
touched_stand _ _ least next (Turns p ps row es d) rise =
    let q : Placed = record { id = p.id; row = row } in
    ap (put_rows (touched_rows es)) (same_goes p.id row p.row (olds ps es d))
    ∙ first_kept (touched_rows es) q (olds ps es d) (within_from (p.id + 1) next (touched_rows es) (touched_within ps es (p.id + 1) next d rise.1))
    ∙ ap (λ (rest : List Placed). q ∷ rest) (touched_stand ps es (p.id + 1) next d rise.1)

all_lower : (low high : ℕ) (ps : List Placed) → low ≤ high → AllByRecursion (λ p. p.id < low) ps → AllByRecursion (λ p. p.id < high) ps
all_lower low high [] le all = tt
all_lower low high (p ∷ ps) le all = (omega (arith, le, all.0), all_lower low high ps le all.1)

one_more : (next : ℕ) (rows : List Placed) (row : List Value) → AllByRecursion (λ q. q.id < next) rows → AllByRecursion (λ q. q.id < next + 1) (rows ++ record { id = next; row = row } ∷ [])
one_more next [] row all = (omega arith, tt)
one_more next (q ∷ qs) row all = (omega (arith, all.0), one_more next qs row all.1)

-- new rows stand behind all others
new_stand : (next : ℕ) (rows : List Placed) (new : List (List Value)) → AllByRecursion (λ q. q.id < next) rows → put_rows (placed_from next new) rows ≡ rows ++ placed_from next new
unfolding put_rows
new_stand next rows [] all = sym (append-nil rows)
new_stand next rows (row ∷ new) all =
    let p : Placed = record { id = next; row = row } in
    ap (put_rows (placed_from (next + 1) new)) (last_put p rows all)
    ∙ new_stand (next + 1) (rows ++ p ∷ []) new (one_more next rows row all)
    ∙ append_assoc rows (p ∷ []) (placed_from (next + 1) new)

nows_low : (rows : List Placed) (es : List Entry) (least next : ℕ) → (d : Follow rows es) → IdsRise least rows next → AllByRecursion (λ q. q.id < next) (nows rows es d)
unfolding nows
nows_low _ _ least next (Ends es new) rise = tt
nows_low _ _ least next (Goes p ps es d) rise = nows_low ps es (p.id + 1) next d rise.1
nows_low _ _ least next (Stays p ps es d) rise = (let room = rise_room (p.id + 1) next ps rise.1 in omega (arith, room), nows_low ps es (p.id + 1) next d rise.1)
nows_low _ _ least next (Turns p ps row es d) rise = (let room = rise_room (p.id + 1) next ps rise.1 in omega (arith, room), nows_low ps es (p.id + 1) next d rise.1)

-- ---- the rows of a table as they would be

rows_of_entries : (rows : List Placed) (es : List Entry) (next : ℕ) → IdsRise 1 rows next → Follow rows es → changed_rows (changes_of rows next es) rows ≡ placed next es
rows_of_entries rows es next rise d =
    ap (put_rows (touched_rows es ++ placed_from next (added_rows es))) (kept_by_entries es rows rows (found_whole rows) ∙ with_entries rows es 1 next d rise)
    ∙ put_both (touched_rows es) (placed_from next (added_rows es)) (olds rows es d)
    ∙ ap (put_rows (placed_from next (added_rows es))) (touched_stand rows es 1 next d rise)
    ∙ new_stand next (nows rows es d) (added_rows es) (nows_low rows es 1 next d rise)
    ∙ sym (all_placed rows es next d)

-- what is changed of a table leaves the rows of the entries
pub entries_committed : (t : Table) (es : List Entry) → IdsRise 1 t.rows t.next → Follow t.rows es
    → changed_by (changes_of t.rows t.next es) t ≡ record t { next = t.next + length (added_rows es); rows = placed t.next es }
unfolding changed_by
entries_committed t es rise d =
    ap (λ (n : ℕ). record t { next = t.next + n; rows = changed_rows (changes_of t.rows t.next es) t.rows }) (put_counted t.rows es 1 t.next d rise)
    ∙ ap (λ (rows : List Placed). record t { next = t.next + length (added_rows es); rows = rows }) (rows_of_entries t.rows es t.next rise d)

-- ---- their order

placed_high : (low from : ℕ) (new : List (List Value)) → low ≤ from → AreFrom low (placed_from from new)
placed_high low from [] le = tt
placed_high low from (row ∷ new) le = (le, placed_high low (from + 1) new (omega (arith, le)))

both_from : (low : ℕ) (xs ys : List Placed) → AreFrom low xs → AreFrom low ys → AreFrom low (xs ++ ys)
both_from low [] ys front back = back
both_from low (x ∷ xs) ys front back = (front.0, both_from low xs ys front.1 back)

placed_sorted : (from : ℕ) (new : List (List Value)) → IsStrictlySortedBy nat_cmp (ids_of (placed_from from new))
unfolding IsStrictlySortedBy
placed_sorted from [] = tt
placed_sorted from (row ∷ new) = (all_above from (placed_from (from + 1) new) (placed_high (from + 1) (from + 1) new (omega arith)), placed_sorted (from + 1) new)

put_sorted : (rows : List Placed) (es : List Entry) (least next : ℕ) → Follow rows es → IdsRise least rows next
    → IsStrictlySortedBy nat_cmp (ids_of (touched_rows es ++ placed_from next (added_rows es)))
unfolding IsStrictlySortedBy
put_sorted _ _ least next (Ends es new) rise =
    subst (λ (ts : List Placed). IsStrictlySortedBy nat_cmp (ids_of (ts ++ placed_from next (added_rows es)))) (sym (touched_none es new)) (placed_sorted next (added_rows es))
put_sorted _ _ least next (Goes p ps es d) rise = put_sorted ps es (p.id + 1) next d rise.1
put_sorted _ _ least next (Stays p ps es d) rise = put_sorted ps es (p.id + 1) next d rise.1
put_sorted _ _ least next (Turns p ps row es d) rise =
    let behind = within_from (p.id + 1) next (touched_rows es) (touched_within ps es (p.id + 1) next d rise.1) in
    let new = placed_high (p.id + 1) next (added_rows es) (rise_room (p.id + 1) next ps rise.1) in (
      all_above p.id (touched_rows es ++ placed_from next (added_rows es)) (both_from (p.id + 1) (touched_rows es) (placed_from next (added_rows es)) behind new),
      put_sorted ps es (p.id + 1) next d rise.1,
    )

pub put_ascend : (t : Table) (c : Changes) → IsValidTable t → AreOf t c → IsStrictlySortedBy nat_cmp (ids_of c.put)
put_ascend t c valid of = subst (λ (d : Changes). IsStrictlySortedBy nat_cmp (ids_of d.put)) (sym of.3) (put_sorted t.rows of.0 1 t.next of.1 (rises t valid))

-- ---- the schema admits them

both_hold : (P : Placed → Type 0) (xs ys : List Placed) → AllByRecursion P xs → AllByRecursion P ys → AllByRecursion P (xs ++ ys)
both_hold P [] ys front back = back
both_hold P (x ∷ xs) ys front back = (front.0, both_hold P xs ys front.1 back)

touched_hold : (P : List Value → Type 0) (es : List Entry) → AllByRecursion (λ e. P (row_in e)) es → AllByRecursion (λ p. P p.row) (touched_rows es)
touched_hold P [] all = tt
touched_hold P (Kept k r ∷ es) all = touched_hold P es all.1
touched_hold P (Touched k r ∷ es) all = (all.0, touched_hold P es all.1)
touched_hold P (New r ∷ es) all = touched_hold P es all.1

added_hold : (P : List Value → Type 0) (es : List Entry) (next : ℕ) → AllByRecursion (λ e. P (row_in e)) es → AllByRecursion (λ p. P p.row) (placed_from next (added_rows es))
added_hold P [] next all = tt
added_hold P (Kept k r ∷ es) next all = added_hold P es next all.1
added_hold P (Touched k r ∷ es) next all = added_hold P es next all.1
added_hold P (New r ∷ es) next all = (all.0, added_hold P es (next + 1) all.1)

pub put_admitted : (t : Table) (c : Changes) → AreOf t c → All (λ p. Admits t.shape p.row) c.put
put_admitted t c of =
    let all = recursion_from_All (λ (e : Entry). Admits t.shape (row_in e)) of.0 (λ i e within. (of.2 i e within).0) in
    subst (λ (d : Changes). All (λ (p : Placed). Admits t.shape p.row) d.put) (sym of.3)
    (All-from_recursion (λ (p : Placed). Admits t.shape p.row) _
    (both_hold (λ (p : Placed). Admits t.shape p.row) _ _ (touched_hold (Admits t.shape) of.0 all) (added_hold (Admits t.shape) of.0 t.next all)))
