use Rattle.std.proofs.Common.{◌≡◌, ℕ, ◌+◌, ◌≤◌, ◌<◌, Bool, true, false, not, ◌==◌, ◌&&◌, ◌||◌, List, [], ◌∷◌, ◌++◌, length, map, refl, sym, ◌∙◌, ap, arith, if◌then◌else◌, suc, subst}
use Rattle.std.specs.Prelude.{filter, nat_lt, nat_le, cond}
use Rattle.std.specs.Ordering.{nat_cmp}
use Rattle.std.specs.Cmp.{nat_cmp_is}
use Rattle.std.specs.declared.cmp.Ordering.TheVariants.{Less}
use Rattle.std.specs.List.Sorted.{IsStrictlySortedBy}
use Rattle.std.specs.List.{list_any, AllByRecursion}
use Rattle.std.proofs.lemmas.Map.Views.{any-filter_same}
use Rattle.std.proofs.lemmas.Bool.{eqb-true, or_right}
use Rattle.pk_values.specs.declared.placed.Placed.{Placed}
use Rattle.pk_values.specs.declared.value.Value.{Value}
use Rattle.pk_exec.specs.Rows.{ids_of}
use Rattle.pk_exec.specs.Entries.{Entry, Kept, Touched, New, row_in, with_row as set_row, kept_entry}
use Rattle.pk_exec.specs.Changes.{is_entry_of, gone_ids, touched_rows, added_rows, placed_from}
use Rattle.pk_guard.specs.Changed.{IdsAscend, stays}
use Rattle.pk_engine.specs.Entries.{AreNew, Follow, Ends, Goes, Stays, Turns, placed}
use Rattle.pk_engine.proofs.RowLemmas.{AreFrom, IdsRise, rise_from, rise_room, lower_rise, other_id, other_above}

-- ---- ids

pub id_of_itself : (n : ℕ) → (n == n) ≡ true
id_of_itself n = grind arith

-- ---- the rows that go

abbrev has_entry : List Entry → ℕ → Bool
has_entry es id = list_any (is_entry_of id) es

-- an id goes where no entry has it, and it is one of the rows'
gone_when : (es : List Entry) (rows : List Placed) (p : Placed) → list_any (λ (id : ℕ). id == p.id) (gone_ids rows es) ≡ (not (has_entry es p.id) && list_any (λ (id : ℕ). id == p.id) (ids_of rows))
unfolding gone_ids
gone_when es rows p =
    any-filter_same (λ (id : ℕ). id == p.id) (λ (id : ℕ). not (has_entry es id)) (not (has_entry es p.id))
    (λ id same. ap (λ (i : ℕ). not (has_entry es i)) (eqb-true id p.id same)) (ids_of rows)

-- each of these is found in the whole
abbrev AreFound : List Placed → List Placed → Type 0
AreFound whole rows = AllByRecursion (λ p. list_any (λ (id : ℕ). id == p.id) (ids_of whole) ≡ true) rows

found_more : (r : Placed) (whole rows : List Placed) → AreFound whole rows → AreFound (r ∷ whole) rows
found_more r whole [] found = tt
found_more r whole (p ∷ ps) found = (or_right (r.id == p.id) _ found.0, found_more r whole ps found.1)

pub found_whole : (rows : List Placed) → AreFound rows rows
found_whole [] = tt
found_whole (p ∷ ps) = (ap (λ (b : Bool). b || list_any (λ (id : ℕ). id == p.id) (ids_of ps)) (id_of_itself p.id), found_more p ps ps (found_whole ps))

stays_when : (has found : Bool) → found ≡ true → not (not has && found) ≡ has
stays_when true found is = refl
stays_when false found is = ap not is

chosen : {X : Type 0} (b c : Bool) (x : X) (us vs : List X) → b ≡ c → us ≡ vs → cond b (x ∷ us) us ≡ cond c (x ∷ vs) vs
chosen b c x us vs e f = rw (e, f) refl

pub kept_by_entries : (es : List Entry) (whole rows : List Placed) → AreFound whole rows
    → filter (stays (gone_ids whole es)) rows ≡ filter (λ (p : Placed). has_entry es p.id) rows
kept_by_entries es whole [] found = refl
kept_by_entries es whole (p ∷ ps) found =
    chosen _ _ p _ _
    (ap not (gone_when es whole p) ∙ stays_when (has_entry es p.id) (list_any (λ (id : ℕ). id == p.id) (ids_of whole)) found.0)
    (kept_by_entries es whole ps found.1)

-- ---- entries over rows whose ids rise

none_new : (es : List Entry) (id : ℕ) → AreNew es → has_entry es id ≡ false
none_new [] id new = refl
none_new (Kept k row ∷ es) id new = absurd new
none_new (Touched k row ∷ es) id new = absurd new
none_new (New row ∷ es) id new = none_new es id new

or_both : (a b : Bool) → a ≡ false → b ≡ false → (a || b) ≡ false
or_both a b e f = rw (e, f) refl

-- no entry has an id below those of the rows
pub none_below : (rows : List Placed) (es : List Entry) (id : ℕ) → Follow rows es → AreFrom (id + 1) rows → has_entry es id ≡ false
none_below _ _ id (Ends es new) from = none_new es id new
none_below _ _ id (Goes p ps es d) from = none_below ps es id d from.1
none_below _ _ id (Stays p ps es d) from = or_both _ _ (other_above p.id id from.0) (none_below ps es id d from.1)
none_below _ _ id (Turns p ps row es d) from = or_both _ _ (other_above p.id id from.0) (none_below ps es id d from.1)

-- the rows that have entries, as they were
unfoldable pub olds : (rows : List Placed) (es : List Entry) → Follow rows es → List Placed
olds _ _ (Ends es new) = []
olds _ _ (Goes p ps es d) = olds ps es d
olds _ _ (Stays p ps es d) = p ∷ olds ps es d
olds _ _ (Turns p ps row es d) = p ∷ olds ps es d

-- the rows that have entries, as those have them
unfoldable pub nows : (rows : List Placed) (es : List Entry) → Follow rows es → List Placed
nows _ _ (Ends es new) = []
nows _ _ (Goes p ps es d) = nows ps es d
nows _ _ (Stays p ps es d) = p ∷ nows ps es d
nows _ _ (Turns p ps row es d) = record { id = p.id; row = row } ∷ nows ps es d

left_out : {X : Type 0} (b : Bool) (x : X) (us : List X) → b ≡ false → cond b (x ∷ us) us ≡ us
left_out b x us e = rw e refl

put_in : {X : Type 0} (b : Bool) (x : X) (us : List X) → b ≡ true → cond b (x ∷ us) us ≡ x ∷ us
put_in b x us e = rw e refl

-- an entry of a lower id tells nothing of higher ones
entry_below : (e : Entry) (es : List Entry) (low : ℕ) (rows : List Placed) → ((id : ℕ) → low + 1 ≤ id → is_entry_of id e ≡ false) → AreFrom (low + 1) rows
    → filter (λ (p : Placed). has_entry (e ∷ es) p.id) rows ≡ filter (λ (p : Placed). has_entry es p.id) rows
entry_below e es low [] other from = refl
entry_below e es low (p ∷ ps) other from =
    chosen _ _ p _ _ (ap (λ (b : Bool). b || has_entry es p.id) (other p.id from.0)) (entry_below e es low ps other from.1)

other_below : (low id : ℕ) → low + 1 ≤ id → (low == id) ≡ false
other_below low id le = other_id low id (omega (arith, le))

pub with_entries : (rows : List Placed) (es : List Entry) (least next : ℕ) → (d : Follow rows es) → IdsRise least rows next
    → filter (λ (p : Placed). has_entry es p.id) rows ≡ olds rows es d
unfolding olds
with_entries _ _ least next (Ends es new) rise = refl
with_entries _ _ least next (Goes p ps es d) rise =
    let from = rise_from (p.id + 1) next ps rise.1 in
    left_out _ p _ (none_below ps es p.id d from) ∙ with_entries ps es (p.id + 1) next d rise.1
with_entries _ _ least next (Stays p ps es d) rise =
    let from = rise_from (p.id + 1) next ps rise.1 in
    put_in _ p _ (ap (λ (b : Bool). b || has_entry es p.id) (id_of_itself p.id))
    ∙ ap (λ (rest : List Placed). p ∷ rest) (entry_below (Kept p.id p.row) es p.id ps (other_below p.id) from ∙ with_entries ps es (p.id + 1) next d rise.1)
with_entries _ _ least next (Turns p ps row es d) rise =
    let from = rise_from (p.id + 1) next ps rise.1 in
    put_in _ p _ (ap (λ (b : Bool). b || has_entry es p.id) (id_of_itself p.id))
    ∙ ap (λ (rest : List Placed). p ∷ rest) (entry_below (Touched p.id row) es p.id ps (other_below p.id) from ∙ with_entries ps es (p.id + 1) next d rise.1)

-- ---- rows put

pub not_below : (n : ℕ) → nat_lt n n ≡ false
not_below n = grind arith

sum_one : (n m : ℕ) → n + 1 + m ≡ n + suc m
sum_one n m = omega arith

-- rows below the next id, none below the least
abbrev pub AreWithin : ℕ → ℕ → List Placed → Type 0
AreWithin least next rows = AllByRecursion (λ p. (least ≤ p.id) × (p.id < next)) rows

within_lower : (low high next : ℕ) (ps : List Placed) → low ≤ high → AreWithin high next ps → AreWithin low next ps
within_lower low high next [] le within = tt
within_lower low high next (p ∷ ps) le within = ((omega (arith, le, within.0.0), within.0.1), within_lower low high next ps le within.1)

pub touched_none : (es : List Entry) → AreNew es → touched_rows es ≡ []
touched_none [] new = refl
touched_none (Kept k row ∷ es) new = absurd new
touched_none (Touched k row ∷ es) new = absurd new
touched_none (New row ∷ es) new = touched_none es new

pub touched_within : (rows : List Placed) (es : List Entry) (least next : ℕ) → Follow rows es → IdsRise least rows next → AreWithin least next (touched_rows es)
touched_within _ _ least next (Ends es new) rise = subst (AreWithin least next) (sym (touched_none es new)) tt
touched_within _ _ least next (Goes p ps es d) rise = within_lower least (p.id + 1) next _ (omega (arith, rise.0)) (touched_within ps es (p.id + 1) next d rise.1)
touched_within _ _ least next (Stays p ps es d) rise = within_lower least (p.id + 1) next _ (omega (arith, rise.0)) (touched_within ps es (p.id + 1) next d rise.1)
touched_within _ _ least next (Turns p ps row es d) rise =
    ((rise.0, below_from p.id next (rise_room (p.id + 1) next ps rise.1)), within_lower least (p.id + 1) next _ (omega (arith, rise.0)) (touched_within ps es (p.id + 1) next d rise.1))
  where
    below_from : (m n : ℕ) → m + 1 ≤ n → m < n
    below_from m n le = omega (arith, le)

-- ---- a table after what entries change of it

pub olds_from : (rows : List Placed) (es : List Entry) (least : ℕ) → (d : Follow rows es) → AreFrom least rows → AreFrom least (olds rows es d)
unfolding olds
olds_from _ _ least (Ends es new) from = tt
olds_from _ _ least (Goes p ps es d) from = olds_from ps es least d from.1
olds_from _ _ least (Stays p ps es d) from = (from.0, olds_from ps es least d from.1)
olds_from _ _ least (Turns p ps row es d) from = (from.0, olds_from ps es least d from.1)

new_placed : (next : ℕ) (es : List Entry) → AreNew es → placed next es ≡ placed_from next (added_rows es)
new_placed next [] new = refl
new_placed next (Kept k row ∷ es) new = absurd new
new_placed next (Touched k row ∷ es) new = absurd new
new_placed next (New row ∷ es) new = ap (λ (rs : List Placed). record { id = next; row = row } ∷ rs) (new_placed (next + 1) es new)

pub all_placed : (rows : List Placed) (es : List Entry) (next : ℕ) → (d : Follow rows es) → placed next es ≡ nows rows es d ++ placed_from next (added_rows es)
unfolding nows
all_placed _ _ next (Ends es new) = new_placed next es new
all_placed _ _ next (Goes p ps es d) = all_placed ps es next d
all_placed _ _ next (Stays p ps es d) = ap (λ (rs : List Placed). p ∷ rs) (all_placed ps es next d)
all_placed _ _ next (Turns p ps row es d) = ap (λ (rs : List Placed). record { id = p.id; row = row } ∷ rs) (all_placed ps es next d)

-- ---- what statements make of the entries

pub follow_kept : (rows : List Placed) → Follow rows (map kept_entry rows)
follow_kept [] = Ends [] tt
follow_kept (p ∷ ps) = Stays p ps (map kept_entry ps) (follow_kept ps)

-- the entries, some of them with other rows
abbrev reset : (Entry → Bool) → (Entry → List Value) → Entry → Entry
reset takes row e = if takes e then set_row (row e) e else e

new_reset : (b : Bool) (row old : List Value) (es : List Entry) → AreNew es → AreNew ((if b then New row else New old) ∷ es)
new_reset true row old es new = new
new_reset false row old es new = new

reset_new : (takes : Entry → Bool) (row : Entry → List Value) (es : List Entry) → AreNew es → AreNew (map (reset takes row) es)
reset_new takes row [] new = tt
reset_new takes row (Kept k r ∷ es) new = absurd new
reset_new takes row (Touched k r ∷ es) new = absurd new
reset_new takes row (New r ∷ es) new = new_reset (takes (New r)) (row (New r)) r (map (reset takes row) es) (reset_new takes row es new)

turned_or_kept : (b : Bool) (p : Placed) (ps : List Placed) (row : List Value) (es : List Entry) → Follow ps es → Follow (p ∷ ps) ((if b then Touched p.id row else Kept p.id p.row) ∷ es)
turned_or_kept true p ps row es d = Turns p ps row es d
turned_or_kept false p ps row es d = Stays p ps es d

turned_again : (b : Bool) (p : Placed) (ps : List Placed) (row old : List Value) (es : List Entry) → Follow ps es → Follow (p ∷ ps) ((if b then Touched p.id row else Touched p.id old) ∷ es)
turned_again true p ps row old es d = Turns p ps row es d
turned_again false p ps row old es d = Turns p ps old es d

pub follow_reset : (takes : Entry → Bool) (row : Entry → List Value) (rows : List Placed) (es : List Entry) → Follow rows es → Follow rows (map (reset takes row) es)
follow_reset takes row _ _ (Ends es new) = Ends (map (reset takes row) es) (reset_new takes row es new)
follow_reset takes row _ _ (Goes p ps es d) = Goes p ps (map (reset takes row) es) (follow_reset takes row ps es d)
follow_reset takes row _ _ (Stays p ps es d) = turned_or_kept _ p ps _ _ (follow_reset takes row ps es d)
follow_reset takes row _ _ (Turns p ps old es d) = turned_again _ p ps _ old _ (follow_reset takes row ps es d)

new_chosen : (b : Bool) (row : List Value) (es : List Entry) → AreNew es → AreNew (cond b (New row ∷ es) es)
new_chosen true row es new = new
new_chosen false row es new = new

chosen_new : (keeps : Entry → Bool) (es : List Entry) → AreNew es → AreNew (filter keeps es)
chosen_new keeps [] new = tt
chosen_new keeps (Kept k r ∷ es) new = absurd new
chosen_new keeps (Touched k r ∷ es) new = absurd new
chosen_new keeps (New r ∷ es) new = new_chosen (keeps (New r)) r (filter keeps es) (chosen_new keeps es new)

kept_or_gone : (b : Bool) (p : Placed) (ps : List Placed) (es : List Entry) → Follow ps es → Follow (p ∷ ps) (cond b (Kept p.id p.row ∷ es) es)
kept_or_gone true p ps es d = Stays p ps es d
kept_or_gone false p ps es d = Goes p ps es d

turned_or_gone : (b : Bool) (p : Placed) (ps : List Placed) (row : List Value) (es : List Entry) → Follow ps es → Follow (p ∷ ps) (cond b (Touched p.id row ∷ es) es)
turned_or_gone true p ps row es d = Turns p ps row es d
turned_or_gone false p ps row es d = Goes p ps es d

pub follow_chosen : (keeps : Entry → Bool) (rows : List Placed) (es : List Entry) → Follow rows es → Follow rows (filter keeps es)
follow_chosen keeps _ _ (Ends es new) = Ends (filter keeps es) (chosen_new keeps es new)
follow_chosen keeps _ _ (Goes p ps es d) = Goes p ps (filter keeps es) (follow_chosen keeps ps es d)
follow_chosen keeps _ _ (Stays p ps es d) = kept_or_gone (keeps (Kept p.id p.row)) p ps (filter keeps es) (follow_chosen keeps ps es d)
follow_chosen keeps _ _ (Turns p ps row es d) = turned_or_gone (keeps (Touched p.id row)) p ps row (filter keeps es) (follow_chosen keeps ps es d)

all_new : (news : List (List Value)) → AreNew (map (λ row. New row) news)
all_new [] = tt
all_new (row ∷ news) = all_new news

new_behind : (es : List Entry) (news : List (List Value)) → AreNew es → AreNew (es ++ map (λ row. New row) news)
new_behind [] news new = all_new news
new_behind (Kept k r ∷ es) news new = absurd new
new_behind (Touched k r ∷ es) news new = absurd new
new_behind (New r ∷ es) news new = new_behind es news new

pub follow_added : (news : List (List Value)) (rows : List Placed) (es : List Entry) → Follow rows es → Follow rows (es ++ map (λ row. New row) news)
follow_added news _ _ (Ends es new) = Ends (es ++ map (λ row. New row) news) (new_behind es news new)
follow_added news _ _ (Goes p ps es d) = Goes p ps _ (follow_added news ps es d)
follow_added news _ _ (Stays p ps es d) = Stays p ps _ (follow_added news ps es d)
follow_added news _ _ (Turns p ps row es d) = Turns p ps row _ (follow_added news ps es d)

-- ---- the rows of the entries

new_rise : (next : ℕ) (es : List Entry) → AreNew es → IdsRise next (placed next es) (next + length (added_rows es))
new_rise next [] new = omega arith
new_rise next (Kept k r ∷ es) new = absurd new
new_rise next (Touched k r ∷ es) new = absurd new
new_rise next (New r ∷ es) new =
    (omega arith, subst (λ (n : ℕ). IdsRise (next + 1) (placed (next + 1) es) n) (sum_one next (length (added_rows es))) (new_rise (next + 1) es new))

-- ids rise after entries as they did before
pub entries_rise : (rows : List Placed) (es : List Entry) (least next : ℕ) → Follow rows es → IdsRise least rows next → IdsRise least (placed next es) (next + length (added_rows es))
entries_rise _ _ least next (Ends es new) rise = lower_rise least next _ _ rise (new_rise next es new)
entries_rise _ _ least next (Goes p ps es d) rise = lower_rise least (p.id + 1) _ _ (omega (arith, rise.0)) (entries_rise ps es (p.id + 1) next d rise.1)
entries_rise _ _ least next (Stays p ps es d) rise = (rise.0, entries_rise ps es (p.id + 1) next d rise.1)
entries_rise _ _ least next (Turns p ps row es d) rise = (rise.0, entries_rise ps es (p.id + 1) next d rise.1)

-- what holds of the row of each entry holds of each row
pub entries_hold : (P : List Value → Type 0) (es : List Entry) (next : ℕ) → AllByRecursion (λ e. P (row_in e)) es → AllByRecursion (λ p. P p.row) (placed next es)
entries_hold P [] next all = tt
entries_hold P (Kept k r ∷ es) next all = (all.0, entries_hold P es next all.1)
entries_hold P (Touched k r ∷ es) next all = (all.0, entries_hold P es next all.1)
entries_hold P (New r ∷ es) next all = (all.0, entries_hold P es (next + 1) all.1)

-- as many rows as entries
pub length-placed : (es : List Entry) (next : ℕ) → length (placed next es) ≡ length es
length-placed [] next = refl
length-placed (Kept k r ∷ es) next = ap suc (length-placed es next)
length-placed (Touched k r ∷ es) next = ap suc (length-placed es next)
length-placed (New r ∷ es) next = ap suc (length-placed es (next + 1))

gone_and_kept : {X : Type 0} (keeps : X → Bool) (xs : List X) → length (filter (λ x. not (keeps x)) xs) + length (filter keeps xs) ≡ length xs
gone_and_kept keeps [] = refl
gone_and_kept keeps (x ∷ xs) = counted (keeps x) x (filter (λ x. not (keeps x)) xs) (filter keeps xs) (length xs) (gone_and_kept keeps xs)
  where
    counted : {X : Type 0} (b : Bool) (x : X) (us vs : List X) (n : ℕ) → length us + length vs ≡ n → length (cond (not b) (x ∷ us) us) + length (cond b (x ∷ vs) vs) ≡ suc n
    counted true x us vs n e = omega (arith, e)
    counted false x us vs n e = omega (arith, e)

-- as many entries as rows that stay, and new ones
pub entries_counted : (rows : List Placed) (es : List Entry) (least next : ℕ) → Follow rows es → IdsRise least rows next
    → length (gone_ids rows es) + length es ≡ length rows + length (added_rows es)
unfolding gone_ids olds
entries_counted rows es least next d rise =
    let of_ids = ids_filtered (has_entry es) rows in
    let parted = gone_and_kept (λ (p : Placed). has_entry es p.id) rows in
    let kept : length (filter (λ (p : Placed). has_entry es p.id) rows) ≡ length (olds rows es d) = ap length (with_entries rows es least next d rise) in
    let all = olds_counted rows es d in
    omega (arith, of_ids, parted, kept, all)
  where
    ids_filtered : (q : ℕ → Bool) (ps : List Placed) → length (filter (λ id. not (q id)) (ids_of ps)) ≡ length (filter (λ (p : Placed). not (q p.id)) ps)
    ids_filtered q [] = refl
    ids_filtered q (p ∷ ps) = go (not (q p.id)) p.id p _ _ (ids_filtered q ps)
      where
        go : (b : Bool) (id : ℕ) (p : Placed) (us : List ℕ) (vs : List Placed) → length us ≡ length vs → length (cond b (id ∷ us) us) ≡ length (cond b (p ∷ vs) vs)
        go true id p us vs e = ap suc e
        go false id p us vs e = e

    new_counted : (es : List Entry) → AreNew es → length es ≡ length (added_rows es)
    new_counted [] new = refl
    new_counted (Kept k r ∷ es) new = absurd new
    new_counted (Touched k r ∷ es) new = absurd new
    new_counted (New r ∷ es) new = ap suc (new_counted es new)

    olds_counted : (rows : List Placed) (es : List Entry) → (d : Follow rows es) → length es ≡ length (olds rows es d) + length (added_rows es)
    olds_counted _ _ (Ends es new) = omega (arith, new_counted es new)
    olds_counted _ _ (Goes p ps es d) = olds_counted ps es d
    olds_counted _ _ (Stays p ps es d) = omega (arith, olds_counted ps es d)
    olds_counted _ _ (Turns p ps row es d) = omega (arith, olds_counted ps es d)

-- ---- how many rows are put

below_out : (next : ℕ) (ps : List Placed) → AllByRecursion (λ p. p.id < next) ps → filter (λ (p : Placed). nat_le next p.id) ps ≡ []
below_out next [] all = refl
below_out next (p ∷ ps) all = left_out _ p _ (lower p.id all.0) ∙ below_out next ps all.1
  where
    lower : (m : ℕ) → m < next → nat_le next m ≡ false
    lower m lt = grind (arith, lt)

placed_in : (next from : ℕ) (rows : List (List Value)) → next ≤ from → filter (λ (p : Placed). nat_le next p.id) (placed_from from rows) ≡ placed_from from rows
placed_in next from [] le = refl
placed_in next from (row ∷ rows) le =
    put_in _ (record { id = from; row = row }) _ (upper from le) ∙ ap (λ (rest : List Placed). record { id = from; row = row } ∷ rest) (placed_in next (from + 1) rows (omega (arith, le)))
  where
    upper : (m : ℕ) → next ≤ m → nat_le next m ≡ true
    upper m le = grind (arith, le)

filter_both : (keeps : Placed → Bool) (xs ys : List Placed) → filter keeps (xs ++ ys) ≡ filter keeps xs ++ filter keeps ys
filter_both keeps [] ys = refl
filter_both keeps (x ∷ xs) ys = go (keeps x) (filter keeps (xs ++ ys)) (filter keeps xs) (filter_both keeps xs ys)
  where
    go : (b : Bool) (us vs : List Placed) → us ≡ vs ++ filter keeps ys → cond b (x ∷ us) us ≡ cond b (x ∷ vs) vs ++ filter keeps ys
    go true us vs e = ap (λ (rest : List Placed). x ∷ rest) e
    go false us vs e = e

length-placed_from : (from : ℕ) (rows : List (List Value)) → length (placed_from from rows) ≡ length rows
length-placed_from from [] = refl
length-placed_from from (row ∷ rows) = ap suc (length-placed_from (from + 1) rows)

within_below : (least next : ℕ) (ps : List Placed) → AreWithin least next ps → AllByRecursion (λ p. p.id < next) ps
within_below least next [] within = tt
within_below least next (p ∷ ps) within = (within.0.1, within_below least next ps within.1)

-- the rows that are put from the next id on are the new ones
pub put_counted : (rows : List Placed) (es : List Entry) (least next : ℕ) → Follow rows es → IdsRise least rows next
    → length (filter (λ (p : Placed). nat_le next p.id) (touched_rows es ++ placed_from next (added_rows es))) ≡ length (added_rows es)
put_counted rows es least next d rise =
    ap length (
    filter_both (λ (p : Placed). nat_le next p.id) (touched_rows es) (placed_from next (added_rows es))
    ∙ ap (λ (front : List Placed). front ++ filter (λ (p : Placed). nat_le next p.id) (placed_from next (added_rows es))) (below_out next (touched_rows es) (within_below least next (touched_rows es) (touched_within rows es least next d rise)))
    ∙ placed_in next next (added_rows es) (omega arith))
    ∙ length-placed_from next (added_rows es)

-- no more rows are new than there are entries
pub added_few : (es : List Entry) → length (added_rows es) ≤ length es
added_few [] = omega arith
added_few (Kept k r ∷ es) = (let rest = added_few es in omega (arith, rest))
added_few (Touched k r ∷ es) = (let rest = added_few es in omega (arith, rest))
added_few (New r ∷ es) = (let rest = added_few es in omega (arith, rest))

keep_above : (b : Bool) (low id : ℕ) (ids : List ℕ) → low + 1 ≤ id → AllByRecursion (λ k. nat_cmp low k ≡ Less) ids → AllByRecursion (λ k. nat_cmp low k ≡ Less) (cond b (id ∷ ids) ids)
keep_above true low id ids le all = (sym (nat_cmp_is low id Less (omega (arith, le))), all)
keep_above false low id ids le all = all

-- the ids that go ascend
pub gone_ascend : (rows : List Placed) (es : List Entry) (least next : ℕ) → IdsRise least rows next → IdsAscend (gone_ids rows es)
unfolding gone_ids IsStrictlySortedBy
gone_ascend [] es least next rise = tt
gone_ascend (p ∷ ps) es least next rise = go (not (has_entry es p.id)) (gone_ascend ps es (p.id + 1) next rise.1)
  where
    above : (qs : List Placed) → AreFrom (p.id + 1) qs → AllByRecursion (λ id. nat_cmp p.id id ≡ Less) (filter (λ id. not (has_entry es id)) (ids_of qs))
    above [] from = tt
    above (q ∷ qs) from = keep_above (not (has_entry es q.id)) p.id q.id (filter (λ id. not (has_entry es id)) (ids_of qs)) from.0 (above qs from.1)

    go : (b : Bool) → IsStrictlySortedBy nat_cmp (filter (λ id. not (has_entry es id)) (ids_of ps))
        → IsStrictlySortedBy nat_cmp (cond b (p.id ∷ filter (λ id. not (has_entry es id)) (ids_of ps)) (filter (λ id. not (has_entry es id)) (ids_of ps)))
    go true rest = (above ps (rise_from (p.id + 1) next ps rise.1), rest)
    go false rest = rest
