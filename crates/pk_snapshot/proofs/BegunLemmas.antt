-- The rows begun, by their ids.
use Rattle.std.proofs.Common.{◌≡◌, ℕ, ◌+◌, ◌≤◌, ◌<◌, Bool, true, false, cond, ◌==◌, ◌||◌, nat_lt, List, [], ◌∷◌, ◌++◌, map, Option, Some, None, is_some, refl, ap, sym, ◌∙◌, arith, inl, inr}
use Rattle.std.specs.List.{filter, list_any}
use Rattle.std.specs.Map.{lookup}
use Rattle.std.specs.Option.{option_or}
use Rattle.std.specs.BTreeMap.{is_at}
use Rattle.std.specs.Ordering.{nat_cmp, ordering_then, is_eq}
use Rattle.std.specs.declared.cmp.Ordering.{Ordering}
use Rattle.std.specs.declared.cmp.Ordering.TheVariants.{Less, Equal, Greater}
use Rattle.std.proofs.lemmas.Bool.{lt-ltb, le-ltb, eq-eqb, ne_eqb, ltb-true, eqb-true, or_parts, cases_eq, cases_order}
use Rattle.std.proofs.lemmas.Map.Lookups.{exact_unsigned}
use Rattle.pk_values.specs.declared.placed.Placed.{Placed}
use Rattle.pk_values.specs.declared.value.Value.{Value}
use Rattle.pk_exec.specs.Rows.{AscendFrom, row_of}
use Rattle.pk_txn.specs.declared.row_key.RowKey.{RowKey}
use Rattle.pk_txn.specs.Images.{key_cmp, image_at, had_row}
use Rattle.pk_txn.specs.Contents.{Opened, begun_at}
use Rattle.pk_txn.specs.History.{as_begun}
use Rattle.pk_snapshot.specs.Begun.{placed_at, put_back, all_put_back, image_ids, rows_begun}
use Rattle.pk_snapshot.proofs.RisingLemmas.{Rising, weaken, to_rising, from_rising, row_first, row_rest, none_below, known, raised}

-- ---- the row under an id, in a part of a list and in two lists

kept_same : (keep : Placed → Bool) (k : ℕ) (rows : List Placed) → ((p : Placed) → p.id ≡ k → keep p ≡ true) → row_of (filter keep rows) k ≡ row_of rows k
kept_same keep k [] all = refl
kept_same keep k (p ∷ ps) all = by_keep (keep p) refl (kept_same keep k ps all)
  where
    by_keep : (b : Bool) → keep p ≡ b → row_of (filter keep ps) k ≡ row_of ps k → row_of (cond b (p ∷ filter keep ps) (filter keep ps)) k ≡ row_of (p ∷ ps) k
    by_keep true is rest =
        elim (cases_eq p.id k) [
          | inl same ↦ row_first p (filter keep ps) k same ∙ sym (row_first p ps k same)
          | inr apart ↦ row_rest p (filter keep ps) k apart ∙ (rest ∙ sym (row_rest p ps k apart))
        ]
    by_keep false is rest = rest ∙ sym (row_rest p ps k (λ same. let kept : keep p ≡ true = all p same in cc))

kept_none : (keep : Placed → Bool) (k : ℕ) (rows : List Placed) → ((p : Placed) → p.id ≡ k → keep p ≡ false) → row_of (filter keep rows) k ≡ None
kept_none keep k [] all = refl
kept_none keep k (p ∷ ps) all = by_keep (keep p) refl (kept_none keep k ps all)
  where
    by_keep : (b : Bool) → keep p ≡ b → row_of (filter keep ps) k ≡ None → row_of (cond b (p ∷ filter keep ps) (filter keep ps)) k ≡ None
    by_keep true is rest = row_rest p (filter keep ps) k (λ same. let gone : keep p ≡ false = all p same in cc) ∙ rest
    by_keep false is rest = rest

row_append : (ps qs : List Placed) (k : ℕ) → row_of (ps ++ qs) k ≡ option_or (row_of ps k) (row_of qs k)
row_append [] qs k = refl
row_append (p ∷ ps) qs k =
    elim (cases_eq p.id k) [
      | inl same ↦ row_first p (ps ++ qs) k same ∙ ap (λ o. option_or o (row_of qs k)) (sym (row_first p ps k same))
      | inr apart ↦
          row_rest p (ps ++ qs) k apart ∙ (row_append ps qs k ∙ ap (λ o. option_or o (row_of qs k)) (sym (row_rest p ps k apart)))
    ]

or_none : (o : Option (List Value)) → option_or o None ≡ o
or_none None = refl
or_none (Some row) = refl

three : (a b c x y z : Option (List Value)) → a ≡ x → b ≡ y → c ≡ z → option_or a (option_or b c) ≡ option_or x (option_or y z)
three a b c x y z e f g = rw (e, f, g) refl

placed_here : (id : ℕ) (row : Option (List Value)) → row_of (placed_at id row) id ≡ row
placed_here id None = refl
placed_here id (Some row) = row_first (record { id = id; row = row }) [] id refl

placed_apart : (id k : ℕ) (row : Option (List Value)) → (id ≡ k → ⊥) → row_of (placed_at id row) k ≡ None
placed_apart id k None apart = refl
placed_apart id k (Some row) apart = row_rest (record { id = id; row = row }) [] k apart

-- ---- a row put back

abbrev below : ℕ → Placed → Bool
below id p = nat_lt p.id id

abbrev above : ℕ → Placed → Bool
above id p = nat_lt id p.id

put_row : (id k : ℕ) (row : Option (List Value)) (rows : List Placed) → row_of (put_back id row rows) k ≡ cond (id == k) row (row_of rows k)
put_row id k row rows =
    row_append (filter (below id) rows) (placed_at id row ++ filter (above id) rows) k
    ∙ (ap (option_or (row_of (filter (below id) rows) k)) (row_append (placed_at id row) (filter (above id) rows) k)
    ∙ elim (cases_order id k) [
      | inl same ↦
          three _ _ _ None row None
          (kept_none (below id) k rows (λ p e. le-ltb p.id id (omega (arith, e, same))))
          (ap (λ (n : ℕ). row_of (placed_at id row) n) (sym same) ∙ placed_here id row)
          (kept_none (above id) k rows (λ p e. le-ltb id p.id (omega (arith, e, same))))
          ∙ (or_none row ∙ ap (λ b. cond b row (row_of rows k)) (sym (eq-eqb id k same)))
      | inr other ↦
          elim other [
            | inl less ↦
                three _ _ _ None None (row_of rows k)
                (kept_none (below id) k rows (λ p e. le-ltb p.id id (omega (arith, e, less))))
                (placed_apart id k row (λ e. omega (arith, e, less)))
                (kept_same (above id) k rows (λ p e. lt-ltb id p.id (omega (arith, e, less))))
                ∙ ap (λ b. cond b row (row_of rows k)) (sym (ne_eqb id k (λ e. omega (arith, e, less))))
            | inr more ↦
                three _ _ _ (row_of rows k) None None
                (kept_same (below id) k rows (λ p e. lt-ltb p.id id (omega (arith, e, more))))
                (placed_apart id k row (λ e. omega (arith, e, more)))
                (kept_none (above id) k rows (λ p e. le-ltb id p.id (omega (arith, e, more))))
                ∙ (or_none (row_of rows k) ∙ ap (λ b. cond b row (row_of rows k)) (sym (ne_eqb id k (λ e. omega (arith, e, more)))))
          ]
    ])

put_all_row : (row : ℕ → Option (List Value)) (ids : List ℕ) (k : ℕ) (rows : List Placed)
    → row_of (all_put_back row ids rows) k ≡ cond (list_any (λ id. id == k) ids) (row k) (row_of rows k)
put_all_row row [] k rows = refl
put_all_row row (id ∷ ids) k rows = put_row id k (row id) (all_put_back row ids rows) ∙ by_id (id == k) refl (put_all_row row ids k rows)
  where
    by_id : (b : Bool) → (id == k) ≡ b → row_of (all_put_back row ids rows) k ≡ cond (list_any (λ id. id == k) ids) (row k) (row_of rows k)
        → cond b (row id) (row_of (all_put_back row ids rows) k) ≡ cond (b || list_any (λ id. id == k) ids) (row k) (row_of rows k)
    by_id true is rest = ap row (eqb-true id k is)
    by_id false is rest = rest

-- ---- there is no image of a row whose id isn't among those of the images

both_equal : (r s : Ordering) → is_eq (ordering_then r s) ≡ true → (r ≡ Equal) × (s ≡ Equal)
both_equal Less s is = cc
both_equal Equal Less is = cc
both_equal Equal Equal is = (refl, refl)
both_equal Equal Greater is = cc
both_equal Greater s is = cc

key_found : (table id : ℕ) (key : RowKey) → is_at (key_cmp (record { table = table; id = id })) key ≡ true → (table ≡ key.table) × (id ≡ key.id)
key_found table id key is =
    let both = both_equal (nat_cmp table key.table) (nat_cmp id key.id) is in
    (exact_unsigned table key.table both.0, exact_unsigned id key.id both.1)

no_image : {I : Type 0} (table k : ℕ) (images : List (RowKey × I)) → list_any (λ id. id == k) (image_ids table images) ≡ false
    → lookup (is_at (key_cmp (record { table = table; id = k }))) images ≡ None
no_image table k [] none = refl
no_image {I} table k (e ∷ es) none = by_key (is_at (key_cmp (record { table = table; id = k })) e.0) refl (no_image table k es (others (e.0.table == table) none))
  where
    others : (b : Bool) → list_any (λ id. id == k) (map (λ e. e.0.id) (cond b (e ∷ filter (λ (x : RowKey × I). x.0.table == table) es) (filter (λ (x : RowKey × I). x.0.table == table) es))) ≡ false
        → list_any (λ id. id == k) (image_ids table es) ≡ false
    others true none = (or_parts (e.0.id == k) _ none).1
    others false none = none

    here : (b : Bool) → (e.0.table == table) ≡ b → b ≡ true → (e.0.id == k) ≡ true
        → list_any (λ id. id == k) (map (λ e. e.0.id) (cond b (e ∷ filter (λ (x : RowKey × I). x.0.table == table) es) (filter (λ (x : RowKey × I). x.0.table == table) es))) ≡ false → ⊥
    here true is there same none = let apart : (e.0.id == k) ≡ false = (or_parts (e.0.id == k) _ none).0 in cc
    here false is there same none = cc

    by_key : (b : Bool) → is_at (key_cmp (record { table = table; id = k })) e.0 ≡ b → lookup (is_at (key_cmp (record { table = table; id = k }))) es ≡ None
        → cond b (Some e.1) (lookup (is_at (key_cmp (record { table = table; id = k }))) es) ≡ None
    by_key true at rest =
        let key = key_found table k e.0 at in
        absurd (here (e.0.table == table) refl (eq-eqb e.0.table table (sym key.0)) (eq-eqb e.0.id k (sym key.1)) none)
    by_key false at rest = rest

-- ---- the rows begun

pub begun_row : (t : Opened) (table : ℕ) (now : List Placed) (id : ℕ)
    → row_of (rows_begun t table now) id ≡ as_begun (image_at t.images table id) (row_of now id)
begun_row t table now id =
    put_all_row (λ id. as_begun (image_at t.images table id) (row_of now id)) (image_ids table t.images) id now
    ∙ by_any (list_any (λ i. i == id) (image_ids table t.images)) refl
  where
    by_any : (b : Bool) → list_any (λ i. i == id) (image_ids table t.images) ≡ b
        → cond b (as_begun (image_at t.images table id) (row_of now id)) (row_of now id) ≡ as_begun (image_at t.images table id) (row_of now id)
    by_any true is = refl
    by_any false is = sym (ap (λ o. as_begun o (row_of now id)) (no_image table id t.images is))

-- ---- they rise

part_rising : (keep : Placed → Bool) (least : ℕ) (rows : List Placed) → Rising least rows → Rising least (filter keep rows)
part_rising keep least [] up = tt
part_rising keep least (p ∷ ps) up = by_keep (keep p) (part_rising keep (p.id + 1) ps up.1)
  where
    by_keep : (b : Bool) → Rising (p.id + 1) (filter keep ps) → Rising least (cond b (p ∷ filter keep ps) (filter keep ps))
    by_keep true rest = (up.0, rest)
    by_keep false rest = weaken least (p.id + 1) (filter keep ps) (omega (arith, up.0)) rest

above_id : (id least : ℕ) (rows : List Placed) → Rising least rows → Rising (id + 1) (filter (above id) rows)
above_id id least [] up = tt
above_id id least (p ∷ ps) up = by_order (nat_lt id p.id) refl (above_id id (p.id + 1) ps up.1)
  where
    by_order : (b : Bool) → nat_lt id p.id ≡ b → Rising (id + 1) (filter (above id) ps) → Rising (id + 1) (cond b (p ∷ filter (above id) ps) (filter (above id) ps))
    by_order true is rest = (omega (arith, ltb-true id p.id is), part_rising (above id) (p.id + 1) ps up.1)
    by_order false is rest = rest

below_and : (id least : ℕ) (rows rest : List Placed) → Rising least rows → least ≤ id → Rising id rest → Rising least (filter (below id) rows ++ rest)
below_and id least [] rest up le more = weaken least id rest le more
below_and id least (p ∷ ps) rest up le more =
    by_order (nat_lt p.id id) refl (λ less. below_and id (p.id + 1) ps rest up.1 (omega (arith, less)) more)
    (below_and id least ps rest (weaken least (p.id + 1) ps (omega (arith, up.0)) up.1) le more)
  where
    by_order : (b : Bool) → nat_lt p.id id ≡ b → (p.id < id → Rising (p.id + 1) (filter (below id) ps ++ rest)) → Rising least (filter (below id) ps ++ rest)
        → Rising least (cond b (p ∷ filter (below id) ps) (filter (below id) ps) ++ rest)
    by_order true is low high = (up.0, low (ltb-true p.id id is))
    by_order false is low high = high

put_rising : (id : ℕ) (row : Option (List Value)) (rows : List Placed) → Rising 0 rows → Rising 0 (put_back id row rows)
put_rising id row rows up = below_and id 0 rows (placed_at id row ++ filter (above id) rows) up (omega arith) (from_id row)
  where
    from_id : (row : Option (List Value)) → Rising id (placed_at id row ++ filter (above id) rows)
    from_id None = weaken id (id + 1) (filter (above id) rows) (omega arith) (above_id id 0 rows up)
    from_id (Some r) = (omega arith, above_id id 0 rows up)

all_rising : (row : ℕ → Option (List Value)) (ids : List ℕ) (rows : List Placed) → Rising 0 rows → Rising 0 (all_put_back row ids rows)
all_rising row [] rows up = up
all_rising row (id ∷ ids) rows up = put_rising id (row id) (all_put_back row ids rows) (all_rising row ids rows up)

pub begun_rising : (t : Opened) (table least : ℕ) (now : List Placed) → Rising least now → Rising 0 (rows_begun t table now)
begun_rising t table least now up = all_rising _ (image_ids table t.images) now (weaken 0 least now (omega arith) up)

-- ---- from which number on

none_given : (row : Option (List Value)) → is_some row ≡ false → row ≡ None
none_given None is = refl
none_given (Some row) is = cc

gone : (t : Opened) (table id : ℕ) (now : Option (List Value)) → had_row (image_at t.images table id) ≡ false → now ≡ None → as_begun (image_at t.images table id) now ≡ None
gone t table id now =
    elim (image_at t.images table id) as (λ o. had_row o ≡ false → now ≡ None → as_begun o now ≡ None) [
      | None ↦ λ had none. none
      | Some image ↦ λ had none. none_given (as_begun (Some image) None) had
    ]

not_given : (t : Opened) (table id : ℕ) (now : Option (List Value)) → now ≡ None → as_begun (image_at t.images table id) now ≡ None → had_row (image_at t.images table id) ≡ false
not_given t table id now =
    elim (image_at t.images table id) as (λ o. now ≡ None → as_begun o now ≡ None → had_row o ≡ false) [
      | None ↦ λ none is. refl
      | Some image ↦ λ none is. ap is_some is
    ]

pub begun_ascend : (t : Opened) (table least : ℕ) (now : List Placed) → AscendFrom least now
    → ((id : ℕ) → id < least → had_row (image_at t.images table id) ≡ false) → AscendFrom least (rows_begun t table now)
begun_ascend t table least now up none =
    let rise = to_rising least now up in
    from_rising least (rows_begun t table now)
    (raised least (rows_begun t table now) (begun_rising t table least now rise)
    (λ k below. begun_row t table now k ∙ gone t table k (row_of now k) (none k below) (none_below least k now rise below)))

pub no_lower : (t : Opened) (table least : ℕ) (now : List Placed) → AscendFrom least now → AscendFrom least (rows_begun t table now)
    → (id : ℕ) → id < least → had_row (image_at t.images table id) ≡ false
no_lower t table least now up begun id below =
    not_given t table id (row_of now id) (none_below least id now (to_rising least now up) below)
    (sym (begun_row t table now id) ∙ none_below least id (rows_begun t table now) (to_rising least _ begun) below)

-- ---- they are the only such rows

pub only : (t : Opened) (table least other : ℕ) (now rows : List Placed) → AscendFrom least now → AscendFrom other rows
    → ((id : ℕ) → row_of rows id ≡ as_begun (image_at t.images table id) (row_of now id)) → rows ≡ rows_begun t table now
only t table least other now rows up rise same =
    known other 0 rows (rows_begun t table now) (to_rising other rows rise) (begun_rising t table least now (to_rising least now up))
    (λ id. same id ∙ sym (begun_row t table now id))

pub without_image : (t : Opened) (table least : ℕ) (now : List Placed) → AscendFrom least now
    → ((id : ℕ) → image_at t.images table id ≡ None) → rows_begun t table now ≡ now
without_image t table least now up none = sym (only t table least least now now up up (λ id. sym (ap (λ o. as_begun o (row_of now id)) (none id))))

pub at_begin : (session : List ℕ) (base table : ℕ) (now : List Placed) → rows_begun (begun_at session base) table now ≡ now
at_begin session base table now = refl
