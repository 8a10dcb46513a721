-- A map stands for at most one base.
use Rattle.std.proofs.Common.{◌≡◌, refl, sym, ◌∙◌, ap, subst, ℕ, ◌+◌, ◌<◌, ◌≤◌, Bool, ◌==◌, List, [], ◌∷◌, map, All, Option, Some, None, inl, inr, ◌⊎◌, arith}
use Rattle.std.specs.List.{AllByRecursion}
use Rattle.std.specs.List.Sorted.{IsStrictlySortedBy}
use Rattle.std.specs.Option.{option_map}
use Rattle.std.specs.Ordering.{nat_cmp, ordering_reverse}
use Rattle.std.specs.Cmp.Lexicographic.{slice_cmp, nat_list_cmp_total}
use Rattle.std.specs.declared.cmp.Ordering.{Ordering}
use Rattle.std.specs.declared.cmp.Ordering.TheVariants.{Less, Equal, Greater}
use Rattle.std.proofs.lemmas.Bool.{cases_eq, cases_lt, eq-eqb, ne_eqb}
use Rattle.std.proofs.lemmas.List.Elements.{All-head, All-tail}
use Rattle.std.proofs.lemmas.Option.{same_Some}
use Rattle.pk_values.specs.declared.placed.Placed.{Placed}
use Rattle.pk_values.specs.declared.value.Value.{Value}
use Rattle.pk_values.specs.Records.{row_record, AreStorable}
use Rattle.pk_values.proofs.RecordLemmas.{row_records_differ}
use Rattle.pk_catalog.specs.declared.table_record.TableRecord.{TableRecord}
use Rattle.pk_catalog.specs.Records.{base_record, table_record}
use Rattle.pk_catalog.specs.Bases.{Table, Base, Numbered, Map, IsKept, IsBase, IdsRise, AreDistinct, AreNumbers, KeepsBase, IsFresh, StandsFor, known_of, numbers_of, tables_of, row_of, record_in, table_of, records}
use Rattle.pk_catalog.proofs.OneRecord.{one_base_record, one_table_record}

-- ---- rows

with_id : ℕ → Placed → Bool
with_id id p = p.id == id

-- no row has an id below the least
pub none_before : (least next id : ℕ) (ps : List Placed) → IdsRise least ps next → id < least → row_of ps id ≡ None
none_before least next id [] rise low = refl
none_before least next id (p ∷ ps) rise low =
    let other : p.id ≡ id → ⊥ = λ same. omega (arith, rise.0, low, same) in
    rw (ne_eqb p.id id other) (none_before (p.id + 1) next id ps rise.1 (omega (arith, rise.0, low)))

pub first_row : (p : Placed) (ps : List Placed) → row_of (p ∷ ps) p.id ≡ Some p.row
first_row p ps = rw (eq-eqb p.id p.id refl) refl

-- behind the first row
pub behind_row : (p : Placed) (ps : List Placed) (id : ℕ) → (p.id ≡ id → ⊥) → row_of (p ∷ ps) id ≡ row_of ps id
behind_row p ps id other = rw (ne_eqb p.id id other) refl

-- rows by rising ids are known by what stands at each id
same_rows : (least next more : ℕ) (ps qs : List Placed) → IdsRise least ps next → IdsRise least qs more → ((id : ℕ) → row_of ps id ≡ row_of qs id) → ps ≡ qs
same_rows least next more [] [] rise climb same = refl
same_rows least next more [] (q ∷ qs) rise climb same = let some = same q.id ∙ first_row q qs in absurd cc
same_rows least next more (p ∷ ps) [] rise climb same = let some = sym (same p.id) ∙ first_row p ps in absurd cc
same_rows least next more (p ∷ ps) (q ∷ qs) rise climb same =
    elim (cases_eq p.id q.id) [
      | inl one ↦ heads (λ climb_on behind. same_rows (p.id + 1) next more ps qs rise.1 climb_on behind) one
      | inr other ↦ elim (cases_lt p.id q.id) [
        | inl low ↦ let none = none_before q.id more p.id (q ∷ qs) (omega arith, climb.1) low in let some = sym (first_row p ps) ∙ same p.id ∙ none in absurd cc
        | inr high ↦ let none = none_before p.id next q.id (p ∷ ps) (omega arith, rise.1) (omega (arith, high, other)) in let some = sym (first_row q qs) ∙ sym (same q.id) ∙ none in absurd cc
      ]
    ]
  where
    heads : (IdsRise (p.id + 1) qs more → ((id : ℕ) → row_of ps id ≡ row_of qs id) → ps ≡ qs) → p.id ≡ q.id → p ∷ ps ≡ q ∷ qs
    heads rest one =
        let row : p.row ≡ q.row = same_Some p.row q.row (sym (first_row p ps) ∙ same p.id ∙ ap (row_of (q ∷ qs)) one ∙ first_row q qs) in
        let head : p ≡ q = ap (λ id. record { id = id; row = p.row }) one ∙ ap (λ r. record { id = q.id; row = r }) row in
        let behind : (id : ℕ) → row_of ps id ≡ row_of qs id = λ id. elim (cases_eq p.id id) [
          | inl here ↦ none_before (p.id + 1) next id ps rise.1 (omega (arith, here)) ∙ sym (none_before (q.id + 1) more id qs climb.1 (omega (arith, here, one)))
          | inr there ↦ sym (behind_row p ps id there) ∙ same id ∙ behind_row q qs id (λ here. there (one ∙ here))
        ] in
        let climb_on : IdsRise (p.id + 1) qs more = subst (λ id. IdsRise (id + 1) qs more) (sym one) climb.1 in
        ap (λ x. x ∷ ps) head ∙ ap (λ xs. q ∷ xs) (rest climb_on behind)

-- ---- tables

-- the row at an id is what all rows are
pub row_has : (P : List Value → Type 0) (ps : List Placed) (id : ℕ) (row : List Value) → All (λ (p : Placed). P p.row) ps → row_of ps id ≡ Some row → P row
row_has P [] id row all found = absurd cc
row_has P (p ∷ ps) id row all found =
    elim (cases_eq p.id id) [
      | inl here ↦ subst P (same_Some p.row row (sym (first_row p ps) ∙ ap (row_of (p ∷ ps)) here ∙ found)) (All-head (λ (r : Placed). P r.row) p ps all)
      | inr there ↦ row_has P ps id row (All-tail (λ (r : Placed). P r.row) p ps all) (sym (behind_row p ps id there) ∙ found)
    ]

-- rows with the same records are the same
same_row : (o p : Option (List Value)) → ((row : List Value) → o ≡ Some row → AreStorable row) → ((row : List Value) → p ≡ Some row → AreStorable row) → option_map row_record o ≡ option_map row_record p → o ≡ p
same_row None None _ _ same = refl
same_row None (Some b) _ _ same = absurd cc
same_row (Some a) None _ _ same = absurd cc
same_row (Some a) (Some b) o_fits p_fits same = ap (λ r. Some r) (row_records_differ a b (o_fits a refl) (p_fits b refl) (same_Some (row_record a) (row_record b) same))

pub at_id : (t : Table) (id : ℕ) → (0 ≡ id → ⊥) → record_in (Some t) id ≡ option_map row_record (row_of t.rows id)
at_id t id other = rw (ne_eqb 0 id other) refl

-- tables are known by what stands at each of their ids
same_kept : (t u : Table) → IsKept t → IsKept u → ((id : ℕ) → record_in (Some t) id ≡ record_in (Some u) id) → t ≡ u
same_kept t u t_kept u_kept same =
    let bytes : table_record (known_of t) ≡ table_record (known_of u) = same_Some (table_record (known_of t)) (table_record (known_of u)) (same 0) in
    let known : known_of t ≡ known_of u = one_table_record (table_record (known_of t)) (known_of t) (known_of u) (record { spelled = refl; table = t_kept.known }) (record { spelled = bytes; table = u_kept.known }) in
    let each : (id : ℕ) → row_of t.rows id ≡ row_of u.rows id = λ id. elim (cases_eq 0 id) [
      | inl none ↦ none_before 1 t.next id t.rows t_kept.ids (omega (arith, none)) ∙ sym (none_before 1 u.next id u.rows u_kept.ids (omega (arith, none)))
      | inr some ↦ same_row (row_of t.rows id) (row_of u.rows id) (λ row. row_has AreStorable t.rows id row t_kept.storable) (λ row. row_has AreStorable u.rows id row u_kept.storable)
          (sym (at_id t id some) ∙ same id ∙ at_id u id some)
    ] in
    let rows = same_rows 1 t.next u.next t.rows u.rows t_kept.ids u_kept.ids each in
    ap (λ (k : TableRecord). record { name = k.name; shape = k.schema; next = k.next; rows = t.rows }) known
    ∙ ap (λ rs. record { name = u.name; shape = u.shape; next = u.next; rows = rs }) rows

same_table : (o p : Option Table) → ((t : Table) → o ≡ Some t → IsKept t) → ((t : Table) → p ≡ Some t → IsKept t) → ((id : ℕ) → record_in o id ≡ record_in p id) → o ≡ p
same_table None None _ _ same = refl
same_table None (Some u) _ _ same = let none = same 0 in absurd cc
same_table (Some t) None _ _ same = let none = same 0 in absurd cc
same_table (Some t) (Some u) o_kept p_kept same = ap (λ x. Some x) (same_kept t u (o_kept t refl) (p_kept u refl) same)

-- ---- members

abbrev pub IsIn : {A : Type 0} → A → List A → Type 0
IsIn x [] = ⊥
IsIn x (y ∷ ys) = (x ≡ y) ⊎ IsIn x ys

pub member_has : {A : Type 0} (P : A → Type 0) (x : A) (ys : List A) → All P ys → IsIn x ys → P x
member_has P x [] all is = absurd is
member_has P x (y ∷ ys) all (inl same) = subst P (sym same) (All-head P y ys all)
member_has P x (y ∷ ys) all (inr later) = member_has P x ys (All-tail P y ys all) later

pub first_table : (x : Numbered) (ts : List Numbered) → table_of (x ∷ ts) x.number ≡ Some x.table
first_table x ts = rw (eq-eqb x.number x.number refl) refl

pub behind_table : (x : Numbered) (ts : List Numbered) (number : ℕ) → (x.number ≡ number → ⊥) → table_of (x ∷ ts) number ≡ table_of ts number
behind_table x ts number other = rw (ne_eqb x.number number other) refl

-- each table is found by some number
pub numbered_member : (ts : List Numbered) (t : Table) → AreDistinct (numbers_of ts) → IsIn t (tables_of ts) → (number : ℕ) × IsIn number (numbers_of ts) × (table_of ts number ≡ Some t)
numbered_member [] t distinct is = absurd is
numbered_member (x ∷ ts) t distinct (inl same) = (x.number, inl refl, first_table x ts ∙ ap (λ u. Some u) (sym same))
numbered_member (x ∷ ts) t distinct (inr later) =
    let found = numbered_member ts t distinct.1 later in
    let other : x.number ≡ found.0 → ⊥ = member_has (λ m. x.number ≡ m → ⊥) found.0 (numbers_of ts) distinct.0 found.1 in
    (found.0, inr found.1, behind_table x ts found.0 other ∙ found.2)

-- and what is found by a number is one of them
pub found_member : (ts : List Numbered) (t : Table) (number : ℕ) → table_of ts number ≡ Some t → IsIn t (tables_of ts)
found_member [] t number found = absurd cc
found_member (x ∷ ts) t number found =
    elim (cases_eq x.number number) [
      | inl here ↦ inl (sym (same_Some x.table t (sym (first_table x ts) ∙ ap (table_of (x ∷ ts)) here ∙ found)))
      | inr there ↦ inr (found_member ts t number (sym (behind_table x ts number there) ∙ found))
    ]

pub found_number : (ts : List Numbered) (t : Table) (number : ℕ) → table_of ts number ≡ Some t → IsIn number (numbers_of ts)
found_number [] t number found = absurd cc
found_number (x ∷ ts) t number found =
    elim (cases_eq x.number number) [
      | inl here ↦ inl (sym here)
      | inr there ↦ inr (found_number ts t number (sym (behind_table x ts number there) ∙ found))
    ]

-- ---- lists of tables by their names

abbrev pub AreSorted : List Table → Type 0
AreSorted ts = IsStrictlySortedBy (slice_cmp nat_cmp) (map (λ (t : Table). t.name) ts)

pub not_less_itself : (x : List ℕ) → slice_cmp nat_cmp x x ≡ Less → ⊥
not_less_itself x less = let back = nat_list_cmp_total.antisymm x x in turned (slice_cmp nat_cmp x x) back less
  where
    turned : (o : Ordering) → o ≡ ordering_reverse o → o ≡ Less → ⊥
    turned Less back less = absurd cc
    turned Equal back less = absurd cc
    turned Greater back less = absurd cc

-- a table behind the first comes after it
pub comes_after : (t u : Table) (us : List Table) → AllByRecursion (λ name. slice_cmp nat_cmp t.name name ≡ Less) (map (λ (v : Table). v.name) us) → IsIn u us → slice_cmp nat_cmp t.name u.name ≡ Less
comes_after t u [] all is = absurd is
comes_after t u (v ∷ us) all (inl same) = ap (λ (w : Table). slice_cmp nat_cmp t.name w.name) same ∙ all.0
comes_after t u (v ∷ us) all (inr later) = comes_after t u us all.1 later

abbrev pub AllAfter : Table → List Table → Type 0
AllAfter t us = AllByRecursion (λ name. slice_cmp nat_cmp t.name name ≡ Less) (map (λ (v : Table). v.name) us)

-- a member of one rest is one of the other, where the heads are one
rest_member : (t u v : Table) (ts us : List Table) → AllAfter t ts → t ≡ u → IsIn v ts → IsIn v (u ∷ us) → IsIn v us
rest_member t u v ts us after same is (inl first) = absurd (not_less_itself t.name (ap (λ (w : Table). slice_cmp nat_cmp t.name w.name) (same ∙ sym first) ∙ comes_after t v ts after is))
rest_member t u v ts us after same is (inr later) = later

same_heads : (t u : Table) (ts us : List Table) → (((v : Table) → IsIn v ts → IsIn v us) → ((v : Table) → IsIn v us → IsIn v ts) → ts ≡ us) → AllAfter t ts → AllAfter u us
    → ((v : Table) → IsIn v (t ∷ ts) → IsIn v (u ∷ us)) → ((v : Table) → IsIn v (u ∷ us) → IsIn v (t ∷ ts)) → t ≡ u → t ∷ ts ≡ u ∷ us
same_heads t u ts us on t_after u_after there back same =
    ap (λ x. x ∷ ts) same ∙ ap (λ xs. u ∷ xs) (on (λ v is. rest_member t u v ts us t_after same is (there v (inr is))) (λ v is. rest_member u t v us ts u_after (sym same) is (back v (inr is))))

by_heads : (t u : Table) (ts us : List Table) → (((v : Table) → IsIn v ts → IsIn v us) → ((v : Table) → IsIn v us → IsIn v ts) → ts ≡ us) → AllAfter t ts → AllAfter u us
    → ((v : Table) → IsIn v (t ∷ ts) → IsIn v (u ∷ us)) → ((v : Table) → IsIn v (u ∷ us) → IsIn v (t ∷ ts)) → IsIn t (u ∷ us) → IsIn u (t ∷ ts) → t ∷ ts ≡ u ∷ us
by_heads t u ts us on t_after u_after there back (inl same) _ = same_heads t u ts us on t_after u_after there back same
by_heads t u ts us on t_after u_after there back (inr later) (inl same) = same_heads t u ts us on t_after u_after there back (sym same)
by_heads t u ts us on t_after u_after there back (inr later) (inr behind) =
    absurd (not_less_itself t.name (nat_list_cmp_total.trans t.name u.name t.name (comes_after t u ts t_after behind) (comes_after u t us u_after later)))

-- sorted lists with the same members are one
same_tables : (ts us : List Table) → AreSorted ts → AreSorted us → ((t : Table) → IsIn t ts → IsIn t us) → ((t : Table) → IsIn t us → IsIn t ts) → ts ≡ us
unfolding IsStrictlySortedBy
same_tables [] [] _ _ there back = refl
same_tables [] (u ∷ us) _ _ there back = absurd (back u (inl refl))
same_tables (t ∷ ts) [] _ _ there back = absurd (there t (inl refl))
same_tables (t ∷ ts) (u ∷ us) t_sorted u_sorted there back =
    by_heads t u ts us (λ forth back_on. same_tables ts us t_sorted.1 u_sorted.1 forth back_on) t_sorted.0 u_sorted.0 there back (there t (inl refl)) (back u (inl refl))

-- ---- bases

-- a table is found by no number but one of those of tables
found_kept : (b : Base) (ts : List Numbered) → IsBase b → tables_of ts ≡ b.tables → (number : ℕ) (t : Table) → table_of ts number ≡ Some t → IsKept t
found_kept b ts base same number t found = member_has IsKept t (tables_of ts) (subst (All IsKept) (sym same) base.kept) (found_member ts t number found)

pub no_zero : (ts : List Numbered) → AreNumbers (numbers_of ts) → (o : Option Table) → table_of ts 0 ≡ o → o ≡ None
no_zero ts numbers None is = refl
no_zero ts numbers (Some t) is =
    let inside = member_has (λ n. (1 ≤ n) × (n ≤ 256)) 0 (numbers_of ts) numbers.inside (found_number ts t 0 is) in
    absurd (omega (arith, inside.0))

pub at_place : (commit : ℕ) (ts : List Numbered) (number id : ℕ) → (0 ≡ number → ⊥) → records commit ts number id ≡ record_in (table_of ts number) id
at_place commit ts number id other = rw (ne_eqb 0 number other) refl

-- the tables that are found are the same
same_found : (a b : Base) (ts us : List Numbered) → IsBase a → IsBase b → tables_of ts ≡ a.tables → tables_of us ≡ b.tables
    → AreNumbers (numbers_of ts) → AreNumbers (numbers_of us) → ((number id : ℕ) → records a.commit ts number id ≡ records b.commit us number id)
    → (number : ℕ) → table_of ts number ≡ table_of us number
same_found a b ts us a_base b_base ts_same us_same ts_numbers us_numbers same number =
    elim (cases_eq 0 number) [
      | inl none ↦ ap (table_of ts) (sym none) ∙ no_zero ts ts_numbers (table_of ts 0) refl ∙ sym (no_zero us us_numbers (table_of us 0) refl) ∙ ap (table_of us) none
      | inr some ↦ same_table (table_of ts number) (table_of us number) (found_kept a ts a_base ts_same number) (found_kept b us b_base us_same number)
          (λ id. sym (at_place a.commit ts number id some) ∙ same number id ∙ at_place b.commit us number id some)
    ]

members_forth : (ts us : List Numbered) → AreDistinct (numbers_of ts) → ((number : ℕ) → table_of ts number ≡ table_of us number) → (t : Table) → IsIn t (tables_of ts) → IsIn t (tables_of us)
members_forth ts us distinct same t is =
    let found = numbered_member ts t distinct is in
    found_member us t found.0 (sym (same found.0) ∙ found.2)

one_kept : (m : Map) (a b : Base) → IsBase a → IsBase b → KeepsBase m a → KeepsBase m b → a ≡ b
one_kept m a b a_base b_base a_kept b_kept =
    let same : (number id : ℕ) → records a.commit a_kept.numbered number id ≡ records b.commit b_kept.numbered number id = λ number id. sym (a_kept.keeps number id) ∙ b_kept.keeps number id in
    let bytes : base_record a.commit ≡ base_record b.commit = same_Some (base_record a.commit) (base_record b.commit) (same 0 0) in
    let commit : a.commit ≡ b.commit = one_base_record (base_record a.commit) a.commit b.commit (record { spelled = refl; few = a_base.few_commits }) (record { spelled = bytes; few = b_base.few_commits }) in
    let found = same_found a b a_kept.numbered b_kept.numbered a_base b_base a_kept.tables b_kept.tables a_kept.numbers b_kept.numbers same in
    let forth : (t : Table) → IsIn t a.tables → IsIn t b.tables = λ t is.
    subst (IsIn t) b_kept.tables (members_forth a_kept.numbered b_kept.numbered a_kept.numbers.distinct found t (subst (IsIn t) (sym a_kept.tables) is)) in
    let back : (t : Table) → IsIn t b.tables → IsIn t a.tables = λ t is.
    subst (IsIn t) a_kept.tables (members_forth b_kept.numbered a_kept.numbered b_kept.numbers.distinct (λ number. sym (found number)) t (subst (IsIn t) (sym b_kept.tables) is)) in
    let tables = same_tables a.tables b.tables a_base.names b_base.names forth back in
    ap (λ n. record { commit = n; tables = a.tables }) commit ∙ ap (λ ts. record { commit = b.commit; tables = ts }) tables

fresh_not_kept : (m : Map) (a b : Base) → IsFresh m a → KeepsBase m b → ⊥
fresh_not_kept m a b fresh kept = let none = sym (fresh.none 0 0) ∙ kept.keeps 0 0 in cc

pub one_base : (m : Map) (a b : Base) → StandsFor m a → StandsFor m b → a ≡ b
one_base m a b a_stands b_stands = by_sort a_stands.kept b_stands.kept
  where
    by_sort : IsFresh m a ⊎ KeepsBase m a → IsFresh m b ⊎ KeepsBase m b → a ≡ b
    by_sort (inl fresh) (inl new) = fresh.empty ∙ sym new.empty
    by_sort (inl fresh) (inr kept) = absurd (fresh_not_kept m a b fresh kept)
    by_sort (inr kept) (inl fresh) = absurd (fresh_not_kept m b a fresh kept)
    by_sort (inr a_kept) (inr b_kept) = one_kept m a b a_stands.base b_stands.base a_kept b_kept
