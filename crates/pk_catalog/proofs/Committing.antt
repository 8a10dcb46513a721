-- What batches make of maps.
use Rattle.std.proofs.Common.{◌≡◌, refl, sym, ◌∙◌, ap, ℕ, ◌≤◌, Bool, true, false, cond, ◌&&◌, ◌||◌, ◌==◌, List, [], ◌∷◌, ◌++◌, map, Option, Some, None, inl, inr, ◌⊎◌, arith}
use Rattle.std.specs.Option.{option_map}
use Rattle.std.specs.List.Sorted.{IsStrictlySortedBy}
use Rattle.std.proofs.lemmas.List.Elements.{All-nil}
use Rattle.std.proofs.lemmas.Bool.{cases_Bool, cases_eq, eq-eqb, ne_eqb}
use Rattle.pk_values.specs.declared.changes.Changes.{Changes}
use Rattle.pk_values.specs.declared.placed.Placed.{Placed}
use Rattle.pk_values.specs.declared.value.Value.{Value}
use Rattle.pk_values.specs.Records.{row_record}
use Rattle.pk_catalog.specs.Records.{table_record}
use Rattle.pk_catalog.specs.Bases.{Table, Numbered, Map, IsKept, AreDistinct, AreNumbers, Keeps, known_of, numbers_of, row_of, record_in, table_of, is_base_place}
use Rattle.pk_catalog.specs.Batches.{Put, IsChanged, KeepsTables, batched, put_at, is_at, is_gone, or_else, or_row, has_id, base_put, table_put, row_put, places, rows_gone, rows_put}
use Rattle.pk_catalog.specs.Laws.{BasesHaveMaps, BatchesAreCommits}
use Rattle.pk_catalog.proofs.OneBase.{IsIn, member_has, first_table, behind_table}

pub bases_have_maps : BasesHaveMaps
unfolding IsStrictlySortedBy
bases_have_maps = record {
  numbered = λ ts b base tables numbers. record { base = base; kept = inr (record { numbered = ts; tables = tables; numbers = numbers; keeps = λ number id. refl }) };
  fresh = record {
    base = record { names = tt; kept = All-nil IsKept; few_tables = omega arith; few_rows = omega arith; few_commits = omega arith };
    kept = inl (record { none = λ number id. refl; empty = refl });
  };
}

-- ---- a table among others

-- a number that no table before it has
abbrev pub IsNew : ℕ → List Numbered → Type 0
IsNew number ts = IsIn number (numbers_of ts) → ⊥

none_found : (ts : List Numbered) (number : ℕ) → IsNew number ts → table_of ts number ≡ None
none_found [] number new = refl
none_found (x ∷ ts) number new = behind_table x ts number (λ same. new (inl (sym same))) ∙ none_found ts number (λ later. new (inr later))

pub among : (number : ℕ) (t : Table) (front back : List Numbered) (n : ℕ) → IsNew number front
    → table_of (front ++ record { number = number; table = t } ∷ back) n ≡ cond (number == n) (Some t) (table_of (front ++ back) n)
among number t [] back n new =
    elim (cases_Bool (number == n)) [ inl same ↦ rw same refl | inr other ↦ rw other refl ]
among number t (x ∷ front) back n new =
    elim (cases_eq x.number n) [
      | inl here ↦
          let first : (rest : List Numbered) → table_of (x ∷ rest) n ≡ Some x.table = λ rest. ap (table_of (x ∷ rest)) (sym here) ∙ first_table x rest in
          let other : (number == n) ≡ false = ne_eqb number n (λ same. new (inl (same ∙ sym here))) in
          first (front ++ record { number = number; table = t } ∷ back) ∙ sym (first (front ++ back)) ∙ rw other refl
      | inr there ↦
          behind_table x (front ++ record { number = number; table = t } ∷ back) n there ∙ among number t front back n (λ later. new (inr later))
          ∙ ap (λ o. cond (number == n) (Some t) o) (sym (behind_table x (front ++ back) n there))
    ]

pub found_in_front : (front back : List Numbered) (number : ℕ) → IsIn number (numbers_of front) → IsIn number (numbers_of (front ++ back))
found_in_front [] back number is = absurd is
found_in_front (x ∷ front) back number (inl same) = inl same
found_in_front (x ∷ front) back number (inr later) = inr (found_in_front front back number later)

pub in_numbers : (ts : List Numbered) (number : ℕ) → table_of ts number ≡ None → IsNew number ts
in_numbers [] number none is = is
in_numbers (x ∷ ts) number none (inl same) = let some = sym (first_table x ts) ∙ ap (table_of (x ∷ ts)) (sym same) ∙ none in cc
in_numbers (x ∷ ts) number none (inr later) =
    elim (cases_eq x.number number) [
      | inl here ↦ let some = sym (first_table x ts) ∙ ap (table_of (x ∷ ts)) here ∙ none in cc
      | inr there ↦ in_numbers ts number (sym (behind_table x ts number there) ∙ none) later
    ]

-- among distinct numbers one stands nowhere else
apart : (number : ℕ) (t : Table) (front back : List Numbered) → AreDistinct (numbers_of (front ++ record { number = number; table = t } ∷ back)) → IsNew number (front ++ back)
apart number t [] back distinct is = member_has (λ m. number ≡ m → ⊥) number (numbers_of back) distinct.0 is refl
apart number t (x ∷ front) back distinct (inl same) =
    member_has (λ m. x.number ≡ m → ⊥) number (numbers_of (front ++ record { number = number; table = t } ∷ back)) distinct.0 (itself front) (sym same)
  where
    itself : (ts : List Numbered) → IsIn number (numbers_of (ts ++ record { number = number; table = t } ∷ back))
    itself [] = inl refl
    itself (y ∷ ts) = inr (itself ts)
apart number t (x ∷ front) back distinct (inr later) = apart number t front back distinct.1 later

apart_front : (number : ℕ) (t : Table) (front back : List Numbered) → AreDistinct (numbers_of (front ++ record { number = number; table = t } ∷ back)) → IsNew number front
apart_front number t front back distinct is = apart number t front back distinct (found_in_front front back number is)

-- ---- counting commits

kept : (m : Map) (commit : ℕ) (ts : List Numbered) → Keeps m commit ts → KeepsTables m ts
kept m commit ts keeps number id other = keeps number id ∙ rw other refl

counted : (m : Map) (commit : ℕ) (ts : List Numbered) → KeepsTables m ts → Keeps (batched [] (base_put commit ∷ []) m) commit ts
counted m commit ts tables number id =
    elim (cases_Bool (is_base_place number id)) [
      | inl here ↦ rw here refl
      | inr there ↦ rw there (tables number id there)
    ]

-- ---- making

made : (m : Map) (front back : List Numbered) (number : ℕ) (t : Table) → t.rows ≡ [] → table_of (front ++ back) number ≡ None → KeepsTables m (front ++ back)
    → KeepsTables (batched [] (table_put number t ∷ []) m) (front ++ record { number = number; table = t } ∷ back)
made m front back number t empty none tables n id other =
    let new : IsNew number front = λ is. in_numbers (front ++ back) number none (found_in_front front back number is) in
    by_number (cases_eq number n) ∙ ap (λ o. record_in o id) (sym (among number t front back n new))
  where
    here : number ≡ n → (cond (number == n && 0 == id) (Some (table_record (known_of t))) (m n id)) ≡ record_in (Some t) id
    here same =
        elim (cases_Bool (0 == id)) [
          | inl own ↦ rw (eq-eqb number n same, own) refl
          | inr row ↦
              let nothing_there : m n id ≡ None = tables n id other ∙ ap (λ o. record_in o id) (ap (table_of (front ++ back)) (sym same) ∙ none) in
              rw (eq-eqb number n same, row, nothing_there, empty) refl
        ]

    step : or_else (put_at (table_put number t ∷ []) n id) (m n id) ≡ cond (number == n && 0 == id) (Some (table_record (known_of t))) (m n id)
    step = elim (cases_Bool (number == n && 0 == id)) [ inl is ↦ rw is refl | inr is ↦ rw is refl ]

    by_number : (number ≡ n) ⊎ (number ≡ n → ⊥) → or_else (put_at (table_put number t ∷ []) n id) (m n id) ≡ record_in (cond (number == n) (Some t) (table_of (front ++ back) n)) id
    by_number (inl same) = step ∙ here same ∙ rw (eq-eqb number n same) refl
    by_number (inr apart_from) = step ∙ rw (ne_eqb number n apart_from) (tables n id other)

-- ---- dropping

elsewhere_gone : (number n id : ℕ) (ids : List ℕ) → (number == n) ≡ false → is_gone (map (λ i. (number, i)) ids) n id ≡ false
elsewhere_gone number n id [] other = refl
elsewhere_gone number n id (i ∷ ids) other = rw other (elsewhere_gone number n id ids other)

rows_elsewhere : (number n id : ℕ) (rows : List Placed) → (number == n) ≡ false → is_gone (map (λ (p : Placed). (number, p.id)) rows) n id ≡ false
rows_elsewhere number n id [] other = refl
rows_elsewhere number n id (p ∷ rows) other = rw other (rows_elsewhere number n id rows other)

-- a row of the table is at a place that goes
rows_here : (number n id : ℕ) (rows : List Placed) → (number == n) ≡ true → is_gone (map (λ (p : Placed). (number, p.id)) rows) n id ≡ false → row_of rows id ≡ None
rows_here number n id [] same stays = refl
rows_here number n id (p ∷ rows) same stays =
    elim (cases_Bool (p.id == id)) [
      | inl here ↦ absurd (gone_here here)
      | inr there ↦ rw there (rows_here number n id rows same (later there))
    ]
  where
    gone_here : (p.id == id) ≡ true → ⊥
    gone_here here = let gone : is_gone (map (λ (q : Placed). (number, q.id)) (p ∷ rows)) n id ≡ true = rw (same, here) refl in let both = sym gone ∙ stays in cc

    later : (p.id == id) ≡ false → is_gone (map (λ (q : Placed). (number, q.id)) rows) n id ≡ false
    later there =
        let step : is_gone (map (λ (q : Placed). (number, q.id)) (p ∷ rows)) n id ≡ is_gone (map (λ (q : Placed). (number, q.id)) rows) n id = rw (same, there) refl in
        sym step ∙ stays

dropped : (m : Map) (front back : List Numbered) (number : ℕ) (t : Table) → AreNumbers (numbers_of (front ++ record { number = number; table = t } ∷ back))
    → KeepsTables m (front ++ record { number = number; table = t } ∷ back) → KeepsTables (batched (places number t) [] m) (front ++ back)
dropped m front back number t numbers tables n id other = by_number (cases_eq number n)
  where
    was : m n id ≡ record_in (cond (number == n) (Some t) (table_of (front ++ back) n)) id
    was = tables n id other ∙ ap (λ o. record_in o id) (among number t front back n (apart_front number t front back numbers.distinct))

    nothing_left : number ≡ n → record_in (table_of (front ++ back) n) id ≡ None
    nothing_left same = ap (λ o. record_in o id) (ap (table_of (front ++ back)) (sym same) ∙ none_found (front ++ back) number (apart number t front back numbers.distinct))

    stays : (number == n) ≡ true → (own gone : Bool) → (0 == id) ≡ own → is_gone (map (λ (p : Placed). (number, p.id)) t.rows) n id ≡ gone
        → cond ((number == n && 0 == id) || is_gone (map (λ (p : Placed). (number, p.id)) t.rows) n id) None (m n id) ≡ None
    stays same true gone own is = rw (same, own) refl
    stays same false true own is = rw (same, own, is) refl
    stays same false false own is =
        let row = rows_here number n id t.rows same is in
        let none : m n id ≡ None = was ∙ rw (same, own, row) refl in
        rw (same, own, is) none

    by_number : (number ≡ n) ⊎ (number ≡ n → ⊥) → batched (places number t) [] m n id ≡ record_in (table_of (front ++ back) n) id
    by_number (inl same) = stays (eq-eqb number n same) (0 == id) (is_gone (map (λ (p : Placed). (number, p.id)) t.rows) n id) refl refl ∙ sym (nothing_left same)
    by_number (inr apart_from) =
        let off = ne_eqb number n apart_from in
        let gone = rows_elsewhere number n id t.rows off in
        rw (off, gone) (was ∙ rw off refl)

-- ---- changing

put_elsewhere : (number n id : ℕ) (rows : List Placed) → (number == n) ≡ false → put_at (map (row_put number) rows) n id ≡ None
put_elsewhere number n id [] other = refl
put_elsewhere number n id (p ∷ rows) other = rw other (put_elsewhere number n id rows other)

put_here : (number n id : ℕ) (rows : List Placed) → (number == n) ≡ true → put_at (map (row_put number) rows) n id ≡ option_map row_record (row_of rows id)
put_here number n id [] same = refl
put_here number n id (p ∷ rows) same =
    elim (cases_Bool (p.id == id)) [
      | inl here ↦ rw (same, here) refl
      | inr there ↦ rw (same, there) (put_here number n id rows same)
    ]

gone_here : (number n id : ℕ) (ids : List ℕ) → (number == n) ≡ true → is_gone (map (λ i. (number, i)) ids) n id ≡ has_id ids id
gone_here number n id [] same = refl
gone_here number n id (i ∷ ids) same = rw same (ap (λ b. (i == id) || b) (gone_here number n id ids same))

records_changed : (a b : Option (List Value)) (gone : Bool)
    → or_else (option_map row_record a) (cond gone None (option_map row_record b)) ≡ option_map row_record (or_row a (cond gone None b))
records_changed (Some row) b gone = refl
records_changed None b true = refl
records_changed None b false = refl

changed : (m : Map) (front back : List Numbered) (number : ℕ) (old new : Table) (c : Changes) → IsChanged c old new
    → AreNumbers (numbers_of (front ++ record { number = number; table = old } ∷ back)) → KeepsTables m (front ++ record { number = number; table = old } ∷ back)
    → KeepsTables (batched (rows_gone number c) (rows_put number new c) m) (front ++ record { number = number; table = new } ∷ back)
changed m front back number old new c is numbers tables n id other =
    by_number (cases_eq number n) ∙ ap (λ o. record_in o id) (sym (among number new front back n (apart_front number old front back numbers.distinct)))
  where
    was : m n id ≡ record_in (cond (number == n) (Some old) (table_of (front ++ back) n)) id
    was = tables n id other ∙ ap (λ o. record_in o id) (among number old front back n (apart_front number old front back numbers.distinct))

    row_is : (number == n) ≡ true → (0 == id) ≡ false → 1 ≤ id → batched (rows_gone number c) (rows_put number new c) m n id ≡ record_in (Some new) id
    row_is same row some =
        let puts = put_here number n id c.put same in
        let goes = gone_here number n id c.gone same in
        let had : m n id ≡ option_map row_record (row_of old.rows id) = was ∙ rw (same, row) refl in
        let has : record_in (Some new) id ≡ option_map row_record (row_of new.rows id) = rw row refl in
        rw (same, row, puts, goes, had) (records_changed (row_of c.put id) (row_of old.rows id) (has_id c.gone id)) ∙ ap (option_map row_record) (sym (is.rows id some)) ∙ sym has

    here : (number == n) ≡ true → (0 ≡ id) ⊎ (0 ≡ id → ⊥) → batched (rows_gone number c) (rows_put number new c) m n id ≡ record_in (Some new) id
    here same (inl own) = rw (same, eq-eqb 0 id own) refl
    here same (inr row) = row_is same (ne_eqb 0 id row) (omega (arith, row))

    by_number : (number ≡ n) ⊎ (number ≡ n → ⊥) → batched (rows_gone number c) (rows_put number new c) m n id ≡ record_in (cond (number == n) (Some new) (table_of (front ++ back) n)) id
    by_number (inl same) = here (eq-eqb number n same) (cases_eq 0 id) ∙ rw (eq-eqb number n same) refl
    by_number (inr apart_from) =
        let off = ne_eqb number n apart_from in
        let puts = put_elsewhere number n id c.put off in
        let goes = elsewhere_gone number n id c.gone off in
        rw (off, puts, goes) (was ∙ rw off refl)

-- ---- joining

put_in_both : (puts others : List Put) (number id : ℕ) → put_at (puts ++ others) number id ≡ or_else (put_at puts number id) (put_at others number id)
put_in_both [] others number id = refl
put_in_both (p ∷ puts) others number id =
    elim (cases_Bool (is_at number id p)) [ inl here ↦ rw here refl | inr there ↦ rw there (put_in_both puts others number id) ]

gone_in_both : (gone more : List (ℕ × ℕ)) (number id : ℕ) → is_gone (gone ++ more) number id ≡ (is_gone gone number id || is_gone more number id)
gone_in_both [] more number id = refl
gone_in_both (place ∷ gone) more number id =
    elim (cases_Bool (place.0 == number && place.1 == id)) [ inl here ↦ rw here refl | inr there ↦ rw there (gone_in_both gone more number id) ]

one_after_other : (o p : Option (List ℕ)) (g h : Bool) (x : Option (List ℕ)) → ((bytes : List ℕ) → o ≡ Some bytes → (h ≡ false) × (p ≡ None))
    → or_else p (cond h None (or_else o (cond g None x))) ≡ or_else (or_else o p) (cond (g || h) None x)
one_after_other (Some bytes) p g h x apart_from = let off = apart_from bytes refl in rw (off.0, off.1) refl
one_after_other None (Some bytes) g h x apart_from = refl
one_after_other None None true true x apart_from = refl
one_after_other None None true false x apart_from = refl
one_after_other None None false true x apart_from = refl
one_after_other None None false false x apart_from = refl

joined : (m : Map) (gone more : List (ℕ × ℕ)) (puts others : List Put)
    → ((number id : ℕ) (bytes : List ℕ) → put_at puts number id ≡ Some bytes → (is_gone more number id ≡ false) × (put_at others number id ≡ None))
    → (number id : ℕ) → batched more others (batched gone puts m) number id ≡ batched (gone ++ more) (puts ++ others) m number id
joined m gone more puts others apart_from number id =
    one_after_other (put_at puts number id) (put_at others number id) (is_gone gone number id) (is_gone more number id) (m number id) (apart_from number id)
    ∙ ap (λ o. or_else o (cond (is_gone gone number id || is_gone more number id) None (m number id))) (sym (put_in_both puts others number id))
    ∙ ap (λ b. or_else (put_at (puts ++ others) number id) (cond b None (m number id))) (sym (gone_in_both gone more number id))

pub batches_are_commits : BatchesAreCommits
batches_are_commits = record {
  kept = kept;
  fresh = λ m none number id other. none number id;
  counted = counted;
  made = made;
  dropped = dropped;
  changed = changed;
  joined = joined;
}
