-- The first rows that break a key.
use Rattle.std.proofs.Common.{◌≡◌, refl, sym, ◌∙◌, ap, ℕ, Bool, true, false, List, [], ◌∷◌, ◌++◌, Option, Some, None, inl, inr, arith, if◌then◌else◌}
use Rattle.std.specs.Prelude.{filter, find, option_map, nat_lt}
use Rattle.std.specs.Option.{option_or}
use Rattle.std.proofs.lemmas.Bool.{cases_lt, lt-ltb, le-ltb}
use Rattle.std.proofs.lemmas.List.Folds.{find-append}
use Rattle.pk_values.specs.declared.key.KeyDecl.{KeyDecl}
use Rattle.pk_values.specs.declared.placed.Placed.{Placed}
use Rattle.pk_guard.specs.Breaks.{breaks, first_pair}
use Rattle.pk_guard.specs.Changed.{put_rows, stays, standing}
use Rattle.pk_guard.specs.Splits.{below_id, above_id, first_between}
use Rattle.pk_guard.proofs.ChangedLemmas.{Ascends, ascends_kept, none_below_from, standing_split}
use Rattle.pk_values.proofs.ListLemmas.{map_none}

-- ---- of two choices

pub neither : {X : Type 0} (o p : Option X) → option_or o p ≡ None → (o ≡ None) × (p ≡ None)
neither None p none = (refl, none)
neither (Some x) p none = absurd (cc)

pub or_nested : {X : Type 0} (o p r : Option X) → option_or (option_or o p) r ≡ option_or o (option_or p r)
or_nested None p r = refl
or_nested (Some x) p r = refl

-- ---- what isn't found

pub none_first : (f : Placed → Bool) (p : Placed) (ps : List Placed) → find f (p ∷ ps) ≡ None → (f p ≡ false) × (find f ps ≡ None)
none_first f p ps none = go (f p) refl none
  where
    go : (b : Bool) → f p ≡ b → (if b then Some p else find f ps) ≡ None → (f p ≡ false) × (find f ps ≡ None)
    go true is none = absurd (cc)
    go false is none = (is, none)

pub none_kept : (f s : Placed → Bool) (ps : List Placed) → find f ps ≡ None → find f (filter s ps) ≡ None
none_kept f s [] none = refl
none_kept f s (p ∷ ps) none =
    let parts = none_first f p ps none in
    elim (s p) as (λ b. find f (if b then p ∷ filter s ps else filter s ps) ≡ None) [
      | true ↦ rw parts.0 (none_kept f s ps parts.1)
      | false ↦ none_kept f s ps parts.1
    ]

-- rows that break no key break none where some of them are left
pub unbroken_kept : (k : KeyDecl) (s : Placed → Bool) (ps : List Placed) → first_pair k ps ≡ None → first_pair k (filter s ps) ≡ None
unfolding first_pair
unbroken_kept k s [] none = refl
unbroken_kept k s (p ∷ ps) none =
    let parts = neither (option_map (λ q. (p, q)) (find (breaks k p) ps)) (first_pair k ps) none in
    elim (s p) as (λ b. first_pair k (if b then p ∷ filter s ps else filter s ps) ≡ None) [
      | true ↦ rw (none_kept (breaks k p) s ps (map_none (λ q. (p, q)) (find (breaks k p) ps) parts.0)) (unbroken_kept k s ps parts.1)
      | false ↦ unbroken_kept k s ps parts.1
    ]

-- ---- a row that breaks the key with no row of before is found among those that are put

found_same : (f : Placed → Bool) (p : Placed) (xs ys : List Placed) → find f xs ≡ find f ys → find f (p ∷ xs) ≡ find f (p ∷ ys)
found_same f p xs ys same = elim (f p) as (λ b. (if b then Some p else find f xs) ≡ (if b then Some p else find f ys)) [ true ↦ refl | false ↦ same ]

passed : (f : Placed → Bool) (xs ys : List Placed) → find f xs ≡ None → find f (xs ++ ys) ≡ find f ys
passed f [] ys none = refl
passed f (x ∷ xs) ys none = let parts = none_first f x xs none in rw parts.0 (passed f xs ys parts.1)

pub found_put : (f : Placed → Bool) (gone : List ℕ) (ps rows : List Placed) → Ascends ps → Ascends rows → find f rows ≡ None
    → find f (standing gone ps rows) ≡ find f ps
unfolding put_rows
found_put f gone [] rows rise ascend none = none_kept f (stays gone) rows none
found_put f gone (p ∷ ps) rows rise ascend none =
    ap (find f) (standing_split gone p ps rows rise.0 ascend)
    ∙ passed f (filter (stays gone) (below_id p.id rows)) (p ∷ standing gone ps (above_id p.id rows))
    (none_kept f (stays gone) (below_id p.id rows) (none_kept f (λ (q : Placed). nat_lt q.id p.id) rows none))
    ∙ found_same f p (standing gone ps (above_id p.id rows)) ps
    (found_put f gone ps (above_id p.id rows) rise.1 (ascends_kept (λ (q : Placed). nat_lt p.id q.id) rows ascend)
    (none_kept f (λ (q : Placed). nat_lt p.id q.id) rows none))

-- ---- the lower row is one of before

paired_same : (k : KeyDecl) (q : Placed) (xs ys : List Placed) (rest : Option (Placed × Placed)) → find (breaks k q) xs ≡ find (breaks k q) ys
    → option_or (option_map (λ r. (q, r)) (find (breaks k q) xs)) rest ≡ option_or (option_map (λ r. (q, r)) (find (breaks k q) ys)) rest
paired_same k q xs ys rest same = ap (λ (o : Option Placed). option_or (option_map (λ r. (q, r)) o) rest) same

low_pairs : (k : KeyDecl) (s : Placed → Bool) (id : ℕ) (rows rest highs : List Placed) → Ascends rows → first_pair k rows ≡ None
    → ((q : Placed) → find (breaks k q) (above_id id rows) ≡ None → find (breaks k q) rest ≡ find (breaks k q) highs)
    → first_pair k (filter s (below_id id rows) ++ rest) ≡ option_or (first_between k (filter s (below_id id rows)) highs) (first_pair k rest)
unfolding first_pair first_between
low_pairs k s id [] rest highs ascend none same = refl
low_pairs k s id (q ∷ qs) rest highs ascend none same =
    let parts = neither (option_map (λ r. (q, r)) (find (breaks k q) qs)) (first_pair k qs) none in
    let alone = map_none (λ r. (q, r)) (find (breaks k q) qs) parts.0 in
    elim (cases_lt q.id id) [
      | inl lt ↦
          let above : above_id id (q ∷ qs) ≡ above_id id qs = ap (λ (b : Bool). if b then q ∷ above_id id qs else above_id id qs) (le-ltb id q.id (omega (arith, lt))) in
          let later : ((r : Placed) → find (breaks k r) (above_id id qs) ≡ None → find (breaks k r) rest ≡ find (breaks k r) highs) =
          λ r free. same r (ap (find (breaks k r)) above ∙ free) in
          rw (lt-ltb q.id id lt) (low alone later (low_pairs k s id qs rest highs ascend.1 parts.1 later) (s q))
      | inr ge ↦ rw (none_below_from id q qs ge ascend) refl
    ]
  where
    low : find (breaks k q) qs ≡ None
        → ((r : Placed) → find (breaks k r) (above_id id qs) ≡ None → find (breaks k r) rest ≡ find (breaks k r) highs)
        → first_pair k (filter s (below_id id qs) ++ rest) ≡ option_or (first_between k (filter s (below_id id qs)) highs) (first_pair k rest) → (b : Bool)
        → first_pair k ((if b then q ∷ filter s (below_id id qs) else filter s (below_id id qs)) ++ rest)
        ≡ option_or (first_between k (if b then q ∷ filter s (below_id id qs) else filter s (below_id id qs)) highs) (first_pair k rest)
    low alone later deeper false = deeper
    low alone later deeper true =
        let lows = filter s (below_id id qs) in
        let free : find (breaks k q) lows ≡ None = none_kept (breaks k q) s (below_id id qs) (none_kept (breaks k q) (λ (r : Placed). nat_lt r.id id) qs alone) in
        let found : find (breaks k q) (lows ++ rest) ≡ find (breaks k q) highs =
        passed (breaks k q) lows rest free ∙ later q (none_kept (breaks k q) (λ (r : Placed). nat_lt id r.id) qs alone) in
        paired_same k q (lows ++ rest) highs (first_pair k (lows ++ rest)) found
        ∙ ap (option_or (option_map (λ r. (q, r)) (find (breaks k q) highs))) deeper
        ∙ sym (or_nested (option_map (λ r. (q, r)) (find (breaks k q) highs)) (first_between k lows highs) (first_pair k rest))

-- ---- the first pair, by the first row that is put

pub pair_step : (k : KeyDecl) (gone : List ℕ) (p : Placed) (ps rows : List Placed) → Ascends (p ∷ ps) → Ascends rows → first_pair k rows ≡ None
    → first_pair k (standing gone (p ∷ ps) rows)
    ≡ option_or (first_between k (filter (stays gone) (below_id p.id rows)) (p ∷ ps))
    (option_or (option_map (λ q. (p, q)) (find (breaks k p) (standing gone ps (above_id p.id rows)))) (first_pair k (standing gone ps (above_id p.id rows))))
unfolding first_pair
pair_step k gone p ps rows rise ascend none =
    let behind = standing gone ps (above_id p.id rows) in
    ap (first_pair k) (standing_split gone p ps rows rise.0 ascend)
    ∙ low_pairs k (stays gone) p.id rows (p ∷ behind) (p ∷ ps) ascend none
    (λ q free. found_same (breaks k q) p behind ps
    (found_put (breaks k q) gone ps (above_id p.id rows) rise.1 (ascends_kept (λ (r : Placed). nat_lt p.id r.id) rows ascend) free))

-- where no row is put, none breaks the key
pub pair_none : (k : KeyDecl) (gone : List ℕ) (rows : List Placed) → first_pair k rows ≡ None → first_pair k (standing gone [] rows) ≡ None
unfolding put_rows
pair_none k gone rows none = unbroken_kept k (stays gone) rows none

-- ---- the first row that breaks the key with another, by the first row that is put

pub found_step : (f : Placed → Bool) (gone : List ℕ) (p : Placed) (ps rows : List Placed) → Ascends (p ∷ ps) → Ascends rows
    → find f (standing gone (p ∷ ps) rows)
    ≡ option_or (find f (filter (stays gone) (below_id p.id rows))) (if f p then Some p else find f (standing gone ps (above_id p.id rows)))
found_step f gone p ps rows rise ascend =
    ap (find f) (standing_split gone p ps rows rise.0 ascend)
    ∙ find-append f (filter (stays gone) (below_id p.id rows)) (p ∷ standing gone ps (above_id p.id rows))
