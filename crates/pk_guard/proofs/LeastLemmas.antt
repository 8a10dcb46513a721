-- The first break is the least of all, and what it shows.
use Rattle.std.proofs.Common.{◌≡◌, refl, sym, ◌∙◌, ap, subst, ℕ, zero, suc, ◌+◌, ◌≤◌, ◌<◌, Bool, true, false, List, [], ◌∷◌, length, All, Option, Some, None, slice_get, inl, inr, arith, if◌then◌else◌}
use Rattle.std.specs.Prelude.{find, option_map}
use Rattle.std.specs.Option.{option_or}
use Rattle.std.proofs.lemmas.Bool.{cases_lt, both_ways}
use Rattle.std.proofs.lemmas.Option.{get_or_from_slice_get, slice_get_within}
use Rattle.pk_values.specs.ColumnSet.{columns}
use Rattle.pk_values.specs.Values.{fits_kinds}
use Rattle.pk_values.specs.declared.broken.Break.{Break}
use Rattle.pk_values.specs.declared.key.KeyDecl.{KeyDecl}
use Rattle.pk_values.specs.declared.key.Sort.{Sort}
use Rattle.pk_values.specs.declared.key.Sort.TheVariants as sorts
use Rattle.pk_values.specs.declared.kind.Kind.{Kind}
use Rattle.pk_values.specs.declared.placed.Placed.{Placed}
use Rattle.pk_values.specs.declared.value.Value.{Value}
use Rattle.pk_similar.specs.Filling.{fill_values}
use Rattle.pk_similar.specs.Laws.{WeakIsMayAgree, StrongIsMustAgree}
use Rattle.pk_similar.specs.Similarity.{are_below}
use Rattle.pk_similar.proofs.RowLemmas.{merged, merged_completes, merged_filled, filled_turned, strong_filled, strong_same}
use Rattle.pk_schema.specs.Admits.{Admits}
use Rattle.pk_schema.specs.Shapes.{Shape, IsShape, kinds_of}
use Rattle.pk_schema.proofs.FitLemmas.{admitted_rows_fit}
use Rattle.pk_guard.specs.Breaks.{are_similar, breaks, first_pair, break_of, first_broken, first_break}
use Rattle.pk_guard.specs.Laws.{BreakAs, BreaksAt, Tells, IsNoLater, IsLeastBreak, FirstBreaksAreLeast, AreCommon, ShowsTwoRows, BreaksShowTwoRows}
use Rattle.pk_guard.proofs.ChangedLemmas.{Above, Ascends, ascends_from}
use Rattle.pk_guard.proofs.FirstLemmas.{neither, none_first}
use Rattle.pk_guard.proofs.KeyLemmas.{fit_admitted, key_below, kinds_below, held_unbroken, none_broken}
use Rattle.pk_values.proofs.ListLemmas.{map_none}

-- ---- places of rows that ascend

above_get : (id : ℕ) (rows : List Placed) (j : ℕ) (q : Placed) → Above id rows → slice_get rows j ≡ Some q → id < q.id
above_get id [] j q above is = cc
above_get id (r ∷ rs) zero q above is = let same : r ≡ q = cc in subst (λ (p : Placed). id < p.id) same above.0
above_get id (r ∷ rs) (suc j) q above is = above_get id rs j q above.1 is

ids_rise : (rows : List Placed) (i j : ℕ) (p q : Placed) → Ascends rows → i < j → slice_get rows i ≡ Some p → slice_get rows j ≡ Some q → p.id < q.id
ids_rise [] i j p q ascend lt first second = cc
ids_rise (r ∷ rs) i zero p q ascend lt first second = absurd (omega (arith, lt))
ids_rise (r ∷ rs) zero (suc j) p q ascend lt first second =
    let same : r ≡ p = cc in subst (λ (x : Placed). x.id < q.id) same (above_get r.id rs j q ascend.0 second)
ids_rise (r ∷ rs) (suc i) (suc j) p q ascend lt first second = ids_rise rs i j p q ascend.1 (omega (arith, lt)) first second

same_id : (rows : List Placed) (i : ℕ) (p q : Placed) → slice_get rows i ≡ Some p → slice_get rows i ≡ Some q → p.id ≡ q.id
same_id rows i p q first second = let same : p ≡ q = cc in ap (λ (x : Placed). x.id) same

ids_not_below : (rows : List Placed) (i j : ℕ) (p q : Placed) → Ascends rows → i ≤ j → slice_get rows i ≡ Some p → slice_get rows j ≡ Some q → p.id ≤ q.id
ids_not_below rows i j p q ascend le first second = elim (cases_lt i j) [
  | inl lt ↦ (let rise = ids_rise rows i j p q ascend lt first second in omega (arith, rise))
  | inr ge ↦
      let same : j ≡ i = omega (arith, le, ge) in
      let ids = same_id rows i p q first (subst (λ n. slice_get rows n ≡ Some q) same second) in
      omega (arith, ids)
]

same_place : (rows : List Placed) (i j : ℕ) (p q : Placed) → Ascends rows → i ≤ j → slice_get rows i ≡ Some p → slice_get rows j ≡ Some q → p.id ≡ q.id → i ≡ j
same_place rows i j p q ascend le first second ids = elim (cases_lt i j) as (λ _. i ≡ j) [
  | inl lt ↦ (let rise = ids_rise rows i j p q ascend lt first second in absurd (omega (arith, rise, ids)))
  | inr ge ↦ omega (arith, le, ge)
]

-- ---- what is found first

none_found : (f : Placed → Bool) (rows : List Placed) (j : ℕ) (q : Placed) → find f rows ≡ None → slice_get rows j ≡ Some q → f q ≡ true → ⊥
none_found f [] j q none is passes = cc
none_found f (r ∷ rs) zero q none is passes =
    let same : r ≡ q = cc in both_ways (f q) (subst (λ (x : Placed). f x ≡ false) same (none_first f r rs none).0) passes
none_found f (r ∷ rs) (suc j) q none is passes = none_found f rs j q (none_first f r rs none).1 is passes

-- the first row that passes, and its place
record FirstFound (f : Placed → Bool) (rows : List Placed) (j : ℕ) (q : Placed) : Type 0 where
  pub is : slice_get rows j ≡ Some q
  pub passes : f q ≡ true
  pub least : (i : ℕ) (p : Placed) → slice_get rows i ≡ Some p → f p ≡ true → j ≤ i

found_later : (f : Placed → Bool) (r : Placed) (rs : List Placed) (q : Placed) → f r ≡ false → (j : ℕ) × FirstFound f rs j q → (j : ℕ) × FirstFound f (r ∷ rs) j q
found_later f r rs q fails later = (suc later.0, record { is = later.1.is; passes = later.1.passes; least = least })
  where
    least : (i : ℕ) (p : Placed) → slice_get (r ∷ rs) i ≡ Some p → f p ≡ true → suc later.0 ≤ i
    least zero p is passes = (let same : r ≡ p = cc in absurd (both_ways (f r) fails (subst (λ (x : Placed). f x ≡ true) (sym same) passes)))
    least (suc i) p is passes = (let le = later.1.least i p is passes in omega (arith, le))

found_at : (f : Placed → Bool) (rows : List Placed) (q : Placed) → find f rows ≡ Some q → (j : ℕ) × FirstFound f rows j q
found_at f [] q found = cc
found_at f (r ∷ rs) q found = go (f r) refl found (λ later. found_at f rs q later)
  where
    go : (b : Bool) → f r ≡ b → (if b then Some r else find f rs) ≡ Some q → (find f rs ≡ Some q → (j : ℕ) × FirstFound f rs j q) → (j : ℕ) × FirstFound f (r ∷ rs) j q
    go true passes is deeper =
        let same : r ≡ q = cc in (0, record { is = is; passes = subst (λ (x : Placed). f x ≡ true) same passes; least = λ i p _ _. omega arith })
    go false fails is deeper = found_later f r rs q fails (deeper is)

-- ---- the first pair

-- two rows at an earlier and a later place break the key
pub record Pair (k : KeyDecl) (rows : List Placed) (i j : ℕ) (p q : Placed) : Type 0 where
  pub apart : i < j
  pub earlier : slice_get rows i ≡ Some p
  pub later : slice_get rows j ≡ Some q
  pub breaking : breaks k p q ≡ true

pub no_pair_at : (k : KeyDecl) (rows : List Placed) (i j : ℕ) (p q : Placed) → first_pair k rows ≡ None → Pair k rows i j p q → ⊥
unfolding first_pair
no_pair_at k [] i j p q none w = (let gone = w.earlier in cc)
no_pair_at k (r ∷ rs) i zero p q none w = (let apart = w.apart in absurd (omega (arith, apart)))
no_pair_at k (r ∷ rs) zero (suc j) p q none w =
    let parts = neither (option_map (λ x. (r, x)) (find (breaks k r) rs)) (first_pair k rs) none in
    let first = w.earlier in
    let same : r ≡ p = cc in
    none_found (breaks k r) rs j q (map_none (λ x. (r, x)) (find (breaks k r) rs) parts.0) w.later (subst (λ (x : Placed). breaks k x q ≡ true) (sym same) w.breaking)
no_pair_at k (r ∷ rs) (suc i) (suc j) p q none w =
    let parts = neither (option_map (λ x. (r, x)) (find (breaks k r) rs)) (first_pair k rs) none in
    let apart = w.apart in
    no_pair_at k rs i j p q parts.1 (record { apart = omega (arith, apart); earlier = w.earlier; later = w.later; breaking = w.breaking })

-- no pair comes before these places
abbrev pub NoneBefore : KeyDecl → List Placed → ℕ → ℕ → Type 0
NoneBefore k rows i j = (m n : ℕ) (p q : Placed) → Pair k rows m n p q → (i ≤ m) × (i ≡ m → j ≤ n)

first_here : (k : KeyDecl) (r q : Placed) (rs : List Placed) → (j : ℕ) × FirstFound (breaks k r) rs j q
    → (i j : ℕ) × Pair k (r ∷ rs) i j r q × NoneBefore k (r ∷ rs) i j
first_here k r q rs found = (
  0,
  suc found.0,
  record { apart = omega arith; earlier = refl; later = found.1.is; breaking = found.1.passes },
  λ m n a b w. (omega arith, least m n a b w),
)
  where
    least : (m n : ℕ) (a b : Placed) → Pair k (r ∷ rs) m n a b → 0 ≡ m → suc found.0 ≤ n
    least zero zero a b w is = (let apart = w.apart in absurd (omega (arith, apart)))
    least zero (suc n) a b w is =
        let first = w.earlier in
        let same : r ≡ a = cc in
        let le = found.1.least n b w.later (subst (λ (x : Placed). breaks k x b ≡ true) (sym same) w.breaking) in
        omega (arith, le)
    least (suc m) n a b w is = absurd (omega (arith, is))

first_later : (k : KeyDecl) (r p q : Placed) (rs : List Placed) → find (breaks k r) rs ≡ None → (i j : ℕ) × Pair k rs i j p q × NoneBefore k rs i j
    → (i j : ℕ) × Pair k (r ∷ rs) i j p q × NoneBefore k (r ∷ rs) i j
first_later k r p q rs none found = (
  suc found.0,
  suc found.1,
  (let apart = found.2.apart in record { apart = omega (arith, apart); earlier = found.2.earlier; later = found.2.later; breaking = found.2.breaking }),
  least,
)
  where
    least : NoneBefore k (r ∷ rs) (suc found.0) (suc found.1)
    least m zero a b w = (let apart = w.apart in absurd (omega (arith, apart)))
    least zero (suc n) a b w =
        let first = w.earlier in
        let same : r ≡ a = cc in
        absurd (none_found (breaks k r) rs n b none w.later (subst (λ (x : Placed). breaks k x b ≡ true) (sym same) w.breaking))
    least (suc m) (suc n) a b w =
        let apart = w.apart in
        let rest = found.3 m n a b (record { apart = omega (arith, apart); earlier = w.earlier; later = w.later; breaking = w.breaking }) in
        (let le = rest.0 in omega (arith, le), λ same. let le = rest.1 (omega (arith, same)) in omega (arith, le))

pub pair_at : (k : KeyDecl) (rows : List Placed) (p q : Placed) → first_pair k rows ≡ Some (p, q) → (i j : ℕ) × Pair k rows i j p q × NoneBefore k rows i j
unfolding first_pair
pair_at k [] p q found = cc
pair_at k (r ∷ rs) p q found = go (find (breaks k r) rs) refl found (λ later. pair_at k rs p q later)
  where
    go : (o : Option Placed) → find (breaks k r) rs ≡ o → option_or (option_map (λ x. (r, x)) o) (first_pair k rs) ≡ Some (p, q)
        → (first_pair k rs ≡ Some (p, q) → (i j : ℕ) × Pair k rs i j p q × NoneBefore k rs i j) → (i j : ℕ) × Pair k (r ∷ rs) i j p q × NoneBefore k (r ∷ rs) i j
    go None none is deeper = first_later k r p q rs none (deeper is)
    go (Some x) here is deeper =
        let same : (r, x) ≡ (p, q) = cc in
        let first : r ≡ p = ap (λ (t : Placed × Placed). t.0) same in
        let second : x ≡ q = ap (λ (t : Placed × Placed). t.1) same in
        subst (λ (a : Placed). (i j : ℕ) × Pair k (r ∷ rs) i j a q × NoneBefore k (r ∷ rs) i j) first
        (first_here k r q rs (found_at (breaks k r) rs q (subst (λ (a : Placed). find (breaks k r) rs ≡ Some a) second here)))

-- ---- the first key that is broken

-- the break is of the first pair of the key at place c, and no key before it has one
record FirstBroken (kinds : List Kind) (place : ℕ) (ks : List KeyDecl) (rows : List Placed) (b : Break) (c : ℕ) (k : KeyDecl) (p q : Placed) : Type 0 where
  pub key : slice_get ks c ≡ Some k
  pub pair : first_pair k rows ≡ Some (p, q)
  pub told : b ≡ break_of kinds (place + c) k (p, q)
  pub before : (d : ℕ) (j : KeyDecl) → d < c → slice_get ks d ≡ Some j → first_pair j rows ≡ None

broken_here : (kinds : List Kind) (place : ℕ) (k : KeyDecl) (ks : List KeyDecl) (rows : List Placed) (b : Break) (pair : Placed × Placed)
    → first_pair k rows ≡ Some pair → break_of kinds place k pair ≡ b
    → (c : ℕ) × (key : KeyDecl) × (p q : Placed) × FirstBroken kinds place (k ∷ ks) rows b c key p q
broken_here kinds place k ks rows b pair is told =
    let same : place ≡ place + 0 = omega arith in (
      0,
      k,
      pair.0,
      pair.1,
      record {
        key = refl;
        pair = is;
        told = sym told ∙ ap (λ n. break_of kinds n k pair) same;
        before = λ d j lt _. absurd (omega (arith, lt));
      },
    )

broken_later : (kinds : List Kind) (place : ℕ) (k : KeyDecl) (ks : List KeyDecl) (rows : List Placed) (b : Break) → first_pair k rows ≡ None
    → (c : ℕ) × (key : KeyDecl) × (p q : Placed) × FirstBroken kinds (place + 1) ks rows b c key p q
    → (c : ℕ) × (key : KeyDecl) × (p q : Placed) × FirstBroken kinds place (k ∷ ks) rows b c key p q
broken_later kinds place k ks rows b none w =
    let same : place + 1 + w.0 ≡ place + suc w.0 = omega arith in (
      suc w.0,
      w.1,
      w.2,
      w.3,
      record {
        key = w.4.key;
        pair = w.4.pair;
        told = w.4.told ∙ ap (λ n. break_of kinds n w.1 (w.2, w.3)) same;
        before = before;
      },
    )
  where
    before : (d : ℕ) (j : KeyDecl) → d < suc w.0 → slice_get (k ∷ ks) d ≡ Some j → first_pair j rows ≡ None
    before zero j lt is = (let same : k ≡ j = cc in subst (λ (key : KeyDecl). first_pair key rows ≡ None) same none)
    before (suc d) j lt is = w.4.before d j (omega (arith, lt)) is

broken_at : (kinds : List Kind) (place : ℕ) (ks : List KeyDecl) (rows : List Placed) (b : Break) → first_broken kinds place ks rows ≡ Some b
    → (c : ℕ) × (k : KeyDecl) × (p q : Placed) × FirstBroken kinds place ks rows b c k p q
unfolding first_broken
broken_at kinds place [] rows b found = cc
broken_at kinds place (k ∷ ks) rows b found = go (first_pair k rows) refl found (λ later. broken_at kinds (place + 1) ks rows b later)
  where
    go : (o : Option (Placed × Placed)) → first_pair k rows ≡ o → option_or (option_map (break_of kinds place k) o) (first_broken kinds (place + 1) ks rows) ≡ Some b
        → (first_broken kinds (place + 1) ks rows ≡ Some b → (c : ℕ) × (key : KeyDecl) × (p q : Placed) × FirstBroken kinds (place + 1) ks rows b c key p q)
        → (c : ℕ) × (key : KeyDecl) × (p q : Placed) × FirstBroken kinds place (k ∷ ks) rows b c key p q
    go None none is deeper = broken_later kinds place k ks rows b none (deeper is)
    go (Some pair) here is deeper = broken_here kinds place k ks rows b pair here (let same : break_of kinds place k pair ≡ b = cc in same)

-- ---- the values that two rows have in common

common : (sort : Sort) (kinds : List Kind) (cs : List ℕ) (a b : List Value) → fits_kinds kinds a ≡ true → fits_kinds kinds b ≡ true
    → are_below (length kinds) cs ≡ true → are_similar sort cs a b ≡ true → AreCommon sort kinds cs a b (fill_values kinds cs a b)
common sorts.Certain kinds cs a b fits_a fits_b below similar = (
  merged kinds a b,
  merged kinds b a,
  (merged_completes kinds a b fits_a fits_b, merged_completes kinds b a fits_b fits_a),
  merged_filled kinds a b fits_a fits_b cs below,
  merged_filled kinds b a fits_b fits_a cs below ∙ sym (filled_turned kinds a b cs similar),
)
common sorts.Possible kinds cs a b fits_a fits_b below similar =
    (strong_filled kinds a b cs similar, sym (strong_same a b cs similar) ∙ strong_filled kinds a b cs similar)

-- ---- rows of a table break a key by completions where they do by similarity

fits_at : (s : Shape) (rows : List Placed) (i : ℕ) (p : Placed) → All (λ (q : Placed). Admits s q.row) rows → slice_get rows i ≡ Some p
    → fits_kinds (kinds_of s.columns) p.row ≡ true
fits_at s rows i p admitted is =
    ((admitted_rows_fit s p.row).0 (subst (λ (q : Placed). Admits s q.row) (get_or_from_slice_get rows i p p is) (admitted i p (slice_get_within rows i p is)))).kinds

module _ (weak_is : WeakIsMayAgree) (strong_is : StrongIsMustAgree) where
  similar_break : (sort : Sort) (kinds : List Kind) (cs : List ℕ) (a b : List Value) → fits_kinds kinds a ≡ true → fits_kinds kinds b ≡ true
      → are_below (length kinds) cs ≡ true → are_similar sort cs a b ≡ true → BreakAs sort kinds cs a b
  similar_break sorts.Certain kinds cs a b fits_a fits_b below similar = (weak_is kinds a b cs fits_a fits_b below).0 similar
  similar_break sorts.Possible kinds cs a b fits_a fits_b below similar = (strong_is kinds a b cs fits_a fits_b below).0 similar

  break_similar : (sort : Sort) (kinds : List Kind) (cs : List ℕ) (a b : List Value) → fits_kinds kinds a ≡ true → fits_kinds kinds b ≡ true
      → are_below (length kinds) cs ≡ true → BreakAs sort kinds cs a b → are_similar sort cs a b ≡ true
  break_similar sorts.Certain kinds cs a b fits_a fits_b below breaking = (weak_is kinds a b cs fits_a fits_b below).1 breaking
  break_similar sorts.Possible kinds cs a b fits_a fits_b below breaking = (strong_is kinds a b cs fits_a fits_b below).1 breaking

  -- ---- the least of all breaks

  pair_of : (s : Shape) (rows : List Placed) (c i j : ℕ) (k : KeyDecl) (p q : Placed) → IsShape s → All (λ (r : Placed). Admits s r.row) rows
      → BreaksAt s rows c i j k p q → Pair k rows i j p q
  pair_of s rows c i j k p q shape admitted w = record {
    apart = w.apart;
    earlier = w.earlier;
    later = w.later;
    breaking =
        break_similar k.sort (kinds_of s.columns) (columns k.columns) p.row q.row (fits_at s rows i p admitted w.earlier) (fits_at s rows j q admitted w.later)
        (kinds_below s k (key_below s c k shape w.key)) w.breaking;
  }

  breaks_at : (s : Shape) (rows : List Placed) (c i j : ℕ) (k : KeyDecl) (p q : Placed) → IsShape s → All (λ (r : Placed). Admits s r.row) rows
      → slice_get s.keys c ≡ Some k → Pair k rows i j p q → BreaksAt s rows c i j k p q
  breaks_at s rows c i j k p q shape admitted key pair = record {
    key = key;
    apart = pair.apart;
    earlier = pair.earlier;
    later = pair.later;
    breaking =
        similar_break k.sort (kinds_of s.columns) (columns k.columns) p.row q.row (fits_at s rows i p admitted pair.earlier) (fits_at s rows j q admitted pair.later)
        (kinds_below s k (key_below s c k shape key)) pair.breaking;
  }

  no_later : (s : Shape) (rows : List Placed) (b : Break) (c i j : ℕ) (k : KeyDecl) (p q : Placed) → IsShape s → All (λ (r : Placed). Admits s r.row) rows → Ascends rows
      → FirstBroken (kinds_of s.columns) 1 s.keys rows b c k p q → Pair k rows i j p q → NoneBefore k rows i j
      → (d m n : ℕ) (l : KeyDecl) (x y : Placed) → BreaksAt s rows d m n l x y → IsNoLater b (d + 1) x.id y.id
  no_later s rows b c i j k p q shape admitted ascend first pair before d m n l x y w = record {
    by_key = elim (cases_lt d c) as (λ _. b.key ≤ d + 1) [
      | inl lt ↦ absurd (no_pair_at l rows m n x y (first.before d l lt w.key) (pair_of s rows d m n l x y shape admitted w))
      | inr ge ↦ omega (arith, key, ge)
    ];
    by_low = λ same. (let le = ids_not_below rows i m p x ascend (least same).0 pair.earlier w.earlier in omega (arith, le, low));
    by_high = λ same ids. (
        let place : i ≡ m = same_place rows i m p x ascend (least same).0 pair.earlier w.earlier (sym low ∙ ids) in
        let le = ids_not_below rows j n q y ascend ((least same).1 place) pair.later w.later in
        omega (arith, le, high));
  }
    where
      key : b.key ≡ 1 + c
      key = ap (λ (t : Break). t.key) first.told

      low : b.low ≡ p.id
      low = ap (λ (t : Break). t.low) first.told

      high : b.high ≡ q.id
      high = ap (λ (t : Break). t.high) first.told

      least : b.key ≡ d + 1 → (i ≤ m) × (i ≡ m → j ≤ n)
      least same =
          let place : d ≡ c = omega (arith, key, same) in
          let mine : slice_get s.keys c ≡ Some l = subst (λ e. slice_get s.keys e ≡ Some l) place w.key in
          let first_key = first.key in
          let one : l ≡ k = cc in
          before m n x y (subst (λ (t : KeyDecl). Pair t rows m n x y) one (pair_of s rows d m n l x y shape admitted w))

  tells : (s : Shape) (rows : List Placed) (b : Break) (c i j : ℕ) (k : KeyDecl) (p q : Placed) → Ascends rows
      → FirstBroken (kinds_of s.columns) 1 s.keys rows b c k p q → Pair k rows i j p q → Tells b c k p q
  tells s rows b c i j k p q ascend first pair =
      let key = ap (λ (t : Break). t.key) first.told in
      let low = ap (λ (t : Break). t.low) first.told in
      let high = ap (λ (t : Break). t.high) first.told in
      let rise = ids_rise rows i j p q ascend pair.apart pair.earlier pair.later in
      record {
        key = omega (arith, key);
        sort = ap (λ (t : Break). t.sort) first.told;
        low = low;
        high = high;
        ordered = omega (arith, rise, low, high);
      }

  least_break : (s : Shape) (rows : List Placed) (b : Break) → IsShape s → All (λ (r : Placed). Admits s r.row) rows → Ascends rows
      → (c : ℕ) × (k : KeyDecl) × (p q : Placed) × FirstBroken (kinds_of s.columns) 1 s.keys rows b c k p q → IsLeastBreak s rows b
  least_break s rows b shape admitted ascend w =
      let first = w.4 in
      let at = pair_at w.1 rows w.2 w.3 first.pair in
      record {
        stands = (
          w.0,
          at.0,
          at.1,
          w.1,
          w.2,
          w.3,
          breaks_at s rows w.0 at.0 at.1 w.1 w.2 w.3 shape admitted first.key at.2,
          tells s rows b w.0 at.0 at.1 w.1 w.2 w.3 ascend first at.2,
        );
        least = no_later s rows b w.0 at.0 at.1 w.1 w.2 w.3 shape admitted ascend first at.2 at.3;
      }

  pub first_breaks_are_least : FirstBreaksAreLeast
  unfolding first_break
  first_breaks_are_least s rows shape admitted ascend = (
    (λ none c i j k p q w. no_pair_at k rows i j p q (none_broken (kinds_of s.columns) 1 s.keys rows none c k w.key) (pair_of s rows c i j k p q shape admitted w)),
    (λ b found. least_break s rows b shape admitted (ascends_from rows ascend) (broken_at (kinds_of s.columns) 1 s.keys rows b found)),
  )

  -- ---- what a break shows

  shown : (s : Shape) (rows : List Placed) (b : Break) → IsShape s → All (λ (p : Placed). Admits s p.row) rows → Ascends rows
      → (c : ℕ) × (k : KeyDecl) × (p q : Placed) × FirstBroken (kinds_of s.columns) 1 s.keys rows b c k p q
      → (c i j : ℕ) × (k : KeyDecl) × (p q : Placed) × ShowsTwoRows s rows b c i j k p q
  shown s rows b shape admitted ascend w =
      let kinds = kinds_of s.columns in
      let first = w.4 in
      let at = pair_at w.1 rows w.2 w.3 first.pair in
      let pair = at.2 in
      let below = kinds_below s w.1 (key_below s w.0 w.1 shape first.key) in
      let values = common w.1.sort kinds (columns w.1.columns) w.2.row w.3.row (fits_at s rows at.0 w.2 admitted pair.earlier) (fits_at s rows at.1 w.3 admitted pair.later) below pair.breaking in (
        w.0,
        at.0,
        at.1,
        w.1,
        w.2,
        w.3,
        record {
          fails = λ holds. no_pair_at w.1 rows at.0 at.1 w.2 w.3 (held_unbroken kinds rows w.1 (fit_admitted s rows admitted) holds) pair;
          stands = breaks_at s rows w.0 at.0 at.1 w.1 w.2 w.3 shape admitted first.key pair;
          told = tells s rows b w.0 at.0 at.1 w.1 w.2 w.3 ascend first pair;
          values = subst (AreCommon w.1.sort kinds (columns w.1.columns) w.2.row w.3.row) (sym (ap (λ (t : Break). t.values) first.told)) values;
          filled = ap (λ (t : Break). t.values) first.told;
          least = no_later s rows b w.0 at.0 at.1 w.1 w.2 w.3 shape admitted ascend first pair at.3;
        },
      )

  pub breaks_show_two_rows : BreaksShowTwoRows
  unfolding first_break
  breaks_show_two_rows s rows b shape admitted ascend found =
      shown s rows b shape admitted (ascends_from rows ascend) (broken_at (kinds_of s.columns) 1 s.keys rows b found)
