-- How code walks over the rows that are put, and over those before and behind each.
use Rattle.std.proofs.Common.{◌≡◌, refl, sym, ◌∙◌, ap, subst, ℕ, suc, ◌+◌, ◌<◌, Bool, true, false, List, [], ◌∷◌, Option, Some, None, length, drop, get_or, arith, if◌then◌else◌}
use Rattle.std.specs.Prelude.{filter, find, option_map, nat_lt}
use Rattle.std.specs.List.{list_all}
use Rattle.std.specs.Option.{option_or}
use Rattle.std.proofs.lemmas.Bool.{and_parts, and_from}
use Rattle.std.proofs.Math.Seq.{drop-cons}
use Rattle.pk_values.specs.declared.key.KeyDecl.{KeyDecl}
use Rattle.pk_values.specs.declared.placed.Placed.{Placed}
use Rattle.pk_guard.specs.Breaks.{breaks, first_pair}
use Rattle.pk_guard.specs.Changed.{RowsAscend, put_rows, stays, standing}
use Rattle.pk_guard.specs.Splits.{below_id, above_id, first_between, is_wide, AreWide}
use Rattle.pk_guard.proofs.ChangedLemmas.{ascends_from, rows_kept, rows_behind}
use Rattle.pk_guard.proofs.FirstLemmas.{unbroken_kept, pair_step, pair_none, found_step}

-- ---- rows that have all columns of a key

pub wide_kept : (k : KeyDecl) (s : Placed → Bool) (ps : List Placed) → AreWide k ps → AreWide k (filter s ps)
wide_kept k s [] wide = wide
wide_kept k s (p ∷ ps) wide =
    let parts = and_parts (is_wide k p) (list_all (is_wide k) ps) wide in
    elim (s p) as (λ b. AreWide k (if b then p ∷ filter s ps else filter s ps)) [
      | true ↦ and_from _ _ parts.0 (wide_kept k s ps parts.1)
      | false ↦ wide_kept k s ps parts.1
    ]

-- ---- between two lists

between_step : (k : KeyDecl) (gone : List ℕ) (put : List Placed) (p : Placed) (ps : List Placed)
    → first_between k (filter (stays gone) (p ∷ ps)) put
    ≡ option_or (option_map (λ q. (p, q)) (if stays gone p then find (breaks k p) put else None)) (first_between k (filter (stays gone) ps) put)
unfolding first_between
between_step k gone put p ps = go (stays gone p)
  where
    go : (b : Bool) → first_between k (if b then p ∷ filter (stays gone) ps else filter (stays gone) ps) put
        ≡ option_or (option_map (λ q. (p, q)) (if b then find (breaks k p) put else None)) (first_between k (filter (stays gone) ps) put)
    go true = refl
    go false = refl

between_at : (k : KeyDecl) (gone : List ℕ) (put rows : List Placed) (i : ℕ) (p : Placed) → i < length rows → p ≡ get_or rows i p
    → first_between k (filter (stays gone) (drop i rows)) put
    ≡ option_or (option_map (λ q. (p, q)) (if stays gone p then find (breaks k p) put else None)) (first_between k (filter (stays gone) (drop (i + 1) rows)) put)
between_at k gone put rows i p within is =
    let next : suc i ≡ i + 1 = omega arith in
    let split : drop i rows ≡ p ∷ drop (i + 1) rows = drop-cons rows i p within ∙ ap (λ q. q ∷ drop (suc i) rows) (sym is) ∙ ap (λ n. p ∷ drop n rows) next in
    ap (λ (ps : List Placed). first_between k (filter (stays gone) ps) put) split ∙ between_step k gone put p (drop (i + 1) rows)

pub between_found : (k : KeyDecl) (gone : List ℕ) (put rows : List Placed) (i : ℕ) (p q : Placed) → i < length rows → p ≡ get_or rows i p
    → Some q ≡ (if stays gone p then find (breaks k p) put else None)
    → first_between k (filter (stays gone) (drop i rows)) put ≡ first_between k (filter (stays gone) rows) put
    → Some (p, q) ≡ first_between k (filter (stays gone) rows) put
between_found k gone put rows i p q within is found decides =
    ap (λ (o : Option Placed). option_or (option_map (λ r. (p, r)) o) (first_between k (filter (stays gone) (drop (i + 1) rows)) put)) found
    ∙ sym (between_at k gone put rows i p within is) ∙ decides

pub between_none : (k : KeyDecl) (gone : List ℕ) (put rows : List Placed) (i : ℕ) (p : Placed) → i < length rows → p ≡ get_or rows i p
    → None ≡ (if stays gone p then find (breaks k p) put else None)
    → first_between k (filter (stays gone) (drop i rows)) put ≡ first_between k (filter (stays gone) rows) put
    → first_between k (filter (stays gone) (drop (i + 1) rows)) put ≡ first_between k (filter (stays gone) rows) put
between_none k gone put rows i p within is none decides =
    ap (λ (o : Option Placed). option_or (option_map (λ r. (p, r)) o) (first_between k (filter (stays gone) (drop (i + 1) rows)) put)) none
    ∙ sym (between_at k gone put rows i p within is) ∙ decides

pub between_done : (k : KeyDecl) (put : List Placed) → first_between k [] put ≡ None
unfolding first_between
between_done k put = refl

-- ---- the next row that is put

-- it stands between those of the rows that are before it, and those behind it
pub record StandsBetween (next : Placed) (others left kept before behind : List Placed) : Type 0 where
  pub first : left ≡ next ∷ others
  pub before_is : before ≡ below_id next.id kept
  pub behind_is : behind ≡ above_id next.id kept
  pub left_ascend : RowsAscend left
  pub kept_ascend : RowsAscend kept

pub others_ascend : (next : Placed) (others left kept before behind : List Placed) → StandsBetween next others left kept before behind → RowsAscend others
others_ascend next others left kept before behind w = rows_behind next others (subst RowsAscend w.first w.left_ascend)

pub behind_ascend : (next : Placed) (others left kept before behind : List Placed) → StandsBetween next others left kept before behind → RowsAscend behind
behind_ascend next others left kept before behind w = subst RowsAscend (sym w.behind_is) (rows_kept (λ (p : Placed). nat_lt next.id p.id) kept w.kept_ascend)

pub before_wide : (k : KeyDecl) (next : Placed) (others left kept before behind : List Placed) → StandsBetween next others left kept before behind
    → AreWide k kept → AreWide k before
before_wide k next others left kept before behind w wide = subst (AreWide k) (sym w.before_is) (wide_kept k (λ (p : Placed). nat_lt p.id next.id) kept wide)

pub behind_wide : (k : KeyDecl) (next : Placed) (others left kept before behind : List Placed) → StandsBetween next others left kept before behind
    → AreWide k kept → AreWide k behind
behind_wide k next others left kept before behind w wide = subst (AreWide k) (sym w.behind_is) (wide_kept k (λ (p : Placed). nat_lt next.id p.id) kept wide)

pub others_wide : (k : KeyDecl) (next : Placed) (others left kept before behind : List Placed) → StandsBetween next others left kept before behind
    → AreWide k left → AreWide k others
others_wide k next others left kept before behind w wide = (and_parts (is_wide k next) (list_all (is_wide k) others) (subst (AreWide k) w.first wide)).1

pub behind_unbroken : (k : KeyDecl) (next : Placed) (others left kept before behind : List Placed) → StandsBetween next others left kept before behind
    → first_pair k kept ≡ None → first_pair k behind ≡ None
behind_unbroken k next others left kept before behind w none =
    ap (first_pair k) w.behind_is ∙ unbroken_kept k (λ (p : Placed). nat_lt next.id p.id) kept none

-- ---- the first row that breaks a key with another

found_next : (f : Placed → Bool) (gone : List ℕ) (next : Placed) (others left kept before behind : List Placed) → StandsBetween next others left kept before behind
    → find f (standing gone left kept)
    ≡ option_or (find f (filter (stays gone) before)) (if f next then Some next else find f (standing gone others behind))
found_next f gone next others left kept before behind w =
    ap (λ (ps : List Placed). find f (standing gone ps kept)) w.first
    ∙ found_step f gone next others kept (ascends_from (next ∷ others) (subst RowsAscend w.first w.left_ascend)) (ascends_from kept w.kept_ascend)
    ∙ ap (λ (ps : List Placed). option_or (find f (filter (stays gone) ps)) (if f next then Some next else find f (standing gone others (above_id next.id kept))))
    (sym w.before_is)
    ∙ ap (λ (ps : List Placed). option_or (find f (filter (stays gone) before)) (if f next then Some next else find f (standing gone others ps))) (sym w.behind_is)

pub found_before : (f : Placed → Bool) (gone : List ℕ) (next : Placed) (others left kept before behind : List Placed) → StandsBetween next others left kept before behind
    → (high : Placed) → Some high ≡ find f (filter (stays gone) before) → Some high ≡ find f (standing gone left kept)
found_before f gone next others left kept before behind w high found =
    ap (λ (o : Option Placed). option_or o (if f next then Some next else find f (standing gone others behind))) found
    ∙ sym (found_next f gone next others left kept before behind w)

pub found_here : (f : Placed → Bool) (gone : List ℕ) (next : Placed) (others left kept before behind : List Placed) → StandsBetween next others left kept before behind
    → None ≡ find f (filter (stays gone) before) → f next ≡ true → Some next ≡ find f (standing gone left kept)
found_here f gone next others left kept before behind w none breaking =
    sym (ap (λ (b : Bool). if b then Some next else find f (standing gone others behind)) breaking)
    ∙ ap (λ (o : Option Placed). option_or o (if f next then Some next else find f (standing gone others behind))) none
    ∙ sym (found_next f gone next others left kept before behind w)

pub found_behind : (f : Placed → Bool) (gone : List ℕ) (next : Placed) (others left kept before behind : List Placed) → StandsBetween next others left kept before behind
    → None ≡ find f (filter (stays gone) before) → f next ≡ false → find f (standing gone others behind) ≡ find f (standing gone left kept)
found_behind f gone next others left kept before behind w none apart =
    sym (ap (λ (b : Bool). if b then Some next else find f (standing gone others behind)) apart)
    ∙ ap (λ (o : Option Placed). option_or o (if f next then Some next else find f (standing gone others behind))) none
    ∙ sym (found_next f gone next others left kept before behind w)

pub found_last : (f : Placed → Bool) (gone : List ℕ) (left kept : List Placed) → length left ≡ 0
    → find f (filter (stays gone) kept) ≡ find f (standing gone left kept)
unfolding put_rows
found_last f gone [] kept none = refl
found_last f gone (p ∷ ps) kept none = absurd (omega (arith, none))

-- ---- the first pair

pair_next : (k : KeyDecl) (gone : List ℕ) (next : Placed) (others left kept before behind : List Placed) → StandsBetween next others left kept before behind
    → first_pair k kept ≡ None
    → first_pair k (standing gone left kept)
    ≡ option_or (first_between k (filter (stays gone) before) left)
    (option_or (option_map (λ q. (next, q)) (find (breaks k next) (standing gone others behind))) (first_pair k (standing gone others behind)))
pair_next k gone next others left kept before behind w unbroken =
    ap (λ (ps : List Placed). first_pair k (standing gone ps kept)) w.first
    ∙ pair_step k gone next others kept (ascends_from (next ∷ others) (subst RowsAscend w.first w.left_ascend)) (ascends_from kept w.kept_ascend) unbroken
    ∙ ap (λ (ps : List Placed). option_or (first_between k (filter (stays gone) ps) (next ∷ others)) (behind_it (above_id next.id kept))) (sym w.before_is)
    ∙ ap (λ (ps : List Placed). option_or (first_between k (filter (stays gone) before) ps) (behind_it (above_id next.id kept))) (sym w.first)
    ∙ ap (λ (ps : List Placed). option_or (first_between k (filter (stays gone) before) left) (behind_it ps)) (sym w.behind_is)
  where
    behind_it : List Placed → Option (Placed × Placed)
    behind_it ps = option_or (option_map (λ q. (next, q)) (find (breaks k next) (standing gone others ps))) (first_pair k (standing gone others ps))

pub pair_before : (k : KeyDecl) (gone : List ℕ) (next : Placed) (others left kept before behind : List Placed) → StandsBetween next others left kept before behind
    → first_pair k kept ≡ None → (pair : Placed × Placed) → Some pair ≡ first_between k (filter (stays gone) before) left
    → Some pair ≡ first_pair k (standing gone left kept)
pair_before k gone next others left kept before behind w unbroken pair found =
    ap (λ (o : Option (Placed × Placed)). option_or o
    (option_or (option_map (λ q. (next, q)) (find (breaks k next) (standing gone others behind))) (first_pair k (standing gone others behind)))) found
    ∙ sym (pair_next k gone next others left kept before behind w unbroken)

pub pair_here : (k : KeyDecl) (gone : List ℕ) (next : Placed) (others left kept before behind : List Placed) → StandsBetween next others left kept before behind
    → first_pair k kept ≡ None → None ≡ first_between k (filter (stays gone) before) left
    → (high : Placed) → Some high ≡ find (breaks k next) (standing gone others behind) → Some (next, high) ≡ first_pair k (standing gone left kept)
pair_here k gone next others left kept before behind w unbroken none high found =
    ap (λ (o : Option Placed). option_or (option_map (λ q. (next, q)) o) (first_pair k (standing gone others behind))) found
    ∙ ap (λ (o : Option (Placed × Placed)). option_or o
    (option_or (option_map (λ q. (next, q)) (find (breaks k next) (standing gone others behind))) (first_pair k (standing gone others behind)))) none
    ∙ sym (pair_next k gone next others left kept before behind w unbroken)

pub pair_behind : (k : KeyDecl) (gone : List ℕ) (next : Placed) (others left kept before behind : List Placed) → StandsBetween next others left kept before behind
    → first_pair k kept ≡ None → None ≡ first_between k (filter (stays gone) before) left
    → None ≡ find (breaks k next) (standing gone others behind) → first_pair k (standing gone others behind) ≡ first_pair k (standing gone left kept)
pair_behind k gone next others left kept before behind w unbroken none alone =
    ap (λ (o : Option Placed). option_or (option_map (λ q. (next, q)) o) (first_pair k (standing gone others behind))) alone
    ∙ ap (λ (o : Option (Placed × Placed)). option_or o
    (option_or (option_map (λ q. (next, q)) (find (breaks k next) (standing gone others behind))) (first_pair k (standing gone others behind)))) none
    ∙ sym (pair_next k gone next others left kept before behind w unbroken)

pub pair_last : (k : KeyDecl) (gone : List ℕ) (left kept : List Placed) → length left ≡ 0 → first_pair k kept ≡ None
    → None ≡ first_pair k (standing gone left kept)
pair_last k gone [] kept none unbroken = sym (pair_none k gone kept unbroken)
pair_last k gone (p ∷ ps) kept none unbroken = absurd (omega (arith, none))
