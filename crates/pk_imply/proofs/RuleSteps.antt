-- The rules that are told lead to the key, and rules that lead to a key are sound.
use Rattle.std.proofs.Common.{◌≡◌, refl, sym, ◌∙◌, ap, subst, ℕ, zero, suc, ◌+◌, ◌<◌, true, false, ◌==◌, List, [], ◌∷◌, get_or, inl, inr, arith}
use Rattle.std.specs.Prelude.{Some, slice_get}
use Rattle.std.proofs.lemmas.Bool.{cases_Bool, eqb-true}
use Rattle.std.proofs.lemmas.List.Quantifiers.{position-Some}
use Rattle.std.proofs.lemmas.Option.{get_or_from_slice_get, slice_get-get_or}
use Rattle.pk_values.specs.declared.key.KeyDecl.{KeyDecl}
use Rattle.pk_values.specs.declared.key.Sort.{Sort}
use Rattle.pk_values.specs.declared.key.Sort.TheVariants.{Certain, Possible}
use Rattle.pk_values.specs.declared.rule.Rule.{Rule}
use Rattle.pk_values.specs.declared.rule.Rule.TheVariants.{Declared, Strengthen, Weaken, Extend}
use Rattle.pk_values.specs.declared.value.Value.{Value}
use Rattle.pk_values.specs.ColumnSet.{IsColumnSet, is_subset}
use Rattle.pk_rule.specs.Plain.{Plain, IsPlain}
use Rattle.pk_rule.specs.Tables.{KeyHolds, TableOf}
use Rattle.pk_rule.specs.Rule.{alone_implies}
use Rattle.pk_rule.specs.Laws.{key_over}
use Rattle.pk_rule.proofs.RuleLemmas.{one_holds}
use Rattle.pk_rule.proofs.StepLemmas.{step_holds}
use Rattle.pk_imply.specs.Deriving.{implying_place, column_rules, rules_between, rules_from, rules_of, Leads}
use Rattle.pk_imply.specs.Laws.{RulesLeadToTheKey, DerivationsAreSound}
use Rattle.pk_imply.proofs.PlaceLemmas.{got_in}
use Rattle.pk_imply.proofs.RuleLemmas.{alone_from, alone_parts, fits_own, known_of_possible}
use Rattle.pk_imply.proofs.CoverLemmas.{inside_set, key_inside}
use Rattle.pk_values.proofs.ColumnLemmas.{subset_itself}

-- ---- which rules are told

rules_first : (known n : ℕ) (keys : List KeyDecl) (k : KeyDecl) (i : ℕ) (d : KeyDecl) → slice_get keys i ≡ Some d → alone_implies known d k ≡ true
    → ((j : ℕ) (e : KeyDecl) → j < i → slice_get keys j ≡ Some e → alone_implies known e k ≡ false)
    → rules_from known n keys k ≡ Declared (n + i) ∷ rules_between d k
unfolding rules_from
rules_first known n [] k i d got alone earlier = cc
rules_first known n (x ∷ xs) k zero d got alone earlier =
    let same : d ≡ x = some_same got in
    let here : alone_implies known x k ≡ true = subst (λ (e : KeyDecl). alone_implies known e k ≡ true) same alone in
    let count : n + 0 ≡ n = omega arith in
    rw (here, count, same) refl
  where
    some_same : Some x ≡ Some d → d ≡ x
    some_same is = cc
rules_first known n (x ∷ xs) k (suc i) d got alone earlier =
    let not_here : alone_implies known x k ≡ false = earlier 0 x (omega arith) refl in
    let later = rules_first known (suc n) xs k i d got alone (λ j e before at. earlier (suc j) e (omega (arith, before)) at) in
    let count : suc n + i ≡ n + suc i = omega arith in
    rw not_here (later ∙ ap (λ m. Declared m ∷ rules_between d k) count)

pub rules_at : (s : Plain) (k : KeyDecl) (i : ℕ) (d : KeyDecl) → implying_place s k ≡ Some i → slice_get s.keys i ≡ Some d
    → rules_of s k ≡ Declared (i + 1) ∷ rules_between d k
rules_at s k i d place got =
    let first = position-Some (λ (e : KeyDecl). alone_implies s.known e k) s.keys i d place in
    let count : 1 + i ≡ i + 1 = omega arith in
    rules_first s.known 1 s.keys k i d got
    (subst (λ (e : KeyDecl). alone_implies s.known e k ≡ true) (get_or_from_slice_get s.keys i d d got) first.1)
    (λ j e before at. subst (λ (f : KeyDecl). alone_implies s.known f k ≡ false) (get_or_from_slice_get s.keys j e d at) (first.2 j before))
    ∙ ap (λ m. Declared m ∷ rules_between d k) count

-- the same by the key that is read at the place
pub rules_read : (s : Plain) (k : KeyDecl) (keys : List KeyDecl) (i : ℕ) (d : KeyDecl) → keys ≡ s.keys → implying_place s k ≡ Some i → d ≡ get_or keys i d
    → rules_of s k ≡ Declared (i + 1) ∷ rules_between d k
rules_read s k keys i d same place is =
    let first = position-Some (λ (e : KeyDecl). alone_implies s.known e k) s.keys i d place in
    let read : d ≡ get_or s.keys i d = subst (λ (es : List KeyDecl). d ≡ get_or es i d) same is in
    rules_at s k i d place (slice_get-get_or s.keys i d first.0 ∙ ap (λ (e : KeyDecl). Some e) (sym read))

-- ---- they lead to the key

columns_lead : (known : ℕ) (sort : Sort) (x y : ℕ) → IsColumnSet y → is_subset x y ≡ true → Leads known (key_over sort x) (column_rules x y) (key_over sort y)
columns_lead known sort x y is_set inside =
    elim (cases_Bool (x == y)) [
      | inl same ↦ rw same (ap (key_over sort) (eqb-true x y same))
      | inr other ↦ rw other (is_set, inside, refl)
    ]

keys_lead : (known : ℕ) (r t : Sort) (x y : ℕ) → IsColumnSet y → alone_implies known (key_over r x) (key_over t y) ≡ true
    → Leads known (key_over r x) (rules_between (key_over r x) (key_over t y)) (key_over t y)
keys_lead known Certain Certain x y is_set alone = columns_lead known Certain x y is_set (alone_parts known (key_over Certain x) (key_over Certain y) alone).0
keys_lead known Possible Possible x y is_set alone = columns_lead known Possible x y is_set (alone_parts known (key_over Possible x) (key_over Possible y) alone).0
keys_lead known Certain Possible x y is_set alone = (refl, columns_lead known Possible x y is_set (alone_parts known (key_over Certain x) (key_over Possible y) alone).0)
keys_lead known Possible Certain x y is_set alone =
    let parts = alone_parts known (key_over Possible x) (key_over Certain y) alone in
    (refl, known_of_possible known x parts.1, columns_lead known Certain x y is_set parts.0)

pub rules_lead : RulesLeadToTheKey
rules_lead s k place plain inside is =
    let d = get_or s.keys place k in
    let first = position-Some (λ (e : KeyDecl). alone_implies s.known e k) s.keys place k is in
    let got : slice_get s.keys place ≡ Some d = slice_get-get_or s.keys place k first.0 in
    (rules_between d k, d, rules_at s k place d is got, got, keys_lead s.known d.sort k.sort d.columns k.columns (inside_set s k.columns plain inside) first.1)

-- ---- whatever leads to a key is sound

turn_step : (s : Plain) (rows : List (List Value)) (of to : Sort) (x y : ℕ) → IsPlain s → IsColumnSet y → TableOf s rows
    → alone_implies s.known (key_over of x) (key_over to y) ≡ true → KeyHolds s.kinds rows (key_over of x) → KeyHolds s.kinds rows (key_over to y)
turn_step s rows of to x y plain y_set table alone holds =
    step_holds s.kinds rows s.known of to x y (inside_set s s.known plain plain.known_inside) y_set table.0 table.1 alone holds

-- rules keep what holds in a table
kept_by_rules : (s : Plain) (rows : List (List Value)) (rules : List Rule) (of : Sort) (x : ℕ) (k : KeyDecl) → IsPlain s → IsColumnSet x → TableOf s rows
    → Leads s.known (key_over of x) rules k → KeyHolds s.kinds rows (key_over of x) → KeyHolds s.kinds rows k
kept_by_rules s rows [] of x k plain x_set table leads holds = subst (KeyHolds s.kinds rows) leads holds
kept_by_rules s rows (Declared place ∷ rules) of x k plain x_set table leads holds = absurd leads
kept_by_rules s rows (Strengthen ∷ rules) of x k plain x_set table leads holds =
    kept_by_rules s rows rules Certain x k plain x_set table leads.2
    (turn_step s rows of Certain x x plain x_set table (rw (subset_itself x, leads.0, leads.1) refl) holds)
kept_by_rules s rows (Weaken ∷ rules) of x k plain x_set table leads holds =
    kept_by_rules s rows rules Possible x k plain x_set table leads.1
    (turn_step s rows of Possible x x plain x_set table (rw (subset_itself x) refl) holds)
kept_by_rules s rows (Extend more ∷ rules) of x k plain x_set table leads holds =
    kept_by_rules s rows rules of more k plain leads.0 table leads.2
    (turn_step s rows of of x more plain leads.0 table (alone_from s.known (key_over of x) (key_over of more) leads.1 (fits_own s.known (key_over of x))) holds)

pub derived_holds : DerivationsAreSound
derived_holds s rules k plain (place, from) = λ rows table.
    let d = from.1 in
    let d_set = inside_set s d.columns plain (key_inside s d plain (got_in s.keys place d from.3)) in
    kept_by_rules s rows from.0 d.sort d.columns k plain d_set table from.4 (one_holds s.kinds rows s.keys place d table.2 from.3)
