-- The minimal sets that meet every edge are those outside the largest sets whose key fails somewhere.
use Rattle.std.proofs.Common.{◌≡◌, sym, ◌∙◌, ap, subst, ℕ, zero, suc, ◌^◌, ◌<◌, Bool, true, false, not, List, length, inl, inr, arith}
use Rattle.std.specs.List.{All, Contains}
use Rattle.std.proofs.lemmas.Bool.{cases_Bool, cases_eq}
use Rattle.std.proofs.lemmas.List.Elements.{All-weaker, All-contains_itself}
use Rattle.pk_values.specs.declared.key.Sort.{Sort}
use Rattle.pk_values.specs.ColumnSet.{IsColumnSet, is_subset}
use Rattle.pk_values.proofs.ColumnLemmas.{set_bounded, subset_itself}
use Rattle.pk_transversal.specs.Minimal.{IsMinimal, Lists}
use Rattle.pk_transversal.specs.Transversals.{meets_all, transversals}
use Rattle.pk_transversal.specs.Laws.{MeetsAll, TransversalsAreListed}
use Rattle.pk_rule.specs.Plain.{Plain, IsPlain}
use Rattle.pk_rule.specs.Tables.{Implied}
use Rattle.pk_rule.specs.Rule.{is_implied}
use Rattle.pk_rule.specs.Laws.{key_over, TheRuleIsTheTruth}
use Rattle.pk_examples.specs.Family.{every_column, outside, edges}
use Rattle.pk_examples.specs.Laws.{LeavesLargestOpen, ExamplesAreLargest}
use Rattle.pk_examples.proofs.WithoutLemmas.{subset_trans, at_most, without_cut, without_set, without_twice, without_part, without_more, every_set, part_of_every, below_every}
use Rattle.pk_examples.proofs.EdgeLemmas.{edges_met, edges_sets}

not_true : (b : Bool) → b ≡ true → not b ≡ true → ⊥
not_true true a h = cc
not_true false a h = cc

-- ---- what is outside a set of the schema

module _ (s : Plain) (plain : IsPlain s) where
  abbrev n : ℕ
  n = length s.kinds

  all_set : IsColumnSet (every_column s)
  all_set = every_set n plain.few_columns

  pub out_set : (t : ℕ) → IsColumnSet (outside s t)
  out_set t = without_set (every_column s) t all_set

  pub out_below : (t : ℕ) → IsColumnSet t → outside s t < 2 ^ n
  out_below t t_set = below_every n (outside s t) plain.few_columns (out_set t) (without_part (every_column s) t all_set t_set)

  pub is_set : (t : ℕ) → t < 2 ^ n → IsColumnSet t
  is_set t below = set_bounded t n plain.few_columns below

  pub out_twice : (t : ℕ) → t < 2 ^ n → outside s (outside s t) ≡ t
  out_twice t below = without_twice (every_column s) t all_set (is_set t below) (part_of_every n t below)

  pub out_more : (a b : ℕ) → IsColumnSet a → IsColumnSet b → is_subset a b ≡ true → is_subset (outside s b) (outside s a) ≡ true
  out_more a b a_set b_set part = without_more (every_column s) a b all_set a_set b_set part

  -- ---- open sets

  module _ (rule : TheRuleIsTheTruth) (sort : Sort) where
    abbrev Open : ℕ → Type 0
    Open set = ¬ Implied s (key_over sort set)

    pub meets_open : (t : ℕ) → MeetsAll (edges sort s) t → Open (outside s t)
    meets_open t met implied =
        not_true (is_implied s (key_over sort (outside s t))) ((rule s (key_over sort (outside s t)) plain (out_below t met.0)).0 implied)
        (sym (edges_met s sort t plain met.0) ∙ met.1)

    pub open_meets : (t : ℕ) → IsColumnSet t → Open (outside s t) → meets_all (edges sort s) t ≡ true
    open_meets t t_set is_open =
        elim (cases_Bool (is_implied s (key_over sort (outside s t)))) [
          | inl implied ↦ absurd (is_open ((rule s (key_over sort (outside s t)) plain (out_below t t_set)).1 implied))
          | inr not_implied ↦ edges_met s sort t plain t_set ∙ ap not not_implied
        ]

    -- an open set of the schema leaves one outside that meets every edge
    pub open_outside : (x : ℕ) → x < 2 ^ n → Open x → MeetsAll (edges sort s) (outside s x)
    open_outside x below is_open = (out_set x, open_meets (outside s x) (out_set x) (subst (λ y. Open y) (sym (out_twice x below)) is_open))

    -- a minimal set has no column beside those of the schema
    minimal_below : (t : ℕ) → IsMinimal (MeetsAll (edges sort s)) t → t < 2 ^ n
    minimal_below t minimal =
        let t_set = minimal.holds.0 in
        let x = outside s t in
        let same = minimal.least (outside s x) (open_outside x (out_below t t_set) (meets_open t minimal.holds)) (cut_part t t_set) in
        subst (λ y. y < 2 ^ n) same (out_below x (out_set t))
      where
        cut_part : (u : ℕ) → IsColumnSet u → is_subset (outside s (outside s u)) u ≡ true
        cut_part u u_set = without_cut (every_column s) u all_set u_set

    leaves_open : (t : ℕ) → IsMinimal (MeetsAll (edges sort s)) t → LeavesLargestOpen s sort t
    leaves_open t minimal =
        let below = minimal_below t minimal in
        let t_set = minimal.holds.0 in (
          below,
          record {
            inside = out_below t t_set;
            open_here = meets_open t minimal.holds;
            largest = λ other inside is_open part.
                let other_set = is_set other inside in
                let smaller = subst (λ y. is_subset (outside s other) y ≡ true) (out_twice t below) (out_more (outside s t) other (out_set t) other_set part) in
                let same = minimal.least (outside s other) (open_outside other inside is_open) smaller in
                sym (out_twice other inside) ∙ ap (outside s) same;
          },
        )

    open_minimal : (t : ℕ) → LeavesLargestOpen s sort t → IsMinimal (MeetsAll (edges sort s)) t
    open_minimal t h =
        let below = h.0 in
        let largest = h.1 in
        let t_set = is_set t below in
        record {
          holds = (t_set, open_meets t t_set largest.open_here);
          least = λ y met part.
              let y_below : y < 2 ^ n = let most = at_most y t met.0 t_set part in omega (arith, most, below) in
              let same = largest.largest (outside s y) (out_below y met.0) (meets_open y met) (out_more y t met.0 t_set part) in
              sym (out_twice y y_below) ∙ ap (outside s) same ∙ out_twice t below;
        }

    pub outsides_listed : TransversalsAreListed → Lists (LeavesLargestOpen s sort) (transversals (edges sort s))
    outsides_listed listed =
        let lists = listed (edges sort s) (edges_sets s sort plain) in
        record { ascend = lists.ascend; only = λ x h. leaves_open x (lists.only x h); every = λ x h. lists.every x (open_minimal x h) }

-- what is listed are sets of columns
pub listed_sets : TransversalsAreListed → (s : Plain) (sort : Sort) (sets : List ℕ) → IsPlain s → sets ≡ transversals (edges sort s) → All IsColumnSet sets
listed_sets listed s sort sets plain is =
    let ts = transversals (edges sort s) in
    let lists = listed (edges sort s) (edges_sets s sort plain) in
    subst (All IsColumnSet) (sym is) (All-weaker (Contains ts) IsColumnSet (λ t held. (lists.only t held).holds.0) ts (All-contains_itself ts))

pub largest_listed : TheRuleIsTheTruth → TransversalsAreListed → ExamplesAreLargest
largest_listed rule listed s sort plain = outsides_listed s plain rule sort listed

-- ---- inside each set that meets every edge there is a minimal one

none_inside : (listing : List ℕ) (es : List ℕ) → Lists (IsMinimal (MeetsAll es)) listing → (bound x : ℕ) → x < bound → MeetsAll es x
    → ((t : ℕ) → Contains listing t → is_subset t x ≡ true → ⊥) → ⊥
none_inside listing es lists zero x below met none = absurd (omega (arith, below))
none_inside listing es lists (suc bound) x below met none =
    none x
    (lists.every x (minimal (λ y lower y_met part. none_inside listing es lists bound y lower y_met
    (λ t held inside. none t held (subset_trans t y x (lists.only t held).holds.0 y_met.0 inside part)))))
    (subset_itself x)
  where
    minimal : ((y : ℕ) → y < bound → MeetsAll es y → is_subset y x ≡ true → ⊥) → IsMinimal (MeetsAll es) x
    minimal smaller = record {
      holds = met;
      least = λ y y_met part.
          elim (cases_eq y x) [
            | inl same ↦ same
            | inr other ↦
                let most = at_most y x y_met.0 met.0 part in
                absurd (smaller y (omega (arith, most, other, below)) y_met part)
          ];
    }

pub minimal_inside : (listing : List ℕ) (es : List ℕ) → Lists (IsMinimal (MeetsAll es)) listing → (x : ℕ) → MeetsAll es x
    → ((t : ℕ) → Contains listing t → is_subset t x ≡ true → ⊥) → ⊥
minimal_inside listing es lists x met none = none_inside listing es lists (suc x) x (omega arith) met none
