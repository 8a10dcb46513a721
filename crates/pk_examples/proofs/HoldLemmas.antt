-- A key is implied where it holds in the two rows of each case, and only there.
use Rattle.std.proofs.Common.{◌≡◌, ◌∙◌, ap, subst, ℕ, ◌^◌, ◌<◌, true, false, not, List, [], ◌∷◌, ◌++◌, length, map, inl, inr}
use Rattle.std.specs.List.{All, Contains}
use Rattle.std.proofs.lemmas.Bool.{cases_Bool}
use Rattle.std.proofs.lemmas.List.Elements.{All-nil, All-cons, All-head, All-tail, All-append, All-map, All-weaker, All-contains, All-contains_itself}
use Rattle.pk_values.specs.declared.key.KeyDecl.{KeyDecl}
use Rattle.pk_values.specs.declared.key.Sort.{Sort}
use Rattle.pk_values.specs.declared.key.Sort.TheVariants.{Certain, Possible}
use Rattle.pk_values.specs.ColumnSet.{is_subset}
use Rattle.pk_transversal.specs.Transversals.{meets_all, transversals}
use Rattle.pk_transversal.specs.Laws.{MeetsAll, TransversalsAreListed}
use Rattle.pk_rule.specs.Plain.{Plain, IsPlain}
use Rattle.pk_rule.specs.Tables.{Implied}
use Rattle.pk_rule.specs.Rule.{is_implied}
use Rattle.pk_rule.specs.TwoRows.{low_row, high_row}
use Rattle.pk_rule.specs.Laws.{key_over, TheRuleIsTheTruth, TwoRowsRefute, Extension}
use Rattle.pk_examples.specs.declared.case.Case.{Case}
use Rattle.pk_examples.specs.Family.{outside, edges, case_over, cases_of, examples}
use Rattle.pk_examples.specs.Laws.{IsRefuted, ExamplesRefute, HoldsInCase, ExamplesTellTheKeys}
use Rattle.pk_examples.proofs.EdgeLemmas.{edges_met, edges_sets}
use Rattle.pk_examples.proofs.LargestLemmas.{out_set, out_below, out_twice, out_more, meets_open, minimal_inside}

-- ---- lists

all_left : {X : Type 0} (P : X → Type 0) (xs ys : List X) → All P (xs ++ ys) → All P xs
all_left P [] ys h = All-nil P
all_left P (x ∷ xs) ys h = All-cons P x xs (All-head P x (xs ++ ys) h) (all_left P xs ys (All-tail P x (xs ++ ys) h))

all_right : {X : Type 0} (P : X → Type 0) (xs ys : List X) → All P (xs ++ ys) → All P ys
all_right P [] ys h = h
all_right P (x ∷ xs) ys h = all_right P xs ys (All-tail P x (xs ++ ys) h)

under_map : {X Y : Type 0} (P : Y → Type 0) (f : X → Y) (xs : List X) → All P (map f xs) → All (λ x. P (f x)) xs
under_map P f [] h = All-nil (λ x. P (f x))
under_map P f (x ∷ xs) h = All-cons (λ y. P (f y)) x xs (All-head P (f x) (map f xs) h) (under_map P f xs (All-tail P (f x) (map f xs) h))

-- the case of all columns outside a set
abbrev case_outside : Plain → Sort → ℕ → Case
case_outside s sort t = case_over s sort (outside s t)

-- ---- what all cases have

module _ (listed : TransversalsAreListed) (s : Plain) (plain : IsPlain s) (P : Case → Type 0)
    (each : (sort : Sort) (t : ℕ) → MeetsAll (edges sort s) t → P (case_outside s sort t)) where
  all_of_sort : (sort : Sort) → All P (cases_of sort s)
  all_of_sort sort =
      let ts = transversals (edges sort s) in
      let lists = listed (edges sort s) (edges_sets s sort plain) in
      All-map P (case_outside s sort) ts
      (All-weaker (Contains ts) (λ t. P (case_outside s sort t)) (λ t held. each sort t (lists.only t held).holds) ts (All-contains_itself ts))

  all_examples : All P (examples s)
  unfolding examples
  all_examples = All-append P (cases_of Certain s) (cases_of Possible s) (all_of_sort Certain) (all_of_sort Possible)

-- ---- the key of a case fails in its rows

module _ (rule : TheRuleIsTheTruth) (refutes : TwoRowsRefute) (s : Plain) (plain : IsPlain s) where
  case_refutes : (sort : Sort) (t : ℕ) → MeetsAll (edges sort s) t → IsRefuted s (case_outside s sort t)
  case_refutes sort t met = refutes s (key_over sort (outside s t)) plain below not_implied
    where
      below : outside s t < 2 ^ length s.kinds
      below = out_below s plain t met.0

      not_implied : is_implied s (key_over sort (outside s t)) ≡ false
      not_implied =
          elim (cases_Bool (is_implied s (key_over sort (outside s t)))) [
            | inl implied ↦ absurd (meets_open s plain rule sort t met ((rule s (key_over sort (outside s t)) plain below).1 implied))
            | inr fails ↦ fails
          ]

pub examples_refute : TheRuleIsTheTruth → TwoRowsRefute → TransversalsAreListed → ExamplesRefute
examples_refute rule refutes listed s plain = all_examples listed s plain (IsRefuted s) (case_refutes rule refutes s plain)

module _ (rule : TheRuleIsTheTruth) (refutes : TwoRowsRefute) (extends : Extension) (listed : TransversalsAreListed) (s : Plain) (k : KeyDecl)
    (plain : IsPlain s) (below : k.columns < 2 ^ length s.kinds) where
  -- ---- where it is implied

  holds_in_all : Implied s k → All (HoldsInCase s k) (examples s)
  holds_in_all implied =
      all_examples listed s plain (HoldsInCase s k)
      (λ sort t met. implied (low_row s (key_over sort (outside s t)) ∷ high_row s (key_over sort (outside s t)) ∷ []) (case_refutes rule refutes s plain sort t met).0)

  -- ---- where it isn't

  -- it fails in the case of a set that has its columns
  fails_in : (t : ℕ) → MeetsAll (edges k.sort s) t → is_subset k.columns (outside s t) ≡ true → ¬ HoldsInCase s k (case_outside s k.sort t)
  fails_in t met part holds =
      (case_refutes rule refutes s plain k.sort t met).1
      (extends s.kinds (low_row s (key_over k.sort (outside s t)) ∷ high_row s (key_over k.sort (outside s t)) ∷ []) k.sort k.columns (outside s t)
      (out_set s plain t) part holds)

  not_implied_fails : is_implied s k ≡ false → All (HoldsInCase s k) (cases_of k.sort s) → ⊥
  not_implied_fails fails hold =
      let x = outside s k.columns in
      let ts = transversals (edges k.sort s) in
      let lists = listed (edges k.sort s) (edges_sets s k.sort plain) in
      let met : meets_all (edges k.sort s) x ≡ true =
      edges_met s k.sort x plain (out_set s plain k.columns)
      ∙ ap not (ap (λ set. is_implied s (key_over k.sort set)) (out_twice s plain k.columns below) ∙ fails) in
      let all = under_map (HoldsInCase s k) (case_outside s k.sort) ts hold in
      minimal_inside ts (edges k.sort s) lists x (out_set s plain k.columns, met)
      (λ t held inside.
      let t_met = (lists.only t held).holds in
      let more = subst (λ set. is_subset set (outside s t) ≡ true) (out_twice s plain k.columns below)
      (out_more s plain t x t_met.0 (out_set s plain k.columns) inside) in
      fails_in t t_met more (All-contains (λ u. HoldsInCase s k (case_outside s k.sort u)) ts t all held))

  cases_of_sort : (sort : Sort) → All (HoldsInCase s k) (examples s) → All (HoldsInCase s k) (cases_of sort s)
  unfolding examples
  cases_of_sort Certain hold = all_left (HoldsInCase s k) (cases_of Certain s) (cases_of Possible s) hold
  cases_of_sort Possible hold = all_right (HoldsInCase s k) (cases_of Certain s) (cases_of Possible s) hold

  implied_if : All (HoldsInCase s k) (examples s) → Implied s k
  implied_if hold =
      elim (cases_Bool (is_implied s k)) [
        | inl implied ↦ (rule s k plain below).1 implied
        | inr fails ↦ absurd (not_implied_fails fails (cases_of_sort k.sort hold))
      ]

pub examples_tell : TheRuleIsTheTruth → TwoRowsRefute → Extension → TransversalsAreListed → ExamplesTellTheKeys
examples_tell rule refutes extends listed s k plain below =
    (holds_in_all rule refutes extends listed s k plain below, implied_if rule refutes extends listed s k plain below)
