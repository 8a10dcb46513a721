-- Which rows are covered.
use Rattle.std.proofs.Common.{◌≡◌, refl, sym, ℕ, ◌+◌, ◌<◌, ◌≤◌, true, ◌==◌, ◌||◌, List, [], ◌∷◌, inl, inr, arith}
use Rattle.std.specs.List.{list_all, AllByRecursion}
use Rattle.std.specs.List.Sorted.{IsStrictlySortedBy}
use Rattle.std.specs.Ordering.{nat_cmp}
use Rattle.std.specs.declared.cmp.Ordering.TheVariants.{Less}
use Rattle.std.proofs.lemmas.Bool.{and_parts, and_from, or_right, cases_eq, eq-eqb, ne_eqb}
use Rattle.pk_values.specs.declared.placed.Placed.{Placed}
use Rattle.pk_values.proofs.ListLemmas.{all_weaker}
use Rattle.pk_values.proofs.NumberLemmas.{less_numbers}
use Rattle.pk_exec.specs.Laws.{CoveredRowsAreThere}
use Rattle.pk_exec.specs.Rows.{AscendFrom, ids_of, has_id}
use Rattle.pk_exec.specs.Seen.{is_part}
use Rattle.pk_exec.specs.Works.{edited_ids}
use Rattle.pk_exec.proofs.ListLemmas.{rest_from}

part_there : (is : List ℕ) (rows : List Placed) → is_part is (ids_of rows) ≡ true → list_all (has_id rows) is ≡ true
part_there [] rows part = refl
part_there (i ∷ is) [] part = cc
part_there (i ∷ is) (p ∷ ps) part =
    elim (cases_eq i p.id) [
      | inl same ↦
          and_from (p.id == i || has_id ps i) _ (rw (eq-eqb p.id i (sym same)) refl)
          (all_weaker (has_id ps) (has_id (p ∷ ps)) (λ k there. or_right (p.id == k) (has_id ps k) there) is (part_there is ps (rw (eq-eqb i p.id same) at part)))
      | inr other ↦
          all_weaker (has_id ps) (has_id (p ∷ ps)) (λ k there. or_right (p.id == k) (has_id ps k) there) (i ∷ is) (part_there (i ∷ is) ps (rw (ne_eqb i p.id other) at part))
    ]

-- an id of rows that ascend isn't below them
id_above : (least : ℕ) (rows : List Placed) (i : ℕ) → AscendFrom least rows → has_id rows i ≡ true → least ≤ i
id_above least [] i ascend there = cc
id_above least (p ∷ ps) i ascend there =
    elim (cases_eq p.id i) [
      | inl same ↦ omega (arith, ascend.1.0, same)
      | inr other ↦ let later = id_above (p.id + 1) ps i (rest_from least p ps ascend) (rw (ne_eqb p.id i other) at there) in omega (arith, ascend.1.0, later)
    ]

-- those above the first row stand among the others
among_others : (p : Placed) (ps : List Placed) (is : List ℕ) → AllByRecursion (λ i. p.id < i) is → list_all (has_id (p ∷ ps)) is ≡ true → list_all (has_id ps) is ≡ true
among_others p ps [] above all = refl
among_others p ps (i ∷ is) above all =
    let parts = and_parts (p.id == i || has_id ps i) (list_all (has_id (p ∷ ps)) is) all in
    and_from (has_id ps i) (list_all (has_id ps) is) (rw (ne_eqb p.id i (λ same. omega (arith, above.0, same))) at parts.0) (among_others p ps is above.1 parts.1)

all_above : (low i : ℕ) (is : List ℕ) → low ≤ i → AllByRecursion (λ k. nat_cmp i k ≡ Less) is → AllByRecursion (λ k. low < k) is
all_above low i [] le rise = tt
all_above low i (k ∷ is) le rise = (omega (arith, le, less_numbers i k rise.0), all_above low i is le rise.1)

there_part : (least : ℕ) (is : List ℕ) (rows : List Placed) → IsStrictlySortedBy nat_cmp is → AscendFrom least rows → list_all (has_id rows) is ≡ true
    → is_part is (ids_of rows) ≡ true
unfolding IsStrictlySortedBy
there_part least [] rows rise ascend all = refl
there_part least (i ∷ is) [] rise ascend all = cc
there_part least (i ∷ is) (p ∷ ps) rise ascend all =
    let parts = and_parts (p.id == i || has_id ps i) (list_all (has_id (p ∷ ps)) is) all in
    elim (cases_eq i p.id) [
      | inl same ↦
          rw (eq-eqb i p.id same)
          (there_part (p.id + 1) is ps rise.1 (rest_from least p ps ascend) (among_others p ps is (all_above p.id i is (omega (arith, same)) rise.0) parts.1))
      | inr other ↦
          let here : has_id ps i ≡ true = rw (ne_eqb p.id i (λ same. other (sym same))) at parts.0 in
          let more = id_above (p.id + 1) ps i (rest_from least p ps ascend) here in
          rw (ne_eqb i p.id other)
          (there_part (p.id + 1) (i ∷ is) ps rise (rest_from least p ps ascend)
          (and_from (has_id ps i) (list_all (has_id ps) is) here (among_others p ps is (all_above p.id i is (omega (arith, more)) rise.0) parts.1)))
    ]

pub covered_rows_are_there : CoveredRowsAreThere
covered_rows_are_there w table least rows rise ascend = (part_there (edited_ids w table) rows, there_part least (edited_ids w table) rows rise ascend)
