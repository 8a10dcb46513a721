-- Tables, their completions, and pairs of their rows.
use Rattle.std.proofs.Common.{◌≡◌, refl, ℕ, suc, ◌+◌, ◌<◌, Bool, true, false, not, List, [], ◌∷◌, length, arith}
use Rattle.std.specs.List.{list_all, list_any}
use Rattle.std.proofs.lemmas.Bool.{and_parts, and_from, or_parts, or_from, both_ways, not-true, not_from_false}
use Rattle.pk_values.specs.declared.kind.Kind.{Kind}
use Rattle.pk_values.specs.declared.value.Value.{Value}
use Rattle.pk_values.specs.Values.{fits_kinds}
use Rattle.pk_similar.specs.Completions.{CompletesRow, Completes, AgreesWithNone, NoneAgree, Certain}
use Rattle.pk_similar.specs.Similarity.{are_below, weak, strong, no_pair}
use Rattle.pk_similar.proofs.RowLemmas.{agree_weak, strong_agree, merged, merged_completes, weak_merged_agree, row_weight, freshened, freshened_completes, freshened_strong}

-- each row with its nulls replaced by blanks
abbrev pub blanked : List Kind → List (List Value) → List (List Value)
blanked ks [] = []
blanked ks (row ∷ rows) = merged ks row row ∷ blanked ks rows

pub blanked_completes : (ks : List Kind) (rows : List (List Value)) → list_all (fits_kinds ks) rows ≡ true → Completes ks rows (blanked ks rows)
blanked_completes ks [] fit = tt
blanked_completes ks (row ∷ rows) fit =
    let parts = and_parts (fits_kinds ks row) (list_all (fits_kinds ks) rows) fit in
    (merged_completes ks row row parts.0 parts.0, blanked_completes ks rows parts.1)

-- a row that is weakly similar to none behind it agrees with none of them in any completion
none_weak_agrees :
    (ks : List Kind) (cs : List ℕ) (row full : List Value) (rows fulls : List (List Value))
    → CompletesRow ks row full → Completes ks rows fulls → list_any (weak cs row) rows ≡ false → AgreesWithNone cs full fulls
none_weak_agrees ks cs row full [] [] here done none = tt
none_weak_agrees ks cs row full [] (other ∷ others) here done none = absurd done
none_weak_agrees ks cs row full (b ∷ rows) [] here done none = absurd done
none_weak_agrees ks cs row full (b ∷ rows) (other ∷ others) here done none =
    let parts = or_parts (weak cs row b) (list_any (weak cs row) rows) none in (
      λ agree. both_ways (weak cs row b) parts.0 (agree_weak ks row b full other here done.0 cs agree),
      none_weak_agrees ks cs row full rows others here done.1 parts.1,
    )

-- where no two rows are weakly similar, no two agree in any completion
pub no_weak_agree :
    (ks : List Kind) (cs : List ℕ) (rows fulls : List (List Value)) → Completes ks rows fulls → no_pair (weak cs) rows ≡ true → NoneAgree cs fulls
no_weak_agree ks cs [] [] done none = tt
no_weak_agree ks cs [] (full ∷ fulls) done none = absurd done
no_weak_agree ks cs (row ∷ rows) [] done none = absurd done
no_weak_agree ks cs (row ∷ rows) (full ∷ fulls) done none =
    let parts = and_parts (not (list_any (weak cs row) rows)) (no_pair (weak cs) rows) none in
    (none_weak_agrees ks cs row full rows fulls done.0 done.1 (not-true _ parts.0), no_weak_agree ks cs rows fulls done.1 parts.1)

-- a row that agrees with none behind it in any completion is weakly similar to none of them
none_agrees_weak :
    (ks : List Kind) (cs : List ℕ) (row : List Value) (rows : List (List Value)) → fits_kinds ks row ≡ true → list_all (fits_kinds ks) rows ≡ true
    → ((full : List Value) (fulls : List (List Value)) → CompletesRow ks row full → Completes ks rows fulls → AgreesWithNone cs full fulls)
    → list_any (weak cs row) rows ≡ false
none_agrees_weak ks cs row [] fits fit agrees = refl
none_agrees_weak ks cs row (b ∷ rows) fits fit agrees =
    let parts = and_parts (fits_kinds ks b) (list_all (fits_kinds ks) rows) fit in
    or_from _ _ (here parts.0 parts.1 (weak cs row b) refl)
    (none_agrees_weak ks cs row rows fits parts.1
    (λ full fulls mine others. (agrees full (merged ks b b ∷ fulls) mine (merged_completes ks b b parts.0 parts.0, others)).1))
  where
    here : fits_kinds ks b ≡ true → list_all (fits_kinds ks) rows ≡ true → (t : Bool) → weak cs row b ≡ t → weak cs row b ≡ false
    here fits_b fit_rows false apart = apart
    here fits_b fit_rows true similar =
        absurd ((agrees (merged ks row b) (merged ks b row ∷ blanked ks rows) (merged_completes ks row b fits fits_b)
        (merged_completes ks b row fits_b fits, blanked_completes ks rows fit_rows)).0 (weak_merged_agree ks row b cs similar))

-- where no two rows agree in any completion, no two are weakly similar
pub certain_no_weak :
    (ks : List Kind) (cs : List ℕ) (rows : List (List Value)) → list_all (fits_kinds ks) rows ≡ true → Certain ks rows cs → no_pair (weak cs) rows ≡ true
certain_no_weak ks cs [] fit certain = refl
certain_no_weak ks cs (row ∷ rows) fit certain =
    let parts = and_parts (fits_kinds ks row) (list_all (fits_kinds ks) rows) fit in
    and_from _ _
    (not_from_false _ (none_agrees_weak ks cs row rows parts.0 parts.1 (λ full fulls mine others. (certain (full ∷ fulls) (mine, others)).0)))
    (certain_no_weak ks cs rows parts.1 (λ fulls others. (certain (merged ks row row ∷ fulls) (merged_completes ks row row parts.0 parts.0, others)).1))

-- a row that agrees with none behind it in some completion is strongly similar to none of them
none_agrees_strong :
    (ks : List Kind) (cs : List ℕ) (row full : List Value) (rows fulls : List (List Value))
    → CompletesRow ks row full → Completes ks rows fulls → AgreesWithNone cs full fulls → list_any (strong cs row) rows ≡ false
none_agrees_strong ks cs row full [] [] here done agrees = refl
none_agrees_strong ks cs row full [] (other ∷ others) here done agrees = absurd done
none_agrees_strong ks cs row full (b ∷ rows) [] here done agrees = absurd done
none_agrees_strong ks cs row full (b ∷ rows) (other ∷ others) here done agrees =
    or_from _ _ (apart (strong cs row b) refl) (none_agrees_strong ks cs row full rows others here done.1 agrees.1)
  where
    apart : (t : Bool) → strong cs row b ≡ t → strong cs row b ≡ false
    apart false fails = fails
    apart true similar = absurd (agrees.0 (strong_agree ks row b full other here done.0 cs similar))

-- where no two rows agree in some completion, no two are strongly similar
pub apart_no_strong :
    (ks : List Kind) (cs : List ℕ) (rows fulls : List (List Value)) → Completes ks rows fulls → NoneAgree cs fulls → no_pair (strong cs) rows ≡ true
apart_no_strong ks cs [] [] done none = refl
apart_no_strong ks cs [] (full ∷ fulls) done none = absurd done
apart_no_strong ks cs (row ∷ rows) [] done none = absurd done
apart_no_strong ks cs (row ∷ rows) (full ∷ fulls) done none =
    and_from _ _ (not_from_false _ (none_agrees_strong ks cs row full rows fulls done.0 done.1 none.0))
    (apart_no_strong ks cs rows fulls done.1 none.1)

-- each row with its nulls replaced by values of a weight of its own: n, n + 1 and so on
abbrev pub kept_apart : List Kind → ℕ → List (List Value) → List (List Value)
kept_apart ks n [] = []
kept_apart ks n (row ∷ rows) = freshened ks n row ∷ kept_apart ks (suc n) rows

pub kept_apart_completes :
    (ks : List Kind) (n : ℕ) (rows : List (List Value)) → list_all (fits_kinds ks) rows ≡ true → Completes ks rows (kept_apart ks n rows)
kept_apart_completes ks n [] fit = tt
kept_apart_completes ks n (row ∷ rows) fit =
    let parts = and_parts (fits_kinds ks row) (list_all (fits_kinds ks) rows) fit in
    (freshened_completes ks n row parts.0, kept_apart_completes ks (suc n) rows parts.1)

-- how heavy a table is
abbrev pub table_weight : List (List Value) → ℕ
table_weight [] = 0
table_weight (row ∷ rows) = row_weight row + table_weight rows

-- a row that is strongly similar to none behind it is kept apart from them
none_strong_agrees :
    (ks : List Kind) (cs : List ℕ) (row : List Value) (i : ℕ) → are_below (length ks) cs ≡ true → fits_kinds ks row ≡ true → row_weight row < i
    → (rows : List (List Value)) (j : ℕ) → i < j → list_all (fits_kinds ks) rows ≡ true → table_weight rows < i → list_any (strong cs row) rows ≡ false
    → AgreesWithNone cs (freshened ks i row) (kept_apart ks j rows)
none_strong_agrees ks cs row i below fits light [] j apart fit lights none = tt
none_strong_agrees ks cs row i below fits light (b ∷ rows) j apart fit lights none =
    let fitting = and_parts (fits_kinds ks b) (list_all (fits_kinds ks) rows) fit in
    let parts = or_parts (strong cs row b) (list_any (strong cs row) rows) none in (
      λ agree. both_ways (strong cs row b) parts.0
          (freshened_strong ks row b i j fits fitting.0 light (omega (arith, lights)) apart cs below agree),
      none_strong_agrees ks cs row i below fits light rows (suc j) (omega (arith, apart)) fitting.1 (omega (arith, lights)) parts.1,
    )

-- where no two rows are strongly similar, all are kept apart
pub no_strong_agree :
    (ks : List Kind) (cs : List ℕ) → are_below (length ks) cs ≡ true → (rows : List (List Value)) (n : ℕ) → list_all (fits_kinds ks) rows ≡ true
    → table_weight rows < n → no_pair (strong cs) rows ≡ true → NoneAgree cs (kept_apart ks n rows)
no_strong_agree ks cs below [] n fit light none = tt
no_strong_agree ks cs below (row ∷ rows) n fit light none =
    let fitting = and_parts (fits_kinds ks row) (list_all (fits_kinds ks) rows) fit in
    let parts = and_parts (not (list_any (strong cs row) rows)) (no_pair (strong cs) rows) none in (
      none_strong_agrees ks cs row n below fitting.0 (omega (arith, light)) rows (suc n) (omega arith) fitting.1 (omega (arith, light)) (not-true _ parts.0),
      no_strong_agree ks cs below rows (suc n) fitting.1 (omega (arith, light)) parts.1,
    )
