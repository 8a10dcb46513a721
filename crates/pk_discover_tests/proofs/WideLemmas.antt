-- What a look at each row tells of all.
use Rattle.std.proofs.Common.{◌≡◌, ℕ, Bool, true, List, length, get_or, inl, inr}
use Rattle.std.specs.List.{list_all}
use Rattle.std.proofs.lemmas.Bool.{cases_Bool, both_ways}
use Rattle.std.proofs.lemmas.List.Folds.{list_all_at}
use Rattle.pk_values.specs.declared.value.Value.{Value}
use Rattle.pk_similar.specs.Similarity.{are_below}
use Rattle.pk_sweep.specs.Pairs.{AreWide}

pub wide_rows : (cs : List ℕ) (rows : List (List Value)) → list_all (λ row. are_below (length row) cs) rows ≡ true → AreWide cs rows
wide_rows cs rows all = λ k d below.
    let wide : List Value → Bool = λ row. are_below (length row) cs in
    elim (cases_Bool (wide (get_or rows k d))) [
      | inl holds ↦ holds
      | inr fails ↦ absurd (both_ways (list_all wide rows) (list_all_at wide rows k d below fails) all)
    ]
