use Rattle.std.proofs.Common.{not, ℕ, Bool}
use Rattle.pk_values.specs.Values.{value_at}
use Rattle.pk_similar.specs.Similarity.{weak_entries, strong_entries, apart, not_same}
use Rattle.pk_sweep.proofs.SetLemmas.{columns_of_kept, kept_columns_set}
use Rattle.pk_sweep.proofs.laws.sets_have_their_columns.Goals as goal

pub returns : goal.returns
unfolding apart not_same
returns c = record {
  apart = λ x a b.
      let test : ℕ → Bool = λ c. not (weak_entries (value_at a c) (value_at b c)) in
      (kept_columns_set x test, columns_of_kept x test);
  not_same = λ x a b.
      let test : ℕ → Bool = λ c. not (strong_entries (value_at a c) (value_at b c)) in
      (kept_columns_set x test, columns_of_kept x test);
}
