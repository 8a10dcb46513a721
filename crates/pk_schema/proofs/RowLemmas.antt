-- What code knows of the values of a row.
use Rattle.std.proofs.Common.{◌≡◌, refl, ℕ, suc, ◌<◌, true, List, [], ◌∷◌}
use Rattle.std.specs.List.{slice_index}
use Rattle.std.proofs.lemmas.Bool.{lt-ltb}
use Rattle.pk_values.specs.Values.{are_bytes}

pub all_bytes : (bytes : List ℕ) → ((k : ℕ) → slice_index bytes k < 256) → true ≡ are_bytes bytes
all_bytes [] small = refl
all_bytes (b ∷ bs) small = rw (lt-ltb b 256 (small 0)) (all_bytes bs (λ k. small (suc k)))
