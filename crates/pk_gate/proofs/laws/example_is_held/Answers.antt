use Rattle.std.proofs.Common.{List, ℕ, [], ◌∷◌, refl, arith}
use Rattle.pk_gate.proofs.Frames.{holds, none_sized}
use Rattle.pk_gate.specs.Format.{IsPayload}
use Rattle.std.specs.List.{All}
use Rattle.std.proofs.lemmas.List.Elements.{All-push}
use Rattle.pk_gate.proofs.laws.example_is_held.Goals as goal

pub returns : goal.returns
returns c =
    let ab : List ℕ = 97 ∷ 98 ∷ [] in
    let one : List ℕ = 99 ∷ [] in
    let first : All IsPayload (ab ∷ []) = All-push IsPayload [] ab none_sized (omega arith, omega arith) in
    holds _ (ab ∷ one ∷ []) 7 (0 ∷ 0 ∷ 0 ∷ 9 ∷ 1 ∷ []) (λ no. cc) (All-push IsPayload (ab ∷ []) one first (omega arith, omega arith)) refl
