use Rattle.std.proofs.Common.{◌≡◌, ◌∙◌, not, filter, subst, List, ℕ}
use Rattle.std.proofs.lemmas.Result.{IfOk-weaker}
use Rattle.pk_imply.specs.Candidates.{candidates, has_part}
use Rattle.pk_imply.proofs.LeastLemmas.{least_listed}
use Rattle.pk_imply.proofs.least_sets.least_sets.Goals as goal

pub returns : goal.returns
returns c =
    let all : c.as_slice.result.now ≡ candidates c.args.known c.args.sort c.args.keys.now = c.as_slice.ensures.value ∙ c.in_ok-sets.ensures in
    let is : c.in_ok-least.least.items ≡ filter (λ x. not (has_part (candidates c.args.known c.args.sort c.args.keys.now) x)) (candidates c.args.known c.args.sort c.args.keys.now) =
    subst (λ (cs : List ℕ). c.in_ok-least.least.items ≡ filter (λ x. not (has_part cs x)) cs) all c.in_ok-least.ensures in
    IfOk-weaker c.in_order.result _ _ (λ sets listed. least_listed _ _ sets.items is listed) c.in_order.ensures
