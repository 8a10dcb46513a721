use Rattle.std.proofs.Common.{◌∙◌, ap, []}
use Rattle.std.specs.List.{All}
use Rattle.std.proofs.lemmas.Result.{IfOk-weaker}
use Rattle.std.proofs.lemmas.List.Elements.{All-contains}
use Rattle.pk_values.specs.ColumnSet.{IsColumnSet}
use Rattle.pk_transversal.specs.Steps.{sifted}
use Rattle.pk_transversal.proofs.SiftLemmas.{deduped, sifted_is}
use Rattle.pk_transversal.proofs.minimal_sets.minimal_of.Goals as goal

pub returns : goal.returns
returns c =
    let are_sets : All IsColumnSet c.args.sets.now = c.in_ok-ordered.ensures.0 in
    IfOk-weaker c.sifted.result _ _
    (λ found is. (
      are_sets,
      sifted_is c.args.sets.now c.in_ok-ordered.ordered.items c.dedup.new.self.items found.items (λ x there. All-contains IsColumnSet c.args.sets.now x are_sets there) c.in_ok-ordered.ensures.1
          (deduped _ _ _ c.in_ok-sort.ensures.permutation c.in_ok-sort.ensures.sorted c.dedup.ensures.filtered)
          (is ∙ ap (sifted []) c.as_slice.ensures.value),
    ))
    c.sifted.ensures
