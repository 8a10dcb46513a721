use Rattle.std.proofs.Common.{◌∙◌, subst, List, ℕ}
use Rattle.std.specs.List.{Contains}
use Rattle.pk_transversal.specs.Minimal.{Lists}
use Rattle.pk_transversal.proofs.SiftLemmas.{deduped}
use Rattle.pk_transversal.proofs.ProductLemmas.{product_made}
use Rattle.pk_transversal.proofs.product.product.Goals as goal

pub returns : goal.returns
returns c =
    subst (λ (xs : List ℕ). Lists (Contains xs) c.dedup.new.self.items)
    (product_made c.args.sets.now c.args.edge c.as_slice.result.now c.as_slice-2.result.now c.in_ok-made.made.items (c.as_slice.ensures.value ∙ c.in_ok-kept.ensures)
    (c.as_slice-2.ensures.value ∙ c.in_ok-others.ensures) c.in_ok-made.ensures)
    (deduped _ _ _ c.in_ok-sort.ensures.permutation c.in_ok-sort.ensures.sorted c.dedup.ensures.filtered)
