use Rattle.std.proofs.Common.{◌≡◌, sym, ◌∙◌, ap, arith}
use Rattle.std.proofs.lemmas.Bool.{cond-true, cond-false}
use Rattle.pk_transversal.specs.Steps.{has_inside}
use Rattle.pk_transversal.proofs.SiftLemmas.{sifted_on, sifted_done}
use Rattle.pk_transversal.proofs.minimal_sets.sifted.Goals as goal
use Rattle.pk_transversal.proofs.minimal_sets.sifted.Goals.{then-not-has_inside+in_ok-push, else-not-has_inside}

pub loop-set-preserved : goal.loop-set-preserved
loop-set-preserved c =
    let tests : c.has_inside.result ≡ has_inside c.loop-set.found.items c.set-item.result =
    c.has_inside.ensures ∙ ap (λ xs. has_inside xs c.set-item.result) c.as_slice.ensures.value in
    sifted_on c.loop-set.found.items c.if-not-has_inside.found.items c.args.ordered.now _ c.loop-set.set-index c.set-item.result c.loop-set-test.true c.set-item.is
    (elim c.if-not-has_inside.branch [
      | then-not-has_inside+in_ok-push w ↦
          rw w.found-is (w.in_ok-push.ensures.items ∙ sym (cond-false (has_inside c.loop-set.found.items c.set-item.result) _ _ (sym tests ∙ w.if-not-has_inside.true)))
      | else-not-has_inside w ↦
          rw w.found-is (sym (cond-true (has_inside c.loop-set.found.items c.set-item.result) _ _ (sym tests ∙ w.if-not-has_inside.false)))
    ])
    c.loop-set.invariant

pub returns : goal.returns
returns c = sifted_done c.loop-set.found.items c.args.ordered.now _ c.loop-set.set-index (omega (arith, c.loop-set-test.false)) c.loop-set.invariant
