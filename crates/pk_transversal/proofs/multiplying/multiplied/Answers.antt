use Rattle.std.proofs.Common.{refl, sym, ◌∙◌, ap, subst, ◌+◌, false, true, arith}
use Rattle.std.specs.List.{Contains}
use Rattle.pk_transversal.specs.Minimal.{Lists}
use Rattle.pk_transversal.specs.Steps.{product}
use Rattle.pk_transversal.specs.Transversals.{first_beyond, IsCount}
use Rattle.pk_transversal.proofs.ProductLemmas.{product_more}
use Rattle.pk_transversal.proofs.LimitLemmas.{none_beyond, beyond_at, no_edges, beyond_now, beyond_first, few_first, few_at_first, few_more, told_count}
use Rattle.pk_transversal.proofs.multiplying.multiplied.Goals as goal

pub returns-then-limit-eq0-clause-cause : goal.returns-then-limit-eq0-clause-cause
returns-then-limit-eq0-clause-cause c =
    beyond_at c.args.limit c.args.edges.now 0 (omega arith) (λ j low. absurd (omega (arith, low))) (beyond_first c.args.limit c.args.edges.now (omega (arith, c.if-limit-eq0.true)))

pub loop-edge-init : goal.loop-edge-init
loop-edge-init c = record {
  sets = c.in_ok-sets.ensures ∙ sym no_edges;
  count = refl;
  few = few_at_first c.args.limit c.args.edges.now (few_first c.args.limit c.args.edges.now (omega (arith, c.if-limit-eq0.false)));
}

pub returns-then-is_above-clause-cause : goal.returns-then-is_above-clause-cause
returns-then-is_above-clause-cause c =
    let made =
    product_more c.args.edges.now c.loop-edge.edge-index c.edge-item.result c.loop-edge.sets.items c.in_ok-sets-2.sets.items c.requires c.loop-edge-test.true c.edge-item.is
    c.loop-edge.invariant.sets
    (subst (λ xs. Lists (Contains (product xs c.edge-item.result)) c.in_ok-sets-2.sets.items) c.as_slice.ensures.value c.in_ok-sets-2.ensures) in
    told_count (first_beyond c.args.limit c.args.edges.now) (c.loop-edge.edge-index + 1) c.too_many.result
    (subst (λ n. IsCount n c.too_many.result) (ap (λ n. n + 1) c.loop-edge.invariant.count) c.too_many.ensures)
    (beyond_at c.args.limit c.args.edges.now (c.loop-edge.edge-index + 1) (omega (arith, c.loop-edge-test.true))
    (λ j low. c.loop-edge.invariant.few j (omega (arith, low)))
    (beyond_now c.args.limit c.args.edges.now (c.loop-edge.edge-index + 1) c.in_ok-sets-2.sets.items c.as_slice-in-loop-edge.result.now c.is_above.result true made c.as_slice-in-loop-edge.ensures.value
    c.is_above.ensures c.if-is_above.true))

pub loop-edge-preserved : goal.loop-edge-preserved
loop-edge-preserved c =
    let made =
    product_more c.args.edges.now c.loop-edge.edge-index c.edge-item.result c.loop-edge.sets.items c.in_ok-sets-2.sets.items c.requires c.loop-edge-test.true c.edge-item.is
    c.loop-edge.invariant.sets
    (subst (λ xs. Lists (Contains (product xs c.edge-item.result)) c.in_ok-sets-2.sets.items) c.as_slice.ensures.value c.in_ok-sets-2.ensures) in
    record {
      sets = made;
      count = ap (λ n. n + 1) c.loop-edge.invariant.count;
      few =
          few_more c.args.limit c.args.edges.now c.loop-edge.edge-index c.loop-edge.invariant.few
          (beyond_now c.args.limit c.args.edges.now (c.loop-edge.edge-index + 1) c.in_ok-sets-2.sets.items c.as_slice-in-loop-edge.result.now c.is_above.result false made
          c.as_slice-in-loop-edge.ensures.value c.is_above.ensures c.if-is_above.false);
    }

pub returns-clause-few : goal.returns-clause-few
returns-clause-few c = none_beyond c.args.limit c.args.edges.now c.loop-edge.edge-index (omega (arith, c.loop-edge-test.false)) c.loop-edge.invariant.few
