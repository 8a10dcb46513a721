use Rattle.std.proofs.Common.{sym, ◌∙◌, ap, subst, Option, ℕ}
use Rattle.std.specs.List.{All}
use Rattle.std.specs.Result.{IfErr}
use Rattle.std.proofs.lemmas.Result.{IfOk-weaker}
use Rattle.std.proofs.lemmas.List.Elements.{All-contains}
use Rattle.pk_values.specs.ColumnSet.{IsColumnSet}
use Rattle.pk_transversal.specs.Transversals.{transversals, IsTold}
use Rattle.pk_transversal.proofs.ListLemmas.{all_inside}
use Rattle.pk_transversal.proofs.MinimalLemmas.{minimal_are_sets}
use Rattle.pk_transversal.proofs.TransversalLemmas.{minimal_edges_same}
use Rattle.pk_transversal.proofs.LimitLemmas.{limit_is}
use Rattle.pk_transversal.proofs.multiplying.minimal.Goals as goal

pub multiplied-requires : goal.multiplied-requires
multiplied-requires c =
    subst (All IsColumnSet) (sym (c.as_slice.ensures.value ∙ c.in_ok-minimal_edges.ensures.1))
    (all_inside IsColumnSet _ (minimal_are_sets c.args.edges.now (λ x there. All-contains IsColumnSet c.args.edges.now x c.in_ok-minimal_edges.ensures.0 there)))

pub returns-clause-sets : goal.returns-clause-sets
returns-clause-sets c =
    IfOk-weaker c.multiplied.result _ _
    (λ sets is.
    is ∙ ap transversals (c.as_slice.ensures.value ∙ c.in_ok-minimal_edges.ensures.1)
    ∙ minimal_edges_same c.args.edges.now (λ x there. All-contains IsColumnSet c.args.edges.now x c.in_ok-minimal_edges.ensures.0 there))
    c.multiplied.ensures.sets

pub returns-clause-few : goal.returns-clause-few
returns-clause-few c =
    IfOk-weaker c.multiplied.result _ _
    (λ sets none. sym (limit_is c.args.limit c.args.edges.now c.as_slice.result.now (c.as_slice.ensures.value ∙ c.in_ok-minimal_edges.ensures.1)) ∙ none) c.multiplied.ensures.few

pub returns-clause-cause : goal.returns-clause-cause
returns-clause-cause c =
    subst (λ (number : Option ℕ). IfErr c.multiplied.result (IsTold number))
    (limit_is c.args.limit c.args.edges.now c.as_slice.result.now (c.as_slice.ensures.value ∙ c.in_ok-minimal_edges.ensures.1)) c.multiplied.ensures.cause
