use Rattle.std.proofs.Common.{◌∙◌, ap}
use Rattle.pk_transversal.specs.Transversals.{transversals}
use Rattle.pk_rule.specs.Plain.{plain_of}
use Rattle.pk_examples.specs.Family.{bears_on}
use Rattle.pk_examples.proofs.EdgeLemmas.{taken}
use Rattle.pk_examples.proofs.LargestLemmas.{listed_sets}
use Rattle.pk_examples.proofs.listing.sets_outside.Goals as goal

pub returns-in-Ok-clause-columns : goal.returns-in-Ok-clause-columns
returns-in-Ok-clause-columns c =
    let sort = c.args.sort in
    let known = c.not_null.result in
    let edges_are =
    c.as_slice.ensures.value ∙ c.in_ok-edges.ensures ∙ ap (λ keys. taken (bears_on sort known) keys) c.keys.ensures.keys
    ∙ ap (λ set. taken (bears_on sort set) c.args.schema.now.keys) c.not_null.ensures.columns in
    listed_sets c.transversals_are_listed.ensures (plain_of c.args.schema.now) sort c.in-Ok.sets.items (c.shapes_are_plain.ensures c.args.schema.now c.keys.ensures.shape)
    (c.in-Ok.ensures.sets ∙ ap transversals edges_are)
