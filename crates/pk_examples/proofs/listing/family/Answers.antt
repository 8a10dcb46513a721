use Rattle.std.proofs.Common.{◌∙◌, ap, ◌++◌}
use Rattle.pk_values.specs.declared.key.Sort.TheVariants.{Certain, Possible}
use Rattle.pk_rule.specs.Plain.{plain_of}
use Rattle.pk_examples.specs.Family.{cases_of, examples}
use Rattle.pk_examples.proofs.listing.family.Goals as goal

pub returns-clause-cases : goal.returns-clause-cases
unfolding examples
returns-clause-cases c =
    let certain = c.in_ok-add_cases.ensures.cases ∙ ap (λ cases. cases ++ cases_of Certain (plain_of c.args.schema.now)) c.new-cases.ensures.items in
    c.in_ok-add_cases-2.ensures.cases ∙ ap (λ cases. cases ++ cases_of Possible (plain_of c.args.schema.now)) certain
