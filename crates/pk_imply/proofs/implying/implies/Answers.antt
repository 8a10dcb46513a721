use Rattle.std.proofs.Common.{◌≡◌, ◌∙◌, ap, rules}
use Rattle.std.specs.Prelude.{is_some}
use Rattle.pk_rule.specs.Plain.{plain_of}
use Rattle.pk_rule.proofs.ShapeLemmas.{plain_shape}
use Rattle.pk_imply.specs.Deriving.{implying_place}
use Rattle.pk_imply.proofs.PlaceLemmas.{place_if_implied, true_of_tables, shape_inside}
use Rattle.pk_imply.proofs.implying.implies.Goals as goal

pub returns-clause-truth : goal.returns-clause-truth
returns-clause-truth c =
    let place : c.first_implying.result ≡ implying_place (plain_of c.args.schema.now) c.args.key = search rules in
    true_of_tables (plain_of c.args.schema.now) c.args.key c.first_implying.result (plain_shape c.args.schema.now c.keys.ensures.shape)
    (shape_inside c.args.schema.now c.args.key.columns c.requires) place

pub returns-clause-whether : goal.returns-clause-whether
returns-clause-whether c =
    let place : c.first_implying.result ≡ implying_place (plain_of c.args.schema.now) c.args.key = search rules in
    ap is_some place ∙ place_if_implied (plain_of c.args.schema.now) c.args.key
