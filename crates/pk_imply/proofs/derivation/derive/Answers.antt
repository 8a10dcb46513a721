use Rattle.std.proofs.Common.{◌≡◌, ◌∙◌, sym, ap, rules}
use Rattle.std.specs.Prelude.{is_some}
use Rattle.std.proofs.lemmas.Result.{IfOk-weaker}
use Rattle.pk_rule.specs.Plain.{plain_of}
use Rattle.pk_imply.specs.Deriving.{implying_place}
use Rattle.pk_imply.proofs.PlaceLemmas.{place_if_implied}
use Rattle.pk_imply.proofs.RuleSteps.{rules_read}
use Rattle.pk_imply.proofs.derivation.derive.Goals as goal

pub unwrap-place-requires : goal.unwrap-place-requires
unwrap-place-requires c =
    let place : c.first_implying.result ≡ implying_place (plain_of c.args.schema.now) c.args.key = search rules in
    ap is_some place ∙ place_if_implied (plain_of c.args.schema.now) c.args.key ∙ c.requires.implied

pub returns : goal.returns
returns c =
    let place : c.first_implying.result ≡ implying_place (plain_of c.args.schema.now) c.args.key = search rules in
    IfOk-weaker c.rules_from.result _ _
    (λ told is. is ∙ sym (rules_read (plain_of c.args.schema.now) c.args.key c.keys-keys.result.now c.unwrap-place.result c.index-keys-place.result c.keys-keys.ensures.keys (sym place ∙ c.unwrap-place.ensures) c.index-keys-place.is))
    c.rules_from.ensures
