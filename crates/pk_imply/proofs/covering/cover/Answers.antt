use Rattle.std.specs.Prelude.{◌≡◌}
use Rattle.std.proofs.lemmas.Result.{IfOk-weaker}
use Rattle.pk_rule.specs.Plain.{plain_of}
use Rattle.pk_rule.proofs.ShapeLemmas.{plain_shape}
use Rattle.pk_imply.specs.Cover.{IsCover, cover_of}
use Rattle.pk_imply.proofs.LawLemmas.{is_computed}
use Rattle.pk_imply.proofs.TruthLemmas.{cover_made}
use Rattle.pk_imply.proofs.covering.cover.Goals as goal

pub returns-clause-cover : goal.returns-clause-cover
returns-clause-cover c =
    IfOk-weaker c.joined.result _ (IsCover (plain_of c.args.schema.now))
    (λ keys are. cover_made (plain_of c.args.schema.now) c.keys-keys.result.now c.not_null-known.result c.in_ok-certain.certain.items c.in_ok-possible.possible.items
    c.as_slice-2.result.now c.as_slice.result.now c.in_ok-only_possible.only_possible.items c.as_slice-3.result.now keys
    (plain_shape c.args.schema.now c.keys-keys.ensures.shape) c.keys-keys.ensures.keys c.not_null-known.ensures.columns c.in_ok-certain.ensures c.in_ok-possible.ensures
    c.as_slice-2.ensures.value c.as_slice.ensures.value c.as_slice-3.ensures.value c.in_ok-only_possible.ensures are)
    c.joined.ensures

pub returns-clause-computed : goal.returns-clause-computed
returns-clause-computed c =
    IfOk-weaker c.joined.result (IsCover (plain_of c.args.schema.now)) (λ keys. keys ≡ cover_of (plain_of c.args.schema.now))
    (λ keys cover. is_computed (plain_of c.args.schema.now) keys (plain_shape c.args.schema.now c.keys-keys.ensures.shape) cover) (returns-clause-cover c)
