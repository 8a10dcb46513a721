use Rattle.std.proofs.Common.{◌∙◌}
use Rattle.pk_lex.proofs.TextLemmas.{utf8_is_ok}
use Rattle.pk_lex.proofs.text.is_utf8.Goals as goal

pub returns : goal.returns
returns c =
    c.is_ok.ensures.value ∙ utf8_is_ok c.from_utf8.result _ _ c.args.bytes.now c.from_utf8.ensures.cases
