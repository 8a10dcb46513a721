use Rattle.std.proofs.Common.{subst}
use Rattle.pk_values.specs.Words.{IsCause}
use Rattle.pk_catalog.proofs.Texts.{no_words}
use Rattle.pk_catalog.proofs.reading.words.Goals as goal

pub returns-in-Err-NotUtf8 : goal.returns-in-Err-NotUtf8
returns-in-Err-NotUtf8 c = no_words _ _ (subst (λ e. IsCause e c.args.bytes.now) c.in-Err-NotUtf8.field-0-is c.in-Err-NotUtf8.ensures.cause).1
