use Rattle.std.proofs.Common.{[], ap, ◌∙◌}
use Rattle.std.proofs.lemmas.Str.{is_utf8-from_IsUtf8, IsUtf8-nil}
use Rattle.pk_values.specs.Words.{is_words}
use Rattle.pk_values.proofs.words.Words.empty.Goals as goal

pub invariant_of-result : goal.invariant_of-result
invariant_of-result c = ap is_words c.new.ensures.items ∙ is_utf8-from_IsUtf8 [] IsUtf8-nil
