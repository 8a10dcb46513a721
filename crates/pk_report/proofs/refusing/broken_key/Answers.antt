use Rattle.std.proofs.Common.{sym}
use Rattle.pk_report.specs.Text.{broken_text}
use Rattle.pk_report.proofs.refusing.broken_key.Goals as goal

pub returns : goal.returns
unfolding broken_text
returns c = rw (sym c.broken_words.ensures, sym c.from.ensures, sym c.agree_words.ensures, sym c.as_slice.ensures.values) c.refused_for.ensures
