use Rattle.pk_rule.proofs.ShapeLemmas.{distinct_names}
use Rattle.pk_rule.proofs.laws.columns_have_distinct_names.Goals as goal

pub returns : goal.returns
returns c = λ s j k shape left right same. distinct_names s j k shape left right same
