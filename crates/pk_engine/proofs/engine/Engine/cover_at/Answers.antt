use Rattle.std.proofs.Common.{ap, ◌∙◌}
use Rattle.pk_engine.specs.Base.{Table}
use Rattle.pk_engine.specs.Reasoning.{cover_told}
use Rattle.pk_engine.proofs.CommitLemmas.{same_at}
use Rattle.pk_engine.proofs.StandsLemmas.{if_ok}
use Rattle.pk_engine.proofs.engine.Engine.cover_at.Goals as goal

pub returns : goal.returns
returns c =
    if_ok c.cover.result c.cover.ensures (λ r told st t stands is.
    let same = same_at c.args.self.now.tables.items c.args.place t c.index.result.now c.index.ensures is in
    told ∙ ap (λ (u : Table). (cover_told st u).reply) same)
