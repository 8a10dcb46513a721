use Rattle.std.proofs.Common.{ap, ◌∙◌}
use Rattle.pk_engine.specs.Base.{Table}
use Rattle.pk_engine.specs.Refusing.{decided}
use Rattle.pk_engine.specs.Reasoning.{implies_refusals, implied_told}
use Rattle.pk_engine.proofs.CommitLemmas.{same_at}
use Rattle.pk_engine.proofs.StandsLemmas.{if_ok}
use Rattle.pk_engine.proofs.engine.Engine.implies_at.Goals as goal

pub returns : goal.returns
returns c =
    if_ok c.implied.result c.implied.ensures (λ r told st t stands is.
    let same = same_at c.args.self.now.tables.items c.args.place t c.index.result.now c.index.ensures is in
    told st ∙ ap (λ (u : Table). (decided st (implies_refusals u c.args.key.now) (implied_told st u c.args.key.now)).reply) same)
