use Rattle.std.proofs.Common.{rules, refl}
use Rattle.pk_engine.proofs.CommitLemmas.{made_stands}
use Rattle.pk_engine.proofs.engine.Engine.put_table.Goals as goal

pub returns-clause-next : goal.returns-clause-next
returns-clause-next c = λ st stands.
    made_stands c.args.self.now _ st c.args.declared.now c.args.schema c.args.place c.in_ok-table.table stands c.requires.free c.requires.named c.requires.schema c.columns-shape.ensures.shape
    c.requires.tables c.requires.commits (search rules) refl (search rules) refl
