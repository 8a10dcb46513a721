use Rattle.std.proofs.Common.{rules, refl}
use Rattle.pk_engine.proofs.CommitLemmas.{counted, changes_stand, valid_at, some_at, same_at}
use Rattle.pk_engine.proofs.engine.Engine.commit.Goals as goal

pub change-requires-clause-ascend : goal.change-requires-clause-ascend
change-requires-clause-ascend c =
    let is = some_at c.args.self.now.tables.items c.args.place c.index_mut.result.now c.requires.within c.index_mut.ensures.value in
    (valid_at c.args.self.now c.requires.stands.0 c.args.place c.index_mut.result.now c.requires.stands.1 is).ids.0

pub change-requires-clause-gone : goal.change-requires-clause-gone
change-requires-clause-gone c =
    let is = some_at c.args.self.now.tables.items c.args.place c.index_mut.result.now c.requires.within c.index_mut.ensures.value in
    (counted c.index_mut.result.now c.args.changes (valid_at c.args.self.now c.requires.stands.0 c.args.place c.index_mut.result.now c.requires.stands.1 is)
    (c.requires.of c.index_mut.result.now is)).ascend

pub returns : goal.returns
returns c = λ st t stands is.
    let same = same_at c.args.self.now.tables.items c.args.place t c.index_mut.result.now c.index_mut.ensures.value is in
    changes_stand c.keys_hold_where_nothing_breaks.ensures c.args.self.now _ st c.args.place t c.args.changes c.args.rows stands is (valid_at c.args.self.now st c.args.place t stands is) (c.requires.of t is)
    (c.requires.free st t stands is) (c.requires.rows st t stands is) refl (search (rules, same)) refl
