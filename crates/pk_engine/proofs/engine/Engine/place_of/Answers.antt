use Rattle.std.proofs.Common.{rules}
use Rattle.std.specs.Ordering.{nat_cmp}
use Rattle.std.specs.Cmp.Lexicographic.{slice_cmp}
use Rattle.std.proofs.lemmas.Fn.{always_returns_same}
use Rattle.pk_engine.proofs.OrderLemmas.{searched}
use Rattle.pk_engine.proofs.engine.Engine.place_of.Goals as goal

-- the closure compares a table's name, and the slice is the engine's tables
pub returns-clause-place : goal.returns-clause-place
returns-clause-place c = λ order.
    let facts = c.binary_search_by.ensures in
    let by_name = facts.position (λ t. slice_cmp nat_cmp t.name c.args.name.now) (always_returns_same _ _ _ (λ a r g called. search rules)) in
    searched c.args.name.now c.args.self.now.tables.items c.binary_search_by.result order (rw (← c.deref.ensures.value) facts.bound) (rw c.deref.ensures.value at by_name)
