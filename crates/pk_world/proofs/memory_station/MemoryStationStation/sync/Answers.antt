use Rattle.pk_world.specs.History.{first_moment}
use Rattle.pk_world.specs.MemoryFiles.{held}
use Rattle.pk_world.proofs.Recorded.{passes, sync_during, sync_recorded, sync_durable, on_ok}
use Rattle.pk_world.proofs.memory_station.MemoryStationStation.sync.Goals as goal

pub invariant_of-self : goal.invariant_of-self
invariant_of-self c = record {
  recorded = sync_recorded (held c.args.self.now.first) c.args.self.now.calls.items c.note.new.calls.items c.args.which _ c.note.result
      (held c.args.self.now.files) c.args.self.now.told.items c.note.ensures c.args.self.now.recorded;
}

pub returns-clause-durable : goal.returns-clause-durable
returns-clause-durable c =
    on_ok c.answer.result _ _ c.answer.ensures.done
    (λ both honest tells f left.
    sync_durable (held c.args.self.now.first) c.args.self.now.calls.items c.note.new.calls.items c.args.which _ c.note.result
    (held c.args.self.now.files) c.args.self.now.told.items f c.note.ensures c.args.self.now.recorded both left)

pub returns-clause-during : goal.returns-clause-during
returns-clause-during c = λ honest tells f s left.
    sync_during (held c.args.self.now.first) c.args.self.now.calls.items c.note.new.calls.items c.args.which _ c.note.result
    f s c.args.self.now.told.items c.args.self.now.recorded.told c.note.ensures left

pub returns-clause-time : goal.returns-clause-time
returns-clause-time c = passes (first_moment (held c.args.self.now.first)) c.args.self.now.calls.items c.note.new.calls.items _ c.note.result c.note.ensures
