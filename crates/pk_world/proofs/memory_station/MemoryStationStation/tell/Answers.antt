use Rattle.std.proofs.Common.{◌&&◌, refl}
use Rattle.pk_world.specs.History.{first_moment}
use Rattle.pk_world.specs.MemoryFiles.{held}
use Rattle.pk_world.proofs.Recorded.{told_over, passes, tell_during, tell_recorded}
use Rattle.pk_world.proofs.memory_station.MemoryStationStation.tell.Goals as goal

pub invariant_of-self-3 : goal.invariant_of-self-3
invariant_of-self-3 c =
    let all = c.if-not-fails_next.done && c.note.result in
    record {
      recorded = tell_recorded (held c.args.self.now.first) c.args.self.now.calls.items c.note.new.calls.items c.in-Ok.copy c.args.bytes.now
          c.if-not-fails_next.done c.note.result all (held c.args.self.now.files) c.args.self.now.told.items c.extend_if.new.told.items
          c.in-Ok.ensures.items c.note.ensures refl
          (told_over all c.args.self.now.told.items c.reserve.new.self.items c.extend_if.new.told.items c.args.bytes.now c.extend_if.ensures c.reserve.ensures.items)
          c.args.self.now.recorded;
    }

pub returns-clause-during : goal.returns-clause-during
returns-clause-during c = λ f s left.
    tell_during (first_moment (held c.args.self.now.first)) c.args.self.now.calls.items c.note.new.calls.items c.in-Ok.copy c.args.bytes.now
    c.if-not-fails_next.done c.note.result f s c.args.self.now.told.items c.args.self.now.recorded.told c.in-Ok.ensures.items c.note.ensures left

pub returns-clause-time : goal.returns-clause-time
returns-clause-time c = passes (first_moment (held c.args.self.now.first)) c.args.self.now.calls.items c.note.new.calls.items _ c.note.result c.note.ensures
