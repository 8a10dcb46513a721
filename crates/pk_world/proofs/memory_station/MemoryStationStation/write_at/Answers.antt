use Rattle.std.proofs.Common.{◌&&◌, refl}
use Rattle.pk_world.specs.History.{first_moment}
use Rattle.pk_world.specs.MemoryFiles.{held}
use Rattle.pk_world.proofs.Recorded.{put_over, passes, write_during, write_torn, write_recorded}
use Rattle.pk_world.proofs.memory_station.MemoryStationStation.write_at.Goals as goal

pub invariant_of-self-3 : goal.invariant_of-self-3
invariant_of-self-3 c =
    let written = c.if-room.done && c.note.result in
    record {
      recorded = write_recorded (held c.args.self.now.first) c.args.self.now.calls.items c.note.new.calls.items c.args.which c.args.at c.in-Ok.copy c.args.bytes.now
          c.if-room.done c.note.result written (held c.args.self.now.files) (held c.put.new.self) c.args.self.now.told.items c.in-Ok.ensures.items c.note.ensures refl
          (put_over written (held c.args.self.now.files) (held c.make_room-room.new.self) (held c.put.new.self) c.args.which c.args.at c.args.bytes.now c.put.ensures c.make_room-room.ensures.held)
          c.args.self.now.recorded;
    }

pub returns-clause-torn : goal.returns-clause-torn
returns-clause-torn c = λ tells.
    let written = c.if-room.done && c.note.result in
    write_torn written (held c.args.self.now.files) (held c.put.new.self) c.args.which c.args.at c.args.bytes.now
    (put_over written (held c.args.self.now.files) (held c.make_room-room.new.self) (held c.put.new.self) c.args.which c.args.at c.args.bytes.now c.put.ensures c.make_room-room.ensures.held)

pub returns-clause-during : goal.returns-clause-during
returns-clause-during c = λ honest tells f s left.
    write_during (first_moment (held c.args.self.now.first)) c.args.self.now.calls.items c.note.new.calls.items c.args.which c.args.at c.in-Ok.copy c.args.bytes.now
    c.if-room.done c.note.result f s c.args.self.now.told.items c.args.self.now.recorded.told c.in-Ok.ensures.items c.note.ensures left

pub returns-clause-time : goal.returns-clause-time
returns-clause-time c = passes (first_moment (held c.args.self.now.first)) c.args.self.now.calls.items c.note.new.calls.items _ c.note.result c.note.ensures
