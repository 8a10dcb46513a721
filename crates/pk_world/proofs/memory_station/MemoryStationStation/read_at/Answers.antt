use Rattle.pk_world.specs.History.{first_moment}
use Rattle.pk_world.specs.MemoryFiles.{held}
use Rattle.pk_world.proofs.Recorded.{passes, looks_during, looks_recorded}
use Rattle.pk_world.proofs.memory_station.MemoryStationStation.read_at.Goals as goal

pub invariant_of-self : goal.invariant_of-self
invariant_of-self c = record {
  recorded = looks_recorded (held c.args.self.now.first) c.args.self.now.calls.items c.note-noted.new.calls.items c.note-noted.result
      (held c.args.self.now.files) c.args.self.now.told.items c.note-noted.ensures c.args.self.now.recorded;
}

pub returns-in_err-answer-clause-during : goal.returns-in_err-answer-clause-during
returns-in_err-answer-clause-during c = λ honest tells f s left.
    looks_during (first_moment (held c.args.self.now.first)) c.args.self.now.calls.items c.note-noted.new.calls.items c.note-noted.result
    f s c.args.self.now.told.items c.args.self.now.recorded.told c.note-noted.ensures left

pub returns-in_err-answer-clause-time : goal.returns-in_err-answer-clause-time
returns-in_err-answer-clause-time c = passes (first_moment (held c.args.self.now.first)) c.args.self.now.calls.items c.note-noted.new.calls.items _ c.note-noted.result c.note-noted.ensures

pub returns-clause-during : goal.returns-clause-during
returns-clause-during c = λ honest tells f s left.
    looks_during (first_moment (held c.args.self.now.first)) c.args.self.now.calls.items c.note-noted.new.calls.items c.note-noted.result
    f s c.args.self.now.told.items c.args.self.now.recorded.told c.note-noted.ensures left

pub returns-clause-time : goal.returns-clause-time
returns-clause-time c = passes (first_moment (held c.args.self.now.first)) c.args.self.now.calls.items c.note-noted.new.calls.items _ c.note-noted.result c.note-noted.ensures
