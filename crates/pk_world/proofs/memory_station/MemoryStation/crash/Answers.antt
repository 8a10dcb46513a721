use Rattle.std.proofs.Common.{◌-◌, ◌<◌, ◌∙◌, List, ap, length, arith}
use Rattle.pk_world.specs.declared.call.Call.{Call}
use Rattle.pk_world.specs.Files.{Files}
use Rattle.pk_world.specs.History.{first_moment, inside, MayLeave}
use Rattle.pk_world.specs.Crash.{crashed}
use Rattle.pk_world.specs.MemoryFiles.{held}
use Rattle.pk_world.specs.MemoryStation.{moment_in, MayHaveLeft}
use Rattle.pk_world.proofs.Crashes.{crash_possible, left_inside, over}
use Rattle.pk_world.proofs.memory_station.MemoryStation.crash.Goals as goal

pub returns-clause-possible : goal.returns-clause-possible
returns-clause-possible c =
    let m = moment_in c.args.self.now c.args.call in
    over c.new.result _ _ (crashed c.args.left m) (λ (f : Files). MayLeave m f) c.new.ensures.log c.new.ensures.pages
    (c.as_slice.ensures.value ∙ c.in_ok-log.ensures ∙ ap (λ (cs : List Call). (crashed c.args.left (inside (held c.args.self.now.first) cs (c.args.call - 1))).log) c.as_slice-calls.ensures.value)
    (c.as_slice-2.ensures.value ∙ c.in_ok-pages.ensures ∙ ap (λ (cs : List Call). (crashed c.args.left (inside (held c.args.self.now.first) cs (c.args.call - 1))).pages) c.as_slice-calls.ensures.value)
    (crash_possible c.args.left m)

pub returns-clause-since : goal.returns-clause-since
returns-clause-since c =
    let m = moment_in c.args.self.now c.args.call in
    let within : c.args.call - 1 < length c.args.self.now.calls.items = omega (arith, c.requires.first, c.requires.last) in
    over c.new.result _ _ (crashed c.args.left m) (λ (f : Files). MayHaveLeft c.args.self.now (c.args.call - 1) f m.told) c.new.ensures.log c.new.ensures.pages
    (c.as_slice.ensures.value ∙ c.in_ok-log.ensures ∙ ap (λ (cs : List Call). (crashed c.args.left (inside (held c.args.self.now.first) cs (c.args.call - 1))).log) c.as_slice-calls.ensures.value)
    (c.as_slice-2.ensures.value ∙ c.in_ok-pages.ensures ∙ ap (λ (cs : List Call). (crashed c.args.left (inside (held c.args.self.now.first) cs (c.args.call - 1))).pages) c.as_slice-calls.ensures.value)
    (left_inside (first_moment (held c.args.self.now.first)) c.args.self.now.calls.items (c.args.call - 1) (crashed c.args.left m) within (crash_possible c.args.left m))
