use Rattle.std.proofs.Common.{◌≡◌, ◌+◌, ◌-◌, ◌≤◌, List, ℕ, length, take, drop, ◌∙◌, sym, ap, subst, arith, length-drop}
use Rattle.pk_gate.proofs.Heads.{part_behind}
use Rattle.pk_gate.proofs.opening.step_at.Goals as goal

pub returns-clause-step : goal.returns-clause-step
returns-clause-step g c = λ tells.
    let log = (g.W.Station.content c.args.station.now).log in
    let part = c.reach.new.part in
    let shows = c.in_ok-reach.ensures.shows tells in
    let size : length (drop c.args.gate log) ≡ c.args.size - c.args.gate = length-drop c.args.gate log ∙ ap (λ (n : ℕ). n - c.args.gate) (sym (c.requires.size tells)) in
    let within : c.args.gate ≤ part.at + length part.bytes.items = omega (arith, c.in_ok-reach.ensures.reaches) in
    c.of.ensures.step (drop c.args.gate log) size
    (subst (λ (b : List ℕ). b ≡ take (length b) (drop c.args.gate log)) (sym c.behind.ensures)
    (part_behind log part.bytes.items part.at c.args.gate shows.bytes c.in_ok-reach.ensures.begins within))
