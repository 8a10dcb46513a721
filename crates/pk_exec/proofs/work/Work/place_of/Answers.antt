use Rattle.std.proofs.Common.{◌≡◌, ◌∙◌, sym, ap, length, rules}
use Rattle.pk_exec.specs.Works.{Edits}
use Rattle.pk_exec.proofs.PlaceLemmas.{place_found, place_none}
use Rattle.pk_exec.proofs.work.Work.place_of.Goals as goal

pub returns-in-Some : goal.returns-in-Some
returns-in-Some c = place_found _ c.args.self.now.tables c.in-Some.place (sym c.first_from.ensures ∙ c.in-Some.is)

pub returns-in-None : goal.returns-in-None
returns-in-None c =
    let all = place_none _ c.args.self.now.tables (sym c.first_from.ensures ∙ c.in-None.is) in
    let len : c.len.result ≡ length c.self.inside.tables.items = search (rules, c.len.ensures) in
    len ∙ ap (λ (w : Edits). length w.tables) c.self.view_is ∙ all
