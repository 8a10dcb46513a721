use Rattle.std.proofs.Common.{ap, ◌∙◌}
use Rattle.pk_index.specs.Filing.{has}
use Rattle.pk_index.proofs.StrongLemmas.{holds_shown}
use Rattle.pk_index.proofs.strong_index.StrongIndex.holds.Goals as goal

pub returns : goal.returns
returns c =
    let index = c.args.self.now in
    λ held shows.
    c.has.ensures ∙ ap (λ bytes. has index.filed bytes c.args.id) (c.as_slice.ensures ∙ c.push_mark-known.ensures.items)
    ∙ holds_shown index c.args.id c.args.row.now c.push_mark-known.ensures.storable held shows
