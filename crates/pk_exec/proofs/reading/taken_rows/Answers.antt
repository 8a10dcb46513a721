use Rattle.std.proofs.Common.{All, sym, subst}
use Rattle.std.proofs.lemmas.List.Elements.{All-nil, All-append}
use Rattle.pk_schema.specs.Admits.{Admits}
use Rattle.pk_exec.specs.Reading.{kept_rows}
use Rattle.pk_exec.proofs.TakeLemmas.{can_take_added, added_kept_admitted}
use Rattle.pk_exec.proofs.reading.taken_rows.Goals as goal

pub take_added-requires : goal.take_added-requires
take_added-requires g c = can_take_added g.V.View c.args.view.now c.args.edited.now c.args.added.now c.args.cond.now c.requires.can

pub returns-clause-admitted : goal.returns-clause-admitted
returns-clause-admitted g c s fits edited added =
    subst (All (Admits s)) (sym c.in_ok-take_added.ensures)
    (All-append (Admits s) c.take_base.new.rows.items (kept_rows c.args.cond.now c.args.added.now)
    (c.in_ok-take_base.ensures.admitted s fits edited (subst (All (Admits s)) (sym c.new-rows.ensures.items) (All-nil (Admits s))))
    (added_kept_admitted s c.args.cond.now c.args.added.now added))
