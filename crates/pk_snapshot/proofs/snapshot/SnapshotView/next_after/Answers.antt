use Rattle.std.proofs.Common.{ℕ, Option, drop, ap, sym, subst, ◌∙◌}
use Rattle.std.specs.Option.{option_or}
use Rattle.pk_snapshot.specs.Walks.{IsUnchangedAt, is_unchanged, standing_id}
use Rattle.pk_snapshot.proofs.WalkLemmas.{next_answered, standing_stays}
use Rattle.pk_snapshot.proofs.snapshot.SnapshotView.next_after.Goals as goal

pub invariant_of-self : goal.invariant_of-self
invariant_of-self c =
    let s = c.args.self.now in
    let next = c.image_behind-next.result in
    record {
      is_open = s.is_open;
      ascend = s.ascend;
      seen_ascend = s.seen_ascend;
      stays =
          subst (λ (o : Option ℕ). IsUnchangedAt s.session.now s.book.now s.table o) (sym (c.id_at-unchanged.ensures ∙ c.standing_from-place.ensures))
          (standing_stays s.session.now s.book.now s.table next (drop c.place_behind.result s.rows.now));
      is_next = c.image_behind-next.ensures;
    }

pub returns-clause-next : goal.returns-clause-next
returns-clause-next c =
    let s = c.args.self.now in
    let next = c.image_behind-next.result in
    let found = c.id_at-unchanged.ensures ∙ (c.standing_from-place.ensures ∙ ap (standing_id (is_unchanged s.session.now s.book.now s.table) next) c.place_behind.ensures.1) in
    c.or.ensures
    ∙ (ap (λ (o : Option ℕ). option_or o next) found
    ∙ next_answered s.session.now s.book.now s.table c.args.id s.rows.now next s.ascend s.seen_ascend c.image_behind-next.ensures)
