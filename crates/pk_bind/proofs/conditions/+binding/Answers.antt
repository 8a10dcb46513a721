use Rattle.std.proofs.Common.{◌∷◌, [], ◌++◌, ◌∙◌, ap}
use Rattle.pk_bind.specs.Conditions.{cond_of, test_has_words}
use Rattle.pk_bind.proofs.WordsLemmas.{others_left, map_more}
use Rattle.pk_bind.proofs.conditions.+binding.Goals as goal

pub conds_of-loop-member-preserved : goal.conds_of-loop-member-preserved
conds_of-loop-member-preserved t c =
    let members = c.args.members.now in
    let at = c.loop-member.member-index in
    let member = c.member-item.result in
    let before = c.loop-member.conds.items in (
      others_left test_has_words members at member c.loop-member-test.true c.member-item.is c.loop-member.invariant.0,
      map_more (cond_of c.args.schema.now.columns) members at member before c.push.new.self.items c.loop-member-test.true c.member-item.is
          c.loop-member.invariant.1 (c.in_ok-push.ensures.items ∙ ap (λ x. before ++ x ∷ []) c.in_ok-cond_of.ensures),
    )
