use Rattle.std.proofs.Common.{◌≤◌, ◌+◌, length, sym, ap, ◌∙◌, arith, map, drop}
use Rattle.std.proofs.lemmas.List.{drop_all}
use Rattle.pk_txn.specs.Contents.{kept, key_of, changed_by_all}
use Rattle.pk_txn.proofs.NoteLemmas.{one_noted, no_image}
use Rattle.pk_txn.proofs.book.note_in.Goals as goal

pub loop-image-preserved : goal.loop-image-preserved
loop-image-preserved c =
    let commit = c.args.commit in
    let before = c.image-item.result in
    let i = c.loop-image.image-index in
    ap (map (changed_by_all commit (drop (i + 1) c.args.before.now)))
    (c.in_ok-keep_in.ensures ∙ (ap (λ k. map (kept commit k c.in_ok-row.row) c.loop-image.opened) c.key.ensures
    ∙ ap (λ r. map (kept commit (key_of before) r) c.loop-image.opened) c.in_ok-row.ensures))
    ∙ (one_noted commit i c.args.before.now c.loop-image.opened before c.loop-image-test.true c.image-item.is ∙ c.loop-image.invariant)

pub returns : goal.returns
returns c =
    let past : length c.args.before.now ≤ c.loop-image.image-index = omega arith in
    sym (no_image c.args.commit c.loop-image.opened)
    ∙ (ap (λ bs. map (changed_by_all c.args.commit bs) c.loop-image.opened) (sym (drop_all c.loop-image.image-index c.args.before.now past)) ∙ c.loop-image.invariant)
