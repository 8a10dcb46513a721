use Rattle.std.proofs.Common.{◌≡◌, true, get_or, ◌∙◌, sym}
use Rattle.std.proofs.lemmas.Bool.{false≢true}
use Rattle.pk_lex.proofs.TextLemmas.{width_more}
use Rattle.pk_lex.proofs.text.text_width.Goals as goal
use Rattle.pk_lex.proofs.text.text_width.Goals.{else-pending-via-then-pending+else-byte-ne39, else-pending-via-else-pending}

pub loop-i-preserved : goal.loop-i-preserved
loop-i-preserved c =
    let goes_on : c.loop-i.pending ≡ true → get_or c.args.behind.now c.loop-i.i 0 ≡ 39 =
    elim c.else-pending.branch [
      | else-pending-via-then-pending+else-byte-ne39 w ↦ λ _. w.if-byte-ne39.false
      | else-pending-via-else-pending w ↦ λ e. absurd (false≢true (sym w.if-pending.false ∙ e))
    ]
    in
    rw c.opens-pending.ensures (sym (width_more c.loop-i.pending c.args.behind.now c.loop-i.i c.loop-i-test.true goes_on) ∙ c.loop-i.invariant)
