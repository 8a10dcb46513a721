use Rattle.std.proofs.Common.{◌≡◌, cond, [], ◌∷◌, ◌++◌, get_or, sym, append-nil, ◌∙◌}
use Rattle.pk_lex.proofs.TextLemmas.{unpaired_step}
use Rattle.pk_lex.proofs.text.unpaired.Goals as goal
use Rattle.pk_lex.proofs.text.unpaired.Goals.{then-not-pending+in_ok-push, else-not-pending}

pub loop-byte-preserved : goal.loop-byte-preserved
loop-byte-preserved c =
    let grown : c.if-not-pending.bytes.items ≡ c.loop-byte.bytes.items ++ cond c.loop-byte.pending [] (get_or c.args.quoted.now c.loop-byte.byte-index 0 ∷ []) =
    elim c.if-not-pending.branch [
      | then-not-pending+in_ok-push w ↦ let same = w.if-not-pending.true in rw (w.bytes-is, same) w.in_ok-push.ensures.items
      | else-not-pending w ↦ let same = w.if-not-pending.false in rw (w.bytes-is, same) (sym (append-nil c.loop-byte.bytes.items))
    ]
    in
    rw c.opens-pending.ensures (unpaired_step c.loop-byte.pending c.args.quoted.now c.loop-byte.bytes.items c.if-not-pending.bytes.items c.loop-byte.byte-index c.loop-byte-test.true grown ∙ c.loop-byte.invariant)
