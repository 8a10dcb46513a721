use Rattle.std.proofs.Common.{◌≡◌, Bool, true, false, ◌||◌, List, ℕ, ◌+◌, drop, refl, sym, ◌∙◌, ap, subst}
use Rattle.std.specs.Prelude.{IsTrue}
use Rattle.pk_lex.specs.declared.piece.Piece.{Piece}
use Rattle.pk_lex.specs.Tokens.{is_lexed}
use Rattle.pk_run.specs.Told.{step, run, told_by, has_refusal}
use Rattle.pk_run.proofs.Runs.{GoesOn, goes_on_more, front_of_more, told_from, refused_from, after_from, ok_is_no_fault}
use Rattle.pk_run.proofs.running.run_pieces.Goals as goal
use Rattle.pk_run.proofs.running.run_pieces.Goals.{then-refused, else-refused}

-- each piece is one that lexing gives
pub answer_and_tell-requires-clause-lexed : goal.answer_and_tell-requires-clause-lexed
answer_and_tell-requires-clause-lexed g c =
    subst (λ (p : Piece). IsTrue (is_lexed p)) (sym c.piece-item.is) (c.requires.lexed c.loop-piece.piece-index c.piece-item.result c.loop-piece-test.true)

-- what was told before this piece, and a front of its reply
pub returns-in_err-is_refused-clause-front : goal.returns-in_err-is_refused-clause-front
returns-in_err-is_refused-clause-front g c = λ st stands tells.
    let so_far = c.loop-piece.invariant.goes_on st stands in
    let still : IsTrue (g.W.Station.tells c.loop-piece.station) = c.loop-piece.invariant.tells tells in
    front_of_more _ _ _ _ _ _
    (subst (λ (rest : List ℕ). GoesOn (g.W.Station.told c.args.station.now) (g.W.Station.told c.loop-piece.station) (told_by (run st c.args.pieces.now)) rest)
    (told_from so_far.0 c.args.pieces.now c.loop-piece.piece-index c.piece-item.result c.loop-piece-test.true c.piece-item.is) (so_far.2 tells))
    (c.answer_and_tell.ensures.front so_far.0 so_far.1 still)

or_assoc : (a b c : Bool) → ((a || b) || c) ≡ (a || (b || c))
or_assoc true b c = refl
or_assoc false b c = refl

pub loop-piece-preserved : goal.loop-piece-preserved
loop-piece-preserved g c =
    let pieces = c.args.pieces.now in
    let place = c.loop-piece.piece-index in
    let piece = c.piece-item.result in
    let ok = c.in_ok-is_refused.ensures in
    let joined : c.if-refused.refused ≡ (c.loop-piece.refused || c.in_ok-is_refused.is_refused) =
    elim c.if-refused.branch [
      | then-refused w ↦ w.refused-is ∙ w.if-refused.true ∙ ap (λ (b : Bool). b || c.in_ok-is_refused.is_refused) (sym w.if-refused.true)
      | else-refused w ↦ w.refused-is ∙ ap (λ (b : Bool). b || c.in_ok-is_refused.is_refused) (sym w.if-refused.false)
    ] in
    record {
      tells = λ tells. c.answer_and_tell.ensures.tells (c.loop-piece.invariant.tells tells);
      unfailed = c.answer_and_tell.ensures.unfailed (ok_is_no_fault _ _ _ c.in_ok-is_refused.was) ∙ c.loop-piece.invariant.unfailed;
      some = ((step c.loop-piece.invariant.some.0 piece).next, ok.next c.loop-piece.invariant.some.0 c.loop-piece.invariant.some.1);
      goes_on = λ st stands.
          let so_far = c.loop-piece.invariant.goes_on st stands in
          let now = so_far.0 in
          let rest = has_refusal (run (step now piece).next (drop (place + 1) pieces)) in (
            (step now piece).next,
            ok.next now so_far.1,
            (λ tells.
                let still : IsTrue (g.W.Station.tells c.loop-piece.station) = c.loop-piece.invariant.tells tells in
                goes_on_more _ _ _ _ _ _
                (subst (λ (rest : List ℕ). GoesOn (g.W.Station.told c.args.station.now) (g.W.Station.told c.loop-piece.station) (told_by (run st pieces)) rest)
                (told_from now pieces place piece c.loop-piece-test.true c.piece-item.is) (so_far.2 tells))
                (ok.told now so_far.1 still)),
            sym (after_from now pieces place piece c.loop-piece-test.true c.piece-item.is) ∙ so_far.3,
            ap (λ (b : Bool). b || rest) joined
                ∙ or_assoc c.loop-piece.refused c.in_ok-is_refused.is_refused rest
                ∙ ap (λ (b : Bool). c.loop-piece.refused || b)
                (ap (λ (b : Bool). b || rest) (ok.refused now so_far.1) ∙ sym (refused_from now pieces place piece c.loop-piece-test.true c.piece-item.is))
                ∙ so_far.4,
          );
    }
