use Rattle.std.proofs.Common.{◌≡◌, ℕ, ◌+◌, ◌<◌, ◌||◌, List, [], ◌∷◌, ◌++◌, length, get_or, take, drop, Result, Ok, Err, refl, sym, ◌∙◌, ap, append_assoc}
use Rattle.std.proofs.lemmas.List.{take-append-drop, append-nil, drop_more}
use Rattle.pk_lex.specs.declared.piece.Piece.{Piece}
use Rattle.pk_report.specs.Text.{text}
use Rattle.pk_engine.specs.State.{State}
use Rattle.pk_run.specs.Told.{step, run, state_after, told_by, is_refusal, has_refusal, TellsFront}

-- behind the old bytes the new ones have a front of the whole, and this is what is still to be told of it
pub record GoesOn (old new whole rest : List ℕ) : Type 0 where
  pub front : List ℕ
  pub told : new ≡ old ++ front
  pub whole_is : whole ≡ front ++ rest

-- nothing is told yet
pub goes_on_first : (old whole : List ℕ) → GoesOn old old whole whole
goes_on_first old whole = record { front = []; told = sym (append-nil old); whole_is = refl }

-- one text more is told
pub goes_on_more : (old mid new whole text rest : List ℕ) → GoesOn old mid whole (text ++ rest) → new ≡ mid ++ text → GoesOn old new whole rest
goes_on_more old mid new whole text rest g e = record {
  front = g.front ++ text;
  told = e ∙ ap (λ (x : List ℕ). x ++ text) g.told ∙ append_assoc old g.front text;
  whole_is = g.whole_is ∙ sym (append_assoc g.front text rest);
}

-- a front of one text more is told
pub front_of_more : (old mid new whole text rest : List ℕ) → GoesOn old mid whole (text ++ rest) → TellsFront mid new text → TellsFront old new whole
front_of_more old mid new whole text rest g t = (
  g.front ++ t.0,
  t.1 ++ rest,
  t.2 ∙ ap (λ (x : List ℕ). x ++ t.0) g.told ∙ append_assoc old g.front t.0,
  g.whole_is ∙ ap (λ (x : List ℕ). g.front ++ (x ++ rest)) t.3 ∙ ap (λ (x : List ℕ). g.front ++ x) (append_assoc t.0 t.1 rest) ∙ sym (append_assoc g.front t.0 (t.1 ++ rest)),
)

-- what was told is a front
pub front_so_far : (old new whole rest : List ℕ) → GoesOn old new whole rest → TellsFront old new whole
front_so_far old new whole rest g = (g.front, rest, g.told, g.whole_is)

-- all is told
pub goes_on_last : (old new whole : List ℕ) → GoesOn old new whole [] → new ≡ old ++ whole
goes_on_last old new whole g = g.told ∙ ap (λ (x : List ℕ). old ++ x) (sym (append-nil g.front) ∙ sym g.whole_is)

-- a station that took n bytes of a text took a front of it
pub front_of_text : (old new text : List ℕ) → (n : ℕ) → new ≡ old ++ take n text → TellsFront old new text
front_of_text old new text n e = (take n text, drop n text, e, sym (take-append-drop n text))

-- nothing told is a front
pub nothing_told : (old whole : List ℕ) → TellsFront old old whole
nothing_told old whole = ([], whole, sym (append-nil old), refl)

-- the pieces from a place on are the piece there and those behind it
from_place : (pieces : List Piece) (i : ℕ) (piece : Piece) → i < length pieces → piece ≡ get_or pieces i piece → drop i pieces ≡ piece ∷ drop (i + 1) pieces
from_place pieces i piece within is = drop_more pieces i piece within ∙ ap (λ (p : Piece). p ∷ drop (i + 1) pieces) (sym is)

-- what they tell is the reply to the first and what the others tell behind it
pub told_from : (now : State) (pieces : List Piece) (i : ℕ) (piece : Piece) → i < length pieces → piece ≡ get_or pieces i piece
    → told_by (run now (drop i pieces)) ≡ text (step now piece).reply ++ told_by (run (step now piece).next (drop (i + 1) pieces))
told_from now pieces i piece within is = ap (λ (ps : List Piece). told_by (run now ps)) (from_place pieces i piece within is)

-- some reply to them is a refusal if the first is, or one behind it
pub refused_from : (now : State) (pieces : List Piece) (i : ℕ) (piece : Piece) → i < length pieces → piece ≡ get_or pieces i piece
    → has_refusal (run now (drop i pieces)) ≡ (is_refusal (step now piece).reply || has_refusal (run (step now piece).next (drop (i + 1) pieces)))
refused_from now pieces i piece within is = ap (λ (ps : List Piece). has_refusal (run now ps)) (from_place pieces i piece within is)

-- the state after them is that after those behind the first, from the state that the first leaves
pub after_from : (now : State) (pieces : List Piece) (i : ℕ) (piece : Piece) → i < length pieces → piece ≡ get_or pieces i piece
    → state_after now (drop i pieces) ≡ state_after (step now piece).next (drop (i + 1) pieces)
after_from now pieces i piece within is = ap (state_after now) (from_place pieces i piece within is)

-- a run that goes on hasn't failed
pub ok_is_no_fault : {T E : Type 0} (r : Result T E) (x : T) (e : E) → r ≡ Ok x → r ≡ Err e → ⊥
ok_is_no_fault r x e ok err = cc
