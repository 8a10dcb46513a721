-- What a torn write leaves of a log.
use Rattle.std.proofs.Common.{◌≡◌, ◌≢◌, ℕ, ◌+◌, ◌-◌, ◌<◌, ◌≤◌, List, [], ◌∷◌, ◌++◌, length, get_or, take, drop, refl, sym, ◌∙◌, ap, subst, inl, inr, ⊎_elim, arith, append_assoc, length-append, length-take, length-drop}
use Rattle.std.specs.List.{All}
use Rattle.std.proofs.lemmas.List.{take_at, drop_at, take-append-drop, drop_more, ext_get_or, get_or-take, get_or-drop}
use Rattle.std.proofs.lemmas.List.Elements.{All-push}
use Rattle.std.proofs.lemmas.Bool.{cases_eq}
use Rattle.pk_world.specs.Files.{Torn, overwritten}
use Rattle.pk_gate.specs.Format.{magic, IsPayload, frame, frames, LogHolds, gate_behind}
use Rattle.pk_gate.specs.Crash.{BeforeOrAfter, BeforeOrNone}
use Rattle.pk_gate.proofs.Frames.{spelled, front, holds, whole, length-front, frames_push, none_sized}

-- In plain lists.

length_gate : (f : List ℕ) (x : ℕ) (b : List ℕ) → length (f ++ (x ∷ b)) ≡ length f + 1 + length b
length_gate f x b = length-append f (x ∷ b) ∙ omega arith

regroup : (f : List ℕ) (x : ℕ) (b : List ℕ) → f ++ (x ∷ b) ≡ (f ++ (x ∷ [])) ++ b
regroup f x b = sym (append_assoc f (x ∷ []) b)

take_gate : (f : List ℕ) (x : ℕ) (b : List ℕ) → take (length f + 1) (f ++ (x ∷ b)) ≡ f ++ (x ∷ [])
take_gate f x b = ap (take (length f + 1)) (regroup f x b) ∙ take_at (f ++ (x ∷ [])) b (length f + 1) (length_gate f x [] ∙ omega arith)

drop_gate : (f : List ℕ) (x : ℕ) (b : List ℕ) → drop (length f + 1) (f ++ (x ∷ b)) ≡ b
drop_gate f x b = ap (drop (length f + 1)) (regroup f x b) ∙ drop_at (f ++ (x ∷ [])) b (length f + 1) (length_gate f x [] ∙ omega arith)

-- a torn write leaves what is before it
torn_front : (at count : ℕ) (old new : List ℕ) (k : ℕ) → Torn at count old new → k ≤ at → k ≤ length old → take k new ≡ take k old
torn_front at count old new k torn before within =
    let long : length (take k new) ≡ k = length-take k new ∙ omega (arith, torn.no_shorter) in
    let short : length (take k old) ≡ k = length-take k old ∙ omega arith in
    ext_get_or 0 (take k new) (take k old) (long ∙ sym short)
    (λ i less.
    let below : i < k = omega (arith, long, less) in
    let inside : i < length old = omega (arith, below, within) in
    get_or-take k new i 0 below ∙ torn.before i inside (omega (arith, below, before)) ∙ sym (get_or-take k old i 0 below))

-- a write behind a gate leaves the gate, and what is before it
torn_behind : (at count : ℕ) (f : List ℕ) (x : ℕ) (b old new : List ℕ) → old ≡ f ++ (x ∷ b) → length f < at → Torn at count old new → new ≡ f ++ (x ∷ drop (length f + 1) new)
torn_behind at count f x b old new is behind torn =
    let long : length old ≡ length f + 1 + length b = ap length is ∙ length_gate f x b in
    let same : take (length f + 1) new ≡ f ++ (x ∷ []) =
    torn_front at count old new (length f + 1) torn (omega arith) (omega (arith, long)) ∙ ap (take (length f + 1)) is ∙ take_gate f x b in
    sym (take-append-drop (length f + 1) new) ∙ ap (λ (y : List ℕ). y ++ drop (length f + 1) new) same ∙ sym (regroup f x (drop (length f + 1) new))

-- a write of a gate leaves all but the gate
torn_gate : (f : List ℕ) (x : ℕ) (b old new : List ℕ) → old ≡ f ++ (x ∷ b) → Torn (length f) 1 old new → new ≡ f ++ (get_or new (length f) 0 ∷ b)
torn_gate f x b old new is torn =
    let long : length old ≡ length f + 1 + length b = ap length is ∙ length_gate f x b in
    let same : length new ≡ length old = omega (arith, torn.no_shorter, torn.no_longer, long) in
    let before : take (length f) new ≡ f =
    torn_front (length f) 1 old new (length f) torn (omega arith) (omega (arith, long)) ∙ ap (take (length f)) is ∙ take_at f (x ∷ b) (length f) refl in
    let within : length f < length new = omega (arith, same, long) in
    let behind : drop (length f + 1) new ≡ drop (length f + 1) old =
    ext_get_or 0 (drop (length f + 1) new) (drop (length f + 1) old) (length-drop (length f + 1) new ∙ ap (λ (n : ℕ). n - (length f + 1)) same ∙ sym (length-drop (length f + 1) old))
    (λ i less.
    let shorter : i < length new - (length f + 1) = omega (arith, length-drop (length f + 1) new, less) in
    let inside : length f + 1 + i < length old = omega (arith, shorter, same) in
    get_or-drop (length f + 1) new i 0 ∙ torn.behind (length f + 1 + i) inside (omega arith) ∙ sym (get_or-drop (length f + 1) old i 0)) in
    sym (take-append-drop (length f) new) ∙ ap (λ (y : List ℕ). y ++ drop (length f) new) before
    ∙ ap (λ (y : List ℕ). f ++ y) (drop_more new (length f) 0 within ∙ ap (λ (y : List ℕ). get_or new (length f) 0 ∷ y) (behind ∙ ap (drop (length f + 1)) is ∙ drop_gate f x b))

-- a whole write behind a gate
written_behind : (f : List ℕ) (x : ℕ) (b old : List ℕ) (at : ℕ) (bytes : List ℕ) → old ≡ f ++ (x ∷ b) → at ≡ length f + 1 → overwritten old at bytes ≡ f ++ (x ∷ (bytes ++ drop (at + length bytes) old))
written_behind f x b old at bytes is place =
    ap (λ (y : List ℕ). y ++ (bytes ++ drop (at + length bytes) old)) (ap (λ (k : ℕ). take k old) place ∙ ap (take (length f + 1)) is ∙ take_gate f x b)
    ∙ sym (regroup f x (bytes ++ drop (at + length bytes) old))

-- a whole write of a gate
written_gate : (f : List ℕ) (x y : ℕ) (b old : List ℕ) (at : ℕ) → old ≡ f ++ (x ∷ b) → at ≡ length f → overwritten old at (y ∷ []) ≡ f ++ (y ∷ b)
written_gate f x y b old at is place =
    let before : take at old ≡ f = ap (λ (k : ℕ). take k old) place ∙ ap (take (length f)) is ∙ take_at f (x ∷ b) (length f) refl in
    let behind : drop (at + 1) old ≡ b = ap (λ (k : ℕ). drop (k + 1) old) place ∙ ap (drop (length f + 1)) is ∙ drop_gate f x b in
    ap (λ (z : List ℕ). z ++ ((y ∷ []) ++ drop (at + 1) old)) before ∙ ap (λ (z : List ℕ). f ++ (y ∷ z)) behind

-- Of a log.

-- what is written behind the gate of a list is nothing to the list
pub frame_torn : (ps : List (List ℕ)) (at count : ℕ) (old new : List ℕ) → LogHolds old ps → gate_behind 8 ps < at → Torn at count old new → LogHolds new ps
frame_torn ps at count old new h behind torn =
    holds new ps h.ends.gate _ h.ends.closed h.ends.sized
    (torn_behind at count (front ps) h.ends.gate h.ends.rest old new (whole old ps h) (omega (arith, length-front ps)) torn)

-- what an append writes behind its gate
abbrev pub staging : List ℕ → List ℕ
staging p = spelled (length p) ++ (p ++ (0 ∷ []))

-- a log whose gate isn't open and has the frame of one payload more behind it, and a closed gate
pub record IsStaged (log : List ℕ) (ps : List (List ℕ)) (p : List ℕ) : Type 0 where
  pub gate : ℕ
  pub rest : List ℕ
  pub closed : gate ≢ 1
  pub sized : All IsPayload ps
  pub last : IsPayload p
  pub is : log ≡ front ps ++ (gate ∷ (staging p ++ rest))

pub frame_written : (ps : List (List ℕ)) (p old : List ℕ) (at : ℕ) → LogHolds old ps → IsPayload p → at ≡ gate_behind 8 ps + 1 → IsStaged (overwritten old at (staging p)) ps p
frame_written ps p old at h last place = record {
  gate = h.ends.gate;
  rest = drop (at + length (staging p)) old;
  closed = h.ends.closed;
  sized = h.ends.sized;
  last = last;
  is = written_behind (front ps) h.ends.gate h.ends.rest old at (staging p) (whole old ps h) (place ∙ ap (λ (n : ℕ). n + 1) (sym (length-front ps)));
}

-- an open gate before such a frame
opened : (ps : List (List ℕ)) (p rest : List ℕ) → front ps ++ (1 ∷ (staging p ++ rest)) ≡ front (ps ++ p ∷ []) ++ (0 ∷ rest)
opened ps p rest =
    append_assoc magic (frames ps) (1 ∷ (staging p ++ rest))
    ∙ ap (λ (b : List ℕ). magic ++ (frames ps ++ (1 ∷ (spelled (length p) ++ b)))) (append_assoc p (0 ∷ []) rest)
    ∙ ap (λ (b : List ℕ). magic ++ b) (sym (append_assoc (frames ps) (frame p) (0 ∷ rest)) ∙ ap (λ (b : List ℕ). b ++ (0 ∷ rest)) (sym (frames_push ps p)))
    ∙ sym (append_assoc magic (frames (ps ++ p ∷ [])) (0 ∷ rest))

open_holds : (log : List ℕ) (ps : List (List ℕ)) (p rest : List ℕ) → All IsPayload ps → IsPayload p → log ≡ front ps ++ (1 ∷ (staging p ++ rest)) → LogHolds log (ps ++ p ∷ [])
open_holds log ps p rest sized last is =
    holds log (ps ++ p ∷ []) 0 rest (λ no. cc) (All-push IsPayload ps p sized last) (is ∙ opened ps p rest)

pub gate_torn : (ps : List (List ℕ)) (p old new : List ℕ) (at : ℕ) → IsStaged old ps p → at ≡ gate_behind 8 ps → Torn at 1 old new → BeforeOrAfter ps p new
gate_torn ps p old new at st place torn =
    let here : at ≡ length (front ps) = place ∙ sym (length-front ps) in
    let is : new ≡ front ps ++ (get_or new (length (front ps)) 0 ∷ (staging p ++ st.rest)) =
    torn_gate (front ps) st.gate (staging p ++ st.rest) old new st.is (subst (λ (k : ℕ). Torn k 1 old new) here torn) in
    ⊎_elim
    (λ one. inr (open_holds new ps p st.rest st.sized st.last (is ∙ ap (λ (y : ℕ). front ps ++ (y ∷ (staging p ++ st.rest))) one)))
    (λ other. inl (holds new ps (get_or new (length (front ps)) 0) (staging p ++ st.rest) other st.sized is))
    (cases_eq (get_or new (length (front ps)) 0) 1)

pub gate_written : (ps : List (List ℕ)) (p old : List ℕ) (at : ℕ) → IsStaged old ps p → at ≡ gate_behind 8 ps → LogHolds (overwritten old at (1 ∷ [])) (ps ++ p ∷ [])
gate_written ps p old at st place =
    open_holds (overwritten old at (1 ∷ [])) ps p st.rest st.sized st.last
    (written_gate (front ps) st.gate 1 (staging p ++ st.rest) old at st.is (place ∙ sym (length-front ps)))

-- a log that holds a payload at least, whose first gate is torn, holds what it held, or none
pub first_torn : (p : List ℕ) (ps : List (List ℕ)) (old new : List ℕ) → LogHolds old (p ∷ ps) → Torn 8 1 old new → BeforeOrNone (p ∷ ps) new
first_torn p ps old new h torn =
    let b = (spelled (length p) ++ p) ++ (frames ps ++ (h.ends.gate ∷ h.ends.rest)) in
    let begun : old ≡ magic ++ (1 ∷ b) = h.begins ∙ ap (λ (x : List ℕ). magic ++ x) (h.ends.whole ∙ append_assoc (frame p) (frames ps) (h.ends.gate ∷ h.ends.rest)) in
    let is : new ≡ magic ++ (get_or new 8 0 ∷ b) = torn_gate magic 1 b old new begun torn in
    ⊎_elim
    (λ one. inl (subst (λ (l : List ℕ). LogHolds l (p ∷ ps)) (begun ∙ sym (is ∙ ap (λ (y : ℕ). magic ++ (y ∷ b)) one)) h))
    (λ other. inr (holds new [] (get_or new 8 0) b other none_sized is))
    (cases_eq (get_or new 8 0) 1)

pub first_written : (ps : List (List ℕ)) (old : List ℕ) → LogHolds old ps → LogHolds (overwritten old 8 (0 ∷ [])) []
first_written [] old h =
    holds (overwritten old 8 (0 ∷ [])) [] 0 h.ends.rest (λ no. cc) none_sized (written_gate magic h.ends.gate 0 h.ends.rest old 8 (whole old [] h) refl)
first_written (p ∷ ps) old h =
    let b = (spelled (length p) ++ p) ++ (frames ps ++ (h.ends.gate ∷ h.ends.rest)) in
    let begun : old ≡ magic ++ (1 ∷ b) = h.begins ∙ ap (λ (x : List ℕ). magic ++ x) (h.ends.whole ∙ append_assoc (frame p) (frames ps) (h.ends.gate ∷ h.ends.rest)) in
    holds (overwritten old 8 (0 ∷ [])) [] 0 b (λ no. cc) none_sized (written_gate magic 1 0 b old 8 begun refl)

-- what `create` writes
pub empty_written : LogHolds (overwritten [] 0 (75 ∷ 69 ∷ 89 ∷ 84 ∷ 76 ∷ 79 ∷ 71 ∷ 49 ∷ 0 ∷ [])) []
empty_written = holds _ [] 0 [] (λ no. cc) none_sized refl
