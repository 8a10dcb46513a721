-- What stands at a gate, and the list that is read from one gate to the next.
use Rattle.std.proofs.Common.{◌≡◌, ℕ, ◌+◌, ◌-◌, ◌^◌, ◌<◌, ◌≤◌, List, [], ◌∷◌, ◌++◌, length, get_or, take, drop, refl, sym, ◌∙◌, ap, subst, arith, append_assoc, length-append, length-take, length-drop}
use Rattle.std.specs.List.{All}
use Rattle.std.proofs.lemmas.List.{take-append-drop, drop_more, get_or-take, take-take, drop-drop, drop-take}
use Rattle.std.proofs.lemmas.List.Elements.{All-push}
use Rattle.pk_gate.specs.declared.extent.Extent.{Extent}
use Rattle.pk_gate.specs.Format.{magic, IsLength, IsPayload, frame, frames, Ends, LogHolds, gate_behind}
use Rattle.pk_gate.specs.Stands.{extents_from}
use Rattle.pk_gate.specs.declared.steps.Step.TheVariants.{Closed, Frame, Bad}
use Rattle.pk_gate.specs.declared.steps.Part.{Part}
use Rattle.pk_gate.specs.Steps.{IsStep, Shows}
use Rattle.pk_gate.proofs.Frames.{spelled, front, holds, opens, spelled_length, length-frame, frame_then, frames_push, length-frames_push, extents_push, none_sized}

-- The head of a gate: the first bytes of what is there.

-- it begins as what is there does
head_begins : (head bytes : List ℕ) → head ≡ take (length head) bytes → 1 ≤ length head → get_or head 0 0 ≡ get_or bytes 0 0
head_begins head bytes is some = ap (λ (b : List ℕ). get_or b 0 0) is ∙ get_or-take (length head) bytes 0 0 (omega (arith, some))

-- and it has the length
head_spells : (head bytes : List ℕ) → head ≡ take (length head) bytes → 5 ≤ length head → take 4 (drop 1 head) ≡ take 4 (drop 1 bytes)
head_spells head bytes is five =
    let m = length head - 1 in
    let long : 1 + m ≡ length head = omega (arith, five) in
    let same : drop 1 head ≡ take m (drop 1 bytes) = ap (drop 1) (is ∙ ap (λ (k : ℕ). take k bytes) (sym long)) ∙ drop-take 1 m bytes in
    ap (take 4) same ∙ take-take 4 m (drop 1 bytes) (omega (arith, five))

-- of a list that begins with an open gate, the length that is spelled there is a payload's, and its bytes are there
pub spelled_well : (head bytes : List ℕ) (len : ℕ) (ps : List (List ℕ)) → head ≡ take (length head) bytes → 5 ≤ length head → get_or head 0 0 ≡ 1
    → len < 2 ^ 32 → spelled len ≡ take 4 (drop 1 head) → Ends bytes ps → IsLength len × (5 + len ≤ length bytes)
spelled_well head bytes len ps is five one fits spells ends =
    let o = opens bytes ps ends (sym (head_begins head bytes is (omega (arith, five))) ∙ one) in
    let same : len ≡ length o.first = spelled_length o.first o.rest len o.sized fits (spells ∙ head_spells head bytes is five ∙ ap (λ (b : List ℕ). take 4 (drop 1 b)) o.is) in
    let long : length bytes ≡ 5 + length o.first + length o.rest = ap length o.is ∙ length-append (frame o.first) o.rest ∙ omega (arith, length-frame o.first) in
    ((omega (arith, o.sized.0, same), omega (arith, o.sized.1, same)), omega (arith, same, long))

-- The list that was read so far.

-- what a part has from a place on is what the file has there
pub part_behind : (log bytes : List ℕ) (at place : ℕ) → bytes ≡ take (length bytes) (drop at log) → at ≤ place → place ≤ at + length bytes
    → drop (place - at) bytes ≡ take (length (drop (place - at) bytes)) (drop place log)
part_behind log bytes at place is before within =
    let k = place - at in
    let m = length bytes - k in
    let long : k + m ≡ length bytes = omega (arith, before, within) in
    let here : at + k ≡ place = omega (arith, before) in
    ap (drop k) (is ∙ ap (λ (n : ℕ). take n (drop at log)) (sym long)) ∙ drop-take k m (drop at log) ∙ ap (take m) (drop-drop k at log ∙ ap (λ (n : ℕ). drop n log) here)
    ∙ ap (λ (n : ℕ). take n (drop place log)) (sym (length-drop k bytes))

-- up to this gate the file has the frames of a list, which lie there, and each list that it holds ends behind
pub record Found (log : List ℕ) (gate : ℕ) (es : List Extent) : Type 0 where
  pub done : List (List ℕ)
  pub sized : All IsPayload done
  pub place : gate ≡ gate_behind 8 done
  pub extents : es ≡ extents_from 8 done
  pub is : log ≡ front done ++ drop gate log
  pub rest : (ps : List (List ℕ)) → LogHolds log ps → (qs : List (List ℕ)) × Ends (drop gate log) qs

pub found_none : (log : List ℕ) → take 8 log ≡ magic → Found log 8 []
found_none log begins = record {
  done = [];
  sized = none_sized;
  place = refl;
  extents = refl;
  is = sym (take-append-drop 8 log) ∙ ap (λ (b : List ℕ). b ++ drop 8 log) begins;
  rest = λ ps h. (ps, subst (λ (b : List ℕ). Ends b ps) (sym (ap (drop 8) h.begins)) h.ends);
}

pub found_more : (log : List ℕ) (gate len next : ℕ) (es : List Extent) → Found log gate es → IsStep (drop gate log) (Frame len) → next ≡ gate + (5 + len)
    → Found log next (es ++ (record { at = gate + 5; len = len }) ∷ [])
found_more log gate len next es so here place =
    let there = drop gate log in
    let p = take len (drop 5 there) in
    let size : length p ≡ len = length-take len (drop 5 there) ∙ omega (arith, length-drop 5 there, here.1) in
    let fits : len < 2 ^ 32 = omega (arith, here.0.1) in
    let behind : drop (5 + len) there ≡ drop next log = drop-drop (5 + len) gate log ∙ ap (λ (n : ℕ). drop n log) (sym place) in
    let e : ℕ → Extent = λ n. record { at = gate + 5; len = n } in
    record {
      done = so.done ++ p ∷ [];
      sized = All-push IsPayload so.done p so.sized (omega (arith, here.0.0, size), omega (arith, here.0.1, size));
      place = let more = length-frames_push so.done p in omega (arith, place, so.place, more, size);
      extents =
          ap (λ (xs : List Extent). xs ++ e len ∷ []) so.extents ∙ ap (λ (n : ℕ). extents_from 8 so.done ++ e n ∷ []) (sym size)
          ∙ ap (λ (g : ℕ). let x : Extent = record { at = g + 5; len = length p } in extents_from 8 so.done ++ x ∷ []) so.place ∙ sym (extents_push 8 so.done p);
      is =
          so.is ∙ ap (λ (b : List ℕ). front so.done ++ b) (here.2 ∙ ap (λ (b : List ℕ). frame p ++ b) behind)
          ∙ sym (append_assoc (front so.done) (frame p) (drop next log))
          ∙ ap (λ (b : List ℕ). b ++ drop next log) (append_assoc magic (frames so.done) (frame p) ∙ ap (λ (b : List ℕ). magic ++ b) (sym (frames_push so.done p)));
      rest = λ ps h.
          let ends = so.rest ps h in
          let o = opens there ends.0 ends.1 (ap (λ (b : List ℕ). get_or b 0 0) here.2) in
          let spelt : spelled len ≡ take 4 (drop 1 (frame o.first ++ o.rest)) = ap spelled (sym size) ∙ ap (λ (b : List ℕ). take 4 (drop 1 b)) (sym here.2 ∙ o.is) in
          let same : len ≡ length o.first = spelled_length o.first o.rest len o.sized fits spelt in
          let left : o.rest ≡ drop next log = sym (frame_then o.first o.rest) ∙ ap (λ (n : ℕ). drop (5 + n) (frame o.first ++ o.rest)) (sym same) ∙ ap (drop (5 + len)) (sym o.is) ∙ behind in
          (o.others, subst (λ (b : List ℕ). Ends b o.others) left o.ends);
    }

pub found_all : (log : List ℕ) (gate : ℕ) (es : List Extent) (so : Found log gate es) → IsStep (drop gate log) Closed → LogHolds log so.done
found_all log gate es so here =
    holds log so.done (get_or (drop gate log) 0 0) (drop 1 (drop gate log)) here.1 so.sized
    (so.is ∙ ap (λ (b : List ℕ). front so.done ++ b) (drop_more (drop gate log) 0 0 here.0))

pub found_bad : (log : List ℕ) (gate : ℕ) (es : List Extent) → Found log gate es → IsStep (drop gate log) Bad → (ps : List (List ℕ)) → LogHolds log ps → ⊥
found_bad log gate es so here ps h = let ends = so.rest ps h in here ends.0 ends.1

-- a part without bytes
pub shows_none : (log : List ℕ) (part : Part) → part.at ≡ 0 → part.bytes.items ≡ [] → Shows log part
shows_none log part place none = record {
  within = omega (arith, place, ap length none);
  bytes = none ∙ ap (λ (n : ℕ). take n (drop part.at log)) (sym (ap length none));
}
