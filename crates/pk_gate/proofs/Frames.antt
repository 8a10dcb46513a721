-- Lists of frames: lengths, one frame more, and what bytes say of the list that they hold.
use Rattle.std.proofs.Common.{◌≡◌, ◌≢◌, ℕ, suc, ◌+◌, ◌^◌, ◌<◌, List, [], ◌∷◌, ◌++◌, length, get_or, take, drop, refl, sym, ◌∙◌, ap, subst, arith, append_assoc, append-nil, length-append}
use Rattle.std.specs.List.{All}
use Rattle.std.specs.Int.{to_be_bytes, from_be_bytes, w32}
use Rattle.std.proofs.lemmas.Nat.{from_be_bytes-to_be_bytes_4}
use Rattle.std.proofs.lemmas.List.{take_at, drop_at, append_cancel_left}
use Rattle.pk_gate.specs.declared.extent.Extent.{Extent}
use Rattle.pk_gate.specs.Format.{magic, IsPayload, frame, frames, Ends, LogHolds, gate_behind}
use Rattle.pk_gate.specs.Stands.{extents_from}

-- the four bytes of a length
abbrev pub spelled : ℕ → List ℕ
spelled n = to_be_bytes w32 n

-- Lengths, and one frame more.

pub length-frame : (p : List ℕ) → length (frame p) ≡ 5 + length p
length-frame p = omega arith

pub frames_push : (ps : List (List ℕ)) (p : List ℕ) → frames (ps ++ p ∷ []) ≡ frames ps ++ frame p
frames_push [] p = append-nil (frame p)
frames_push (q ∷ qs) p = ap (λ (b : List ℕ). frame q ++ b) (frames_push qs p) ∙ sym (append_assoc (frame q) (frames qs) (frame p))

pub length-frames_push : (ps : List (List ℕ)) (p : List ℕ) → length (frames (ps ++ p ∷ [])) ≡ length (frames ps) + (5 + length p)
length-frames_push ps p = ap length (frames_push ps p) ∙ length-append (frames ps) (frame p) ∙ ap (λ (n : ℕ). length (frames ps) + n) (length-frame p)

pub extents_push : (gate : ℕ) (ps : List (List ℕ)) (p : List ℕ) → extents_from gate (ps ++ p ∷ []) ≡ extents_from gate ps ++ (record { at = gate_behind gate ps + 5; len = length p }) ∷ []
extents_push gate [] p = ap (λ (a : ℕ). let e : Extent = record { at = a; len = length p } in e ∷ []) (omega arith)
extents_push gate (q ∷ qs) p =
    let e : Extent = record { at = gate + 5; len = length q } in
    let long : length (frame q ++ frames qs) ≡ length (frame q) + length (frames qs) = length-append (frame q) (frames qs) in
    let same : gate_behind (gate + 5 + length q) qs ≡ gate_behind gate (q ∷ qs) = omega (arith, long, length-frame q) in
    ap (λ (es : List Extent). e ∷ es)
    (extents_push (gate + 5 + length q) qs p ∙ ap (λ (a : ℕ). let x : Extent = record { at = a + 5; len = length p } in extents_from (gate + 5 + length q) qs ++ x ∷ []) same)

pub count_extents : (gate : ℕ) (ps : List (List ℕ)) → length (extents_from gate ps) ≡ length ps
count_extents gate [] = refl
count_extents gate (p ∷ ps) = ap suc (count_extents (gate + 5 + length p) ps)

-- What a file begins with.

abbrev pub front : List (List ℕ) → List ℕ
front ps = magic ++ frames ps

pub length-front : (ps : List (List ℕ)) → length (front ps) ≡ gate_behind 8 ps
length-front ps = omega arith

-- a file that begins so, and has a gate behind that isn't open, holds the list
pub holds : (log : List ℕ) (ps : List (List ℕ)) (gate : ℕ) (rest : List ℕ) → gate ≢ 1 → All IsPayload ps → log ≡ front ps ++ (gate ∷ rest) → LogHolds log ps
holds log ps gate rest closed sized is = record {
  bytes = frames ps ++ (gate ∷ rest);
  begins = is ∙ append_assoc magic (frames ps) (gate ∷ rest);
  ends = record { gate = gate; rest = rest; closed = closed; sized = sized; whole = refl };
}

pub whole : (log : List ℕ) (ps : List (List ℕ)) (h : LogHolds log ps) → log ≡ front ps ++ (h.ends.gate ∷ h.ends.rest)
whole log ps h = h.begins ∙ ap (λ (b : List ℕ). magic ++ b) h.ends.whole ∙ sym (append_assoc magic (frames ps) (h.ends.gate ∷ h.ends.rest))

-- the first of a list of payloads, and the others
pub first_sized : (p : List ℕ) (ps : List (List ℕ)) → All IsPayload (p ∷ ps) → IsPayload p
first_sized p ps sized = sized 0 [] (omega arith)

pub others_sized : (p : List ℕ) (ps : List (List ℕ)) → All IsPayload (p ∷ ps) → All IsPayload ps
others_sized p ps sized = λ k d within. sized (suc k) d (omega arith)

pub none_sized : All IsPayload []
none_sized = λ k d within. absurd (omega arith)

-- Bytes behind an open gate.

-- the frame of a payload, and what is behind it
pub frame_then : (p b : List ℕ) → drop (5 + length p) (frame p ++ b) ≡ b
frame_then p b = drop_at (frame p) b (5 + length p) (length-frame p)

pub payload_in : (p b : List ℕ) → take (length p) (drop 5 (frame p ++ b)) ≡ p
payload_in p b = take_at p b (length p) refl

-- of an open gate the list isn't empty
pub record Opens (bytes : List ℕ) (ps : List (List ℕ)) : Type 0 where
  pub first : List ℕ
  pub others : List (List ℕ)
  pub rest : List ℕ
  pub list : ps ≡ first ∷ others
  pub sized : IsPayload first
  pub is : bytes ≡ frame first ++ rest
  pub ends : Ends rest others

pub opens : (bytes : List ℕ) (ps : List (List ℕ)) → Ends bytes ps → get_or bytes 0 0 ≡ 1 → Opens bytes ps
opens bytes [] e open_gate = absurd (e.closed (sym (ap (λ (b : List ℕ). get_or b 0 0) e.whole) ∙ open_gate))
opens bytes (p ∷ ps) e open_gate = record {
  first = p;
  others = ps;
  rest = frames ps ++ (e.gate ∷ e.rest);
  list = refl;
  sized = first_sized p ps e.sized;
  is = e.whole ∙ append_assoc (frame p) (frames ps) (e.gate ∷ e.rest);
  ends = record { gate = e.gate; rest = e.rest; closed = e.closed; sized = others_sized p ps e.sized; whole = refl };
}

-- the length that is spelled behind a gate is that of the payload
pub spelled_length : (p b : List ℕ) (n : ℕ) → IsPayload p → n < 2 ^ 32 → spelled n ≡ take 4 (drop 1 (frame p ++ b)) → n ≡ length p
spelled_length p b n sized fits is =
    let few : length p < 2 ^ 32 = omega (arith, sized.1) in
    sym (from_be_bytes-to_be_bytes_4 n fits) ∙ ap (from_be_bytes w32) is ∙ from_be_bytes-to_be_bytes_4 (length p) few

-- A file holds one list.

pub one_end : (bytes : List ℕ) (ps qs : List (List ℕ)) → Ends bytes ps → Ends bytes qs → ps ≡ qs
one_end bytes [] [] e f = refl
one_end bytes [] (q ∷ qs) e f = absurd (e.closed (sym (ap (λ (b : List ℕ). get_or b 0 0) e.whole) ∙ ap (λ (b : List ℕ). get_or b 0 0) f.whole))
one_end bytes (p ∷ ps) [] e f = absurd (f.closed (sym (ap (λ (b : List ℕ). get_or b 0 0) f.whole) ∙ ap (λ (b : List ℕ). get_or b 0 0) e.whole))
one_end bytes (p ∷ ps) (q ∷ qs) e f =
    let b = frames ps ++ (e.gate ∷ e.rest) in
    let c = frames qs ++ (f.gate ∷ f.rest) in
    let left : bytes ≡ frame p ++ b = e.whole ∙ append_assoc (frame p) (frames ps) (e.gate ∷ e.rest) in
    let right : bytes ≡ frame q ++ c = f.whole ∙ append_assoc (frame q) (frames qs) (f.gate ∷ f.rest) in
    let same : frame p ++ b ≡ frame q ++ c = sym left ∙ right in
    let few : length p < 2 ^ 32 = omega (arith, (first_sized p ps e.sized).1) in
    let long : length p ≡ length q = spelled_length q c (length p) (first_sized q qs f.sized) few (ap (λ (x : List ℕ). take 4 (drop 1 x)) same) in
    let payload : p ≡ q =
    sym (payload_in p b) ∙ ap (λ (x : List ℕ). take (length p) (drop 5 x)) same ∙ ap (λ (n : ℕ). take n (drop 5 (frame q ++ c))) long ∙ payload_in q c in
    let behind : b ≡ c =
    sym (frame_then p b) ∙ ap (λ (x : List ℕ). drop (5 + length p) x) same ∙ ap (λ (n : ℕ). drop (5 + n) (frame q ++ c)) long ∙ frame_then q c in
    let others : ps ≡ qs = one_end b ps qs (record { gate = e.gate; rest = e.rest; closed = e.closed; sized = others_sized p ps e.sized; whole = refl })
    (record { gate = f.gate; rest = f.rest; closed = f.closed; sized = others_sized q qs f.sized; whole = behind }) in
    ap (λ (x : List ℕ). x ∷ ps) payload ∙ ap (λ (xs : List (List ℕ)). q ∷ xs) others

pub one_list : (log : List ℕ) (ps qs : List (List ℕ)) → LogHolds log ps → LogHolds log qs → ps ≡ qs
one_list log ps qs h k =
    let same : h.bytes ≡ k.bytes = append_cancel_left magic h.bytes k.bytes (sym h.begins ∙ k.begins) in
    one_end k.bytes ps qs (subst (λ (b : List ℕ). Ends b ps) same h.ends) k.ends
