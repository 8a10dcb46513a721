-- Where the payloads of a log lie in its file.
use Rattle.std.proofs.Common.{◌≡◌, ℕ, zero, suc, ◌+◌, ◌-◌, ◌<◌, ◌≤◌, List, [], ◌∷◌, ◌++◌, length, get_or, take, drop, refl, sym, ◌∙◌, ap, subst, arith, append_assoc, length-append}
use Rattle.std.proofs.lemmas.List.{take_at, drop_at, take-take, drop-drop, drop-take}
use Rattle.pk_gate.specs.declared.extent.Extent.{Extent}
use Rattle.pk_gate.specs.Format.{magic, frame, frames, LogHolds}
use Rattle.pk_gate.specs.Stands.{extents_from}
use Rattle.pk_gate.proofs.Frames.{spelled, count_extents, length-frame}

-- a payload lies in the file where an extent says
pub record Lies (log : List ℕ) (p : List ℕ) (e : Extent) : Type 0 where
  pub len : e.len ≡ length p
  pub inside : e.at + length p ≤ length log
  pub is : take (length p) (drop e.at log) ≡ p

lies_first : (before p behind log : List ℕ) (gate : ℕ) → log ≡ before ++ (frame p ++ behind) → length before ≡ gate → Lies log p (record { at = gate + 5; len = length p })
lies_first before p behind log gate is place =
    let head : List ℕ = 1 ∷ spelled (length p) in
    let split : log ≡ (before ++ head) ++ (p ++ behind) = is ∙ sym (append_assoc before head (p ++ behind)) in
    let front : length (before ++ head) ≡ gate + 5 = length-append before head ∙ omega (arith, place) in
    let long : length log ≡ gate + 5 + (length p + length behind) =
    ap length split ∙ length-append (before ++ head) (p ++ behind) ∙ ap (λ (n : ℕ). n + length (p ++ behind)) front ∙ ap (λ (n : ℕ). gate + 5 + n) (length-append p behind) in
    record {
      len = refl;
      inside = omega (arith, long);
      is = ap (take (length p)) (ap (drop (gate + 5)) split ∙ drop_at (before ++ head) (p ++ behind) (gate + 5) front) ∙ take_at p behind (length p) refl;
    }

lies_at : (before log tail : List ℕ) (gate : ℕ) (ps : List (List ℕ)) (k : ℕ) (d : Extent) → log ≡ before ++ (frames ps ++ tail) → length before ≡ gate → k < length ps
    → Lies log (get_or ps k []) (get_or (extents_from gate ps) k d)
lies_at before log tail gate [] k d is place within = absurd (omega arith)
lies_at before log tail gate (p ∷ ps) zero d is place within =
    lies_first before p (frames ps ++ tail) log gate (is ∙ ap (λ (b : List ℕ). before ++ b) (append_assoc (frame p) (frames ps) tail)) place
lies_at before log tail gate (p ∷ ps) (suc k) d is place within =
    lies_at (before ++ frame p) log tail (gate + 5 + length p) ps k d
    (is ∙ ap (λ (b : List ℕ). before ++ b) (append_assoc (frame p) (frames ps) tail) ∙ sym (append_assoc before (frame p) (frames ps ++ tail)))
    (length-append before (frame p) ∙ omega (arith, place, length-frame p))
    (omega arith)

-- payload k of a log that holds a list
pub lies : (log : List ℕ) (ps : List (List ℕ)) (es : List Extent) (k : ℕ) (e : Extent) → LogHolds log ps → es ≡ extents_from 8 ps → k < length es → e ≡ get_or es k e → Lies log (get_or ps k []) e
lies log ps es k e h extents within is =
    let below : k < length ps = omega (arith, within, ap length extents, count_extents 8 ps) in
    subst (λ (x : Extent). Lies log (get_or ps k []) x) (sym (is ∙ ap (λ (xs : List Extent). get_or xs k e) extents))
    (lies_at magic log (h.ends.gate ∷ h.ends.rest) 8 ps k e (h.begins ∙ ap (λ (b : List ℕ). magic ++ b) h.ends.whole) refl below)

-- a part of it
pub part_lies : (log p : List ℕ) (e : Extent) (i n : ℕ) → Lies log p e → i + n ≤ length p → take n (drop (e.at + i) log) ≡ take n (drop i p)
part_lies log p e i n so within =
    let m = length p - i in
    let long : i + m ≡ length p = omega (arith, within) in
    let whole : take (i + m) (drop e.at log) ≡ p = ap (λ (x : ℕ). take x (drop e.at log)) long ∙ so.is in
    let few : n ≤ m = omega (arith, within) in
    ap (take n) (sym (drop-drop i e.at log))
    ∙ sym (take-take n m (drop i (drop e.at log)) few)
    ∙ ap (take n) (sym (drop-take i m (drop e.at log)) ∙ ap (drop i) whole)
