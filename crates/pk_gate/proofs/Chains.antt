-- What the calls on a log leave of the station, from what each write leaves.
use Rattle.std.proofs.Common.{◌≡◌, ◌≢◌, ℕ, ◌+◌, ◌^◌, ◌<◌, ◌≤◌, List, [], ◌∷◌, ◌++◌, length, refl, sym, ◌∙◌, ap, subst, inl, arith, Bool, true, false, IsTrue, length-append}
use Rattle.std.specs.List.{All}
use Rattle.std.proofs.lemmas.List.Elements.{All-push}
use Rattle.pk_world.specs.declared.station.Station.{Ghosts}
use Rattle.pk_world.specs.declared.station.Which.TheVariants.{Log as LogFile}
use Rattle.pk_world.specs.Files.{Files, Torn, overwritten}
use Rattle.pk_world.specs.Station.{Uses, Reads, LeavesOnly, Tearing, IsWritten}
use Rattle.pk_world.proofs.Chains.{IsLeftNow, leaves_then, leaves_as, leaves_now}
use Rattle.pk_gate.specs.declared.extent.Extent.{Extent}
use Rattle.pk_gate.specs.declared.log.Log.{Log}
use Rattle.pk_gate.specs.Format.{IsPayload, LogHolds, gate_behind}
use Rattle.pk_gate.specs.Stands.{Stands, IsInside, extents_from}
use Rattle.pk_gate.specs.Crash.{LeavesLog, BeforeOrNone, Appending, Restarting}
use Rattle.pk_gate.proofs.Frames.{spelled, length-frames_push, extents_push}
use Rattle.pk_gate.proofs.Torn.{staging, IsStaged, frame_torn, frame_written, gate_torn, gate_written, first_torn, first_written, empty_written}

module _ {W : Type 0} (g : Ghosts W) where
  -- premises on a station go from one moment to another
  tells_old : (a b : W) → Uses g a b → IsTrue (g.tells b) → IsTrue (g.tells a)
  tells_old a b uses tells = subst IsTrue uses.tells tells

  -- what was written, in other words for the bytes
  pub written_as : (which : _) (at : ℕ) (bytes given : List ℕ) (a b : W) → bytes ≡ given → IsWritten g which at bytes a b → IsWritten g which at given a b
  written_as which at bytes given a b same written = subst (λ (x : List ℕ). IsWritten g which at x a b) same written

  pub tearing_as : (which : _) (at : ℕ) (bytes given : List ℕ) (a b : W) → bytes ≡ given → LeavesOnly g a b (Tearing g a which at (length bytes)) → LeavesOnly g a b (Tearing g a which at (length given))
  tearing_as which at bytes given a b same leaves = subst (λ (x : List ℕ). LeavesOnly g a b (Tearing g a which at (length x))) same leaves

  -- the file that a write of the log leaves
  log_written : (at : ℕ) (bytes : List ℕ) (a b : W) → IsWritten g LogFile at bytes a b → IsTrue (g.tells a) → (g.content b).log ≡ overwritten (g.content a).log at bytes
  log_written at bytes a b written tells = ap (λ (f : Files). f.log) (written.content tells)

  -- An append.

  -- the frame is being written
  pub frame_leaves : (a b : W) (log : Log) (ps : List (List ℕ)) (p : List ℕ) → Stands g log a ps
      → LeavesOnly g a b (Tearing g a LogFile (log.gate + 1) (length (staging p))) → LeavesOnly g a b (Appending g a ps p)
  frame_leaves a b log ps p st leaves =
      leaves_as g a b (Tearing g a LogFile (log.gate + 1) (length (staging p))) (Appending g a ps p)
      (λ f honest tells torn.
      let behind : gate_behind 8 ps < log.gate + 1 = omega (arith, st.gate tells) in
      (torn.0, torn.1, torn.2.other, inl (frame_torn ps (log.gate + 1) (length (staging p)) torn.0.log f.log (st.left honest tells torn.0 torn.1) behind torn.2.torn)))
      leaves

  -- the log as a crash may leave it before the gate is opened
  staged_left : (a b : W) (log : Log) (ps : List (List ℕ)) (p : List ℕ) → Stands g log a ps → IsPayload p → IsWritten g LogFile (log.gate + 1) (staging p) a b
      → g.honest a → IsTrue (g.tells a) → (f : Files) → g.may_leave b f → IsStaged f.log ps p
  staged_left a b log ps p st last written honest tells f left =
      subst (λ (l : List ℕ). IsStaged l ps p) (sym (written.durable honest tells f left))
      (frame_written ps p (g.content a).log (log.gate + 1) (st.as_read tells) last (ap (λ (n : ℕ). n + 1) (st.gate tells)))

  -- the gate is being opened
  pub gate_leaves : (a b c : W) (log : Log) (ps : List (List ℕ)) (p : List ℕ) → IsLeftNow g b → Stands g log a ps → IsPayload p → Uses g a b
      → LeavesOnly g a b (Tearing g a LogFile (log.gate + 1) (length (staging p))) → IsWritten g LogFile (log.gate + 1) (staging p) a b
      → LeavesOnly g b c (Tearing g b LogFile log.gate 1) → LeavesOnly g b c (Appending g a ps p)
  gate_leaves a b c log ps p now st last uses first written second =
      leaves_as g b c (Tearing g b LogFile log.gate 1) (Appending g a ps p)
      (λ f honest tells torn.
      let was_honest : g.honest a = uses.honest.1 honest in
      let told : IsTrue (g.tells a) = tells_old a b uses tells in
      let before : Tearing g a LogFile (log.gate + 1) (length (staging p)) torn.0 =
      leaves_now g a b (Tearing g a LogFile (log.gate + 1) (length (staging p))) now uses first was_honest told torn.0 torn.1 in (
        before.0,
        before.1,
        torn.2.other ∙ before.2.other,
        gate_torn ps p torn.0.log f.log log.gate (staged_left a b log ps p st last written was_honest told torn.0 torn.1) (st.gate told) torn.2.torn,
      ))
      second

  pub append_leaves : (a b c : W) (log : Log) (ps : List (List ℕ)) (p : List ℕ) → IsLeftNow g b → Stands g log a ps → IsPayload p → Uses g a b → Uses g b c
      → LeavesOnly g a b (Tearing g a LogFile (log.gate + 1) (length (staging p))) → IsWritten g LogFile (log.gate + 1) (staging p) a b
      → LeavesOnly g b c (Tearing g b LogFile log.gate 1) → LeavesOnly g a c (Appending g a ps p)
  append_leaves a b c log ps p now st last uses then first written second =
      leaves_then g a b c (Appending g a ps p) uses then (frame_leaves a b log ps p st first) (gate_leaves a b c log ps p now st last uses first written second)

  -- and at its end the log stands for the list and the payload
  pub append_stands : (a b c : W) (log new : Log) (ps : List (List ℕ)) (p : List ℕ) → Stands g log a ps → IsPayload p → Uses g a b → Uses g b c
      → IsWritten g LogFile (log.gate + 1) (staging p) a b → IsWritten g LogFile log.gate (1 ∷ []) b c
      → new.gate ≡ log.gate + 5 + length p → new.extents.items ≡ log.extents.items ++ (record { at = log.gate + 5; len = length p }) ∷ [] → Stands g new c (ps ++ p ∷ [])
  append_stands a b c log new ps p st last uses then first second gate extents =
      let told : IsTrue (g.tells c) → IsTrue (g.tells a) = λ tells. tells_old a b uses (tells_old b c then tells) in
      let file : IsTrue (g.tells a) → LogHolds (overwritten (g.content b).log log.gate (1 ∷ [])) (ps ++ p ∷ []) = λ tells.
      gate_written ps p (g.content b).log log.gate
      (subst (λ (l : List ℕ). IsStaged l ps p) (sym (log_written (log.gate + 1) (staging p) a b first tells))
      (frame_written ps p (g.content a).log (log.gate + 1) (st.as_read tells) last (ap (λ (n : ℕ). n + 1) (st.gate tells))))
      (st.gate tells) in
      let e : Extent = record { at = log.gate + 5; len = length p } in
      let long : length (staging p) ≡ length p + 5 = length-append (spelled (length p)) (p ++ (0 ∷ [])) ∙ ap (λ (n : ℕ). 4 + n) (length-append p (0 ∷ [])) ∙ omega arith in
      let ends : log.gate + 5 + length p ≤ 2 ^ 62 = omega (arith, first.fits, long) in
      record {
        as_read = λ tells. subst (λ (l : List ℕ). LogHolds l (ps ++ p ∷ [])) (sym (log_written log.gate (1 ∷ []) b c second (subst IsTrue (sym uses.tells) (told tells)))) (file (told tells));
        left = λ honest tells f may.
            let was : g.honest b = then.honest.1 honest in
            subst (λ (l : List ℕ). LogHolds l (ps ++ p ∷ [])) (sym (second.durable was (tells_old b c then tells) f may)) (file (told tells));
        gate = λ tells. let more = length-frames_push ps p in omega (arith, gate, st.gate (told tells), more);
        extents = λ tells.
            extents ∙ ap (λ (es : List Extent). es ++ e ∷ []) (st.extents (told tells))
            ∙ ap (λ (a : ℕ). let x : Extent = record { at = a + 5; len = length p } in extents_from 8 ps ++ x ∷ []) (st.gate (told tells))
            ∙ sym (extents_push 8 ps p);
        fits = omega (arith, gate, ends);
        inside = subst (λ (es : List Extent). All IsInside es) (sym extents) (All-push IsInside log.extents.items e st.inside ends);
      }

  -- A restart.

  pub restart_leaves : (a b : W) (log : Log) (ps : List (List ℕ)) → Stands g log a ps → length log.extents.items ≢ 0
      → LeavesOnly g a b (Tearing g a LogFile 8 1) → LeavesOnly g a b (Restarting g a ps)
  restart_leaves a b log ps st some leaves =
      leaves_as g a b (Tearing g a LogFile 8 1) (Restarting g a ps)
      (λ f honest tells torn. (torn.0, torn.1, torn.2.other, torn_list ps (st.extents tells) torn.0.log f.log (st.left honest tells torn.0 torn.1) torn.2.torn))
      leaves
    where
      torn_list : (qs : List (List ℕ)) → log.extents.items ≡ extents_from 8 qs → (old new : List ℕ) → LogHolds old qs → Torn 8 1 old new → BeforeOrNone qs new
      torn_list [] none old new h torn = absurd (some (ap length none))
      torn_list (q ∷ qs) some old new h torn = first_torn q qs old new h torn

  pub restart_stands : (a b : W) (log new : Log) (ps : List (List ℕ)) → Stands g log a ps → Uses g a b → IsWritten g LogFile 8 (0 ∷ []) a b
      → new.gate ≡ 8 → new.extents.items ≡ [] → Stands g new b []
  restart_stands a b log new ps st uses written gate extents =
      let file : IsTrue (g.tells a) → LogHolds (overwritten (g.content a).log 8 (0 ∷ [])) [] = λ tells. first_written ps (g.content a).log (st.as_read tells) in
      record {
        as_read = λ tells. subst (λ (l : List ℕ). LogHolds l []) (sym (log_written 8 (0 ∷ []) a b written (tells_old a b uses tells))) (file (tells_old a b uses tells));
        left = λ honest tells f may. subst (λ (l : List ℕ). LogHolds l []) (sym (written.durable (uses.honest.1 honest) (tells_old a b uses tells) f may)) (file (tells_old a b uses tells));
        gate = λ tells. gate;
        extents = λ tells. extents;
        fits = omega (arith, gate);
        inside = subst (λ (es : List Extent). All IsInside es) (sym extents) (λ k d within. absurd (omega arith));
      }

  -- Looks.

  pub stands_read : (a b : W) (log : Log) (ps : List (List ℕ)) → IsLeftNow g b → Reads g a b → Stands g log a ps → Stands g log b ps
  stands_read a b log ps now reads st = record {
    as_read = λ tells. subst (λ (f : Files). LogHolds f.log ps) (sym reads.content) (st.as_read (tells_old a b reads.uses tells));
    left = λ honest tells f may.
        let was : g.honest a = reads.uses.honest.1 honest in
        let told : IsTrue (g.tells a) = tells_old a b reads.uses tells in
        st.left was told f (leaves_now g a b (g.may_leave a) now reads.uses reads.leaves was told f may);
    gate = λ tells. st.gate (tells_old a b reads.uses tells);
    extents = λ tells. st.extents (tells_old a b reads.uses tells);
    fits = st.fits;
    inside = st.inside;
  }

  -- Nothing was done.

  pub untouched_leaves : (a : W) (log : Log) (ps : List (List ℕ)) → ((f : Files) (s : List ℕ) → g.honest a → IsTrue (g.tells a) → g.left_since a (g.now a) f s → g.may_leave a f × (s ≡ g.told a))
      → Stands g log a ps → LeavesOnly g a a (Restarting g a ps)
  untouched_leaves a log ps only st = λ honest tells f s left.
      let now : g.may_leave a f × (s ≡ g.told a) = only f s honest tells left in
      ((f, now.0, refl, inl (st.left honest tells f now.0)), now.1)

  -- a log without payloads stands for the empty list
  pub none_stands : (a : W) (log : Log) (ps : List (List ℕ)) → Stands g log a ps → length log.extents.items ≡ 0 → Stands g log a []
  none_stands a log [] st none = st
  none_stands a log (p ∷ ps) st none = record {
    as_read = λ tells. absurd (many tells);
    left = λ honest tells f may. absurd (many tells);
    gate = λ tells. absurd (many tells);
    extents = λ tells. absurd (many tells);
    fits = st.fits;
    inside = st.inside;
  }
    where
      many : IsTrue (g.tells a) → ⊥
      many tells = let is = ap length (st.extents tells) in omega (arith, is, none)

  -- A new log.

  pub create_leaves : (a b c : W) (count : ℕ) → IsLeftNow g b → Reads g a b → Uses g b c → LeavesOnly g b c (Tearing g b LogFile 0 count) → LeavesOnly g a c (LeavesLog g a (λ log. Unit {0}))
  create_leaves a b c count now reads uses leaves =
      leaves_then g a b c (LeavesLog g a (λ log. Unit {0})) reads.uses uses
      (leaves_as g a b (g.may_leave a) (LeavesLog g a (λ log. Unit {0})) (λ f honest tells may. (f, may, refl, tt)) reads.leaves)
      (leaves_as g b c (Tearing g b LogFile 0 count) (LeavesLog g a (λ log. Unit {0}))
      (λ f honest tells torn.
      (torn.0, leaves_now g a b (g.may_leave a) now reads.uses reads.leaves (reads.uses.honest.1 honest) (tells_old a b reads.uses tells) torn.0 torn.1, torn.2.other, tt))
      leaves)

  pub create_durable : (a b c : W) (count : ℕ) → IsLeftNow g c → Reads g a b → Uses g b c → LeavesOnly g b c (Tearing g b LogFile 0 count)
      → (g.honest a → IsTrue (g.tells a) → (f : Files) → g.may_leave b f → f.pages ≡ (g.content a).pages)
      → g.honest a → IsTrue (g.tells a) → (f : Files) → g.may_leave c f → f.pages ≡ (g.content a).pages
  create_durable a b c count now reads uses leaves synced = λ honest tells f may.
      let torn : Tearing g b LogFile 0 count f =
      leaves_now g b c (Tearing g b LogFile 0 count) now uses leaves (reads.uses.honest.0 honest) (subst IsTrue (sym reads.uses.tells) tells) f may in
      torn.2.other ∙ synced honest tells torn.0 torn.1

  pub create_stands : (a b c : W) (log : Log) → Reads g a b → Uses g b c → (IsTrue (g.tells a) → (g.content a).log ≡ [])
      → IsWritten g LogFile 0 (75 ∷ 69 ∷ 89 ∷ 84 ∷ 76 ∷ 79 ∷ 71 ∷ 49 ∷ 0 ∷ []) b c → log.gate ≡ 8 → log.extents.items ≡ [] → Stands g log c []
  create_stands a b c log reads uses none written gate extents =
      let was : IsTrue (g.tells c) → IsTrue (g.tells b) = λ tells. tells_old b c uses tells in
      let file : IsTrue (g.tells b) → LogHolds (overwritten (g.content b).log 0 (75 ∷ 69 ∷ 89 ∷ 84 ∷ 76 ∷ 79 ∷ 71 ∷ 49 ∷ 0 ∷ [])) [] = λ tells.
      subst (λ (l : List ℕ). LogHolds (overwritten l 0 (75 ∷ 69 ∷ 89 ∷ 84 ∷ 76 ∷ 79 ∷ 71 ∷ 49 ∷ 0 ∷ [])) [])
      (sym (ap (λ (f : Files). f.log) reads.content ∙ none (tells_old a b reads.uses tells))) empty_written in
      record {
        as_read = λ tells. subst (λ (l : List ℕ). LogHolds l []) (sym (log_written 0 (75 ∷ 69 ∷ 89 ∷ 84 ∷ 76 ∷ 79 ∷ 71 ∷ 49 ∷ 0 ∷ []) b c written (was tells))) (file (was tells));
        left = λ honest tells f may. subst (λ (l : List ℕ). LogHolds l []) (sym (written.durable (uses.honest.1 honest) (was tells) f may)) (file (was tells));
        gate = λ tells. gate;
        extents = λ tells. extents;
        fits = omega (arith, gate);
        inside = subst (λ (es : List Extent). All IsInside es) (sym extents) (λ k d within. absurd (omega arith));
      }

  -- An opening: the file was synced, looked at, and its list found.
  pub open_stands : (a b : W) (log : Log) (ps : IsTrue (g.tells a) → List (List ℕ)) → IsLeftNow g b → Reads g a b
      → (g.honest a → IsTrue (g.tells a) → (f : Files) → g.may_leave a f → f.log ≡ (g.content a).log)
      → ((tells : IsTrue (g.tells a)) → LogHolds (g.content a).log (ps tells)) → ((tells : IsTrue (g.tells a)) → log.gate ≡ gate_behind 8 (ps tells))
      → ((tells : IsTrue (g.tells a)) → log.extents.items ≡ extents_from 8 (ps tells)) → log.gate ≤ 2 ^ 62 → All IsInside log.extents.items
      → (qs : List (List ℕ)) × Stands g log b qs
  open_stands a b log ps now reads synced held gate extents fits inside =
      or_none (g.tells a) refl
    where
      found : (t : IsTrue (g.tells a)) → Stands g log a (ps t)
      found t = record {
        as_read = λ tells. held t;
        left = λ honest tells f may. subst (λ (l : List ℕ). LogHolds l (ps t)) (sym (synced honest tells f may)) (held t);
        gate = λ tells. gate t;
        extents = λ tells. extents t;
        fits = fits;
        inside = inside;
      }

      or_none : (t : Bool) → g.tells a ≡ t → (qs : List (List ℕ)) × Stands g log b qs
      or_none true is = (ps is, stands_read a b log (ps is) now reads (found is))
      or_none false is = (
        [],
        record {
          as_read = λ tells. absurd (silent tells);
          left = λ honest tells f may. absurd (silent tells);
          gate = λ tells. absurd (silent tells);
          extents = λ tells. absurd (silent tells);
          fits = fits;
          inside = inside;
        },
      )
        where
          silent : IsTrue (g.tells b) → ⊥
          silent tells = let was : IsTrue (g.tells a) = tells_old a b reads.uses tells in cc

  -- no call at all
  pub reads_none : (a : W) → ((f : Files) (s : List ℕ) → g.honest a → IsTrue (g.tells a) → g.left_since a (g.now a) f s → g.may_leave a f × (s ≡ g.told a)) → Reads g a a
  reads_none a only = record {
    uses = record {
      tells = refl;
      honest = ((λ h. h), (λ h. h));
      time = record { later = omega arith; keeps = λ t f s le left. left; nothing_else = λ t f s le left. inl left };
      told = refl;
      disk = omega arith;
      sink = refl;
    };
    content = refl;
    leaves = λ honest tells f s left. only f s honest tells left;
  }
