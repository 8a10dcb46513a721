-- What a look at a payload gives.
use Rattle.std.proofs.Common.{◌≡◌, ℕ, ◌<◌, ◌≤◌, List, [], ◌++◌, length, get_or, take, drop, Result, Ok, Err, OnOk, IsTrue, ◌∙◌, sym, ap, subst, arith}
use Rattle.std.proofs.lemmas.List.{get_or_default, take_all, take_at}
use Rattle.pk_world.specs.declared.station.Station.{Ghosts}
use Rattle.pk_gate.specs.declared.extent.Extent.{Extent}
use Rattle.pk_gate.specs.declared.log.Log.{Log}
use Rattle.pk_gate.specs.Stands.{Stands, len_at}
use Rattle.pk_gate.proofs.Frames.{count_extents}
use Rattle.pk_gate.proofs.Lies.{lies}

-- what follows at `Ok` from what holds there
pub then_reads : {T E : Type 0} (r : Result T E) (P Q : Type 0) → OnOk r P → (P → Q) → OnOk r Q
then_reads (Ok v) P Q holds turn = turn holds
then_reads (Err e) P Q holds turn = tt

-- what is at most as long as payload k is at most as long as its extent
pub len_is : (log : Log) (k : ℕ) (e : Extent) → k < length log.extents.items → e ≡ get_or log.extents.items k e → (n : ℕ) → n ≤ len_at log k → n ≤ e.len
len_is log k e within is n fits =
    subst (λ (x : Extent). n ≤ x.len) (get_or_default log.extents.items k (record { at = 0; len = 0 }) e within ∙ sym is) fits

-- a payload is as long as the log says
pub len_payload : {W : Type 0} (g : Ghosts W) (log : Log) (station : W) (ps : List (List ℕ)) (k : ℕ) → Stands g log station ps → IsTrue (g.tells station) → k < length log.extents.items → len_at log k ≡ length (get_or ps k [])
len_payload g log station ps k st tells within =
    let none : Extent = record { at = 0; len = 0 } in
    let e = get_or log.extents.items k none in
    (lies (g.content station).log ps log.extents.items k e (st.as_read tells) (st.extents tells) within (get_or_default log.extents.items k none e within)).len

-- as many
pub count_payloads : {W : Type 0} (g : Ghosts W) (log : Log) (station : W) (ps : List (List ℕ)) → Stands g log station ps → IsTrue (g.tells station) → length log.extents.items ≡ length ps
count_payloads g log station ps st tells = ap length (st.extents tells) ∙ count_extents 8 ps

-- a room that was filled with a whole payload
pub read_whole : (made items room p : List ℕ) (len n : ℕ) → made ≡ take len (room ++ drop (length room) items) → room ≡ take n p → n ≡ length p → len ≡ length p → made ≡ p
read_whole made items room p len n is filled all long =
    let whole : room ≡ p = filled ∙ take_all n p (omega (arith, all)) in
    is ∙ take_at room (drop (length room) items) len (ap length whole ∙ sym long) ∙ whole
