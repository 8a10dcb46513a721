-- What a record of calls comes to, when one call is added.
use Rattle.std.proofs.Common.{◌≡◌, ◌⊎◌, ℕ, ◌+◌, ◌<◌, ◌≤◌, Bool, true, false, ◌&&◌, List, [], ◌∷◌, ◌++◌, length, get_or, take, drop, is_ok, OnOk, Result, Ok, Err, if◌then◌else◌, refl, sym, ◌∙◌, ap, subst, inl, ⊎_elim, arith, append-nil}
use Rattle.std.specs.Prelude.{Vec}
use Rattle.std.specs.declared.alloc.Global.{Global}
use Rattle.std.proofs.lemmas.List.{take_more, drop_more, take_all, length_push}
use Rattle.pk_world.specs.declared.call.Call.{Call}
use Rattle.pk_world.specs.declared.call.Call.TheVariants.{Look, Write, Sync, Tell}
use Rattle.pk_world.specs.declared.left.Left.{Left}
use Rattle.pk_world.specs.declared.station.Which.{Which}
use Rattle.pk_world.specs.declared.station.Which.TheVariants.{Log, Pages}
use Rattle.pk_world.specs.Clock.{Passes}
use Rattle.pk_world.specs.Files.{Files, file_of, with_file, overwritten, TornIn}
use Rattle.pk_world.specs.History.{Moment, first_moment, step, after, begun, begun_first, state_of, seen_at, Reaches, MayLeave, IsLeftAt, IsLeftIn, LeftSince, IsRecorded}
use Rattle.pk_world.specs.Crash.{crashed, left_over}
use Rattle.pk_world.specs.MemoryLaws.{torn_kept, torn_done, left_in, since_keeps, since_else, since_last, now_since, read_after}

pub after_push : (m : Moment) (cs : List Call) (c : Call) → after m (cs ++ c ∷ []) ≡ step (after m cs) c
after_push m [] c = refl
after_push m (d ∷ ds) c = after_push (step m d) ds c

-- the calls up to one of them, and that one
pub after_more : (m : Moment) (cs : List Call) (i : ℕ) (c : Call) → i < length cs → c ≡ get_or cs i c → after m (take (i + 1) cs) ≡ step (after m (take i cs)) c
after_more m cs i c within is =
    ap (after m) (take_more cs i c within ∙ ap (λ (x : Call). take i cs ++ x ∷ []) (sym is)) ∙ after_push m (take i cs) c

-- the moment inside one of them
pub begun_at : (m : Moment) (cs : List Call) (i : ℕ) (c : Call) → i < length cs → c ≡ get_or cs i c → begun_first m (drop i cs) ≡ begun m c
begun_at m cs i c within is = ap (begun_first m) (drop_more cs i c within) ∙ ap (begun m) (sym is)

-- one file of those that a crash leaves
pub crashed_file : (left : Left) (m : Moment) (which : Which) → file_of (crashed left m) which ≡ left_over left (state_of m which).synced (state_of m which).writes
crashed_file left m Log = refl
crashed_file left m Pages = refl

-- the record after a call: with it, or as it was where there was no memory for it
abbrev pub noted_in : Bool → List Call → Call → List Call
noted_in noted cs c = if noted then cs ++ c ∷ [] else cs

-- What a call does to clock and moments.

passes_call : (m : Moment) (cs : List Call) (c : Call) (noted : Bool) → Passes (length cs) (length (noted_in noted cs c)) (LeftSince m cs) (LeftSince m (noted_in noted cs c))
passes_call m cs c true = record {
  later = omega (arith, length_push cs c);
  keeps = λ t f s le left. since_keeps m cs c t f s le left;
  nothing_else = λ t f s le left. since_else m cs c t f s le left;
}
passes_call m cs c false = record { later = omega arith; keeps = λ t f s le left. left; nothing_else = λ t f s le left. inl left }

pub passes : (m : Moment) (cs cs' : List Call) (c : Call) (noted : Bool) → cs' ≡ noted_in noted cs c → Passes (length cs) (length cs') (LeftSince m cs) (LeftSince m cs')
passes m cs cs' c noted is = subst (λ (ds : List Call). Passes (length cs) (length ds) (LeftSince m cs) (LeftSince m ds)) (sym is) (passes_call m cs c noted)

during_call : (m : Moment) (cs : List Call) (c : Call) (noted : Bool) (f : Files) (s : List ℕ) → LeftSince m (noted_in noted cs c) (length cs) f s
    → IsLeftIn (after m cs) c f s ⊎ IsLeftAt (step (after m cs) c) f s
during_call m cs c true f s left = since_last m cs c f s left
during_call m cs c false f s left = inl (left_in (after m cs) c f s (now_since m cs f s left))

during : (m : Moment) (cs cs' : List Call) (c : Call) (noted : Bool) (f : Files) (s : List ℕ) → cs' ≡ noted_in noted cs c → LeftSince m cs' (length cs) f s
    → IsLeftIn (after m cs) c f s ⊎ IsLeftAt (step (after m cs) c) f s
during m cs cs' c noted f s is left = during_call m cs c noted f s (subst (λ (ds : List Call). LeftSince m ds (length cs) f s) is left)

-- A look.

pub looks_during : (m : Moment) (cs cs' : List Call) (noted : Bool) (f : Files) (s told : List ℕ) → (after m cs).told ≡ told → cs' ≡ noted_in noted cs Look → LeftSince m cs' (length cs) f s
    → MayLeave (after m cs) f × (s ≡ told)
looks_during m cs cs' noted f s told so is left =
    ⊎_elim (λ inside. (inside.files, inside.told ∙ so)) (λ behind. (behind.files, behind.told ∙ so)) (during m cs cs' Look noted f s is left)

looks_call : (first : Files) (cs : List Call) (noted : Bool) (held : Files) (told : List ℕ) → IsRecorded first cs held told → IsRecorded first (noted_in noted cs Look) held told
looks_call first cs true held told so = record {
  log = ap (λ (m : Moment). m.log.seen) (after_push (first_moment first) cs Look) ∙ so.log;
  pages = ap (λ (m : Moment). m.pages.seen) (after_push (first_moment first) cs Look) ∙ so.pages;
  told = ap (λ (m : Moment). m.told) (after_push (first_moment first) cs Look) ∙ so.told;
}
looks_call first cs false held told so = so

pub looks_recorded : (first : Files) (cs cs' : List Call) (noted : Bool) (held : Files) (told : List ℕ) → cs' ≡ noted_in noted cs Look → IsRecorded first cs held told → IsRecorded first cs' held told
looks_recorded first cs cs' noted held told is so = subst (λ (ds : List Call). IsRecorded first ds held told) (sym is) (looks_call first cs noted held told so)

-- A write.

torn_leave : (m : Moment) (which : Which) (at : ℕ) (bytes : Vec ℕ Global) (done : Bool) (f : Files) → MayLeave (step m (Write which at bytes done)) f
    → (d : Files) × MayLeave m d × TornIn which at (length bytes.items) d f
torn_leave m Log at bytes done f left = (record { log = left.log.0; pages = f.pages }, record { log = left.log.1; pages = left.pages }, record { torn = left.log.2; other = refl })
torn_leave m Pages at bytes done f left = (record { log = f.log; pages = left.pages.0 }, record { log = left.log; pages = left.pages.1 }, record { torn = left.pages.2; other = refl })

pub told_kept : (m : Moment) (which : Which) (at : ℕ) (bytes : Vec ℕ Global) (done : Bool) → (step m (Write which at bytes done)).told ≡ m.told
told_kept m Log at bytes done = refl
told_kept m Pages at bytes done = refl

pub write_during : (m : Moment) (cs cs' : List Call) (which : Which) (at : ℕ) (bytes : Vec ℕ Global) (given : List ℕ) (done noted : Bool) (f : Files) (s told : List ℕ)
    → (after m cs).told ≡ told → bytes.items ≡ given → cs' ≡ noted_in noted cs (Write which at bytes done) → LeftSince m cs' (length cs) f s
    → ((d : Files) × MayLeave (after m cs) d × TornIn which at (length given) d f) × (s ≡ told)
write_during m cs cs' which at bytes given done noted f s told so copy is left =
    let c = Write which at bytes done in
    let torn : MayLeave (step (after m cs) c) f → (d : Files) × MayLeave (after m cs) d × TornIn which at (length given) d f =
    λ may. subst (λ (b : List ℕ). (d : Files) × MayLeave (after m cs) d × TornIn which at (length b) d f) copy (torn_leave (after m cs) which at bytes done f may) in
    ⊎_elim (λ inside. (torn inside.files, inside.told ∙ so))
    (λ behind. (torn behind.files, behind.told ∙ told_kept (after m cs) which at bytes done ∙ so))
    (during m cs cs' c noted f s is left)

-- the files after a write that was made or wasn't
abbrev pub put_in : Bool → Files → Which → ℕ → List ℕ → Files
put_in written held which at given = if written then with_file held which (overwritten (file_of held which) at given) else held

torn_put : (written : Bool) (held : Files) (which : Which) (at : ℕ) (given : List ℕ) → TornIn which at (length given) held (put_in written held which at given)
torn_put true held Log at given = record { torn = torn_done held.log at given; other = refl }
torn_put true held Pages at given = record { torn = torn_done held.pages at given; other = refl }
torn_put false held which at given = record { torn = torn_kept at (length given) (file_of held which); other = refl }

pub write_torn : (written : Bool) (held held' : Files) (which : Which) (at : ℕ) (given : List ℕ) → held' ≡ put_in written held which at given → TornIn which at (length given) held held'
write_torn written held held' which at given is = subst (λ (f : Files). TornIn which at (length given) held f) (sym is) (torn_put written held which at given)

-- a write that was noted: what the record comes to, in plain moments
write_step : (m : Moment) (which : Which) (at : ℕ) (bytes : Vec ℕ Global) (done : Bool) (held : Files) → m.log.seen ≡ held.log → m.pages.seen ≡ held.pages
    → ((step m (Write which at bytes done)).log.seen ≡ (put_in done held which at bytes.items).log) × ((step m (Write which at bytes done)).pages.seen ≡ (put_in done held which at bytes.items).pages)
write_step m Log at bytes true held log pages = (ap (λ (b : List ℕ). overwritten b at bytes.items) log, pages)
write_step m Log at bytes false held log pages = (log, pages)
write_step m Pages at bytes true held log pages = (log, ap (λ (b : List ℕ). overwritten b at bytes.items) pages)
write_step m Pages at bytes false held log pages = (log, pages)

write_call : (first : Files) (cs : List Call) (which : Which) (at : ℕ) (bytes : Vec ℕ Global) (done noted : Bool) (held : Files) (told : List ℕ) → IsRecorded first cs held told
    → IsRecorded first (noted_in noted cs (Write which at bytes done)) (put_in (done && noted) held which at bytes.items) told
write_call first cs which at bytes true true held told so =
    let c = Write which at bytes true in
    let files = write_step (after (first_moment first) cs) which at bytes true held so.log so.pages in
    record {
      log = ap (λ (m : Moment). m.log.seen) (after_push (first_moment first) cs c) ∙ files.0;
      pages = ap (λ (m : Moment). m.pages.seen) (after_push (first_moment first) cs c) ∙ files.1;
      told = ap (λ (m : Moment). m.told) (after_push (first_moment first) cs c) ∙ told_kept (after (first_moment first) cs) which at bytes true ∙ so.told;
    }
write_call first cs which at bytes false true held told so =
    let c = Write which at bytes false in
    let files = write_step (after (first_moment first) cs) which at bytes false held so.log so.pages in
    record {
      log = ap (λ (m : Moment). m.log.seen) (after_push (first_moment first) cs c) ∙ files.0;
      pages = ap (λ (m : Moment). m.pages.seen) (after_push (first_moment first) cs c) ∙ files.1;
      told = ap (λ (m : Moment). m.told) (after_push (first_moment first) cs c) ∙ told_kept (after (first_moment first) cs) which at bytes false ∙ so.told;
    }
write_call first cs which at bytes true false held told so = so
write_call first cs which at bytes false false held told so = so

pub write_recorded : (first : Files) (cs cs' : List Call) (which : Which) (at : ℕ) (bytes : Vec ℕ Global) (given : List ℕ) (done noted written : Bool) (held held' : Files) (told : List ℕ)
    → bytes.items ≡ given → cs' ≡ noted_in noted cs (Write which at bytes done) → written ≡ (done && noted) → held' ≡ put_in written held which at given
    → IsRecorded first cs held told → IsRecorded first cs' held' told
write_recorded first cs cs' which at bytes given done noted written held held' told copy is both put so =
    let files : held' ≡ put_in (done && noted) held which at bytes.items =
    put ∙ ap (λ (b : Bool). put_in b held which at given) both ∙ ap (λ (b : List ℕ). put_in (done && noted) held which at b) (sym copy) in
    subst (λ (ds : List Call). IsRecorded first ds held' told) (sym is)
    (subst (λ (f : Files). IsRecorded first (noted_in noted cs (Write which at bytes done)) f told) (sym files) (write_call first cs which at bytes done noted held told so))

-- A sync.

sync_files : (m : Moment) (which : Which) (done : Bool) (f : Files) → MayLeave m (seen_at m) → MayLeave (step m (Sync which done)) f → MayLeave m f
sync_files m Log true f seen left = record { log = subst (λ (b : List ℕ). Reaches m.log.synced m.log.writes b) (sym left.log) seen.log; pages = left.pages }
sync_files m Pages true f seen left = record { log = left.log; pages = subst (λ (b : List ℕ). Reaches m.pages.synced m.pages.writes b) (sym left.pages) seen.pages }
sync_files m which false f seen left = left

sync_told : (m : Moment) (which : Which) (done : Bool) → (step m (Sync which done)).told ≡ m.told
sync_told m Log true = refl
sync_told m Pages true = refl
sync_told m which false = refl

sync_seen : (m : Moment) (which : Which) (done : Bool) → seen_at (step m (Sync which done)) ≡ seen_at m
sync_seen m Log true = refl
sync_seen m Pages true = refl
sync_seen m which false = refl

pub sync_during : (first : Files) (cs cs' : List Call) (which : Which) (done noted : Bool) (f : Files) (s told : List ℕ)
    → (after (first_moment first) cs).told ≡ told → cs' ≡ noted_in noted cs (Sync which done) → LeftSince (first_moment first) cs' (length cs) f s
    → MayLeave (after (first_moment first) cs) f × (s ≡ told)
sync_during first cs cs' which done noted f s told so is left =
    let m = after (first_moment first) cs in
    let seen : MayLeave m (seen_at m) = read_after (first_moment first) cs (record { log = refl; pages = refl }) in
    ⊎_elim (λ inside. (inside.files, inside.told ∙ so))
    (λ behind. (sync_files m which done f seen behind.files, behind.told ∙ sync_told m which done ∙ so))
    (during (first_moment first) cs cs' (Sync which done) noted f s is left)

sync_call : (first : Files) (cs : List Call) (which : Which) (done noted : Bool) (held : Files) (told : List ℕ) → IsRecorded first cs held told → IsRecorded first (noted_in noted cs (Sync which done)) held told
sync_call first cs which done true held told so =
    let m = after (first_moment first) cs in
    record {
      log = ap (λ (n : Moment). n.log.seen) (after_push (first_moment first) cs (Sync which done)) ∙ ap (λ (x : Files). x.log) (sync_seen m which done) ∙ so.log;
      pages = ap (λ (n : Moment). n.pages.seen) (after_push (first_moment first) cs (Sync which done)) ∙ ap (λ (x : Files). x.pages) (sync_seen m which done) ∙ so.pages;
      told = ap (λ (n : Moment). n.told) (after_push (first_moment first) cs (Sync which done)) ∙ sync_told m which done ∙ so.told;
    }
sync_call first cs which done false held told so = so

pub sync_recorded : (first : Files) (cs cs' : List Call) (which : Which) (done noted : Bool) (held : Files) (told : List ℕ) → cs' ≡ noted_in noted cs (Sync which done)
    → IsRecorded first cs held told → IsRecorded first cs' held told
sync_recorded first cs cs' which done noted held told is so = subst (λ (ds : List Call). IsRecorded first ds held told) (sym is) (sync_call first cs which done noted held told so)

durable_at : (m : Moment) (which : Which) (f : Files) → MayLeave (step m (Sync which true)) f → file_of f which ≡ file_of (seen_at m) which
durable_at m Log f left = left.log
durable_at m Pages f left = left.pages

held_at : (m : Moment) (held : Files) (which : Which) → m.log.seen ≡ held.log → m.pages.seen ≡ held.pages → file_of (seen_at m) which ≡ file_of held which
held_at m held Log log pages = log
held_at m held Pages log pages = pages

durable_call : (first : Files) (cs : List Call) (which : Which) (done noted : Bool) (held : Files) (told : List ℕ) (f : Files) → IsRecorded first cs held told → (done && noted) ≡ true
    → MayLeave (after (first_moment first) (noted_in noted cs (Sync which done))) f → file_of f which ≡ file_of held which
durable_call first cs which true true held told f so both left =
    let m = after (first_moment first) cs in
    durable_at m which f (subst (λ (n : Moment). MayLeave n f) (after_push (first_moment first) cs (Sync which true)) left) ∙ held_at m held which so.log so.pages
durable_call first cs which true false held told f so both left = cc
durable_call first cs which false true held told f so both left = cc
durable_call first cs which false false held told f so both left = cc

pub sync_durable : (first : Files) (cs cs' : List Call) (which : Which) (done noted : Bool) (held : Files) (told : List ℕ) (f : Files) → cs' ≡ noted_in noted cs (Sync which done)
    → IsRecorded first cs held told → (done && noted) ≡ true → MayLeave (after (first_moment first) cs') f → file_of f which ≡ file_of held which
sync_durable first cs cs' which done noted held told f is so both left =
    durable_call first cs which done noted held told f so both (subst (λ (ds : List Call). MayLeave (after (first_moment first) ds) f) is left)

-- A tell.

-- the sink after a tell that was done or wasn't
abbrev pub told_in : Bool → List ℕ → List ℕ → List ℕ
told_in done told given = if done then told ++ given else told

front_of : (done : Bool) (told given : List ℕ) → (n : ℕ) × (n ≤ length given) × (told_in done told given ≡ told ++ take n given)
front_of true told given = (length given, omega arith, ap (λ (b : List ℕ). told ++ b) (sym (take_all (length given) given (omega arith))))
front_of false told given = (0, omega arith, sym (append-nil told))

pub tell_front : (done : Bool) (told told' given : List ℕ) → told' ≡ told_in done told given → (n : ℕ) × (n ≤ length given) × (told' ≡ told ++ take n given)
tell_front done told told' given is = let front = front_of done told given in (front.0, front.1, is ∙ front.2)

pub tell_during : (m : Moment) (cs cs' : List Call) (bytes : Vec ℕ Global) (given : List ℕ) (done noted : Bool) (f : Files) (s told : List ℕ)
    → (after m cs).told ≡ told → bytes.items ≡ given → cs' ≡ noted_in noted cs (Tell bytes done) → LeftSince m cs' (length cs) f s
    → MayLeave (after m cs) f × ((n : ℕ) × (n ≤ length given) × (s ≡ told ++ take n given))
tell_during m cs cs' bytes given done noted f s told so copy is left =
    subst (λ (b : List ℕ). MayLeave (after m cs) f × ((n : ℕ) × (n ≤ length b) × (s ≡ told ++ take n b))) copy
    (⊎_elim
    (λ inside. (inside.files, (inside.told.0, inside.told.1, inside.told.2 ∙ ap (λ (b : List ℕ). b ++ take inside.told.0 bytes.items) so)))
    (λ behind. (record { log = behind.files.log; pages = behind.files.pages }, tell_front done told s bytes.items (behind.told ∙ ap (λ (b : List ℕ). told_in done b bytes.items) so)))
    (during m cs cs' (Tell bytes done) noted f s is left))

tell_call : (first : Files) (cs : List Call) (bytes : Vec ℕ Global) (done noted : Bool) (held : Files) (told : List ℕ) → IsRecorded first cs held told
    → IsRecorded first (noted_in noted cs (Tell bytes done)) held (told_in (done && noted) told bytes.items)
tell_call first cs bytes true true held told so = record {
  log = ap (λ (m : Moment). m.log.seen) (after_push (first_moment first) cs (Tell bytes true)) ∙ so.log;
  pages = ap (λ (m : Moment). m.pages.seen) (after_push (first_moment first) cs (Tell bytes true)) ∙ so.pages;
  told = ap (λ (m : Moment). m.told) (after_push (first_moment first) cs (Tell bytes true)) ∙ ap (λ (b : List ℕ). b ++ bytes.items) so.told;
}
tell_call first cs bytes false true held told so = record {
  log = ap (λ (m : Moment). m.log.seen) (after_push (first_moment first) cs (Tell bytes false)) ∙ so.log;
  pages = ap (λ (m : Moment). m.pages.seen) (after_push (first_moment first) cs (Tell bytes false)) ∙ so.pages;
  told = ap (λ (m : Moment). m.told) (after_push (first_moment first) cs (Tell bytes false)) ∙ so.told;
}
tell_call first cs bytes true false held told so = so
tell_call first cs bytes false false held told so = so

pub tell_recorded : (first : Files) (cs cs' : List Call) (bytes : Vec ℕ Global) (given : List ℕ) (done noted all : Bool) (held : Files) (told told' : List ℕ)
    → bytes.items ≡ given → cs' ≡ noted_in noted cs (Tell bytes done) → all ≡ (done && noted) → told' ≡ told_in all told given
    → IsRecorded first cs held told → IsRecorded first cs' held told'
tell_recorded first cs cs' bytes given done noted all held told told' copy is both grown so =
    let sink : told' ≡ told_in (done && noted) told bytes.items =
    grown ∙ ap (λ (b : Bool). told_in b told given) both ∙ ap (λ (b : List ℕ). told_in (done && noted) told b) (sym copy) in
    subst (λ (ds : List Call). IsRecorded first ds held told') (sym is)
    (subst (λ (b : List ℕ). IsRecorded first (noted_in noted cs (Tell bytes done)) held b) (sym sink) (tell_call first cs bytes done noted held told so))

-- What holds where a call was done holds at `Ok`.
pub on_ok : {T E : Type 0} (r : Result T E) (done : Bool) (P : Type 0) → is_ok r ≡ done → (done ≡ true → P) → OnOk r P
on_ok (Ok v) done P is holds = holds (sym is)
on_ok (Err e) done P is holds = tt

-- the files, over those that were there before room was made
pub put_over : (written : Bool) (before room held' : Files) (which : Which) (at : ℕ) (given : List ℕ) → held' ≡ put_in written room which at given → room ≡ before → held' ≡ put_in written before which at given
put_over written before room held' which at given put same = put ∙ ap (λ (f : Files). put_in written f which at given) same

-- the same for the sink
pub told_over : (all : Bool) (before room told' given : List ℕ) → told' ≡ told_in all room given → room ≡ before → told' ≡ told_in all before given
told_over all before room told' given grown same = grown ∙ ap (λ (b : List ℕ). told_in all b given) same
