-- What stands at each place after a commit, and loops that make one.
use Rattle.std.proofs.Common.{◌≡◌, ℕ, suc, ◌+◌, ◌<◌, Bool, true, false, cond, if◌then◌else◌, ◌||◌, List, [], ◌∷◌, length, get_or, drop, drop-cons, add-one, Option, Some, None, sym, refl, ap, ◌∙◌}
use Rattle.std.specs.Map.{lookup}
use Rattle.std.specs.BTreeMap.{is_at}
use Rattle.std.specs.FinMap.{from_entries, insert, remove, get-insert, get-remove}
use Rattle.std.specs.Ordering.{eq_by_cmp}
use Rattle.pk_rows.specs.declared.place.Place.{Place}
use Rattle.pk_rows.specs.declared.stored.Stored.{Stored}
use Rattle.pk_rows.specs.declared.batch.Batch.{Batch}
use Rattle.pk_rows.specs.Maps.{Map, place_cmp, bytes_at, without, with_all, committed}
use Rattle.pk_rows.specs.Laws.{put_or, is_among, CommitsAreToldByPlace}
use Rattle.pk_rows.proofs.MapLemmas.{inserted, removed}
use Rattle.pk_rows.proofs.PlaceOrder.{place_total}

shadowed : (a b : Bool) (o : Option (List ℕ)) → (if b then None else cond a None o) ≡ (if a || b then None else o)
shadowed true true o = refl
shadowed true false o = refl
shadowed false b o = refl

without_at : (places : List Place) (m : Map) (q : Place) → bytes_at (without places m) q ≡ (if is_among q places then None else bytes_at m q)
without_at [] m q = refl
without_at (p ∷ ps) m q =
    without_at ps (remove m p) q ∙ ap (λ o. if is_among q ps then None else o) (get-remove place_total m p q)
    ∙ shadowed (eq_by_cmp place_cmp q p) (is_among q ps) (bytes_at m q)

with_at : (put : List Stored) (m : Map) (q : Place) → bytes_at (with_all put m) q ≡ put_or put q (bytes_at m q)
with_at [] m q = refl
with_at (s ∷ ss) m q = with_at ss (insert m s.place s.bytes) q ∙ ap (put_or ss q) (get-insert place_total m s.place s.bytes q)

pub told_by_place : CommitsAreToldByPlace
told_by_place batch m q = with_at batch.put (without batch.gone m) q ∙ ap (put_or batch.put q) (without_at batch.gone m q)

-- One place more is taken out.
pub one_out : (i : ℕ) (gone : List Place) (d : Place) (es fs : List (Place × List ℕ)) → i < length gone
    → ((q : Place) → lookup (is_at (place_cmp q)) fs ≡ cond (is_at (place_cmp (get_or gone i d)) q) None (lookup (is_at (place_cmp q)) es))
    → without (drop (i + 1) gone) (from_entries fs) ≡ without (drop i gone) (from_entries es)
one_out i gone d es fs within h =
    ap (λ n. without (drop n gone) (from_entries fs)) (add-one i) ∙ ap (without (drop (suc i) gone)) (removed es fs (get_or gone i d) h)
    ∙ ap (λ ps. without ps (from_entries es)) (sym (drop-cons gone i d within))

-- One is put.
pub one_put : (i : ℕ) (put : List Stored) (s : Stored) (es fs : List (Place × List ℕ)) → i < length put → s ≡ get_or put i s
    → ((q : Place) → lookup (is_at (place_cmp q)) fs ≡ cond (is_at (place_cmp s.place) q) (Some s.bytes) (lookup (is_at (place_cmp q)) es))
    → with_all (drop (i + 1) put) (from_entries fs) ≡ with_all (drop i put) (from_entries es)
one_put i put s es fs within is h =
    ap (λ n. with_all (drop n put) (from_entries fs)) (add-one i) ∙ ap (with_all (drop (suc i) put)) (inserted es fs s.place s.bytes h)
    ∙ ap (λ ss. with_all ss (from_entries es)) (ap (λ x. x ∷ drop (suc i) put) is ∙ sym (drop-cons put i s within))
