-- Whether rows ascend, as a loop over them sees it.
use Rattle.std.proofs.Common.{◌≡◌, ℕ, ◌+◌, ◌≤◌, ◌<◌, List, ◌∷◌, length, get_or, drop, ap, sym, subst, ◌∙◌}
use Rattle.std.proofs.lemmas.List.{drop_more, drop_all}
use Rattle.pk_values.specs.declared.placed.Placed.{Placed}
use Rattle.pk_exec.specs.Rows.{AscendFrom}
use Rattle.pk_snapshot.proofs.RisingLemmas.{Rising, from_rising}

pub one_more : (ps : List Placed) (i last : ℕ) (p : Placed) → i < length ps → p ≡ get_or ps i p → last + 1 ≤ p.id
    → (Rising (last + 1) (drop i ps) → Rising 1 ps) → Rising (p.id + 1) (drop (i + 1) ps) → Rising 1 ps
one_more ps i last p within is later all up =
    all (subst (λ (qs : List Placed). Rising (last + 1) qs) (sym (drop_more ps i p within ∙ ap (λ (x : Placed). x ∷ drop (i + 1) ps) (sym is))) (later, up))

pub none_left : (ps : List Placed) (i last : ℕ) → length ps ≤ i → (Rising (last + 1) (drop i ps) → Rising 1 ps) → AscendFrom 1 ps
none_left ps i last past all = from_rising 1 ps (all (subst (λ (qs : List Placed). Rising (last + 1) qs) (sym (drop_all i ps past)) tt))
