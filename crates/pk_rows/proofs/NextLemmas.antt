-- What the first entry above a place says of the map.
use Rattle.std.proofs.Common.{◌≡◌, ℕ, List, [], ◌∷◌, Some, None, is_some, sym, ap, ◌∙◌, subst}
use Rattle.std.specs.BTreeMap.{BTreeMap}
use Rattle.std.specs.BTreeMap.Range.{IsRangeOf}
use Rattle.std.specs.FinMap.{from_entries}
use Rattle.std.specs.declared.ops.Bound.TheVariants.{Excluded, Unbounded}
use Rattle.pk_rows.specs.declared.place.Place.{Place}
use Rattle.pk_rows.specs.Maps.{place_cmp, IsNextAbove}
use Rattle.pk_rows.proofs.MapLemmas.{found_in}

pub next_found : (rows : BTreeMap Place (List ℕ)) (p : Place) (r : List (Place × List ℕ)) (e : Place × List ℕ) (rest : List (Place × List ℕ))
    → IsRangeOf place_cmp (Excluded p) Unbounded rows r → r ≡ e ∷ rest → IsNextAbove (from_entries rows.entries) p (Some e.0)
next_found rows p r e rest h is =
    let g = subst (IsRangeOf place_cmp (Excluded p) Unbounded rows) is h in
    (g.1.0.0, ap is_some (found_in rows.entries e.0 ∙ g.1.1), λ q a b. g.2 q (a, tt) (sym (ap is_some (found_in rows.entries q)) ∙ b))

pub next_none : (rows : BTreeMap Place (List ℕ)) (p : Place) (r : List (Place × List ℕ))
    → IsRangeOf place_cmp (Excluded p) Unbounded rows r → r ≡ [] → IsNextAbove (from_entries rows.entries) p None
next_none rows p r h is q a = found_in rows.entries q ∙ h.5 is q (a, tt)
