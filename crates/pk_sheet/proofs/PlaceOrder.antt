-- The order of places, by table and then by id.
use Rattle.std.proofs.Common.{◌≡◌, ℕ, sym, ap, ◌∙◌}
use Rattle.std.specs.Cmp.{IsTotalOrder}
use Rattle.std.specs.Ordering.{nat_cmp, ordering_reverse}
use Rattle.std.specs.declared.cmp.Ordering.{Ordering}
use Rattle.std.specs.declared.cmp.Ordering.TheVariants.{Less, Equal, Greater}
use Rattle.std.proofs.lemmas.Cmp.{nat_cmp_total, on_total, then_total}
use Rattle.std.proofs.lemmas.Map.Lookups.{CmpEqualImpliesEq, exact_unsigned, exact_pairs}
use Rattle.pk_rows.specs.declared.place.Place.{Place}
use Rattle.pk_rows.specs.Maps.{place_cmp}

pub place_total : IsTotalOrder place_cmp
place_total = then_total (on_total (λ p. p.table) nat_cmp_total) (on_total (λ p. p.id) nat_cmp_total)

-- places that compare alike are one
pub place_exact : CmpEqualImpliesEq place_cmp
place_exact a b h =
    ap (λ (p : ℕ × ℕ). record { table = p.0; id = p.1 }) (exact_pairs nat_cmp nat_cmp exact_unsigned exact_unsigned (a.table, a.id) (b.table, b.id) h)

-- ---- from the other side

pub turned : (a b : Place) (o : Ordering) → place_cmp a b ≡ o → place_cmp b a ≡ ordering_reverse o
turned a b o is = place_total.antisymm b a ∙ ap ordering_reverse is

-- ---- along places that ascend

-- what is above a place that isn't below another is above that other
pub above_tied : (x y p : Place) → place_cmp x y ≡ Less → place_cmp x p ≡ Equal → place_cmp y p ≡ Greater
above_tied x y p less tied = turned p y Less (sym (place_total.congr x p y tied) ∙ less)

pub above_greater : (x y p : Place) → place_cmp x y ≡ Less → place_cmp x p ≡ Greater → place_cmp y p ≡ Greater
above_greater x y p less greater = turned p y Less (place_total.trans p x y (turned x p Greater greater) less)

-- what is below a place is below what is above it
pub across : (x y p : Place) → place_cmp x p ≡ Less → place_cmp y p ≡ Greater → place_cmp x y ≡ Less
across x y p low high = place_total.trans x p y low (turned y p Greater high)
