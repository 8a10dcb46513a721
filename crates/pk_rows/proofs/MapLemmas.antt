-- What a look-up finds in the map of a list of entries, and after each change.
use Rattle.std.proofs.Common.{◌≡◌, ℕ, Bool, cond, List, [], ◌∷◌, Option, Some, None, sym, refl, ap, ◌∙◌}
use Rattle.std.specs.FinMap.{FinMap, get, insert, remove, from_entries, find, get-insert, get-remove, get-from_entries, same_map}
use Rattle.std.specs.BTreeMap.{is_at}
use Rattle.std.specs.Map.{lookup}
use Rattle.std.specs.Ordering.{eq_by_cmp}
use Rattle.std.specs.Cmp.{eq_by_cmp_equiv}
use Rattle.pk_rows.specs.declared.place.Place.{Place}
use Rattle.pk_rows.specs.Maps.{Map, place_cmp, bytes_at}
use Rattle.pk_rows.proofs.PlaceOrder.{place_total, place_exact}

-- the map of entries finds what a scan from the front finds
pub found_in : (es : List (Place × List ℕ)) (q : Place) → bytes_at (from_entries es) q ≡ lookup (is_at (place_cmp q)) es
found_in es q = get-from_entries place_total es q ∙ scanned es where
  scanned : (fs : List (Place × List ℕ)) → find place_cmp q fs ≡ lookup (is_at (place_cmp q)) fs
  scanned [] = refl
  scanned (f ∷ fs) = ap (cond (eq_by_cmp place_cmp q f.0) (Some f.1)) (scanned fs)

either_way : (k q : Place) → is_at (place_cmp k) q ≡ eq_by_cmp place_cmp q k
either_way k q = (eq_by_cmp_equiv place_total).symm k q

-- entries that find what is written at a place are those of the map with it
pub inserted : (es fs : List (Place × List ℕ)) (k : Place) (bytes : List ℕ)
    → ((q : Place) → lookup (is_at (place_cmp q)) fs ≡ cond (is_at (place_cmp k) q) (Some bytes) (lookup (is_at (place_cmp q)) es))
    → from_entries {R = place_cmp} fs ≡ insert (from_entries es) k bytes
inserted es fs k bytes h =
    same_map place_total place_exact _ _ (λ q. found_in fs q ∙ h q ∙ ap (λ b. cond b (Some bytes) (lookup (is_at (place_cmp q)) es)) (either_way k q)
    ∙ sym (get-insert place_total (from_entries es) k bytes q ∙ ap (cond (eq_by_cmp place_cmp q k) (Some bytes)) (found_in es q)))

-- and those that find nothing there are those of the map without it
pub removed : (es fs : List (Place × List ℕ)) (k : Place)
    → ((q : Place) → lookup (is_at (place_cmp q)) fs ≡ cond (is_at (place_cmp k) q) None (lookup (is_at (place_cmp q)) es))
    → from_entries {R = place_cmp} fs ≡ remove (from_entries es) k
removed es fs k h =
    same_map place_total place_exact _ _ (λ q. found_in fs q ∙ h q ∙ ap (λ b. cond b None (lookup (is_at (place_cmp q)) es)) (either_way k q)
    ∙ sym (get-remove place_total (from_entries es) k q ∙ ap (cond (eq_by_cmp place_cmp q k) None) (found_in es q)))

-- what the entries show is what stands in the map that they are
pub found : (es : List (Place × List ℕ)) (q : Place) (m : Map) (o : Option (List ℕ)) → m ≡ from_entries es → o ≡ lookup (is_at (place_cmp q)) es → o ≡ bytes_at m q
found es q m o is h = h ∙ sym (ap (λ n. bytes_at n q) is ∙ found_in es q)
