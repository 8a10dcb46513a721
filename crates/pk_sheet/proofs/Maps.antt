-- The map of records by ascending places, and what changes of them make of it.
use Rattle.std.proofs.Common.{◌≡◌, refl, sym, ◌∙◌, ap, subst, ℕ, Bool, true, false, cond, if◌then◌else◌, List, [], ◌∷◌, ◌++◌, Option, Some, None}
use Rattle.std.specs.FinMap.{empty, insert, remove, get-empty, get-insert, get-remove, same_map}
use Rattle.std.specs.Option.{option_map}
use Rattle.std.specs.Ordering.{is_eq, eq_by_cmp}
use Rattle.std.specs.declared.cmp.Ordering.{Ordering}
use Rattle.std.specs.declared.cmp.Ordering.TheVariants.{Less, Equal, Greater}
use Rattle.std.proofs.lemmas.Cmp.{tied_itself}
use Rattle.pk_rows.specs.declared.place.Place.{Place}
use Rattle.pk_rows.specs.declared.stored.Stored.{Stored}
use Rattle.pk_rows.specs.Laws.{put_or}
use Rattle.pk_rows.specs.Maps.{Map, place_cmp, bytes_at, with_all}
use Rattle.pk_sheet.specs.Laws.{SheetsAreMaps}
use Rattle.pk_sheet.specs.Sheets.{PlacesAscend, record_at, below, above, with_record, without_place, map_of}
use Rattle.pk_sheet.proofs.ByPlace.{AreAll, below_is, above_is, parted, parted_at}
use Rattle.pk_sheet.proofs.PlaceOrder.{place_total, place_exact, turned}

-- ---- what records put at a place

with_at : (xs : List Stored) (m : Map) (q : Place) → bytes_at (with_all xs m) q ≡ put_or xs q (bytes_at m q)
with_at [] m q = refl
with_at (x ∷ xs) m q = with_at xs (insert m x.place x.bytes) q ∙ ap (put_or xs q) (get-insert place_total m x.place x.bytes q)

put_joined : (xs ys : List Stored) (q : Place) (o : Option (List ℕ)) → put_or (xs ++ ys) q o ≡ put_or ys q (put_or xs q o)
put_joined [] ys q o = refl
put_joined (x ∷ xs) ys q o = put_joined xs ys q (if eq_by_cmp place_cmp q x.place then Some x.bytes else o)

-- records that are all below a place put nothing there, nor do those above it
put_below : (p : Place) (xs : List Stored) (o : Option (List ℕ)) → AreAll Less p xs → put_or xs p o ≡ o
put_below p [] o all = refl
put_below p (x ∷ xs) o all = rw (turned x.place p Less all.0) (put_below p xs o all.1)

put_above : (p : Place) (xs : List Stored) (o : Option (List ℕ)) → AreAll Greater p xs → put_or xs p o ≡ o
put_above p [] o all = refl
put_above p (x ∷ xs) o all = rw (turned x.place p Greater all.0) (put_above p xs o all.1)

-- what stands at a place in the map of two lists, and of these with a record between
module _ (xs ys : List Stored) (q : Place) where
  two_at : bytes_at (map_of (xs ++ ys)) q ≡ put_or ys q (put_or xs q None)
  two_at = with_at (xs ++ ys) empty q ∙ ap (put_or (xs ++ ys) q) (get-empty place_cmp q) ∙ put_joined xs ys q None

  three_at : (s : Stored) → bytes_at (map_of (xs ++ (s ∷ ys))) q ≡ put_or ys q (if eq_by_cmp place_cmp q s.place then Some s.bytes else put_or xs q None)
  three_at s = with_at (xs ++ (s ∷ ys)) empty q ∙ ap (put_or (xs ++ (s ∷ ys)) q) (get-empty place_cmp q) ∙ put_joined xs (s ∷ ys) q None

tied : (a b : Place) → eq_by_cmp place_cmp a b ≡ true → a ≡ b
tied a b is = place_exact a b (equal (place_cmp a b) is)
  where
    equal : (o : Ordering) → is_eq o ≡ true → o ≡ Equal
    equal Less is = absurd cc
    equal Equal is = refl
    equal Greater is = absurd cc

-- ---- look-ups

-- nothing stands at a place between two lists
none_between : (p : Place) (xs : List Stored) → put_or (above p xs) p (put_or (below p xs) p None) ≡ None
none_between p xs = put_above p (above p xs) _ (above_is p xs) ∙ put_below p (below p xs) None (below_is p xs)

found : (xs : List Stored) (p : Place) → PlacesAscend xs → bytes_at (map_of xs) p ≡ option_map (λ (s : Stored). s.bytes) (record_at p xs)
found xs p ascend = by (record_at p xs) refl
  where
    by : (o : Option Stored) → record_at p xs ≡ o → bytes_at (map_of xs) p ≡ option_map (λ (s : Stored). s.bytes) o
    by None none = ap (λ (ys : List Stored). bytes_at (map_of ys) p) (parted p xs ascend none) ∙ two_at (below p xs) (above p xs) p ∙ none_between p xs
    by (Some s) some =
        let w = parted_at p xs s ascend some in
        let same : eq_by_cmp place_cmp p s.place ≡ true = rw w.0 (ap is_eq (tied_itself place_total p)) in
        ap (λ (ys : List Stored). bytes_at (map_of ys) p) w.1 ∙ three_at (below p xs) (above p xs) p s
        ∙ rw same (put_above p (above p xs) (Some s.bytes) (above_is p xs))

-- ---- changes

added : (xs : List Stored) (s : Stored) → PlacesAscend xs → record_at s.place xs ≡ None → map_of (with_record s xs) ≡ insert (map_of xs) s.place s.bytes
added xs s ascend none = same_map place_total place_exact _ _ (λ q. at q)
  where
    by : (q : Place) (b : Bool) → eq_by_cmp place_cmp q s.place ≡ b
        → put_or (above s.place xs) q (if b then Some s.bytes else put_or (below s.place xs) q None)
        ≡ cond b (Some s.bytes) (put_or (above s.place xs) q (put_or (below s.place xs) q None))
    by q true is = put_above q (above s.place xs) (Some s.bytes) (subst (λ p. AreAll Greater p (above s.place xs)) (sym (tied q s.place is)) (above_is s.place xs))
    by q false is = refl

    at : (q : Place) → bytes_at (map_of (with_record s xs)) q ≡ bytes_at (insert (map_of xs) s.place s.bytes) q
    at q =
        three_at (below s.place xs) (above s.place xs) q s ∙ by q (eq_by_cmp place_cmp q s.place) refl
        ∙ sym (get-insert place_total (map_of xs) s.place s.bytes q
        ∙ ap (λ (o : Option (List ℕ)). cond (eq_by_cmp place_cmp q s.place) (Some s.bytes) o)
        (ap (λ (ys : List Stored). bytes_at (map_of ys) q) (parted s.place xs ascend none) ∙ two_at (below s.place xs) (above s.place xs) q))

removed : (xs : List Stored) (p : Place) → PlacesAscend xs → map_of (without_place p xs) ≡ remove (map_of xs) p
removed xs p ascend = same_map place_total place_exact _ _ (λ q. two_at (below p xs) (above p xs) q ∙ by q (record_at p xs) refl ∙ sym (get-remove place_total (map_of xs) p q))
  where
    none_at : (q : Place) → eq_by_cmp place_cmp q p ≡ true → put_or (above p xs) q (put_or (below p xs) q None) ≡ None
    none_at q is = subst (λ r. put_or (above p xs) r (put_or (below p xs) r None) ≡ None) (sym (tied q p is)) (none_between p xs)

    left : (q : Place) (b : Bool) → eq_by_cmp place_cmp q p ≡ b
        → put_or (above p xs) q (put_or (below p xs) q None) ≡ cond b None (put_or (above p xs) q (put_or (below p xs) q None))
    left q true is = none_at q is
    left q false is = refl

    left_of : (q : Place) (s : Stored) (b : Bool) → eq_by_cmp place_cmp q p ≡ b
        → put_or (above p xs) q (put_or (below p xs) q None) ≡ cond b None (put_or (above p xs) q (if b then Some s.bytes else put_or (below p xs) q None))
    left_of q s true is = none_at q is
    left_of q s false is = refl

    by : (q : Place) (o : Option Stored) → record_at p xs ≡ o
        → put_or (above p xs) q (put_or (below p xs) q None) ≡ cond (eq_by_cmp place_cmp q p) None (bytes_at (map_of xs) q)
    by q None none =
        left q (eq_by_cmp place_cmp q p) refl
        ∙ ap (λ (o : Option (List ℕ)). cond (eq_by_cmp place_cmp q p) None o)
        (sym (ap (λ (ys : List Stored). bytes_at (map_of ys) q) (parted p xs ascend none) ∙ two_at (below p xs) (above p xs) q))
    by q (Some s) some =
        let w = parted_at p xs s ascend some in
        left_of q s (eq_by_cmp place_cmp q p) refl
        ∙ ap (λ (o : Option (List ℕ)). cond (eq_by_cmp place_cmp q p) None o)
        (sym (ap (λ (ys : List Stored). bytes_at (map_of ys) q) w.1 ∙ three_at (below p xs) (above p xs) q s
        ∙ ap (λ (r : Place). put_or (above p xs) q (if eq_by_cmp place_cmp q r then Some s.bytes else put_or (below p xs) q None)) w.0))

pub sheets_are_maps : SheetsAreMaps
sheets_are_maps = record { at = found; added = added; removed = removed }
