-- What a change of one part makes of a family.
use Rattle.std.proofs.Common.{◌≡◌, refl, sym, ◌∙◌, ap, subst, ℕ, ◌<◌, Bool, true, false, not, ◌&&◌, ◌||◌, List, length, nat_lt, Option}
use Rattle.std.specs.Prelude.{if◌then◌else◌}
use Rattle.std.specs.declared.cmp.Ordering.{Ordering}
use Rattle.std.specs.Ordering.{nat_cmp, eq_by_cmp}
use Rattle.std.specs.Str.{bytes_eq}
use Rattle.std.proofs.lemmas.Bool.{both_ways, false≢true, ltb-true}
use Rattle.pk_values.specs.Values.{are_bytes}
use Rattle.pk_index.specs.declared.family.Family.{Family}
use Rattle.pk_index.specs.declared.family.Width.{Width}
use Rattle.pk_index.specs.declared.family.Width.TheVariants.{Two, Three, Six, Long}
use Rattle.pk_index.specs.declared.shelf.Shelf.{Shelf}
use Rattle.pk_index.specs.declared.sets.Sets.{Sets}
use Rattle.pk_index.specs.Shelves.{holds, PutsAt, TakesAt, set_has, SetPuts, SetTakes}
use Rattle.pk_index.specs.Packing.{TwoWords, ThreeWords, SixWords, two_words, three_words, six_words, two_cmp, three_cmp, six_cmp}
use Rattle.pk_index.specs.Filing.{width_of, has_in, has, Puts, Takes}
use Rattle.pk_index.specs.Rows.{IsLeast}
use Rattle.pk_index.proofs.FilingLemmas.{or_false, and_true, and_false}
use Rattle.pk_index.proofs.SetLemmas.{equal_bytes, joins_put, joins_take}
use Rattle.pk_index.proofs.ShownLemmas.{least_same}
use Rattle.pk_index.proofs.PackingLemmas.{Tells, tells_two, tells_three, tells_six}

-- ---- widths

abbrev is_same : Width → Width → Bool
is_same Two Two = true
is_same Three Three = true
is_same Six Six = true
is_same Long Long = true
is_same v w = false

same_width : (v w : Width) → is_same v w ≡ true → v ≡ w
same_width Two Two same = refl
same_width Three Three same = refl
same_width Six Six same = refl
same_width Long Long same = refl
same_width Two Three same = absurd (false≢true same)
same_width Two Six same = absurd (false≢true same)
same_width Two Long same = absurd (false≢true same)
same_width Three Two same = absurd (false≢true same)
same_width Three Six same = absurd (false≢true same)
same_width Three Long same = absurd (false≢true same)
same_width Six Two same = absurd (false≢true same)
same_width Six Three same = absurd (false≢true same)
same_width Six Long same = absurd (false≢true same)
same_width Long Two same = absurd (false≢true same)
same_width Long Three same = absurd (false≢true same)
same_width Long Six same = absurd (false≢true same)

itself : (v : Width) → is_same v v ≡ true
itself Two = refl
itself Three = refl
itself Six = refl
itself Long = refl

-- bytes that are filed as so many words have fewer than these bytes
abbrev limit_of : Width → ℕ → Bool
limit_of Two len = nat_lt len 16
limit_of Three len = nat_lt len 24
limit_of Six len = nat_lt len 48
limit_of Long len = true

below_limit : (len : ℕ) → limit_of (width_of len) len ≡ true
below_limit len = by_two (nat_lt len 16) refl where
  by_six : (t : Bool) → nat_lt len 48 ≡ t → limit_of (if t then Six else Long) len ≡ true
  by_six true at = at
  by_six false at = refl

  by_three : (t : Bool) → nat_lt len 24 ≡ t → limit_of (if t then Three else if nat_lt len 48 then Six else Long) len ≡ true
  by_three true at = at
  by_three false at = by_six (nat_lt len 48) refl

  by_two : (t : Bool) → nat_lt len 16 ≡ t → limit_of (if t then Two else if nat_lt len 24 then Three else if nat_lt len 48 then Six else Long) len ≡ true
  by_two true at = at
  by_two false at = by_three (nat_lt len 24) refl

limited : (w : Width) (len : ℕ) → width_of len ≡ w → limit_of w len ≡ true
limited w len is = subst (λ v. limit_of v len ≡ true) is (below_limit len)

pub short_two : (len : ℕ) → width_of len ≡ Two → len < 16
short_two len is = ltb-true len 16 (limited Two len is)

pub short_three : (len : ℕ) → width_of len ≡ Three → len < 24
short_three len is = ltb-true len 24 (limited Three len is)

pub short_six : (len : ℕ) → width_of len ≡ Six → len < 48
short_six len is = ltb-true len 48 (limited Six len is)

-- ---- a change of the part for the key

module _ (key : List ℕ) (id : ℕ) (all : are_bytes key ≡ true) (w : Width) (here : width_of (length key) ≡ w) where
  module _ (join : Bool → Bool → Bool) (stays : (b : Bool) → join b false ≡ b) (old new : Family)
      (others : (v : Width) (bytes : List ℕ) (j : ℕ) → is_same v w ≡ false → has_in new v bytes j ≡ has_in old v bytes j)
      (changes : (bytes : List ℕ) (j : ℕ) → are_bytes bytes ≡ true → width_of (length bytes) ≡ w
      → has_in new w bytes j ≡ join (has_in old w bytes j) (bytes_eq key bytes && eq_by_cmp nat_cmp j id)) where
    -- bytes that the key isn't
    differs : (bytes : List ℕ) (j : ℕ) (b : Bool) → (key ≡ bytes → ⊥) → b ≡ join b (bytes_eq key bytes && eq_by_cmp nat_cmp j id)
    differs bytes j b other = by_same (bytes_eq key bytes) refl where
      by_same : (t : Bool) → bytes_eq key bytes ≡ t → b ≡ join b (t && eq_by_cmp nat_cmp j id)
      by_same true same = absurd (other (equal_bytes key bytes same))
      by_same false _ = sym (stays b)

    in_part : (bytes : List ℕ) (j : ℕ) → are_bytes bytes ≡ true
        → has_in new (width_of (length bytes)) bytes j ≡ join (has_in old (width_of (length bytes)) bytes j) (bytes_eq key bytes && eq_by_cmp nat_cmp j id)
    in_part bytes j fits = by_width (width_of (length bytes)) refl (is_same (width_of (length bytes)) w) refl where
      by_width : (v : Width) → width_of (length bytes) ≡ v → (t : Bool) → is_same v w ≡ t
          → has_in new v bytes j ≡ join (has_in old v bytes j) (bytes_eq key bytes && eq_by_cmp nat_cmp j id)
      by_width v is true same =
          subst (λ z. has_in new z bytes j ≡ join (has_in old z bytes j) (bytes_eq key bytes && eq_by_cmp nat_cmp j id)) (sym (same_width v w same))
          (changes bytes j fits (is ∙ same_width v w same))
      by_width v is false other =
          others v bytes j other
          ∙ differs bytes j (has_in old v bytes j)
          (λ same. both_ways (is_same v w) other (subst (λ z. is_same z w ≡ true) (sym here ∙ ap (λ xs. width_of (length xs)) same ∙ is) (itself w)))

    changed : (bytes : List ℕ) (j : ℕ) → has new bytes j ≡ join (has old bytes j) (bytes_eq key bytes && eq_by_cmp nat_cmp j id)
    changed bytes j = by_kind (are_bytes bytes) refl where
      by_kind : (t : Bool) → are_bytes bytes ≡ t
          → (t && has_in new (width_of (length bytes)) bytes j) ≡ join (t && has_in old (width_of (length bytes)) bytes j) (bytes_eq key bytes && eq_by_cmp nat_cmp j id)
      by_kind true fits = in_part bytes j fits
      by_kind false none = differs bytes j false (λ same. both_ways (are_bytes bytes) none (subst (λ xs. are_bytes xs ≡ true) same all))

  -- a part of words
  module _ {K : Type 0} (cmp : K → K → Ordering) (words : List ℕ → K) (limit : ℕ) (tells : Tells cmp words limit) (short : (len : ℕ) → width_of len ≡ w → len < limit)
      (part : Family → Shelf K) (old new : Family)
      (is_here : (family : Family) (bytes : List ℕ) (j : ℕ) → has_in family w bytes j ≡ holds cmp (part family) (words bytes) j)
      (others : (v : Width) (bytes : List ℕ) (j : ℕ) → is_same v w ≡ false → has_in new v bytes j ≡ has_in old v bytes j) where
    told : (bytes : List ℕ) → are_bytes bytes ≡ true → width_of (length bytes) ≡ w → eq_by_cmp cmp (words key) (words bytes) ≡ bytes_eq key bytes
    told bytes fits is = tells key bytes all fits (short (length key) here) (short (length bytes) is)

    puts_words : PutsAt cmp (part old) (part new) (words key) id → Puts old new (bytes_eq key) id
    puts_words puts =
        changed joins_put or_false old new others
        (λ bytes j fits is.
        is_here new bytes j ∙ puts (words bytes) j
        ∙ ap (λ t. holds cmp (part old) (words bytes) j || (t && eq_by_cmp nat_cmp j id)) (told bytes fits is)
        ∙ ap (λ h. h || (bytes_eq key bytes && eq_by_cmp nat_cmp j id)) (sym (is_here old bytes j)))

    takes_words : TakesAt cmp (part old) (part new) (words key) id → Takes old new (bytes_eq key) id
    takes_words takes =
        changed joins_take and_true old new others
        (λ bytes j fits is.
        is_here new bytes j ∙ takes (words bytes) j
        ∙ ap (λ t. holds cmp (part old) (words bytes) j && not (t && eq_by_cmp nat_cmp j id)) (told bytes fits is)
        ∙ ap (λ h. h && not (bytes_eq key bytes && eq_by_cmp nat_cmp j id)) (sym (is_here old bytes j)))

-- ---- the parts one by one

module _ (key : List ℕ) (id : ℕ) (all : are_bytes key ≡ true) (old : Family) where
  module _ (here : width_of (length key) ≡ Two) (two : Shelf TwoWords) where
    abbrev new_two : Family
    new_two = record old { two = two }

    others_two : (v : Width) (bytes : List ℕ) (j : ℕ) → is_same v Two ≡ false → has_in new_two v bytes j ≡ has_in old v bytes j
    others_two Two bytes j other = absurd (false≢true (sym other))
    others_two Three bytes j other = refl
    others_two Six bytes j other = refl
    others_two Long bytes j other = refl

    pub puts_two : PutsAt two_cmp old.two two (two_words key) id → Puts old (record old { two = two }) (bytes_eq key) id
    puts_two = puts_words key id all Two here two_cmp two_words 16 tells_two short_two (λ family. family.two) old new_two (λ family bytes j. refl) others_two

    pub takes_two : TakesAt two_cmp old.two two (two_words key) id → Takes old (record old { two = two }) (bytes_eq key) id
    takes_two = takes_words key id all Two here two_cmp two_words 16 tells_two short_two (λ family. family.two) old new_two (λ family bytes j. refl) others_two

  module _ (here : width_of (length key) ≡ Three) (three : Shelf ThreeWords) where
    abbrev new_three : Family
    new_three = record old { three = three }

    others_three : (v : Width) (bytes : List ℕ) (j : ℕ) → is_same v Three ≡ false → has_in new_three v bytes j ≡ has_in old v bytes j
    others_three Two bytes j other = refl
    others_three Three bytes j other = absurd (false≢true (sym other))
    others_three Six bytes j other = refl
    others_three Long bytes j other = refl

    pub puts_three : PutsAt three_cmp old.three three (three_words key) id → Puts old (record old { three = three }) (bytes_eq key) id
    puts_three = puts_words key id all Three here three_cmp three_words 24 tells_three short_three (λ family. family.three) old new_three (λ family bytes j. refl) others_three

    pub takes_three : TakesAt three_cmp old.three three (three_words key) id → Takes old (record old { three = three }) (bytes_eq key) id
    takes_three = takes_words key id all Three here three_cmp three_words 24 tells_three short_three (λ family. family.three) old new_three (λ family bytes j. refl) others_three

  module _ (here : width_of (length key) ≡ Six) (six : Shelf SixWords) where
    abbrev new_six : Family
    new_six = record old { six = six }

    others_six : (v : Width) (bytes : List ℕ) (j : ℕ) → is_same v Six ≡ false → has_in new_six v bytes j ≡ has_in old v bytes j
    others_six Two bytes j other = refl
    others_six Three bytes j other = refl
    others_six Six bytes j other = absurd (false≢true (sym other))
    others_six Long bytes j other = refl

    pub puts_six : PutsAt six_cmp old.six six (six_words key) id → Puts old (record old { six = six }) (bytes_eq key) id
    puts_six = puts_words key id all Six here six_cmp six_words 48 tells_six short_six (λ family. family.six) old new_six (λ family bytes j. refl) others_six

    pub takes_six : TakesAt six_cmp old.six six (six_words key) id → Takes old (record old { six = six }) (bytes_eq key) id
    takes_six = takes_words key id all Six here six_cmp six_words 48 tells_six short_six (λ family. family.six) old new_six (λ family bytes j. refl) others_six

  module _ (here : width_of (length key) ≡ Long) (long : Sets) where
    abbrev new_long : Family
    new_long = record old { long = long }

    others_long : (v : Width) (bytes : List ℕ) (j : ℕ) → is_same v Long ≡ false → has_in new_long v bytes j ≡ has_in old v bytes j
    others_long Two bytes j other = refl
    others_long Three bytes j other = refl
    others_long Six bytes j other = refl
    others_long Long bytes j other = absurd (false≢true (sym other))

    pub puts_long : SetPuts old.long long (bytes_eq key) id → Puts old (record old { long = long }) (bytes_eq key) id
    puts_long puts = changed key id all Long here joins_put or_false old new_long others_long (λ bytes j fits is. puts bytes j)

    pub takes_long : SetTakes old.long long (bytes_eq key) id → Takes old (record old { long = long }) (bytes_eq key) id
    takes_long takes = changed key id all Long here joins_take and_true old new_long others_long (λ bytes j fits is. takes bytes j)

-- ---- look-ups

-- what the family has under the bytes is what their part has
pub has_here : (family : Family) (bytes : List ℕ) (w : Width) → are_bytes bytes ≡ true → width_of (length bytes) ≡ w → (j : ℕ) → has_in family w bytes j ≡ has family bytes j
has_here family bytes w all here j =
    ap (λ v. has_in family v bytes j) (sym here) ∙ sym (ap (λ t. t && has_in family (width_of (length bytes)) bytes j) all)

pub least_here : (family : Family) (bytes outside : List ℕ) (found : Option ℕ) (w : Width) → are_bytes bytes ≡ true → width_of (length bytes) ≡ w
    → IsLeast (has_in family w bytes) outside found → IsLeast (has family bytes) outside found
least_here family bytes outside found w all here = least_same (has_in family w bytes) (has family bytes) outside found (has_here family bytes w all here)

-- an empty family has nothing
pub nothing : (family : Family) → ((k : TwoWords) (j : ℕ) → holds two_cmp family.two k j ≡ false) → ((k : ThreeWords) (j : ℕ) → holds three_cmp family.three k j ≡ false)
    → ((k : SixWords) (j : ℕ) → holds six_cmp family.six k j ≡ false) → ((bytes : List ℕ) (j : ℕ) → set_has family.long bytes j ≡ false)
    → (bytes : List ℕ) (j : ℕ) → has family bytes j ≡ false
nothing family two three six long bytes j =
    ap (λ h. are_bytes bytes && h) (by_width (width_of (length bytes))) ∙ and_false (are_bytes bytes) where
      by_width : (w : Width) → has_in family w bytes j ≡ false
      by_width Two = two (two_words bytes) j
      by_width Three = three (three_words bytes) j
      by_width Six = six (six_words bytes) j
      by_width Long = long bytes j
