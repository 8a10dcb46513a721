-- In columns of distinct names each is the one of its name, and so is each that is listed.
use Rattle.std.proofs.Common.{◌≡◌, refl, sym, ◌∙◌, ap, subst, ℕ, zero, suc, Bool, true, false, cond, List, [], ◌∷◌, ◌++◌, get_or, Option, Some, None}
use Rattle.std.specs.List.{cons_option, find, filter_map, slice_get, AllByRecursion as Each}
use Rattle.std.specs.Str.{bytes_eq}
use Rattle.std.proofs.lemmas.Bool.{or_parts}
use Rattle.std.proofs.lemmas.List.{append_assoc, map-append}
use Rattle.std.proofs.lemmas.List.Quantifiers.{position-Some}
use Rattle.std.proofs.lemmas.Option.{slice_get-get_or}
use Rattle.std.proofs.lemmas.Slice.Eq.{bytes_eq-Decides}
use Rattle.pk_syntax.specs.declared.declaration.ColumnDecl.{ColumnDecl}
use Rattle.pk_syntax.specs.Declarations.{has_name, names_of, twice, twice_behind}
use Rattle.pk_schema.specs.Shapes.{is_column, place_of_column, column_named}
use Rattle.pk_bind.specs.Insert.{targets}

-- it is the column of its name
abbrev pub Own : List ColumnDecl → ColumnDecl → Type 0
Own columns c = column_named columns c.name ≡ Some c

-- no name has stood before, and none of the rest does
once : (b : Bool) (n : List ℕ) (others : Option (List ℕ)) → cond b (Some n) others ≡ None → (b ≡ false) × (others ≡ None)
once true n others free = absurd cc
once false n others free = (refl, free)

not_found : (front : List ColumnDecl) (name : List ℕ) → has_name (names_of front) name ≡ false → find (is_column name) front ≡ None
not_found [] name free = refl
not_found (c ∷ cs) name free =
    let parts = or_parts (bytes_eq c.name name) (has_name (names_of cs) name) free in
    ap (λ b. cond b (Some c) (find (is_column name) cs)) parts.0 ∙ not_found cs name parts.1

find_behind : {X : Type 0} (p : X → Bool) (front xs : List X) → find p front ≡ None → find p (front ++ xs) ≡ find p xs
find_behind p [] xs free = refl
find_behind p (y ∷ ys) xs free = step (p y) (find p ys) (find p (ys ++ xs)) (find p xs) free (find_behind p ys xs) where
  step : (b : Bool) (inside all behind : Option _) → cond b (Some y) inside ≡ None → (inside ≡ None → all ≡ behind) → cond b (Some y) all ≡ behind
  step true inside all behind free so = absurd cc
  step false inside all behind free so = so free

own_rest : (columns front behind : List ColumnDecl) → front ++ behind ≡ columns → twice_behind (names_of front) (names_of behind) ≡ None
    → Each (Own columns) behind
unfolding column_named
own_rest columns front [] is free = tt
own_rest columns front (c ∷ cs) is free =
    let parts = once (has_name (names_of front) c.name) c.name (twice_behind (names_of front ++ c.name ∷ []) (names_of cs)) free in
    let itself = (bytes_eq-Decides c.name c.name).1 refl in
    let here : find (is_column c.name) (c ∷ cs) ≡ Some c = ap (λ b. cond b (Some c) (find (is_column c.name) cs)) itself in (
      ap (find (is_column c.name)) (sym is) ∙ find_behind (is_column c.name) front (c ∷ cs) (not_found front c.name parts.0) ∙ here,
      own_rest columns (front ++ c ∷ []) cs (append_assoc front (c ∷ []) cs ∙ is)
          (ap (λ names. twice_behind names (names_of cs)) (map-append (λ (d : ColumnDecl). d.name) front (c ∷ [])) ∙ parts.1),
    )

pub own_columns : (columns : List ColumnDecl) → twice (names_of columns) ≡ None → Each (Own columns) columns
own_columns columns free = own_rest columns [] columns refl free

-- what is found has what each has
found_has : {X : Type 0} (P : X → Type 0) (p : X → Bool) (xs : List X) (x : X) → Each P xs → find p xs ≡ Some x → P x
found_has P p [] x each is = absurd cc
found_has P p (y ∷ ys) x each is = step (p y) (find p ys) is (λ at. found_has P p ys x each.1 at) where
  step : (b : Bool) (inside : Option _) → cond b (Some y) inside ≡ Some x → (inside ≡ Some x → P x) → P x
  step true inside is so = let same : y ≡ x = cc in subst P same each.0
  step false inside is so = so is

listed_has : {X Y : Type 0} (P : Y → Type 0) (h : X → Option Y) (xs : List X) → ((x : X) (y : Y) → h x ≡ Some y → P y) → Each P (filter_map h xs)
listed_has P h [] so = tt
listed_has P h (x ∷ xs) so = step (h x) refl (listed_has P h xs so) where
  step : (o : Option _) → h x ≡ o → Each P (filter_map h xs) → Each P (cons_option o (filter_map h xs))
  step None is others = others
  step (Some y) is others = (so x y is, others)

pub own_targets : (columns : List ColumnDecl) (names : Option (List (List ℕ))) → twice (names_of columns) ≡ None → Each (Own columns) (targets columns names)
unfolding column_named
own_targets columns None free = own_columns columns free
own_targets columns (Some names) free =
    listed_has (Own columns) (column_named columns) names
    (λ name c is. found_has (Own columns) (is_column name) columns c (own_columns columns free) is)

-- what each has is had at each place
pub each_at : {X : Type 0} (P : X → Type 0) (xs : List X) (i : ℕ) (x : X) → Each P xs → slice_get xs i ≡ Some x → P x
each_at P [] i x each at = absurd cc
each_at P (y ∷ ys) zero x each at = let same : y ≡ x = cc in subst P same each.0
each_at P (y ∷ ys) (suc i) x each at = each_at P ys i x each.1 at

-- at the place of a column among listed ones, that column is listed
pub listed_at : (columns listed : List ColumnDecl) (c : ColumnDecl) (i : ℕ) → Own columns c → Each (Own columns) listed
    → place_of_column listed c.name ≡ Some i → slice_get listed i ≡ Some c
unfolding place_of_column
listed_at columns listed c i own each at =
    let there = position-Some (is_column c.name) listed i c at in
    let d = get_or listed i c in
    let found = slice_get-get_or listed i c there.0 in
    let named : d.name ≡ c.name = (bytes_eq-Decides d.name c.name).0 there.1 in
    let same : Some d ≡ Some c = sym (each_at (Own columns) listed i d each found) ∙ ap (column_named columns) named ∙ own in
    found ∙ same
