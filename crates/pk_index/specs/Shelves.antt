-- Which ids a shelf has under a key, and which ids sets have under bytes.
use Rattle.std.specs.Prelude.{◌≡◌, ℕ, Bool, false, not, ◌&&◌, ◌||◌, List, Option, Some, None}
use Rattle.std.specs.declared.cmp.Ordering.{Ordering}
use Rattle.std.specs.Ordering.{nat_cmp, eq_by_cmp, ordering_then}
use Rattle.std.specs.Cmp.Lexicographic.{slice_cmp}
use Rattle.std.specs.BTreeMap as tree
use Rattle.std.specs.BTreeSet as set
use Rattle.std.specs.BTreeSet.{BTreeSet}
use Rattle.pk_index.specs.declared.shelf.Shelf.{Shelf}
use Rattle.pk_index.specs.declared.sets.Sets.{Sets}

module _ {K : Type 0} (cmp : K → K → Ordering) where
  -- the order of the pairs: by the key, then by the id
  abbrev pub pair_cmp : K × ℕ → K × ℕ → Ordering
  pair_cmp p q = ordering_then (cmp p.0 q.0) (nat_cmp p.1 q.1)

  -- the shelf has the id under the key
  abbrev pub holds : Shelf K → K → ℕ → Bool
  holds shelf key id = set.contains pair_cmp shelf.pairs (key, id)

  -- the id is had under the key, and all else stays
  abbrev pub PutsAt : Shelf K → Shelf K → K → ℕ → Type 0
  PutsAt old new key id = (k : K) (j : ℕ) → holds new k j ≡ (holds old k j || (eq_by_cmp cmp key k && eq_by_cmp nat_cmp j id))

  -- the id is no longer had under the key, and all else stays
  abbrev pub TakesAt : Shelf K → Shelf K → K → ℕ → Type 0
  TakesAt old new key id = (k : K) (j : ℕ) → holds new k j ≡ (holds old k j && not (eq_by_cmp cmp key k && eq_by_cmp nat_cmp j id))

-- whether the id is in a set that may not be there
abbrev pub is_in : Option (BTreeSet ℕ) → ℕ → Bool
is_in None id = false
is_in (Some ids) id = set.contains nat_cmp ids id

-- the sets have the id under these bytes
abbrev pub set_has : Sets → List ℕ → ℕ → Bool
set_has family bytes id = is_in (tree.get_by (λ k. slice_cmp nat_cmp bytes k.items) family.sets) id

-- the id is had under the bytes that pass, and all else stays
abbrev pub SetPuts : Sets → Sets → (List ℕ → Bool) → ℕ → Type 0
SetPuts old new under id = (bytes : List ℕ) (j : ℕ) → set_has new bytes j ≡ (set_has old bytes j || (under bytes && eq_by_cmp nat_cmp j id))

-- the id is no longer had under the bytes that pass, and all else stays
abbrev pub SetTakes : Sets → Sets → (List ℕ → Bool) → ℕ → Type 0
SetTakes old new under id = (bytes : List ℕ) (j : ℕ) → set_has new bytes j ≡ (set_has old bytes j && not (under bytes && eq_by_cmp nat_cmp j id))
