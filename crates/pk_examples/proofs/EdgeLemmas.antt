-- A set of columns meets every edge of a sort exactly where the key of that sort over the columns outside it isn't implied.
use Rattle.std.proofs.Common.{◌≡◌, refl, sym, ◌∙◌, ap, ℕ, ◌^◌, ◌<◌, ◌≤◌, Bool, true, false, cond, not, ◌&&◌, ◌||◌, List, [], ◌∷◌, ◌++◌, length, map, drop, drop-cons, get_or, add-one, suc, ◌+◌, if◌then◌else◌}
use Rattle.std.specs.List.{All, filter, list_all, list_any}
use Rattle.std.proofs.lemmas.Bool.{lt-ltb}
use Rattle.std.proofs.lemmas.List.{append_assoc, append-nil, drop_all}
use Rattle.std.proofs.lemmas.List.Elements.{All-nil, All-cons, All-head, All-tail}
use Rattle.pk_values.specs.declared.key.KeyDecl.{KeyDecl}
use Rattle.pk_values.specs.declared.key.Sort.{Sort}
use Rattle.pk_values.specs.ColumnSet.{IsColumnSet, has_column, columns, is_subset}
use Rattle.pk_values.proofs.BitLemmas.{has_and_not}
use Rattle.pk_values.proofs.ColumnLemmas.{same_on_members, member_below, set_bounded}
use Rattle.pk_transversal.specs.Transversals.{meets, meets_all}
use Rattle.pk_rule.specs.Plain.{Plain, IsPlain}
use Rattle.pk_rule.specs.Rule.{alone_implies, is_implied}
use Rattle.pk_rule.specs.Laws.{key_over}
use Rattle.pk_examples.specs.Family.{every_column, outside, bears_on, edges}
use Rattle.pk_examples.proofs.WithoutLemmas.{has_every, every_set}

any_unless : (p : ℕ → Bool) (xs : List ℕ) → list_any p xs ≡ not (list_all (λ x. not (p x)) xs)
any_unless p [] = refl
any_unless p (x ∷ xs) = step (p x) (list_any p xs) (list_all (λ y. not (p y)) xs) (any_unless p xs)
  where
    step : (b some all : Bool) → some ≡ not all → (b || some) ≡ not (not b && all)
    step true some all h = refl
    step false some all h = h

-- a set meets an edge where the edge isn't inside what is outside the set
met_unless : (s : Plain) (t e : ℕ) → length s.kinds ≤ 32 → IsColumnSet t → e < 2 ^ length s.kinds → meets t e ≡ not (is_subset e (outside s t))
unfolding is_subset
met_unless s t e few t_set below =
    any_unless (has_column t) (columns e)
    ∙ ap not (same_on_members (λ c. not (has_column t c)) (has_column (outside s t)) e
    (λ k holds. sym (has_and_not (every_column s) t k (every_set (length s.kinds) few) t_set ∙ ap (λ b. b && not (has_column t k)) (has_every (length s.kinds) k ∙ lt-ltb k (length s.kinds) (member_below e (length s.kinds) k below holds)))))

abbrev pub Inside : Plain → KeyDecl → Type 0
Inside s d = d.columns < 2 ^ length s.kinds

module _ (s : Plain) (sort : Sort) where
  abbrev chosen : List KeyDecl → List ℕ
  chosen keys = map (λ (d : KeyDecl). d.columns) (filter (bears_on sort s.known) keys)

  keys_met : (t : ℕ) (keys : List KeyDecl) → length s.kinds ≤ 32 → IsColumnSet t → All (Inside s) keys
      → list_all (meets t) (chosen keys) ≡ not (list_any (λ d. alone_implies s.known d (key_over sort (outside s t))) keys)
  keys_met t [] few t_set inside = refl
  keys_met t (d ∷ ds) few t_set inside =
      step (bears_on sort s.known d) (is_subset d.columns (outside s t)) (list_any (λ e. alone_implies s.known e (key_over sort (outside s t))) ds)
      (met_unless s t d.columns few t_set (All-head (Inside s) d ds inside)) (keys_met t ds few t_set (All-tail (Inside s) d ds inside))
    where
      both : (met part some rest : Bool) → met ≡ not part → rest ≡ not some → (met && rest) ≡ not ((part && true) || some)
      both met true some rest m r = ap (λ b. b && rest) m
      both met false some rest m r = ap (λ b. b && rest) m ∙ r

      rest_only : (part some rest : Bool) → rest ≡ not some → rest ≡ not ((part && false) || some)
      rest_only true some rest r = r
      rest_only false some rest r = r

      step : (bears part some : Bool) → meets t d.columns ≡ not part → list_all (meets t) (chosen ds) ≡ not some
          → list_all (meets t) (map (λ (e : KeyDecl). e.columns) (cond bears (d ∷ filter (bears_on sort s.known) ds) (filter (bears_on sort s.known) ds))) ≡ not ((part && bears) || some)
      step true part some m r = both (meets t d.columns) part some (list_all (meets t) (chosen ds)) m r
      step false part some m r = rest_only part some (list_all (meets t) (chosen ds)) r

  pub edges_met : (t : ℕ) → IsPlain s → IsColumnSet t → meets_all (edges sort s) t ≡ not (is_implied s (key_over sort (outside s t)))
  unfolding meets_all is_implied
  edges_met t plain t_set = keys_met t s.keys plain.few_columns t_set plain.keys_inside

  keys_sets : (keys : List KeyDecl) → length s.kinds ≤ 32 → All (Inside s) keys → All IsColumnSet (chosen keys)
  keys_sets [] few inside = All-nil IsColumnSet
  keys_sets (d ∷ ds) few inside =
      step (bears_on sort s.known d) (set_bounded d.columns (length s.kinds) few (All-head (Inside s) d ds inside)) (keys_sets ds few (All-tail (Inside s) d ds inside))
    where
      step : (bears : Bool) → IsColumnSet d.columns → All IsColumnSet (chosen ds)
          → All IsColumnSet (map (λ (e : KeyDecl). e.columns) (cond bears (d ∷ filter (bears_on sort s.known) ds) (filter (bears_on sort s.known) ds)))
      step true here rest = All-cons IsColumnSet d.columns (chosen ds) here rest
      step false here rest = rest

  pub edges_sets : IsPlain s → All IsColumnSet (edges sort s)
  edges_sets plain = keys_sets s.keys plain.few_columns plain.keys_inside

-- ---- the loop over keys

-- the columns of those of the keys that pass
abbrev pub taken : (KeyDecl → Bool) → List KeyDecl → List ℕ
taken p keys = map (λ (d : KeyDecl). d.columns) (filter p keys)

taken_first : (p : KeyDecl → Bool) (k : KeyDecl) (rest : List KeyDecl) (sets : List ℕ)
    → (sets ++ (if p k then k.columns ∷ [] else [])) ++ taken p rest ≡ sets ++ taken p (k ∷ rest)
taken_first p k rest sets = step (p k)
  where
    step : (b : Bool) → (sets ++ (if b then k.columns ∷ [] else [])) ++ taken p rest ≡ sets ++ map (λ (d : KeyDecl). d.columns) (cond b (k ∷ filter p rest) (filter p rest))
    step true = append_assoc sets (k.columns ∷ []) (taken p rest)
    step false = ap (λ xs. xs ++ taken p rest) (append-nil sets)

-- one key more
pub taken_more : (p : KeyDecl → Bool) (keys : List KeyDecl) (i : ℕ) (k : KeyDecl) (sets made whole : List ℕ) → i < length keys → k ≡ get_or keys i k
    → made ≡ sets ++ (if p k then k.columns ∷ [] else []) → sets ++ taken p (drop i keys) ≡ whole → made ++ taken p (drop (i + 1) keys) ≡ whole
taken_more p keys i k sets made whole within is pushed so_far =
    ap (λ xs. xs ++ taken p (drop (i + 1) keys)) pushed ∙ ap (λ n. (sets ++ (if p k then k.columns ∷ [] else [])) ++ taken p (drop n keys)) (add-one i)
    ∙ taken_first p k (drop (suc i) keys) sets ∙ ap (λ ks. sets ++ taken p ks) (ap (λ d. d ∷ drop (suc i) keys) is ∙ sym (drop-cons keys i k within)) ∙ so_far

-- no key is left
pub taken_done : (p : KeyDecl → Bool) (keys : List KeyDecl) (i : ℕ) (sets whole : List ℕ) → length keys ≤ i → sets ++ taken p (drop i keys) ≡ whole → sets ≡ whole
taken_done p keys i sets whole past so_far = sym (append-nil sets) ∙ ap (λ ks. sets ++ taken p ks) (sym (drop_all i keys past)) ∙ so_far
