-- The least sets of the declared keys are the minimal sets, and so make the cover.
use Rattle.std.proofs.Common.{◌≡◌, refl, subst, ℕ, ◌^◌, ◌<◌, true, not, List, ◌++◌, length, map, inl, inr}
use Rattle.std.specs.List.{Contains, filter}
use Rattle.std.proofs.lemmas.Bool.{cases_Bool, both_ways}
use Rattle.std.proofs.lemmas.List.Elements.{All-contains}
use Rattle.std.proofs.lemmas.List.Kept.{IsStrictlySortedBy-filter}
use Rattle.pk_values.specs.declared.key.KeyDecl.{KeyDecl}
use Rattle.pk_values.specs.declared.key.Sort.{Sort}
use Rattle.pk_values.specs.declared.key.Sort.TheVariants.{Certain, Possible}
use Rattle.pk_values.specs.ColumnSet.{IsColumnSet, is_subset, column_set_cmp}
use Rattle.pk_rule.specs.Plain.{Plain, IsPlain}
use Rattle.pk_rule.specs.Rule.{some_implies, alone_implies, is_implied}
use Rattle.pk_rule.specs.Laws.{key_over}
use Rattle.pk_imply.specs.Candidates.{candidates, IsLeast}
use Rattle.pk_imply.specs.Cover.{IsMinimal, ListsAll, IsCoverByRule}
use Rattle.pk_imply.proofs.ListLemmas.{in_kept, kept_in, in_map, map_in}
use Rattle.pk_imply.proofs.SubsetLemmas.{subset_trans, subset_same}
use Rattle.pk_imply.proofs.RuleLemmas.{alone_from, alone_parts, implied_by, implied_from}
use Rattle.pk_imply.proofs.LeastLemmas.{lists_same, least_inside}
use Rattle.pk_values.proofs.ColumnLemmas.{set_bounded, subset_itself}

-- the key over the set follows by the rule
abbrev pub follows_over : Plain → Sort → ℕ → Type 0
follows_over s sort x = is_implied s (key_over sort x) ≡ true

abbrev pub minimal : Plain → Sort → ℕ → Type 0
minimal s sort x = IsMinimal (λ k. is_implied s k ≡ true) (length s.kinds) sort x

abbrev pub sets_of : Plain → Sort → List ℕ
sets_of s sort = candidates s.known sort s.keys

-- ---- the sets of the declared keys

pub key_inside : (s : Plain) (d : KeyDecl) → IsPlain s → Contains s.keys d → d.columns < 2 ^ length s.kinds
key_inside s d plain found = All-contains (λ (k : KeyDecl). k.columns < 2 ^ length s.kinds) s.keys d plain.keys_inside found

pub inside_set : (s : Plain) (x : ℕ) → IsPlain s → x < 2 ^ length s.kinds → IsColumnSet x
inside_set s x plain inside = set_bounded x (length s.kinds) plain.few_columns inside

-- a declared key that implies one of this sort gives a candidate
candidate_from : (s : Plain) (sort : Sort) (d : KeyDecl) (x : ℕ) → Contains s.keys d → alone_implies s.known d (key_over sort x) ≡ true
    → Contains (sets_of s sort) d.columns
candidate_from s sort d x found alone =
    let own : alone_implies s.known d (key_over sort d.columns) ≡ true =
    alone_from s.known d (key_over sort d.columns) (subset_itself d.columns) (alone_parts s.known d (key_over sort x) alone).1 in
    in_map (λ (e : KeyDecl). e.columns) _ d (in_kept (λ (e : KeyDecl). alone_implies s.known e (key_over sort e.columns)) s.keys d found own)

-- and over each candidate the key follows, and it lies inside the schema's columns
candidate_key : (s : Plain) (sort : Sort) (x : ℕ) → Contains (sets_of s sort) x
    → (d : KeyDecl) × Contains s.keys d × (d.columns ≡ x) × (alone_implies s.known d (key_over sort d.columns) ≡ true)
candidate_key s sort x found =
    let from = map_in (λ (e : KeyDecl). e.columns) (filter (λ (e : KeyDecl). alone_implies s.known e (key_over sort e.columns)) s.keys) x found in
    let kept = kept_in (λ (e : KeyDecl). alone_implies s.known e (key_over sort e.columns)) s.keys from.0 from.1 in
    (from.0, kept.0, from.2, kept.1)

pub candidate_follows : (s : Plain) (sort : Sort) (x : ℕ) → Contains (sets_of s sort) x → follows_over s sort x
candidate_follows s sort x found =
    let from = candidate_key s sort x found in
    implied_from s (key_over sort x) from.0 from.1 (subst (λ y. alone_implies s.known from.0 (key_over sort y) ≡ true) from.2 from.3)

pub candidate_inside : (s : Plain) (sort : Sort) (x : ℕ) → IsPlain s → Contains (sets_of s sort) x → x < 2 ^ length s.kinds
candidate_inside s sort x plain found =
    let from = candidate_key s sort x found in
    subst (λ y. y < 2 ^ length s.kinds) from.2 (key_inside s from.0 plain from.1)

-- where a key follows, a candidate lies inside its columns
pub candidate_within : (s : Plain) (sort : Sort) (x : ℕ) → follows_over s sort x → (y : ℕ) × Contains (sets_of s sort) y × (is_subset y x ≡ true)
candidate_within s sort x follows =
    let by = implied_by s (key_over sort x) follows in
    (by.0.columns, candidate_from s sort by.0 x by.1 by.2, (alone_parts s.known by.0 (key_over sort x) by.2).0)

-- ---- the least are the minimal ones

pub minimal_from_least : (s : Plain) (sort : Sort) → IsPlain s → (x : ℕ) → IsLeast (sets_of s sort) x → minimal s sort x
minimal_from_least s sort plain x least = record {
  inside = candidate_inside s sort x plain least.among;
  holds = candidate_follows s sort x least.among;
  least = λ y y_inside part follows.
      let x_set = inside_set s x plain (candidate_inside s sort x plain least.among) in
      let y_set = inside_set s y plain y_inside in
      let within = candidate_within s sort y follows in
      let z_set = inside_set s within.0 plain (candidate_inside s sort within.0 plain within.1) in
      let same : within.0 ≡ x = least.least within.0 within.1 (subset_trans within.0 y x z_set y_set within.2 part) in
      subset_same y x y_set x_set part (subst (λ z. is_subset z y ≡ true) same within.2);
}

pub least_from_minimal : (s : Plain) (sort : Sort) → IsPlain s → (x : ℕ) → minimal s sort x → IsLeast (sets_of s sort) x
least_from_minimal s sort plain x least =
    let within = candidate_within s sort x least.holds in
    let same : within.0 ≡ x =
    least.least within.0 (candidate_inside s sort within.0 plain within.1) within.2 (candidate_follows s sort within.0 within.1) in
    record {
      among = subst (Contains (sets_of s sort)) same within.1;
      least = λ y found part. least.least y (candidate_inside s sort y plain found) part (candidate_follows s sort y found);
    }

-- where a key follows, a minimal set lies inside its columns
pub minimal_within : (s : Plain) (sort : Sort) (x : ℕ) → IsPlain s → x < 2 ^ length s.kinds → follows_over s sort x
    → (w : ℕ) × (is_subset w x ≡ true) × minimal s sort w
minimal_within s sort x plain inside follows =
    let within = candidate_within s sort x follows in
    let are_sets = λ (y : ℕ) (found : Contains (sets_of s sort) y). inside_set s y plain (candidate_inside s sort y plain found) in
    let below = least_inside (sets_of s sort) within.0 are_sets within.1 in (
      below.0,
      subset_trans below.0 within.0 x (are_sets below.0 below.2.among) (are_sets within.0 within.1) below.1 within.2,
      minimal_from_least s sort plain below.0 below.2,
    )

-- ---- the cover

only_possible : (s : Plain) (x : ℕ) → not (some_implies s.known s.keys (key_over Certain x)) ≡ true → follows_over s Certain x → ⊥
unfolding is_implied
only_possible s x none follows = both_ways (not (some_implies s.known s.keys (key_over Certain x))) (rw follows refl) none

not_follows : (s : Plain) (x : ℕ) → (follows_over s Certain x → ⊥) → not (some_implies s.known s.keys (key_over Certain x)) ≡ true
unfolding is_implied
not_follows s x none =
    elim (cases_Bool (some_implies s.known s.keys (key_over Certain x))) [ inl holds ↦ absurd (none holds) | inr fails ↦ rw fails refl ]

pub possible_listed : (s : Plain) (sets : List ℕ) → ListsAll (minimal s Possible) sets
    → ListsAll (λ x. minimal s Possible x × (¬ follows_over s Certain x)) (filter (λ x. not (some_implies s.known s.keys (key_over Certain x))) sets)
possible_listed s sets listed = record {
  ascend = IsStrictlySortedBy-filter column_set_cmp (λ x. not (some_implies s.known s.keys (key_over Certain x))) sets listed.ascend;
  only = λ x found.
      let kept = kept_in (λ y. not (some_implies s.known s.keys (key_over Certain y))) sets x found in
      (listed.only x kept.0, only_possible s x kept.1);
  every = λ x holds.
      in_kept (λ y. not (some_implies s.known s.keys (key_over Certain y))) sets x (listed.every x holds.0) (not_follows s x holds.1);
}

-- what the code makes of the least sets is the cover
pub cover_is : (s : Plain) (certain possible : List ℕ) → IsPlain s
    → ListsAll (IsLeast (sets_of s Certain)) certain → ListsAll (IsLeast (sets_of s Possible)) possible
    → IsCoverByRule s (map (key_over Certain) certain ++ map (key_over Possible) (filter (λ x. not (some_implies s.known s.keys (key_over Certain x))) possible))
cover_is s certain possible plain certain_least possible_least = record {
  certain = certain;
  possible = filter (λ x. not (some_implies s.known s.keys (key_over Certain x))) possible;
  keys_are = refl;
  certain_are = lists_same _ _ certain (minimal_from_least s Certain plain) (least_from_minimal s Certain plain) certain_least;
  possible_are = possible_listed s possible (lists_same _ _ possible (minimal_from_least s Possible plain) (least_from_minimal s Possible plain) possible_least);
}
