-- The rule by column sets is the truth of all tables, so it tells the same cover.
use Rattle.std.proofs.Common.{◌≡◌, refl, ◌∙◌, sym, ap, subst, ℕ, ◌^◌, ◌<◌, true, not, List, ◌++◌, length, map, filter}
use Rattle.pk_values.specs.declared.key.KeyDecl.{KeyDecl}
use Rattle.pk_values.specs.declared.key.Sort.{Sort}
use Rattle.pk_values.specs.declared.key.Sort.TheVariants.{Certain, Possible}
use Rattle.pk_rule.specs.Plain.{Plain, IsPlain}
use Rattle.pk_rule.specs.Tables.{Implied}
use Rattle.pk_rule.specs.Rule.{some_implies, is_implied}
use Rattle.pk_rule.specs.Laws.{key_over}
use Rattle.pk_rule.proofs.RuleLemmas.{implied_holds, holds_implied}
use Rattle.pk_imply.specs.Candidates.{candidates, has_part, IsLeast}
use Rattle.pk_imply.specs.Cover.{IsMinimal, ListsAll, IsCoverOf, IsCover, IsCoverByRule, least_of, cover_of}
use Rattle.pk_imply.proofs.LeastLemmas.{lists_same, least_listed}
use Rattle.pk_imply.proofs.InsertLemmas.{in_order_lists}
use Rattle.pk_imply.proofs.CoverLemmas.{cover_is}

module _ (P Q : KeyDecl → Type 0) (width : ℕ) (to : (k : KeyDecl) → k.columns < 2 ^ width → P k → Q k) (from : (k : KeyDecl) → k.columns < 2 ^ width → Q k → P k) where
  minimal_same : (sort : Sort) (x : ℕ) → IsMinimal P width sort x → IsMinimal Q width sort x
  minimal_same sort x least = record {
    inside = least.inside;
    holds = to (key_over sort x) least.inside least.holds;
    least = λ y inside part holds. least.least y inside part (from (key_over sort y) inside holds);
  }

  only_same : (x : ℕ) → IsMinimal P width Possible x × (¬ P (key_over Certain x)) → IsMinimal Q width Possible x × (¬ Q (key_over Certain x))
  only_same x holds = (minimal_same Possible x holds.0, λ certain. holds.1 (from (key_over Certain x) holds.0.inside certain))

pub cover_same : (P Q : KeyDecl → Type 0) (width : ℕ) → ((k : KeyDecl) → k.columns < 2 ^ width → P k → Q k) → ((k : KeyDecl) → k.columns < 2 ^ width → Q k → P k)
    → (keys : List KeyDecl) → IsCoverOf P width keys → IsCoverOf Q width keys
cover_same P Q width to from keys cover = record {
  certain = cover.certain;
  possible = cover.possible;
  keys_are = cover.keys_are;
  certain_are = lists_same _ _ cover.certain (minimal_same P Q width to from Certain) (minimal_same Q P width from to Certain) cover.certain_are;
  possible_are = lists_same _ _ cover.possible (only_same P Q width to from) (only_same Q P width from to) cover.possible_are;
}

pub true_cover : (s : Plain) (keys : List KeyDecl) → IsPlain s → IsCoverByRule s keys → IsCover s keys
true_cover s keys plain cover =
    cover_same (λ k. is_implied s k ≡ true) (Implied s) (length s.kinds)
    (λ k inside holds. implied_holds s k plain inside holds) (λ k inside holds. holds_implied s k plain inside holds) keys cover

pub cover_by_rule : (s : Plain) (keys : List KeyDecl) → IsPlain s → IsCover s keys → IsCoverByRule s keys
cover_by_rule s keys plain cover =
    cover_same (Implied s) (λ k. is_implied s k ≡ true) (length s.kinds)
    (λ k inside holds. holds_implied s k plain inside holds) (λ k inside holds. implied_holds s k plain inside holds) keys cover

-- what the code makes is the cover
pub cover_made : (s : Plain) (keys : List KeyDecl) (known : ℕ) (certain possible : List ℕ) (certain_slice possible_slice kept kept_slice : List ℕ) (made : List KeyDecl) → IsPlain s
    → keys ≡ s.keys → known ≡ s.known → ListsAll (IsLeast (candidates known Certain keys)) certain → ListsAll (IsLeast (candidates known Possible keys)) possible
    → certain_slice ≡ certain → possible_slice ≡ possible → kept_slice ≡ kept
    → kept ≡ filter (λ x. not (some_implies known keys (key_over Certain x))) possible_slice
    → made ≡ map (key_over Certain) certain_slice ++ map (key_over Possible) kept_slice → IsCover s made
cover_made s keys known certain possible certain_slice possible_slice kept kept_slice made plain keys_are known_is certain_least possible_least one two three kept_is made_is =
    let first : ListsAll (IsLeast (candidates s.known Certain s.keys)) certain =
    subst (λ (ks : List KeyDecl). ListsAll (IsLeast (candidates s.known Certain ks)) certain) keys_are
    (subst (λ n. ListsAll (IsLeast (candidates n Certain keys)) certain) known_is certain_least) in
    let second : ListsAll (IsLeast (candidates s.known Possible s.keys)) possible =
    subst (λ (ks : List KeyDecl). ListsAll (IsLeast (candidates s.known Possible ks)) possible) keys_are
    (subst (λ n. ListsAll (IsLeast (candidates n Possible keys)) possible) known_is possible_least) in
    let only : kept_slice ≡ filter (λ x. not (some_implies s.known s.keys (key_over Certain x))) possible =
    three ∙ kept_is ∙ ap (λ (n : ℕ). filter (λ x. not (some_implies n keys (key_over Certain x))) possible_slice) known_is
    ∙ ap (λ (ks : List KeyDecl). filter (λ x. not (some_implies s.known ks (key_over Certain x))) possible_slice) keys_are
    ∙ ap (λ (xs : List ℕ). filter (λ x. not (some_implies s.known s.keys (key_over Certain x))) xs) two in
    let all : made ≡ map (key_over Certain) certain ++ map (key_over Possible) (filter (λ x. not (some_implies s.known s.keys (key_over Certain x))) possible) =
    made_is ∙ ap (λ (xs : List ℕ). map (key_over Certain) xs ++ map (key_over Possible) kept_slice) one
    ∙ ap (λ (xs : List ℕ). map (key_over Certain) certain ++ map (key_over Possible) xs) only in
    subst (IsCover s) (sym all) (true_cover s _ plain (cover_is s certain possible plain first second))

-- the cover that the definition computes
pub cover_computed : (s : Plain) → IsPlain s → IsCover s (cover_of s)
unfolding is_implied cover_of
cover_computed s plain =
    true_cover s (cover_of s) plain (cover_is s (least_of (candidates s.known Certain s.keys)) (least_of (candidates s.known Possible s.keys)) plain
    (least_in_order (candidates s.known Certain s.keys)) (least_in_order (candidates s.known Possible s.keys)))
  where
    least_in_order : (sets : List ℕ) → ListsAll (IsLeast sets) (least_of sets)
    least_in_order sets =
        least_listed sets (filter (λ x. not (has_part sets x)) sets) (least_of sets) refl (in_order_lists (filter (λ x. not (has_part sets x)) sets))
