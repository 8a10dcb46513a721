-- What the cover comes to, by column sets.
use Rattle.std.proofs.Common.{◌≡◌, ◌⊎◌, refl, sym, ◌∙◌, ap, subst, ℕ, ◌^◌, ◌<◌, true, false, List, ◌∷◌, ◌++◌, length, map, inl, inr}
use Rattle.std.specs.List.{Contains}
use Rattle.std.proofs.lemmas.Bool.{cases_Bool, both_ways}
use Rattle.std.proofs.lemmas.List.Elements.{Contains-append_cases, Contains-append_left, Contains-append_right}
use Rattle.pk_values.specs.declared.key.KeyDecl.{KeyDecl}
use Rattle.pk_values.specs.declared.key.Sort.{Sort}
use Rattle.pk_values.specs.declared.key.Sort.TheVariants.{Certain, Possible}
use Rattle.pk_values.specs.ColumnSet.{is_subset}
use Rattle.pk_rule.specs.Plain.{Plain, IsPlain}
use Rattle.pk_rule.specs.Tables.{Implied}
use Rattle.pk_rule.specs.Rule.{alone_implies, is_implied}
use Rattle.pk_rule.specs.Laws.{key_over}
use Rattle.pk_rule.proofs.RuleLemmas.{implied_holds, holds_implied, itself_implied}
use Rattle.pk_imply.specs.Cover.{IsMinimal, IsCoverOf, IsCover, IsCoverByRule, cover_of}
use Rattle.pk_imply.specs.Laws.{with_keys, MayBeNull}
use Rattle.pk_imply.proofs.ListLemmas.{in_first, in_map, map_in, all_inside}
use Rattle.pk_imply.proofs.SubsetLemmas.{subset_trans}
use Rattle.pk_imply.proofs.RuleLemmas.{alone_from, alone_parts, alone_trans, fits_possible, fits_certain, known_of_possible, implied_by, implied_from}
use Rattle.pk_imply.proofs.CoverLemmas.{minimal, follows_over, minimal_within, inside_set, key_inside}
use Rattle.pk_imply.proofs.TruthLemmas.{cover_by_rule, cover_computed}
use Rattle.pk_imply.proofs.OrderLemmas.{one_list, Distinct, keys_once, joined_once, not_among_others, others_among}
use Rattle.std.specs.Cmp.{both_ways as same_truth}
use Rattle.pk_values.proofs.ColumnLemmas.{subset_itself}

-- ---- there is one cover

pub one_cover : (P : KeyDecl → Type 0) (width : ℕ) (a b : List KeyDecl) → IsCoverOf P width a → IsCoverOf P width b → a ≡ b
one_cover P width a b one other =
    let certain : one.certain ≡ other.certain = one_list _ one.certain other.certain one.certain_are other.certain_are in
    let possible : one.possible ≡ other.possible = one_list _ one.possible other.possible one.possible_are other.possible_are in
    one.keys_are ∙ ap (λ xs. map (key_over Certain) xs ++ map (key_over Possible) one.possible) certain
    ∙ ap (λ xs. map (key_over Certain) other.certain ++ map (key_over Possible) xs) possible ∙ sym other.keys_are

-- so it is the computed one
pub is_computed : (s : Plain) (keys : List KeyDecl) → IsPlain s → IsCover s keys → keys ≡ cover_of s
is_computed s keys plain cover = one_cover (Implied s) (length s.kinds) keys (cover_of s) cover (cover_computed s plain)

-- ---- its keys

-- a key of the cover is certain over a minimal set for Certain, or possible over one for Possible over which the certain key doesn't follow
member_of : (P : KeyDecl → Type 0) (width : ℕ) (keys : List KeyDecl) → IsCoverOf P width keys → (k : KeyDecl) → Contains keys k
    → ((x : ℕ) × (key_over Certain x ≡ k) × IsMinimal P width Certain x)
    ⊎ ((x : ℕ) × (key_over Possible x ≡ k) × IsMinimal P width Possible x × (¬ P (key_over Certain x)))
member_of P width keys cover k found =
    elim (Contains-append_cases (map (key_over Certain) cover.certain) (map (key_over Possible) cover.possible) k (subst (λ ks. Contains ks k) cover.keys_are found)) [
      | inl first ↦
          let from = map_in (key_over Certain) cover.certain k first in
          inl (from.0, from.2, cover.certain_are.only from.0 from.1)
      | inr second ↦
          let from = map_in (key_over Possible) cover.possible k second in
          let holds = cover.possible_are.only from.0 from.1 in
          inr (from.0, from.2, holds.0, holds.1)
    ]

certain_member : (P : KeyDecl → Type 0) (width : ℕ) (keys : List KeyDecl) → IsCoverOf P width keys → (x : ℕ) → IsMinimal P width Certain x → Contains keys (key_over Certain x)
certain_member P width keys cover x least =
    subst (λ ks. Contains ks (key_over Certain x)) (sym cover.keys_are)
    (Contains-append_left (map (key_over Certain) cover.certain) (map (key_over Possible) cover.possible) (key_over Certain x)
    (in_map (key_over Certain) cover.certain x (cover.certain_are.every x least)))

possible_member : (P : KeyDecl → Type 0) (width : ℕ) (keys : List KeyDecl) → IsCoverOf P width keys
    → (x : ℕ) → IsMinimal P width Possible x → (¬ P (key_over Certain x)) → Contains keys (key_over Possible x)
possible_member P width keys cover x least only =
    subst (λ ks. Contains ks (key_over Possible x)) (sym cover.keys_are)
    (Contains-append_right (map (key_over Certain) cover.certain) (map (key_over Possible) cover.possible) (key_over Possible x)
    (in_map (key_over Possible) cover.possible x (cover.possible_are.every x (least, only))))

-- each key of the cover lies inside the columns and follows
member_inside : (s : Plain) (keys : List KeyDecl) → IsCoverByRule s keys → (k : KeyDecl) → Contains keys k → (k.columns < 2 ^ length s.kinds) × (is_implied s k ≡ true)
member_inside s keys cover k found =
    elim (member_of (λ d. is_implied s d ≡ true) (length s.kinds) keys cover k found) [
      | inl certain ↦ subst (λ (d : KeyDecl). (d.columns < 2 ^ length s.kinds) × (is_implied s d ≡ true)) certain.1 (certain.2.inside, certain.2.holds)
      | inr possible ↦ subst (λ (d : KeyDecl). (d.columns < 2 ^ length s.kinds) × (is_implied s d ≡ true)) possible.1 (possible.2.inside, possible.2.holds)
    ]

-- what follows makes what it implies follow
moved : (s : Plain) (d k : KeyDecl) → IsPlain s → d.columns < 2 ^ length s.kinds → is_implied s d ≡ true → alone_implies s.known d k ≡ true → is_implied s k ≡ true
moved s d k plain inside implied alone =
    let declared = implied_by s d implied in
    implied_from s k declared.0 declared.1
    (alone_trans s.known declared.0 d k
    (inside_set s declared.0.columns plain (key_inside s declared.0 plain declared.1)) (inside_set s d.columns plain inside) declared.2 alone)

-- ---- it implies the same

from_cover : (s : Plain) (keys : List KeyDecl) (k : KeyDecl) → IsPlain s → IsCoverByRule s keys → is_implied (with_keys s keys) k ≡ true → is_implied s k ≡ true
from_cover s keys k plain cover implied =
    let by = implied_by (with_keys s keys) k implied in
    let member = member_inside s keys cover by.0 by.1 in
    moved s by.0 k plain member.0 member.1 by.2

-- through a certain key of the cover inside the columns
through_certain : (s : Plain) (keys : List KeyDecl) (sort : Sort) (x w : ℕ) → IsCoverByRule s keys
    → is_subset w x ≡ true → IsMinimal (λ d. is_implied s d ≡ true) (length s.kinds) Certain w → is_implied (with_keys s keys) (key_over sort x) ≡ true
through_certain s keys sort x w cover part least =
    implied_from (with_keys s keys) (key_over sort x) (key_over Certain w)
    (certain_member (λ d. is_implied s d ≡ true) (length s.kinds) keys cover w least)
    (alone_from s.known (key_over Certain w) (key_over sort x) part (fits_certain s.known sort w))

to_cover : (s : Plain) (keys : List KeyDecl) (sort : Sort) (x : ℕ) → IsPlain s → IsCoverByRule s keys → x < 2 ^ length s.kinds
    → is_implied s (key_over sort x) ≡ true → is_implied (with_keys s keys) (key_over sort x) ≡ true
to_cover s keys Certain x plain cover inside implied =
    let within = minimal_within s Certain x plain inside implied in
    through_certain s keys Certain x within.0 cover within.1 within.2
to_cover s keys Possible x plain cover inside implied =
    let within = minimal_within s Possible x plain inside implied in
    elim (cases_Bool (is_implied s (key_over Certain within.0))) [
      | inl certain ↦
          let deeper = minimal_within s Certain within.0 plain within.2.inside certain in
          through_certain s keys Possible x deeper.0 cover
          (subset_trans deeper.0 within.0 x (inside_set s deeper.0 plain deeper.2.inside) (inside_set s within.0 plain within.2.inside) deeper.1 within.1) deeper.2
      | inr fails ↦
          implied_from (with_keys s keys) (key_over Possible x) (key_over Possible within.0)
          (possible_member (λ d. is_implied s d ≡ true) (length s.kinds) keys cover within.0 within.2
          (λ certain. both_ways (is_implied s (key_over Certain within.0)) fails certain))
          (alone_from s.known (key_over Possible within.0) (key_over Possible x) within.1 (fits_possible s.known (key_over Possible within.0)))
    ]

pub implies_the_same : (s : Plain) (keys : List KeyDecl) (k : KeyDecl) → IsPlain s → IsCoverByRule s keys → k.columns < 2 ^ length s.kinds
    → is_implied (with_keys s keys) k ≡ is_implied s k
implies_the_same s keys k plain cover inside =
    same_truth (is_implied (with_keys s keys) k) (is_implied s k) (from_cover s keys k plain cover) (to_cover s keys k.sort k.columns plain cover inside)

pub cover_plain : (s : Plain) (keys : List KeyDecl) → IsPlain s → IsCoverByRule s keys → IsPlain (with_keys s keys)
cover_plain s keys plain cover = record {
  few_columns = plain.few_columns;
  known_inside = plain.known_inside;
  keys_inside = all_inside (λ (k : KeyDecl). k.columns < 2 ^ length s.kinds) keys (λ k found. (member_inside s keys cover k found).0);
}

-- ---- none is implied by the others

cover_once : (s : Plain) (keys : List KeyDecl) → IsCoverByRule s keys → Distinct keys
cover_once s keys cover =
    subst (λ (ks : List KeyDecl). Distinct ks) (sym cover.keys_are)
    (joined_once (map (key_over Certain) cover.certain) (map (key_over Possible) cover.possible)
    (keys_once Certain cover.certain cover.certain_are.ascend) (keys_once Possible cover.possible cover.possible_are.ascend)
    (λ k first second.
    let one = map_in (key_over Certain) cover.certain k first in
    let other = map_in (key_over Possible) cover.possible k second in
    sorts_differ (ap (λ (d : KeyDecl). d.sort) (one.2 ∙ sym other.2))))
  where
    sorts_differ : Certain ≡ Possible → ⊥
    sorts_differ same = cc

-- of two keys of one sort over minimal sets, one implies the other only where the sets are one
same_sets : (s : Plain) (sort : Sort) (y x : ℕ) → minimal s sort y → minimal s sort x → alone_implies s.known (key_over sort y) (key_over sort x) ≡ true → y ≡ x
same_sets s sort y x one other alone = other.least y one.inside (alone_parts s.known (key_over sort y) (key_over sort x) alone).0 one.holds

certain_moves : (s : Plain) (y x : ℕ) → IsPlain s → minimal s Certain y → alone_implies s.known (key_over Certain y) (key_over Possible x) ≡ true → follows_over s Certain x
certain_moves s y x plain least alone =
    moved s (key_over Certain y) (key_over Certain x) plain least.inside least.holds
    (alone_from s.known (key_over Certain y) (key_over Certain x) (alone_parts s.known (key_over Certain y) (key_over Possible x) alone).0 (fits_certain s.known Certain y))

possible_moves : (s : Plain) (y x : ℕ) → IsPlain s → minimal s Possible y → alone_implies s.known (key_over Possible y) (key_over Certain x) ≡ true → follows_over s Certain y
possible_moves s y x plain least alone =
    moved s (key_over Possible y) (key_over Certain y) plain least.inside least.holds
    (alone_from s.known (key_over Possible y) (key_over Certain y) (subset_itself y) (alone_parts s.known (key_over Possible y) (key_over Certain x) alone).1)

-- so of two keys of the cover one implies the other only where they are one
same_if_implies : (s : Plain) (keys : List KeyDecl) → IsPlain s → IsCoverByRule s keys → (d k : KeyDecl) → Contains keys d → Contains keys k
    → alone_implies s.known d k ≡ true → d ≡ k
same_if_implies s keys plain cover d k d_in k_in alone =
    elim (member_of (λ e. is_implied s e ≡ true) (length s.kinds) keys cover d d_in) [
      | inl dc ↦ elim (member_of (λ e. is_implied s e ≡ true) (length s.kinds) keys cover k k_in) [
        | inl kc ↦ sym dc.1 ∙ ap (key_over Certain) (same_sets s Certain dc.0 kc.0 dc.2 kc.2 (over dc.1 kc.1 alone)) ∙ kc.1
        | inr kp ↦ absurd (kp.3 (certain_moves s dc.0 kp.0 plain dc.2 (over dc.1 kp.1 alone)))
      ]
      | inr dp ↦ elim (member_of (λ e. is_implied s e ≡ true) (length s.kinds) keys cover k k_in) [
        | inl kc ↦ absurd (dp.3 (possible_moves s dp.0 kc.0 plain dp.2 (over dp.1 kc.1 alone)))
        | inr kp ↦ sym dp.1 ∙ ap (key_over Possible) (same_sets s Possible dp.0 kp.0 dp.2 kp.2 (over dp.1 kp.1 alone)) ∙ kp.1
      ]
    ]
  where
    over : {e f : KeyDecl} → e ≡ d → f ≡ k → alone_implies s.known d k ≡ true → alone_implies s.known e f ≡ true
    over {e} {f} same_d same_k alone =
        subst (λ (g : KeyDecl). alone_implies s.known g f ≡ true) (sym same_d) (subst (λ (g : KeyDecl). alone_implies s.known d g ≡ true) (sym same_k) alone)

pub none_to_spare : (s : Plain) (front rest : List KeyDecl) (k : KeyDecl) → IsPlain s → IsCoverByRule s (front ++ (k ∷ rest))
    → is_implied (with_keys s (front ++ rest)) k ≡ false
none_to_spare s front rest k plain cover =
    elim (cases_Bool (is_implied (with_keys s (front ++ rest)) k)) [
      | inr fails ↦ fails
      | inl implied ↦
          let by = implied_by (with_keys s (front ++ rest)) k implied in
          let same : by.0 ≡ k =
          same_if_implies s (front ++ (k ∷ rest)) plain cover by.0 k (others_among front rest k by.0 by.1) (Contains-append_right front (k ∷ rest) k (in_first k rest)) by.2 in
          absurd (not_among_others front rest k (cover_once s (front ++ (k ∷ rest)) cover) (subst (Contains (front ++ rest)) same by.1))
    ]

-- ---- it is in each equal list

-- a key of the others follows
other_follows : (s : Plain) (others : List KeyDecl) → IsPlain (with_keys s others)
    → ((k : KeyDecl) → k.columns < 2 ^ length s.kinds → is_implied (with_keys s others) k ≡ is_implied s k)
    → (d : KeyDecl) → Contains others d → (d.columns < 2 ^ length s.kinds) × (is_implied s d ≡ true)
other_follows s others plain equal d found =
    let inside = key_inside (with_keys s others) d plain found in
    (inside, sym (equal d inside) ∙ implied_from (with_keys s others) d d found (itself_implied s.known d))

certain_among : (s : Plain) (others : List KeyDecl) (x : ℕ) → minimal s Certain x → MayBeNull s others
    → (sort : Sort) (y : ℕ) → Contains others (key_over sort y) → (y < 2 ^ length s.kinds) × (follows_over s sort y)
    → alone_implies s.known (key_over sort y) (key_over Certain x) ≡ true → Contains others (key_over Certain x)
certain_among s others x least null Certain y found holds alone =
    subst (λ z. Contains others (key_over Certain z)) (least.least y holds.0 (alone_parts s.known (key_over Certain y) (key_over Certain x) alone).0 holds.1) found
certain_among s others x least null Possible y found holds alone =
    absurd (both_ways (is_subset y s.known) (null (key_over Possible y) found refl)
    (known_of_possible s.known y (alone_parts s.known (key_over Possible y) (key_over Certain x) alone).1))

possible_among : (s : Plain) (others : List KeyDecl) (x : ℕ) → IsPlain s → minimal s Possible x → (¬ follows_over s Certain x)
    → (sort : Sort) (y : ℕ) → Contains others (key_over sort y) → (y < 2 ^ length s.kinds) × (follows_over s sort y)
    → alone_implies s.known (key_over sort y) (key_over Possible x) ≡ true → Contains others (key_over Possible x)
possible_among s others x plain least only Possible y found holds alone =
    subst (λ z. Contains others (key_over Possible z)) (least.least y holds.0 (alone_parts s.known (key_over Possible y) (key_over Possible x) alone).0 holds.1) found
possible_among s others x plain least only Certain y found holds alone =
    absurd (only (moved s (key_over Certain y) (key_over Certain x) plain holds.0 holds.1
    (alone_from s.known (key_over Certain y) (key_over Certain x) (alone_parts s.known (key_over Certain y) (key_over Possible x) alone).0 (fits_certain s.known Certain y))))

pub in_each_equal : (s : Plain) (keys others : List KeyDecl) → IsPlain s → IsPlain (with_keys s others) → IsCoverByRule s keys → MayBeNull s others
    → ((k : KeyDecl) → k.columns < 2 ^ length s.kinds → is_implied (with_keys s others) k ≡ is_implied s k)
    → (k : KeyDecl) → Contains keys k → Contains others k
in_each_equal s keys others plain other_plain cover null equal k found =
    elim (member_of (λ e. is_implied s e ≡ true) (length s.kinds) keys cover k found) [
      | inl certain ↦
          let by = implied_by (with_keys s others) (key_over Certain certain.0) (equal (key_over Certain certain.0) certain.2.inside ∙ certain.2.holds) in
          subst (Contains others) certain.1
          (certain_among s others certain.0 certain.2 null by.0.sort by.0.columns by.1 (other_follows s others other_plain equal by.0 by.1) by.2)
      | inr possible ↦
          let by = implied_by (with_keys s others) (key_over Possible possible.0) (equal (key_over Possible possible.0) possible.2.inside ∙ possible.2.holds) in
          subst (Contains others) possible.1
          (possible_among s others possible.0 plain possible.2 possible.3 by.0.sort by.0.columns by.1 (other_follows s others other_plain equal by.0 by.1) by.2)
    ]

-- ---- the same over all tables

pub implies_the_same_truly : (s : Plain) (keys : List KeyDecl) (k : KeyDecl) → IsPlain s → IsCover s keys → k.columns < 2 ^ length s.kinds
    → (Implied (with_keys s keys) k → Implied s k) × (Implied s k → Implied (with_keys s keys) k)
implies_the_same_truly s keys k plain cover inside =
    let by_rule = cover_by_rule s keys plain cover in
    let keys_plain = cover_plain s keys plain by_rule in
    let same = implies_the_same s keys k plain by_rule inside in (
      (λ implied. implied_holds s k plain inside (sym same ∙ holds_implied (with_keys s keys) k keys_plain inside implied)),
      (λ implied. implied_holds (with_keys s keys) k keys_plain inside (same ∙ holds_implied s k plain inside implied)),
    )

pub none_to_spare_truly : (s : Plain) (front rest : List KeyDecl) (k : KeyDecl) → IsPlain s → IsCover s (front ++ (k ∷ rest)) → ¬ Implied (with_keys s (front ++ rest)) k
none_to_spare_truly s front rest k plain cover = λ implied.
    let by_rule = cover_by_rule s (front ++ (k ∷ rest)) plain cover in
    let all_plain = cover_plain s (front ++ (k ∷ rest)) plain by_rule in
    let others_plain : IsPlain (with_keys s (front ++ rest)) = record {
      few_columns = plain.few_columns;
      known_inside = plain.known_inside;
      keys_inside =
          all_inside (λ (d : KeyDecl). d.columns < 2 ^ length s.kinds) (front ++ rest)
          (λ d found. key_inside (with_keys s (front ++ (k ∷ rest))) d all_plain (others_among front rest k d found));
    } in
    let inside = key_inside (with_keys s (front ++ (k ∷ rest))) k all_plain (Contains-append_right front (k ∷ rest) k (in_first k rest)) in
    both_ways (is_implied (with_keys s (front ++ rest)) k) (none_to_spare s front rest k plain by_rule) (holds_implied (with_keys s (front ++ rest)) k others_plain inside implied)

pub in_each_equal_truly : (s : Plain) (keys others : List KeyDecl) → IsPlain s → IsPlain (with_keys s others) → IsCover s keys → MayBeNull s others
    → ((k : KeyDecl) → k.columns < 2 ^ length s.kinds → (Implied (with_keys s others) k → Implied s k) × (Implied s k → Implied (with_keys s others) k))
    → (k : KeyDecl) → Contains keys k → Contains others k
in_each_equal_truly s keys others plain other_plain cover null equal =
    in_each_equal s keys others plain other_plain (cover_by_rule s keys plain cover) null
    (λ k inside. same_truth (is_implied (with_keys s others) k) (is_implied s k)
    (λ implied. holds_implied s k plain inside ((equal k inside).0 (implied_holds (with_keys s others) k other_plain inside implied)))
    (λ implied. holds_implied (with_keys s others) k other_plain inside ((equal k inside).1 (implied_holds s k plain inside implied))))
