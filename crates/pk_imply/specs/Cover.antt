-- The cover of a schema's keys: the least keys that say the same.
use Rattle.std.specs.Prelude.{◌≡◌, ℕ, ◌^◌, ◌<◌, not, List, [], ◌++◌, length, map, filter, fold, Contains, IsTrue}
use Rattle.std.specs.BTreeSet.{insert_key}
use Rattle.std.specs.List.Sorted.{IsStrictlySortedBy}
use Rattle.pk_values.specs.declared.key.KeyDecl.{KeyDecl}
use Rattle.pk_values.specs.declared.key.Sort.{Sort}
use Rattle.pk_values.specs.declared.key.Sort.TheVariants.{Certain, Possible}
use Rattle.pk_values.specs.ColumnSet.{is_subset, column_set_cmp}
use Rattle.pk_rule.specs.Plain.{Plain}
use Rattle.pk_rule.specs.Tables.{Implied}
use Rattle.pk_rule.specs.Rule.{is_implied}
use Rattle.pk_rule.specs.Laws.{key_over}
use Rattle.pk_imply.specs.Candidates.{candidates, has_part}

-- A set x of columns below the width over which the key of this sort follows, and over no proper subset of it: a subset over which
-- it follows is x.
pub record IsMinimal (follows : KeyDecl → Type 0) (width : ℕ) (sort : Sort) (x : ℕ) : Type 0 where
  pub inside : x < 2 ^ width
  pub holds : follows (key_over sort x)
  pub least : (y : ℕ) → y < 2 ^ width → IsTrue (is_subset y x) → follows (key_over sort y) → y ≡ x

-- the sets that have P, and no others, each once and in the order of sets
pub record ListsAll (P : ℕ → Type 0) (sets : List ℕ) : Type 0 where
  pub ascend : IsStrictlySortedBy column_set_cmp sets
  pub only : (x : ℕ) → Contains sets x → P x
  pub every : (x : ℕ) → P x → Contains sets x

-- First the certain keys over the minimal sets for Certain, then the possible keys over the minimal sets for Possible, without those
-- over which the certain key follows.
pub record IsCoverOf (follows : KeyDecl → Type 0) (width : ℕ) (keys : List KeyDecl) : Type 0 where
  pub certain : List ℕ
  pub possible : List ℕ
  pub keys_are : keys ≡ map (key_over Certain) certain ++ map (key_over Possible) possible
  pub certain_are : ListsAll (IsMinimal follows width Certain) certain
  pub possible_are : ListsAll (λ x. IsMinimal follows width Possible x × (¬ follows (key_over Certain x))) possible

-- the keys are the cover, where a key follows that holds in every table of the schema
abbrev pub IsCover : Plain → List KeyDecl → Type 0
IsCover s keys = IsCoverOf (Implied s) (length s.kinds) keys

-- the same by sets of columns alone
abbrev pub IsCoverByRule : Plain → List KeyDecl → Type 0
IsCoverByRule s keys = IsCoverOf (λ k. IsTrue (is_implied s k)) (length s.kinds) keys

-- ---- the cover, computed

-- the sets in their order, each once
abbrev pub in_order : List ℕ → List ℕ
in_order sets = fold (insert_key column_set_cmp) [] sets

-- those of the sets inside which no other lies, in their order, each once
abbrev pub least_of : List ℕ → List ℕ
least_of sets = in_order (filter (λ x. not (has_part sets x)) sets)

-- First the certain keys over the least candidates for Certain, then the possible keys over the least candidates for Possible,
-- without those over which the certain key follows.
unfoldable pub cover_of : Plain → List KeyDecl
cover_of s =
    map (key_over Certain) (least_of (candidates s.known Certain s.keys))
    ++ map (key_over Possible) (filter (λ x. not (is_implied s (key_over Certain x))) (least_of (candidates s.known Possible s.keys)))
