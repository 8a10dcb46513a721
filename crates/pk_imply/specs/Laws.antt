-- What implication and the cover come to. s is a plain schema, keys are its cover, and k is a key over its columns.
use Rattle.std.specs.Prelude.{◌≡◌, ℕ, ◌^◌, ◌<◌, List, ◌∷◌, ◌++◌, length, Contains, Some, IsFalse}
use Rattle.pk_values.specs.declared.key.KeyDecl.{KeyDecl}
use Rattle.pk_values.specs.declared.key.Sort.TheVariants.{Possible}
use Rattle.pk_values.specs.declared.rule.Rule.{Rule}
use Rattle.pk_values.specs.ColumnSet.{is_subset}
use Rattle.pk_rule.specs.Plain.{Plain, IsPlain}
use Rattle.pk_rule.specs.Tables.{Implied}
use Rattle.pk_rule.specs.Rule.{is_implied}
use Rattle.pk_imply.specs.Deriving.{implying_place, IsTrueOfTables, rules_of, DerivesFrom, Derives}
use Rattle.pk_imply.specs.Cover.{IsCover, IsCoverByRule, cover_of}

-- the schema with these keys in place of its own
abbrev pub with_keys : Plain → List KeyDecl → Plain
with_keys s keys = record s { keys = keys }

-- ---- implication

-- The place that is told is that of the first declared key that alone implies the key, and none is told where the key fails in some table.
abbrev pub PlacesAreTrueOfTables : Type 0
PlacesAreTrueOfTables = (s : Plain) (k : KeyDecl) → IsPlain s → k.columns < 2 ^ length s.kinds → IsTrueOfTables s k (implying_place s k)

-- The rules that are told begin with the declaration of the key at that place, and lead from it to the key asked for.
abbrev pub RulesLeadToTheKey : Type 0
RulesLeadToTheKey =
    (s : Plain) (k : KeyDecl) (place : ℕ) → IsPlain s → k.columns < 2 ^ length s.kinds → implying_place s k ≡ Some place → DerivesFrom place s (rules_of s k) k

-- Whatever rules lead from a declared key to another, this one holds in every table of the schema.
abbrev pub DerivationsAreSound : Type 0
DerivationsAreSound = (s : Plain) (rules : List Rule) (k : KeyDecl) → IsPlain s → Derives s rules k → Implied s k

-- ---- the cover

-- There is at most one list that is the cover.
abbrev pub OneListIsTheCover : Type 0
OneListIsTheCover = (s : Plain) (a b : List KeyDecl) → IsCover s a → IsCover s b → a ≡ b

-- And there is one, which the declared keys' sets compute.
abbrev pub TheCoverIsComputed : Type 0
TheCoverIsComputed = (s : Plain) → IsPlain s → IsCover s (cover_of s)

-- Column sets alone tell which list is the cover.
abbrev pub TheRuleTellsTheCover : Type 0
TheRuleTellsTheCover =
    (s : Plain) (keys : List KeyDecl) → IsPlain s → (IsCoverByRule s keys → IsCover s keys) × (IsCover s keys → IsCoverByRule s keys)

-- The cover implies just what the declared keys imply.
abbrev pub CoverImpliesTheSame : Type 0
CoverImpliesTheSame =
    (s : Plain) (keys : List KeyDecl) (k : KeyDecl) → IsPlain s → IsCover s keys → k.columns < 2 ^ length s.kinds
    → (Implied (with_keys s keys) k → Implied s k) × (Implied s k → Implied (with_keys s keys) k)

-- The same by column sets.
abbrev pub CoverImpliesTheSameByRule : Type 0
CoverImpliesTheSameByRule =
    (s : Plain) (keys : List KeyDecl) (k : KeyDecl) → IsPlain s → IsCoverByRule s keys → k.columns < 2 ^ length s.kinds
    → is_implied (with_keys s keys) k ≡ is_implied s k

-- None of the cover's keys is implied by the others.
abbrev pub CoverHasNoneToSpare : Type 0
CoverHasNoneToSpare =
    (s : Plain) (front rest : List KeyDecl) (k : KeyDecl) → IsPlain s → IsCover s (front ++ (k ∷ rest)) → ¬ Implied (with_keys s (front ++ rest)) k

-- The same by column sets.
abbrev pub CoverHasNoneToSpareByRule : Type 0
CoverHasNoneToSpareByRule =
    (s : Plain) (front rest : List KeyDecl) (k : KeyDecl) → IsPlain s → IsCoverByRule s (front ++ (k ∷ rest))
    → IsFalse (is_implied (with_keys s (front ++ rest)) k)

-- each possible key among these has a column that may be null
abbrev pub MayBeNull : Plain → List KeyDecl → Type 0
MayBeNull s keys = (d : KeyDecl) → Contains keys d → d.sort ≡ Possible → IsFalse (is_subset d.columns s.known)

-- Other keys that imply the same have all keys of the cover, if each possible one has a column that may be null.
abbrev pub CoverIsInEachEqual : Type 0
CoverIsInEachEqual =
    (s : Plain) (keys others : List KeyDecl) → IsPlain s → IsPlain (with_keys s others) → IsCover s keys → MayBeNull s others
    → ((k : KeyDecl) → k.columns < 2 ^ length s.kinds → (Implied (with_keys s others) k → Implied s k) × (Implied s k → Implied (with_keys s others) k))
    → (k : KeyDecl) → Contains keys k → Contains others k

-- The same by column sets.
abbrev pub CoverIsInEachEqualByRule : Type 0
CoverIsInEachEqualByRule =
    (s : Plain) (keys others : List KeyDecl) → IsPlain s → IsPlain (with_keys s others) → IsCoverByRule s keys → MayBeNull s others
    → ((k : KeyDecl) → k.columns < 2 ^ length s.kinds → is_implied (with_keys s others) k ≡ is_implied s k)
    → (k : KeyDecl) → Contains keys k → Contains others k
