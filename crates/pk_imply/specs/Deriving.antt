-- Which declared key implies another, and by which rules.
use Rattle.std.specs.Prelude.{◌≡◌, ℕ, suc, ◌+◌, ◌<◌, ◌==◌, List, [], ◌∷◌, ◌++◌, Option, None, Some, IsTrue, position, slice_get, if◌then◌else◌}
use Rattle.pk_values.specs.declared.key.KeyDecl.{KeyDecl}
use Rattle.pk_values.specs.declared.key.Sort.{Sort}
use Rattle.pk_values.specs.declared.key.Sort.TheVariants.{Certain, Possible}
use Rattle.pk_values.specs.declared.rule.Rule.{Rule}
use Rattle.pk_values.specs.declared.rule.Rule.TheVariants.{Declared, Strengthen, Weaken, Extend}
use Rattle.pk_values.specs.ColumnSet.{IsColumnSet, is_subset}
use Rattle.pk_rule.specs.Plain.{Plain}
use Rattle.pk_rule.specs.Tables.{Implied}
use Rattle.pk_rule.specs.Rule.{alone_implies}
use Rattle.pk_rule.specs.Laws.{with_key}

-- the least place, from 0, of a declared key that alone implies the key
abbrev pub implying_place : Plain → KeyDecl → Option ℕ
implying_place s k = position (λ d. alone_implies s.known d k) s.keys

-- The declared key at this place is the first that alone implies k: k holds in every table of the schema with that one key, and for no declared key before
-- it is that so.
pub record IsFirstAlone (s : Plain) (k : KeyDecl) (place : ℕ) : Type 0 where
  pub alone : (d : KeyDecl) × (slice_get s.keys place ≡ Some d) × Implied (with_key s d) k
  pub first : (i : ℕ) (d : KeyDecl) → i < place → slice_get s.keys i ≡ Some d → ¬ Implied (with_key s d) k

-- What a place says of all tables: the key holds in every table of the schema, and the declared key at that place is the first that alone implies it. And
-- no place says that the key fails in some table of the schema.
abbrev pub IsTrueOfTables : Plain → KeyDecl → Option ℕ → Type 0
IsTrueOfTables s k None = ¬ Implied s k
IsTrueOfTables s k (Some place) = Implied s k × IsFirstAlone s k place

-- ---- the rules that are told

-- from one sort to another
abbrev pub sort_rules : Sort → Sort → List Rule
sort_rules Possible Certain = Strengthen ∷ []
sort_rules Certain Possible = Weaken ∷ []
sort_rules Certain Certain = []
sort_rules Possible Possible = []

-- from one set of columns to another
abbrev pub column_rules : ℕ → ℕ → List Rule
column_rules set more = if set == more then [] else Extend more ∷ []

-- from one key to another: first the sort, then the columns
abbrev pub rules_between : KeyDecl → KeyDecl → List Rule
rules_between d k = sort_rules d.sort k.sort ++ column_rules d.columns k.columns

-- from the first of the keys that alone implies k, where the first of all has this place
unfoldable pub rules_from : ℕ → ℕ → List KeyDecl → KeyDecl → List Rule
rules_from known place [] k = []
rules_from known place (d ∷ ds) k = if alone_implies known d k then Declared place ∷ rules_between d k else rules_from known (suc place) ds k

-- from the declared key that implies k and has the least place, counted from 1
abbrev pub rules_of : Plain → KeyDecl → List Rule
rules_of s k = rules_from s.known 1 s.keys k

-- ---- what rules lead to

-- The rules, taken one by one, lead from key d to key k. Strengthening wants NOT NULL columns, and extension a set with all columns.
abbrev pub Leads : ℕ → KeyDecl → List Rule → KeyDecl → Type 0
Leads known d [] k = d ≡ k
Leads known d (Declared place ∷ rules) k = ⊥
Leads known d (Strengthen ∷ rules) k = (d.sort ≡ Possible) × IsTrue (is_subset d.columns known) × Leads known (record d { sort = Certain }) rules k
Leads known d (Weaken ∷ rules) k = (d.sort ≡ Certain) × Leads known (record d { sort = Possible }) rules k
Leads known d (Extend set ∷ rules) k = IsColumnSet set × IsTrue (is_subset d.columns set) × Leads known (record d { columns = set }) rules k

-- the rules begin with the declaration of the key at this place, which is told counted from 1, and then lead from it to k
abbrev pub DerivesFrom : ℕ → Plain → List Rule → KeyDecl → Type 0
DerivesFrom place s rules k = (rest : List Rule) × (d : KeyDecl) × (rules ≡ Declared (place + 1) ∷ rest) × (slice_get s.keys place ≡ Some d) × Leads s.known d rest k

-- they do so from some place
abbrev pub Derives : Plain → List Rule → KeyDecl → Type 0
Derives s rules k = (place : ℕ) × DerivesFrom place s rules k
