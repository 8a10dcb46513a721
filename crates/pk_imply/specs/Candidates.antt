-- How the code finds minimal sets: among those of the declared keys.
use Rattle.std.specs.Prelude.{◌≡◌, ℕ, Bool, not, ◌&&◌, ◌==◌, List, map, filter, Contains, IsTrue}
use Rattle.std.specs.List.{list_any}
use Rattle.pk_values.specs.declared.key.KeyDecl.{KeyDecl}
use Rattle.pk_values.specs.declared.key.Sort.{Sort}
use Rattle.pk_values.specs.ColumnSet.{is_subset}
use Rattle.pk_rule.specs.Rule.{alone_implies}
use Rattle.pk_rule.specs.Laws.{key_over}

-- the columns of the keys that imply the key of this sort over the same columns
abbrev pub candidates : ℕ → Sort → List KeyDecl → List ℕ
candidates known sort keys = map (λ (d : KeyDecl). d.columns) (filter (λ (d : KeyDecl). alone_implies known d (key_over sort d.columns)) keys)

-- one of the sets lies inside this one, and isn't the same
abbrev pub has_part : List ℕ → ℕ → Bool
has_part sets x = list_any (λ y. is_subset y x && not (y == x)) sets

-- one of the sets, and no other lies inside it
pub record IsLeast (sets : List ℕ) (x : ℕ) : Type 0 where
  pub among : Contains sets x
  pub least : (y : ℕ) → Contains sets y → IsTrue (is_subset y x) → y ≡ x
