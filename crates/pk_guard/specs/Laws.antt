-- What the first break says of a table's keys.
use Rattle.std.specs.Prelude.{◌≡◌, ℕ, ◌+◌, ◌≤◌, ◌<◌, List, Some, None, All, slice_get}
use Rattle.pk_values.specs.ColumnSet.{columns}
use Rattle.pk_values.specs.declared.broken.Break.{Break}
use Rattle.pk_values.specs.declared.key.KeyDecl.{KeyDecl}
use Rattle.pk_values.specs.declared.key.Sort.{Sort}
use Rattle.pk_values.specs.declared.key.Sort.TheVariants.{Certain, Possible}
use Rattle.pk_values.specs.declared.kind.Kind.{Kind}
use Rattle.pk_values.specs.declared.placed.Placed.{Placed}
use Rattle.pk_values.specs.declared.value.Value.{Value}
use Rattle.pk_similar.specs.Filling.{fill_values}
use Rattle.pk_similar.specs.Laws.{CompletesBoth, MayAgree, MustAgree, HasValues}
use Rattle.pk_rule.specs.Tables.{KeyHolds}
use Rattle.pk_schema.specs.Admits.{Admits}
use Rattle.pk_schema.specs.Shapes.{Shape, IsShape, kinds_of}
use Rattle.pk_guard.specs.Breaks.{first_break}
use Rattle.pk_guard.specs.Changed.{RowsAscend}
use Rattle.pk_guard.specs.Holds.{KeysHold, values_of}

-- All keys of a table hold, over all completions of it, exactly where nothing breaks.
abbrev pub KeysHoldWhereNothingBreaks : Type 0
KeysHoldWhereNothingBreaks =
    (s : Shape) (rows : List Placed) → IsShape s → All (λ (p : Placed). Admits s p.row) rows
    → (KeysHold s rows → first_break s rows ≡ None) × (first_break s rows ≡ None → KeysHold s rows)

-- how two rows break a key of this sort over these columns: a certain key where some completion of the two agrees on them, a possible key where every
-- completion of the two does
abbrev pub BreakAs : Sort → List Kind → List ℕ → List Value → List Value → Type 0
BreakAs Certain kinds cs a b = MayAgree kinds a b cs
BreakAs Possible kinds cs a b = MustAgree kinds a b cs

-- the rows at two places, the earlier and the later, break the key at place c; places count from 0 here
pub record BreaksAt (s : Shape) (rows : List Placed) (c i j : ℕ) (k : KeyDecl) (p q : Placed) : Type 0 where
  pub key : slice_get s.keys c ≡ Some k
  pub apart : i < j
  pub earlier : slice_get rows i ≡ Some p
  pub later : slice_get rows j ≡ Some q
  pub breaking : BreakAs k.sort (kinds_of s.columns) (columns k.columns) p.row q.row

-- these are the key, its sort and the two rows that are told
pub record Tells (b : Break) (c : ℕ) (k : KeyDecl) (p q : Placed) : Type 0 where
  pub key : b.key ≡ c + 1
  pub sort : b.sort ≡ k.sort
  pub low : b.low ≡ p.id
  pub high : b.high ≡ q.id
  pub ordered : b.low < b.high

-- what is told comes no later than these: by the key's place, then by the lower id, then by the higher
pub record IsNoLater (b : Break) (key low high : ℕ) : Type 0 where
  pub by_key : b.key ≤ key
  pub by_low : b.key ≡ key → b.low ≤ low
  pub by_high : b.key ≡ key → b.low ≡ low → b.high ≤ high

-- no break of the table comes before it
abbrev pub ComesFirst : Shape → List Placed → Break → Type 0
ComesFirst s rows b = (c i j : ℕ) (k : KeyDecl) (p q : Placed) → BreaksAt s rows c i j k p q → IsNoLater b (c + 1) p.id q.id

-- it is a break of the table, and none comes before it
pub record IsLeastBreak (s : Shape) (rows : List Placed) (b : Break) : Type 0 where
  pub stands : (c i j : ℕ) × (k : KeyDecl) × (p q : Placed) × BreaksAt s rows c i j k p q × Tells b c k p q
  pub least : ComesFirst s rows b

-- Of rows that ascend by their ids no two break a key where there is no first break; else it is the least of all breaks.
abbrev pub FirstBreaksAreLeast : Type 0
FirstBreaksAreLeast =
    (s : Shape) (rows : List Placed) → IsShape s → All (λ (p : Placed). Admits s p.row) rows → RowsAscend rows
    → (first_break s rows ≡ None → (c i j : ℕ) (k : KeyDecl) (p q : Placed) → ¬ BreaksAt s rows c i j k p q)
    × ((b : Break) → first_break s rows ≡ Some b → IsLeastBreak s rows b)

-- what the values of a break of a key of this sort are: some completion of the two rows gives them to both, or both have them already
abbrev pub AreCommon : Sort → List Kind → List ℕ → List Value → List Value → List Value → Type 0
AreCommon Certain kinds cs a b values =
    (full_a full_b : List Value) × CompletesBoth kinds a b full_a full_b × HasValues cs full_a values × HasValues cs full_b values
AreCommon Possible kinds cs a b values = HasValues cs a values × HasValues cs b values

-- a break shows that the key which it tells doesn't hold over all completions: it tells two rows that break the key, with their common values on its
-- columns (those that either row has, and 0 or '' where both are null), and no break comes before it
pub record ShowsTwoRows (s : Shape) (rows : List Placed) (b : Break) (c i j : ℕ) (k : KeyDecl) (p q : Placed) : Type 0 where
  pub fails : ¬ KeyHolds (kinds_of s.columns) (values_of rows) k
  pub stands : BreaksAt s rows c i j k p q
  pub told : Tells b c k p q
  pub values : AreCommon k.sort (kinds_of s.columns) (columns k.columns) p.row q.row b.values
  pub filled : b.values ≡ fill_values (kinds_of s.columns) (columns k.columns) p.row q.row
  pub least : ComesFirst s rows b

-- So does each first break.
abbrev pub BreaksShowTwoRows : Type 0
BreaksShowTwoRows =
    (s : Shape) (rows : List Placed) (b : Break) → IsShape s → All (λ (p : Placed). Admits s p.row) rows → RowsAscend rows → first_break s rows ≡ Some b
    → (c i j : ℕ) × (k : KeyDecl) × (p q : Placed) × ShowsTwoRows s rows b c i j k p q
