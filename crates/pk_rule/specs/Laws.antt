-- What a schema implies. s is a plain schema, k a key over its columns, and rows a table.
use Rattle.std.specs.Prelude.{◌≡◌, ℕ, ◌^◌, ◌<◌, List, [], ◌∷◌, length, IsTrue, IsFalse}
use Rattle.pk_values.specs.declared.key.KeyDecl.{KeyDecl}
use Rattle.pk_values.specs.declared.key.Sort.{Sort}
use Rattle.pk_values.specs.declared.key.Sort.TheVariants as sorts
use Rattle.pk_values.specs.declared.kind.Kind.{Kind}
use Rattle.pk_values.specs.declared.value.Value.{Value}
use Rattle.pk_values.specs.ColumnSet.{IsColumnSet, is_subset}
use Rattle.pk_schema.specs.Shapes.{Shape, IsShape, name_at}
use Rattle.pk_similar.specs.Laws.{all_fit}
use Rattle.pk_rule.specs.Plain.{Plain, IsPlain, plain_of}
use Rattle.pk_rule.specs.Tables.{KeyHolds, Implied, Refutes, all_known}
use Rattle.pk_rule.specs.Rule.{alone_implies, is_implied}
use Rattle.pk_rule.specs.TwoRows.{low_row, high_row}

-- the key over this set of columns
abbrev pub key_over : Sort → ℕ → KeyDecl
key_over sort set = record { sort = sort; columns = set }

-- ---- the rule

-- A key holds in every table of a schema exactly where some declared key alone makes it hold.
abbrev pub TheRuleIsTheTruth : Type 0
TheRuleIsTheTruth =
    (s : Plain) (k : KeyDecl) → IsPlain s → k.columns < 2 ^ length s.kinds
    → (Implied s k → IsTrue (is_implied s k)) × (IsTrue (is_implied s k) → Implied s k)

-- the schema with this key alone
abbrev pub with_key : Plain → KeyDecl → Plain
with_key s d = record s { keys = d ∷ [] }

-- And one declared key alone makes a key hold exactly where the key holds in every table of the schema with that one key.
abbrev pub OneKeyAloneImplies : Type 0
OneKeyAloneImplies =
    (s : Plain) (d k : KeyDecl) → IsPlain (with_key s d) → k.columns < 2 ^ length s.kinds
    → (Implied (with_key s d) k → IsTrue (alone_implies s.known d k)) × (IsTrue (alone_implies s.known d k) → Implied (with_key s d) k)

-- A key that isn't implied fails in the table of its two rows, which is one of the schema.
abbrev pub TwoRowsRefute : Type 0
TwoRowsRefute =
    (s : Plain) (k : KeyDecl) → IsPlain s → k.columns < 2 ^ length s.kinds → IsFalse (is_implied s k)
    → Refutes s k (low_row s k ∷ high_row s k ∷ [])

-- No two columns of a schema have the same name.
abbrev pub ColumnsHaveDistinctNames : Type 0
ColumnsHaveDistinctNames =
    (s : Shape) (j k : ℕ) → IsShape s → j < length s.columns → k < length s.columns → name_at s.columns j ≡ name_at s.columns k → j ≡ k

-- what is plain of a schema's shape is a plain schema
abbrev pub ShapesArePlain : Type 0
ShapesArePlain = (s : Shape) → IsShape s → IsPlain (plain_of s)

-- ---- the steps, over all tables

-- Extension: where a key holds, so does the key of its sort over more columns.
abbrev pub Extension : Type 0
Extension =
    (kinds : List Kind) (rows : List (List Value)) (sort : Sort) (set more : ℕ)
    → IsColumnSet more → IsTrue (is_subset set more) → KeyHolds kinds rows (key_over sort set) → KeyHolds kinds rows (key_over sort more)

-- Weakening: where a certain key holds, so does the possible one.
abbrev pub Weakening : Type 0
Weakening =
    (kinds : List Kind) (rows : List (List Value)) (set : ℕ) → IsTrue (all_fit kinds rows)
    → KeyHolds kinds rows (key_over sorts.Certain set) → KeyHolds kinds rows (key_over sorts.Possible set)

-- Strengthening: where a possible key holds and no row is null in one of its columns, so does the certain one.
abbrev pub Strengthening : Type 0
Strengthening =
    (kinds : List Kind) (rows : List (List Value)) (set : ℕ)
    → IsTrue (all_known set rows) → KeyHolds kinds rows (key_over sorts.Possible set) → KeyHolds kinds rows (key_over sorts.Certain set)
