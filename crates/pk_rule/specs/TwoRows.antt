-- Two rows that refute a key which a schema doesn't imply. They differ in each column outside the key, agree on the key where
-- it is known, and for a certain key are null wherever they may be.
use Rattle.std.specs.Prelude.{ℕ, suc, Bool, not, ◌&&◌, List, [], ◌∷◌, pos, if◌then◌else◌}
use Rattle.pk_values.specs.declared.key.KeyDecl.{KeyDecl}
use Rattle.pk_values.specs.declared.kind.Kind.{Kind}
use Rattle.pk_values.specs.declared.kind.Kind.TheVariants as kinds
use Rattle.pk_values.specs.declared.value.Value.{Value}
use Rattle.pk_values.specs.declared.value.Value.TheVariants.{Null, Integer, Text}
use Rattle.pk_values.specs.ColumnSet.{has_column}
use Rattle.pk_syntax.specs.Declarations.{is_certain}
use Rattle.pk_values.specs.Values.{blank}
use Rattle.pk_rule.specs.Plain.{Plain}

-- a known value that isn't the blank: 1, or the text 'a'
abbrev pub mark : Kind → Value
mark kinds.Integer = Integer (pos 1)
mark kinds.Text = Text (97 ∷ [])

-- the key is certain, and the column one of its own that may be null
abbrev pub is_left_null : ℕ → KeyDecl → ℕ → Bool
is_left_null known k c = is_certain k.sort && has_column k.columns c && not (has_column known c)

-- what the first row has in column c
abbrev pub low_entry : ℕ → KeyDecl → Kind → ℕ → Value
low_entry known k kind c = if is_left_null known k c then Null else blank kind

-- what the second row has there: on the key the same
abbrev pub high_entry : ℕ → KeyDecl → Kind → ℕ → Value
high_entry known k kind c = if has_column k.columns c then low_entry known k kind c else mark kind

-- a row over the kinds of the columns from c on, each entry by its kind and column
abbrev pub row_from : (Kind → ℕ → Value) → ℕ → List Kind → List Value
row_from entry c [] = []
row_from entry c (kind ∷ kinds) = entry kind c ∷ row_from entry (suc c) kinds

-- 0 or '' in each column, but null where the key is certain and its column may be null
abbrev pub low_row : Plain → KeyDecl → List Value
low_row s k = row_from (low_entry s.known k) 0 s.kinds

-- the same on the key, and 1 or 'a' in the other columns
abbrev pub high_row : Plain → KeyDecl → List Value
high_row s k = row_from (high_entry s.known k) 0 s.kinds
