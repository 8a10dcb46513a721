-- The values that two rows may have in common.
use Rattle.std.specs.Prelude.{ℕ, zero, suc, List, [], ◌∷◌, map}
use Rattle.pk_values.specs.declared.kind.Kind.{Kind}
use Rattle.pk_values.specs.declared.kind.Kind.TheVariants as kinds
use Rattle.pk_values.specs.declared.value.Value.{Value}
use Rattle.pk_values.specs.declared.value.Value.TheVariants.{Null, Integer, Text}
use Rattle.pk_values.specs.Values.{value_at, blank}

-- the kind of a column, which is of whole numbers behind the last
abbrev pub kind_at : List Kind → ℕ → Kind
kind_at [] c = kinds.Integer
kind_at (k ∷ ks) zero = k
kind_at (k ∷ ks) (suc c) = kind_at ks c

-- the entry, or another where it is null
abbrev pub known_or : Value → Value → Value
known_or Null other = other
known_or (Integer z) other = Integer z
known_or (Text bytes) other = Text bytes

-- the entry that isn't null, and 0 or the empty text where both are
abbrev pub fill_entry : Kind → Value → Value → Value
fill_entry kind v w = known_or v (known_or w (blank kind))

-- the values of two rows on the columns, in their order
unfoldable pub fill_values : List Kind → List ℕ → List Value → List Value → List Value
fill_values kinds cs a b = map (λ c. fill_entry (kind_at kinds c) (value_at a c) (value_at b c)) cs
