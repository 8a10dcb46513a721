-- What a schema says of the rows of its table, without names and limits.
use Rattle.std.specs.Prelude.{ℕ, ◌^◌, ◌≤◌, ◌<◌, List, length, All}
use Rattle.pk_values.specs.declared.key.KeyDecl.{KeyDecl}
use Rattle.pk_values.specs.declared.kind.Kind.{Kind}
use Rattle.pk_schema.specs.Shapes.{Shape, kinds_of, not_null_of}

-- a plain schema: the kinds of the columns, the set of those that are NOT NULL, and the keys
pub record Plain : Type 0 where
  pub kinds : List Kind
  pub known : ℕ
  pub keys : List KeyDecl

-- what is plain of a shape
abbrev pub plain_of : Shape → Plain
plain_of s = record { kinds = kinds_of s.columns; known = not_null_of s.columns; keys = s.keys }

-- there are at most 32 columns, and the sets are of these
pub record IsPlain (s : Plain) : Type 0 where
  pub few_columns : length s.kinds ≤ 32
  pub known_inside : s.known < 2 ^ length s.kinds
  pub keys_inside : All (λ (k : KeyDecl). k.columns < 2 ^ length s.kinds) s.keys
