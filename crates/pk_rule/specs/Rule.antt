-- Which keys a schema implies, told by sets of columns alone.
use Rattle.std.specs.Prelude.{ℕ, Bool, not, ◌&&◌, ◌||◌, List}
use Rattle.std.specs.List.{list_any}
use Rattle.pk_values.specs.declared.key.KeyDecl.{KeyDecl}
use Rattle.pk_values.specs.ColumnSet.{is_subset}
use Rattle.pk_syntax.specs.Declarations.{is_certain}
use Rattle.pk_rule.specs.Plain.{Plain}

-- A declared key d by itself makes the key k hold: its columns are among those of k, and where k is certain, then d is certain
-- itself, or none of its columns may be null.
abbrev pub alone_implies : ℕ → KeyDecl → KeyDecl → Bool
alone_implies known d k = is_subset d.columns k.columns && (not (is_certain k.sort) || is_certain d.sort || is_subset d.columns known)

-- one of these keys does
abbrev pub some_implies : ℕ → List KeyDecl → KeyDecl → Bool
some_implies known keys k = list_any (λ d. alone_implies known d k) keys

-- some declared key does
unfoldable pub is_implied : Plain → KeyDecl → Bool
is_implied s k = some_implies s.known s.keys k
