-- Which rows break which key, and the first that do. Rows are those of a table, in the order of their ids.
use Rattle.std.specs.Prelude.{ℕ, ◌+◌, Bool, List, [], ◌∷◌, find, Option, None, option_map}
use Rattle.std.specs.Option.{option_or}
use Rattle.pk_values.specs.ColumnSet.{columns}
use Rattle.pk_values.specs.declared.broken.Break.{Break}
use Rattle.pk_values.specs.declared.key.KeyDecl.{KeyDecl}
use Rattle.pk_values.specs.declared.key.Sort.{Sort}
use Rattle.pk_values.specs.declared.key.Sort.TheVariants.{Certain, Possible}
use Rattle.pk_values.specs.declared.kind.Kind.{Kind}
use Rattle.pk_values.specs.declared.placed.Placed.{Placed}
use Rattle.pk_values.specs.declared.value.Value.{Value}
use Rattle.pk_similar.specs.Filling.{fill_values}
use Rattle.pk_similar.specs.Similarity.{weak, strong}
use Rattle.pk_schema.specs.Shapes.{Shape, kinds_of}

-- what two rows are that break a key of this sort: weakly similar on its columns, or strongly
abbrev pub are_similar : Sort → List ℕ → List Value → List Value → Bool
are_similar Certain cs a b = weak cs a b
are_similar Possible cs a b = strong cs a b

-- the two rows break the key
abbrev pub breaks : KeyDecl → Placed → Placed → Bool
breaks k p q = are_similar k.sort (columns k.columns) p.row q.row

-- The first row that breaks the key with one behind it, and the first of those.
unfoldable pub first_pair : KeyDecl → List Placed → Option (Placed × Placed)
first_pair k [] = None
first_pair k (p ∷ ps) = option_or (option_map (λ q. (p, q)) (find (breaks k p) ps)) (first_pair k ps)

-- what is told of the two rows, the lower first, that break the key at this place
abbrev pub break_of : List Kind → ℕ → KeyDecl → Placed × Placed → Break
break_of kinds place k pair = record {
  key = place;
  sort = k.sort;
  low = pair.0.id;
  high = pair.1.id;
  values = fill_values kinds (columns k.columns) pair.0.row pair.1.row;
}

-- the first break of the first key that has one; the first of these keys stands at this place
unfoldable pub first_broken : List Kind → ℕ → List KeyDecl → List Placed → Option Break
first_broken kinds place [] rows = None
first_broken kinds place (k ∷ ks) rows = option_or (option_map (break_of kinds place k) (first_pair k rows)) (first_broken kinds (place + 1) ks rows)

-- the first break of a table, whose keys' places count from 1
unfoldable pub first_break : Shape → List Placed → Option Break
first_break s rows = first_broken (kinds_of s.columns) 1 s.keys rows
