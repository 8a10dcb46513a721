use Rattle.std.proofs.Common.{◌≡◌, ℕ, List, take, ◌||◌}
use Rattle.std.specs.List.{list_any}
use Rattle.std.specs.Str.{bytes_eq}
use Rattle.pk_values.specs.NameSets.{has_name}
use Rattle.pk_parse.proofs.declared.add_names.Given as goal

-- the names that were there, and those so far
abbrev pub invariant-loop-column : goal.invariant-loop-column
invariant-loop-column l = (column : List ℕ) → has_name l.names column ≡ (has_name l.initial.names column || list_any (λ name. bytes_eq name column) (take l.column-index l.columns))
