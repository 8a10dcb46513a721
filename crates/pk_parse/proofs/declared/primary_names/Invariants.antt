use Rattle.std.proofs.Common.{◌≡◌, ℕ, List, take}
use Rattle.pk_parse.specs.Create.{is_primary}
use Rattle.pk_values.specs.NameSets.{has_name}
use Rattle.pk_parse.proofs.declared.primary_names.Given as goal

-- the names of the keys so far
abbrev pub invariant-loop-part : goal.invariant-loop-part
invariant-loop-part l = (column : List ℕ) → has_name l.names column ≡ is_primary (take l.part-index l.keys) column
