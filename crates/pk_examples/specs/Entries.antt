-- A row by two sets of its columns.
use Rattle.std.specs.Prelude.{ℕ, if◌then◌else◌}
use Rattle.pk_values.specs.declared.kind.Kind.{Kind}
use Rattle.pk_values.specs.declared.value.Value.{Value}
use Rattle.pk_values.specs.declared.value.Value.TheVariants.{Null}
use Rattle.pk_values.specs.ColumnSet.{has_column}
use Rattle.pk_values.specs.Values.{blank}
use Rattle.pk_rule.specs.TwoRows.{mark}

-- the entry of column c: null in the columns of the first set, else 1 or 'a' in those of the second, and 0 or '' elsewhere
abbrev pub entry_by : ℕ → ℕ → Kind → ℕ → Value
entry_by nulls marked kind c = if has_column nulls c then Null else if has_column marked c then mark kind else blank kind
