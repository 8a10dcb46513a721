-- What a condition is on a row.
use Rattle.std.specs.Prelude.{ℕ, Bool, true, false, not, ◌&&◌, ◌||◌, List, [], ◌∷◌, length, nat_lt, if◌then◌else◌}
use Rattle.std.specs.Ordering.{is_eq, is_ne, is_lt, is_le, is_gt, is_ge}
use Rattle.std.specs.declared.cmp.Ordering.{Ordering}
use Rattle.pk_values.specs.declared.value.Value.{Value}
use Rattle.pk_values.specs.declared.value.Value.TheVariants.{Null, Integer, Text}
use Rattle.pk_values.specs.Values.{is_null, value_at, value_cmp}
use Rattle.pk_logic.specs.declared.condition.Op.{Op}
use Rattle.pk_logic.specs.declared.condition.Op.TheVariants as ops
use Rattle.pk_logic.specs.declared.condition.Side.{Side}
use Rattle.pk_logic.specs.declared.condition.Side.TheVariants.{Known, Column}
use Rattle.pk_logic.specs.declared.condition.Cond.{Cond}
use Rattle.pk_logic.specs.declared.condition.Cond.TheOpen.{Cond-F, Compare, IsNull, Not, All, Any}
use Rattle.pk_logic.specs.declared.condition.Cond.TheFolds.{fold-Cond}
use Rattle.pk_logic.specs.declared.truth.Truth.{Truth}
use Rattle.pk_logic.specs.declared.truth.Truth.TheVariants.{Unknown}
use Rattle.pk_logic.specs.Truth.{truth_of, opposite, least, greatest}

-- whether the operator holds of two values, the first of which stands so to the second
abbrev pub op_holds : Op → Ordering → Bool
op_holds ops.Equal order = is_eq order
op_holds ops.Unequal order = is_ne order
op_holds ops.Less order = is_lt order
op_holds ops.AtMost order = is_le order
op_holds ops.Greater order = is_gt order
op_holds ops.AtLeast order = is_ge order

-- a comparison: unknown with null on either side, and else as the order of the two values decides
abbrev pub compared : Op → Value → Value → Truth
compared op a b = if is_null a || is_null b then Unknown else truth_of (op_holds op (value_cmp a b))

-- IS NULL, or IS NOT NULL
abbrev pub null_test : Bool → Value → Truth
null_test false value = truth_of (is_null value)
null_test true value = opposite (truth_of (is_null value))

-- what the column is compared with
abbrev pub side_value : List Value → Side → Value
side_value row (Known value) = value
side_value row (Column c) = value_at row c

-- one layer of a condition, with what its parts are in their places
abbrev pub truth_step : List Value → Cond-F Truth → Truth
truth_step row (Compare column op with) = compared op (value_at row column) (side_value row with)
truth_step row (IsNull column negated) = null_test negated (value_at row column)
truth_step row (Not t) = opposite t
truth_step row (All ts) = least ts
truth_step row (Any ts) = greatest ts

-- what the condition is on the row
abbrev pub truth : List Value → Cond → Truth
truth row = fold-Cond Truth (truth_step row)

-- both are known, and one is a number where the other is a text: such two aren't compared
abbrev pub differ_in_kind : Value → Value → Bool
differ_in_kind Null b = false
differ_in_kind (Integer x) Null = false
differ_in_kind (Integer x) (Integer y) = false
differ_in_kind (Integer x) (Text ys) = true
differ_in_kind (Text xs) Null = false
differ_in_kind (Text xs) (Integer y) = true
differ_in_kind (Text xs) (Text ys) = false

-- the column is one of the row's
abbrev pub side_fits : List Value → Side → Bool
side_fits row (Known value) = true
side_fits row (Column c) = nat_lt c (length row)

-- a column of the row and the other side may be compared
abbrev pub can_compare : List Value → ℕ → Side → Bool
can_compare row column with =
    nat_lt column (length row) && side_fits row with && not (differ_in_kind (value_at row column) (side_value row with))

-- all of them hold
abbrev pub all_hold : List Bool → Bool
all_hold [] = true
all_hold (b ∷ bs) = b && all_hold bs

abbrev pub judgeable_step : List Value → Cond-F Bool → Bool
judgeable_step row (Compare column op with) = can_compare row column with
judgeable_step row (IsNull column negated) = nat_lt column (length row)
judgeable_step row (Not part) = part
judgeable_step row (All parts) = all_hold parts
judgeable_step row (Any parts) = all_hold parts

-- each column that the condition names is one of the row's, and known values that it compares are of one kind
abbrev pub is_judgeable : List Value → Cond → Bool
is_judgeable row = fold-Cond Bool (judgeable_step row)
