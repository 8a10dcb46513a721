-- Conditions over a table's columns, of which the kinds are known.
use Rattle.std.specs.Prelude.{◌≡◌, ℕ, zero, suc, Bool, true, false, List, [], ◌∷◌, Option, Some, None}
use Rattle.pk_values.specs.declared.kind.Kind.{Kind}
use Rattle.pk_values.specs.declared.kind.Kind.TheVariants.{Integer, Text}
use Rattle.pk_values.specs.declared.value.Value.{Value}
use Rattle.pk_values.specs.Values.{fits_kind, fits_kinds}
use Rattle.pk_logic.specs.declared.condition.Side.{Side}
use Rattle.pk_logic.specs.declared.condition.Side.TheVariants.{Known, Column}
use Rattle.pk_logic.specs.declared.condition.Cond.{Cond}
use Rattle.pk_logic.specs.declared.condition.Cond.TheOpen.{Cond-F, Compare, IsNull, Not, All, Any}
use Rattle.pk_logic.specs.declared.condition.Cond.TheFolds.{fold-Cond}
use Rattle.pk_logic.specs.Conditions.{all_hold, is_judgeable}

-- the kind of a column
abbrev pub kind_at : List Kind → ℕ → Option Kind
kind_at [] c = None
kind_at (k ∷ ks) zero = Some k
kind_at (k ∷ ks) (suc c) = kind_at ks c

abbrev pub is_of_kind : Option Kind → Kind → Bool
is_of_kind None kind = false
is_of_kind (Some Integer) Integer = true
is_of_kind (Some Integer) Text = false
is_of_kind (Some Text) Integer = false
is_of_kind (Some Text) Text = true

-- null, a value of the kind, or a column of it
abbrev pub side_is_of_kind : List Kind → Side → Kind → Bool
side_is_of_kind kinds (Known value) kind = fits_kind kind value
side_is_of_kind kinds (Column c) kind = is_of_kind (kind_at kinds c) kind

-- there is a column, and the other side is of its kind
abbrev pub compares_one_kind : List Kind → Option Kind → Side → Bool
compares_one_kind kinds None with = false
compares_one_kind kinds (Some kind) with = side_is_of_kind kinds with kind

abbrev pub is_column : Option Kind → Bool
is_column None = false
is_column (Some kind) = true

abbrev pub over_kinds_step : List Kind → Cond-F Bool → Bool
over_kinds_step kinds (Compare column op with) = compares_one_kind kinds (kind_at kinds column) with
over_kinds_step kinds (IsNull column negated) = is_column (kind_at kinds column)
over_kinds_step kinds (Not part) = part
over_kinds_step kinds (All parts) = all_hold parts
over_kinds_step kinds (Any parts) = all_hold parts

-- each column that the condition names is one of these, and is compared with what is of its kind
abbrev pub is_over_kinds : List Kind → Cond → Bool
is_over_kinds kinds = fold-Cond Bool (over_kinds_step kinds)

-- a condition over the kinds may be judged on each row of these kinds
abbrev pub KindsAreJudgeable : Type 0
KindsAreJudgeable = (kinds : List Kind) (row : List Value) (cond : Cond)
    → fits_kinds kinds row ≡ true → is_over_kinds kinds cond ≡ true → is_judgeable row cond ≡ true
