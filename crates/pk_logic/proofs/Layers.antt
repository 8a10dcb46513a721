-- What a condition is, by the form of its outermost layer.
use Rattle.std.proofs.Common.{◌≡◌, sym, ◌∙◌, ap, ℕ, Bool, List, map}
use Rattle.pk_values.specs.declared.value.Value.{Value}
use Rattle.pk_values.specs.Values.{value_at}
use Rattle.pk_logic.specs.declared.condition.Op.{Op}
use Rattle.pk_logic.specs.declared.condition.Side.{Side}
use Rattle.pk_logic.specs.declared.condition.Cond.{Cond}
use Rattle.pk_logic.specs.declared.condition.Cond.TheVariants.{Compare, IsNull, Not, All, Any, rolls-Compare, rolls-IsNull, rolls-Not, rolls-All, rolls-Any}
use Rattle.pk_logic.specs.declared.condition.Cond.TheOpen as layers
use Rattle.pk_logic.specs.declared.condition.Cond.TheFolds.{fold-roll-Cond}
use Rattle.pk_logic.specs.declared.truth.Truth.{Truth}
use Rattle.pk_logic.specs.Truth.{opposite, least, greatest}
use Rattle.pk_logic.specs.Conditions.{compared, null_test, side_value, truth_step, truth}

pub truth-Compare : (row : List Value) (column : ℕ) (op : Op) (with : Side)
    → truth row (Compare column op with) ≡ compared op (value_at row column) (side_value row with)
truth-Compare row column op with =
    ap (truth row) (sym (rolls-Compare column op with)) ∙ fold-roll-Cond Truth (truth_step row) (layers.Compare column op with)

pub truth-IsNull : (row : List Value) (column : ℕ) (negated : Bool)
    → truth row (IsNull column negated) ≡ null_test negated (value_at row column)
truth-IsNull row column negated =
    ap (truth row) (sym (rolls-IsNull column negated)) ∙ fold-roll-Cond Truth (truth_step row) (layers.IsNull column negated)

pub truth-Not : (row : List Value) (cond : Cond) → truth row (Not cond) ≡ opposite (truth row cond)
truth-Not row cond = ap (truth row) (sym (rolls-Not cond)) ∙ fold-roll-Cond Truth (truth_step row) (layers.Not cond)

pub truth-All : (row : List Value) (members : List Cond) → truth row (All members) ≡ least (map (truth row) members)
truth-All row members = ap (truth row) (sym (rolls-All members)) ∙ fold-roll-Cond Truth (truth_step row) (layers.All members)

pub truth-Any : (row : List Value) (members : List Cond) → truth row (Any members) ≡ greatest (map (truth row) members)
truth-Any row members = ap (truth row) (sym (rolls-Any members)) ∙ fold-roll-Cond Truth (truth_step row) (layers.Any members)
