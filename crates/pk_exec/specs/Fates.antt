-- What becomes of one row under an UPDATE or a DELETE.
use Rattle.std.specs.Prelude.{◌<◌, List, length, All, Option, Some, None, nat_le, IsTrue, IfSome, if◌then◌else◌}
use Rattle.pk_values.specs.declared.value.Value.{Value}
use Rattle.pk_values.specs.declared.refusal.Refusal.{Refusal}
use Rattle.pk_values.specs.declared.refusal.Refusal.TheVariants.{LongRow}
use Rattle.pk_values.specs.Records.{row_record}
use Rattle.pk_logic.specs.declared.condition.Cond.{Cond}
use Rattle.pk_logic.specs.Conditions.{is_judgeable}
use Rattle.pk_bind.specs.declared.edit.Edit.{Edit}
use Rattle.pk_bind.specs.declared.edit.SetTo.{SetTo}
use Rattle.pk_bind.specs.Fitting.{with_sets}
use Rattle.pk_exec.specs.declared.change.Change.{Change}
use Rattle.pk_exec.specs.declared.change.Fate.{Fate}
use Rattle.pk_exec.specs.declared.change.Fate.TheVariants.{Left, Put, Gone, Long}
use Rattle.pk_exec.specs.Edits.{takes}

-- ---- what a statement does

abbrev pub edit_change : Edit → Change
edit_change e = record { cond = e.cond; sets = Some e.sets }

abbrev pub removal : Option Cond → Change
removal cond = record { cond = cond; sets = None }

-- ---- to which rows it may be done

abbrev pub CanJudge : Option Cond → List Value → Type 0
CanJudge cond row = IfSome cond (λ c. IsTrue (is_judgeable row c))

abbrev pub CanSet : List SetTo → List Value → Type 0
CanSet sets row = All (λ (s : SetTo). s.column < length row) sets

-- the condition may be judged of the row, and the values have columns in it
abbrev pub CanChange : Change → List Value → Type 0
CanChange c row = CanJudge c.cond row × IfSome c.sets (λ sets. CanSet sets row)

-- ---- what becomes of it

-- the row with these values, if it isn't too long
abbrev pub put_fate : List SetTo → List Value → Fate
put_fate sets row =
    if nat_le (length (row_record (with_sets sets row))) 4000 then Put (with_sets sets row) else Long (length (row_record (with_sets sets row)))

abbrev pub taken_fate : Option (List SetTo) → List Value → Fate
taken_fate None row = Gone
taken_fate (Some sets) row = put_fate sets row

-- a row that isn't taken is left; of the others each gets its values, or all go
unfoldable pub fate_of : Change → List Value → Fate
fate_of c row = if takes c.cond row then taken_fate c.sets row else Left row

abbrev pub fate_refusal : Fate → Option Refusal
fate_refusal (Left row) = None
fate_refusal (Put row) = None
fate_refusal Gone = None
fate_refusal (Long bytes) = Some (LongRow bytes)
