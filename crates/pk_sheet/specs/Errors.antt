-- What an error means, and what it says.
use Rattle.std.specs.Prelude.{ℕ, List, Result, Ok, Err, codes}
use Rattle.pk_sheet.specs.declared.sheet_err.SheetErr.{SheetErr}
use Rattle.pk_sheet.specs.declared.sheet_err.SheetErr.TheVariants.{Bad, Memory}

-- What was read is such a thing, and Bad comes only where nothing is. Memory may run out at any time.
abbrev pub Gets : {A : Type 0} → (A → Type 0) → Result A SheetErr → Type 0
Gets Is (Ok x) = Is x
Gets Is (Err Bad) = (x : _) → Is x → ⊥
Gets Is (Err Memory) = Unit {0}

abbrev pub error_text : SheetErr → List ℕ
error_text Bad = codes "no sheet"
error_text Memory = codes "out of memory"
