-- What building a guard answers.
use Rattle.std.specs.Prelude.{◌≡◌, List, Some, None, Result, Ok, Err}
use Rattle.pk_values.specs.declared.placed.Placed.{Placed}
use Rattle.pk_schema.specs.Shapes.{Shape}
use Rattle.pk_guard.specs.declared.guard.BuildErr.{BuildErr}
use Rattle.pk_guard.specs.declared.guard.BuildErr.TheVariants.{Broken, Memory}
use Rattle.pk_guard.specs.declared.guard.Guard.{Guard}
use Rattle.pk_guard.specs.Breaks.{first_break}

-- a guard where nothing breaks, or the first break, unless memory ran out
abbrev pub Builds : Shape → List Placed → Result Guard BuildErr → Type 0
Builds s rows (Ok guard) = first_break s rows ≡ None
Builds s rows (Err (Broken b)) = first_break s rows ≡ Some b
Builds s rows (Err Memory) = Unit {0}
