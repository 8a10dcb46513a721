use Rattle.std.specs.Prelude.{ℕ, ◌≡◌, List, Some, None, Result, Ok, Err}
use Rattle.std.specs.List.{position, position_or_len}
use Rattle.pk_engine.specs.Base.{Table, is_named, comes_before}

-- the place of the table of this name, or else the one where a table of this name goes
abbrev pub IsPlaceOf : List ℕ → List Table → Result ℕ ℕ → Type 0
IsPlaceOf name tables (Ok i) = position (is_named name) tables ≡ Some i
IsPlaceOf name tables (Err i) = (position (is_named name) tables ≡ None) × (position_or_len (λ t. comes_before name t.name) tables ≡ i)
