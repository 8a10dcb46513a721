-- Which key is asked about, by the names of its columns.
use Rattle.std.specs.Prelude.{◌≡◌, ℕ, List, [], ◌∷◌, find, Option, None, Some, is_none, Result, Ok, Err}
use Rattle.std.specs.Option.{option_map}
use Rattle.pk_values.specs.declared.key.KeyDecl.{KeyDecl}
use Rattle.pk_values.specs.declared.refusal.Refusal.{Refusal}
use Rattle.pk_values.specs.declared.refusal.Refusal.TheVariants.{NoColumn, ColumnTwice}
use Rattle.pk_values.specs.Refusals.{first_some}
use Rattle.pk_syntax.specs.declared.declaration.ColumnDecl.{ColumnDecl}
use Rattle.pk_syntax.specs.declared.declaration.KeyText.{KeyText}
use Rattle.pk_syntax.specs.Declarations.{twice}
use Rattle.pk_schema.specs.Shapes.{Shape, place_of_column, key_of}
use Rattle.pk_imply.specs.declared.asking.AskErr.{AskErr}
use Rattle.pk_imply.specs.declared.asking.AskErr.TheVariants.{Refused, Memory}

-- the first of the names that is no column
abbrev pub missing_in : List ColumnDecl → List (List ℕ) → Option (List ℕ)
missing_in columns names = find (λ name. is_none (place_of_column columns name)) names

-- What the names of a key are refused for, in this order: one is no column of the table, or one has stood before.
abbrev pub ask_refusals : List ℕ → List ColumnDecl → List (List ℕ) → List (Option Refusal)
ask_refusals table columns names =
    option_map (λ column. NoColumn column table) (missing_in columns names)
    ∷ option_map (λ column. ColumnTwice column) (twice names)
    ∷ []

-- the key over the columns that are named, or the first refusal that stands, unless memory ran out
abbrev pub Asks : List ℕ → Shape → KeyText → Result KeyDecl AskErr → Type 0
Asks table s k (Ok d) = (first_some (ask_refusals table s.columns k.columns) ≡ None) × (d ≡ key_of s.columns k)
Asks table s k (Err (Refused r)) = first_some (ask_refusals table s.columns k.columns) ≡ Some r
Asks table s k (Err Memory) = Unit {0}
