-- Tables with nulls, and what keys of them mean: a row is a list of values, a table a list of rows over a list of kinds, and
-- a key a list of columns.
use Rattle.std.specs.Prelude.{◌≡◌, ℕ, List, [], ◌∷◌, IsTrue}
use Rattle.pk_values.specs.declared.kind.Kind.{Kind}
use Rattle.pk_values.specs.declared.value.Value.{Value}
use Rattle.pk_values.specs.declared.value.Value.TheVariants.{Null, Integer, Text}
use Rattle.pk_values.specs.Values.{is_known_of, value_at}

-- A null is replaced by any known value of its column's kind: any whole number, or any list of bytes. What is known stays.
abbrev pub CompletesEntry : Kind → Value → Value → Type 0
CompletesEntry kind Null value = IsTrue (is_known_of kind value)
CompletesEntry kind (Integer z) value = value ≡ Integer z
CompletesEntry kind (Text bytes) value = value ≡ Text bytes

-- Each entry of the row is completed by itself.
abbrev pub CompletesRow : List Kind → List Value → List Value → Type 0
CompletesRow [] [] [] = Unit {0}
CompletesRow [] [] (w ∷ ws) = ⊥
CompletesRow [] (v ∷ vs) full = ⊥
CompletesRow (k ∷ ks) [] full = ⊥
CompletesRow (k ∷ ks) (v ∷ vs) [] = ⊥
CompletesRow (k ∷ ks) (v ∷ vs) (w ∷ ws) = CompletesEntry k v w × CompletesRow ks vs ws

-- Each row of the table is completed by itself.
abbrev pub Completes : List Kind → List (List Value) → List (List Value) → Type 0
Completes kinds [] [] = Unit {0}
Completes kinds [] (full ∷ fulls) = ⊥
Completes kinds (row ∷ rows) [] = ⊥
Completes kinds (row ∷ rows) (full ∷ fulls) = CompletesRow kinds row full × Completes kinds rows fulls

-- two rows have the same value in each of the columns
abbrev pub AgreeOn : List ℕ → List Value → List Value → Type 0
AgreeOn [] a b = Unit {0}
AgreeOn (c ∷ cs) a b = (value_at a c ≡ value_at b c) × AgreeOn cs a b

-- the row agrees with none of the others on the columns
abbrev pub AgreesWithNone : List ℕ → List Value → List (List Value) → Type 0
AgreesWithNone cs row [] = Unit {0}
AgreesWithNone cs row (other ∷ others) = (¬ AgreeOn cs row other) × AgreesWithNone cs row others

-- No two distinct places of the table have rows that agree on the columns. Where there are no columns, that is: there is at
-- most one row.
abbrev pub NoneAgree : List ℕ → List (List Value) → Type 0
NoneAgree cs [] = Unit {0}
NoneAgree cs (row ∷ rows) = AgreesWithNone cs row rows × NoneAgree cs rows

-- the certain key over the columns holds: in every completion of the table no two distinct places agree
abbrev pub Certain : List Kind → List (List Value) → List ℕ → Type 0
Certain kinds rows cs = (full : List (List Value)) → Completes kinds rows full → NoneAgree cs full

-- the possible key over the columns holds: in some completion of the table no two distinct places agree
abbrev pub Possible : List Kind → List (List Value) → List ℕ → Type 0
Possible kinds rows cs = (full : List (List Value)) × Completes kinds rows full × NoneAgree cs full
