-- The tables of a schema, and the keys that hold in all of them.
use Rattle.std.specs.Prelude.{ℕ, Bool, not, List, IsTrue, All}
use Rattle.std.specs.List.{list_all}
use Rattle.pk_values.specs.declared.key.KeyDecl.{KeyDecl}
use Rattle.pk_values.specs.declared.key.Sort.{Sort}
use Rattle.pk_values.specs.declared.key.Sort.TheVariants as sorts
use Rattle.pk_values.specs.declared.kind.Kind.{Kind}
use Rattle.pk_values.specs.declared.value.Value.{Value}
use Rattle.pk_values.specs.ColumnSet.{columns}
use Rattle.pk_values.specs.Values.{is_null, value_at}
use Rattle.pk_similar.specs.Completions.{Certain, Possible}
use Rattle.pk_similar.specs.Laws.{all_fit}
use Rattle.pk_rule.specs.Plain.{Plain}

-- what a key of this sort over the columns says of a table
abbrev pub HoldsAs : Sort → List Kind → List (List Value) → List ℕ → Type 0
HoldsAs sorts.Certain = Certain
HoldsAs sorts.Possible = Possible

-- the key holds in the table: in every completion, or in some one, no two rows agree on its columns
abbrev pub KeyHolds : List Kind → List (List Value) → KeyDecl → Type 0
KeyHolds kinds rows k = HoldsAs k.sort kinds rows (columns k.columns)

-- every one of the keys holds in the table
abbrev pub AllHold : List Kind → List (List Value) → List KeyDecl → Type 0
AllHold kinds rows keys = All (KeyHolds kinds rows) keys

-- the row is null in none of the columns
abbrev pub is_known_on : List ℕ → List Value → Bool
is_known_on cs row = list_all (λ c. not (is_null (value_at row c))) cs

-- no row of the table is null in a column of the set
abbrev pub all_known : ℕ → List (List Value) → Bool
all_known set rows = list_all (is_known_on (columns set)) rows

-- the rows are a table of the schema: each fits the kinds, none is null in a NOT NULL column, and every key holds
abbrev pub TableOf : Plain → List (List Value) → Type 0
TableOf s rows = IsTrue (all_fit s.kinds rows) × IsTrue (all_known s.known rows) × AllHold s.kinds rows s.keys

-- the key holds in every table of the schema
abbrev pub Implied : Plain → KeyDecl → Type 0
Implied s k = (rows : List (List Value)) → TableOf s rows → KeyHolds s.kinds rows k

-- the rows are a table of the schema in which the key fails
abbrev pub Refutes : Plain → KeyDecl → List (List Value) → Type 0
Refutes s k rows = TableOf s rows × (¬ KeyHolds s.kinds rows k)
