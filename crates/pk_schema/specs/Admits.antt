use Rattle.std.specs.Prelude.{◌≡◌, ℕ, Bool, not, ◌&&◌, ◌==◌, List, [], ◌∷◌, length, nat_le, Option, Some, None, if◌then◌else◌}
use Rattle.std.specs.List.{position, zip}
use Rattle.std.specs.Option.{option_map}
use Rattle.pk_values.specs.declared.value.Value.{Value}
use Rattle.pk_values.specs.declared.value.Value.TheVariants as values
use Rattle.pk_values.specs.Records.{row_record}
use Rattle.pk_values.specs.Values.{fits_kind, is_null, value_at}
use Rattle.pk_syntax.specs.declared.declaration.ColumnDecl.{ColumnDecl}
use Rattle.pk_syntax.specs.Declarations.{first_of}
use Rattle.pk_schema.specs.Shapes.{Shape}
use Rattle.pk_schema.specs.declared.admitting.RowFault.{RowFault}
use Rattle.pk_schema.specs.declared.admitting.RowFault.TheVariants.{Width, Kind, Long, Null, Size}

-- how many bytes a text has
abbrev pub text_length : Value → ℕ
text_length values.Null = 0
text_length (values.Integer z) = 0
text_length (values.Text bytes) = length bytes

-- ---- what may be wrong with a value in a column

-- it is known, and not of the column's kind
abbrev pub has_other_kind : ColumnDecl → Value → Bool
has_other_kind c value = not (fits_kind c.kind value)

-- it is a text longer than those of the column
abbrev pub is_long : ColumnDecl → Value → Bool
is_long c value = not (nat_le (text_length value) c.max)

-- it is null, and the column is NOT NULL
abbrev pub is_missing : ColumnDecl → Value → Bool
is_missing c value = c.not_null && is_null value

-- the first column whose value this is wrong with
unfoldable pub first_wrong : (ColumnDecl → Value → Bool) → List ColumnDecl → List Value → Option ℕ
first_wrong wrong columns row = position (λ pair. wrong pair.0 pair.1) (zip columns row)

-- ---- what may be wrong with a row

-- it hasn't one value for each column
unfoldable pub width_fault : List ColumnDecl → List Value → Option RowFault
width_fault columns row = if length row == length columns then None else Some (Width (length row))

-- files would keep it in more than 4,000 bytes
unfoldable pub size_fault : List Value → Option RowFault
size_fault row = if nat_le (length (row_record row)) 4000 then None else Some (Size (length (row_record row)))

abbrev pub kind_fault : List ColumnDecl → List Value → Option RowFault
kind_fault columns row = option_map (λ c. Kind c) (first_wrong has_other_kind columns row)

abbrev pub long_fault : List ColumnDecl → List Value → Option RowFault
long_fault columns row = option_map (λ c. Long c (text_length (value_at row c))) (first_wrong is_long columns row)

abbrev pub null_fault : List ColumnDecl → List Value → Option RowFault
null_fault columns row = option_map (λ c. Null c) (first_wrong is_missing columns row)

-- the first thing wrong with a row, in this order, and in the first column where it is
unfoldable pub row_fault : Shape → List Value → Option RowFault
row_fault s row = first_of (width_fault s.columns row ∷ kind_fault s.columns row ∷ long_fault s.columns row ∷ null_fault s.columns row ∷ size_fault row ∷ [])

-- nothing is wrong with the row
abbrev pub Admits : Shape → List Value → Type 0
Admits s row = row_fault s row ≡ None
