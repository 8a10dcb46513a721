use Rattle.std.specs.Prelude.{ℕ, zero, suc, Bool, true, false, ◌&&◌, ◌||◌, List, [], ◌∷◌, Option, Some, None, nat_lt, pos, IsTrue, FitsSigned}
use Rattle.std.specs.Int.{w64}
use Rattle.std.specs.List.{list_all}
use Rattle.std.specs.Ordering.{int_cmp, int_eq, nat_cmp}
use Rattle.std.specs.Cmp.Lexicographic.{slice_cmp}
use Rattle.std.specs.Str.{bytes_eq}
use Rattle.std.specs.declared.cmp.Ordering.{Ordering}
use Rattle.std.specs.declared.cmp.Ordering.TheVariants.{Less, Equal, Greater}
use Rattle.pk_values.specs.declared.kind.Kind.{Kind}
use Rattle.pk_values.specs.declared.kind.Kind.TheVariants as kinds
use Rattle.pk_values.specs.declared.value.Value.{Value}
use Rattle.pk_values.specs.declared.value.Value.TheVariants.{Null, Integer, Text}
use Rattle.pk_values.specs.Words.{is_words}

-- the kind of a known value
abbrev pub kind_of : Value → Option Kind
kind_of Null = None
kind_of (Integer z) = Some kinds.Integer
kind_of (Text bytes) = Some kinds.Text

-- nothing is known of the entry
abbrev pub is_null : Value → Bool
is_null Null = true
is_null (Integer z) = false
is_null (Text bytes) = false

-- a list of bytes
abbrev pub are_bytes : List ℕ → Bool
are_bytes bytes = list_all (λ b. nat_lt b 256) bytes

-- a known value of the kind, without bounds: any whole number, or any list of bytes
abbrev pub is_known_of : Kind → Value → Bool
is_known_of kind Null = false
is_known_of kinds.Integer (Integer z) = true
is_known_of kinds.Integer (Text bytes) = false
is_known_of kinds.Text (Integer z) = false
is_known_of kinds.Text (Text bytes) = are_bytes bytes

-- null, or a known value of the kind
abbrev pub fits_kind : Kind → Value → Bool
fits_kind kind value = is_null value || is_known_of kind value

-- a row with one value for each kind, each null or of its kind
abbrev pub fits_kinds : List Kind → List Value → Bool
fits_kinds [] [] = true
fits_kinds [] (v ∷ vs) = false
fits_kinds (k ∷ ks) [] = false
fits_kinds (k ∷ ks) (v ∷ vs) = fits_kind k v && fits_kinds ks vs

-- the known value that stands for a null: 0, or the empty text
abbrev pub blank : Kind → Value
blank kinds.Integer = Integer (pos 0)
blank kinds.Text = Text []

-- what the code's values are: numbers of 64 bits, and words
abbrev pub IsStorable : Value → Type 0
IsStorable Null = Unit {0}
IsStorable (Integer z) = FitsSigned w64 z
IsStorable (Text bytes) = IsTrue (is_words bytes)

-- the value in a column of a row, and null behind its end
abbrev pub value_at : List Value → ℕ → Value
value_at [] c = Null
value_at (v ∷ vs) zero = v
value_at (v ∷ vs) (suc c) = value_at vs c

-- the same entry: null at null, equal numbers, or equal texts
unfoldable pub same_value : Value → Value → Bool
same_value Null Null = true
same_value Null (Integer y) = false
same_value Null (Text ys) = false
same_value (Integer x) Null = false
same_value (Integer x) (Integer y) = int_eq x y
same_value (Integer x) (Text ys) = false
same_value (Text xs) Null = false
same_value (Text xs) (Integer y) = false
same_value (Text xs) (Text ys) = bytes_eq xs ys

-- numbers in their order and texts in that of their bytes; null comes before what is known, and a number before a text
unfoldable pub value_cmp : Value → Value → Ordering
value_cmp Null Null = Equal
value_cmp Null (Integer y) = Less
value_cmp Null (Text ys) = Less
value_cmp (Integer x) Null = Greater
value_cmp (Integer x) (Integer y) = int_cmp x y
value_cmp (Integer x) (Text ys) = Less
value_cmp (Text xs) Null = Greater
value_cmp (Text xs) (Integer y) = Greater
value_cmp (Text xs) (Text ys) = slice_cmp nat_cmp xs ys
