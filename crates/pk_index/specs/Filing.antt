-- Under which byte strings rows are filed, and what a look-up asks for.
use Rattle.std.specs.Prelude.{◌≡◌, ℕ, Bool, true, false, not, cond, ◌&&◌, ◌||◌, ◌==◌, List, [], ◌∷◌, length, Option, Some, None, if◌then◌else◌, nat_lt}
use Rattle.std.specs.List.{flat_map}
use Rattle.std.specs.Ordering.{nat_cmp, eq_by_cmp}
use Rattle.pk_values.specs.declared.value.Value.{Value}
use Rattle.pk_values.specs.declared.value.Value.TheVariants.{Null}
use Rattle.pk_values.specs.ColumnSet.{has_column}
use Rattle.pk_values.specs.Values.{are_bytes, is_null, value_at}
use Rattle.pk_values.specs.Records.{value_record, row_record}
use Rattle.pk_index.specs.declared.family.Family.{Family}
use Rattle.pk_index.specs.declared.family.Width.{Width}
use Rattle.pk_index.specs.declared.family.Width.TheVariants.{Two, Three, Six, Long}
use Rattle.pk_index.specs.Shelves.{holds, set_has}
use Rattle.pk_index.specs.Packing.{two_words, three_words, six_words, two_cmp, three_cmp, six_cmp}

-- what leaves a column open: a byte that begins no value
abbrev pub open_record : List ℕ
open_record = 3 ∷ []

-- what stands behind the front, in bytes that begin with it
abbrev pub behind : List ℕ → List ℕ → Option (List ℕ)
behind [] bytes = Some bytes
behind (x ∷ xs) [] = None
behind (x ∷ xs) (b ∷ bytes) = cond (x == b) (behind xs bytes) None

-- the bytes begin with the front, and what stands behind it passes
abbrev pub goes_on : (List ℕ → Bool) → Option (List ℕ) → Bool
goes_on test None = false
goes_on test (Some rest) = test rest

abbrev pub is_nothing : List ℕ → Bool
is_nothing [] = true
is_nothing (b ∷ bytes) = false

-- a column may be left open where it is nullable and its value is known
abbrev pub may_open : ℕ → ℕ → Value → Bool
may_open nullable c v = has_column nullable c && not (is_null v)

-- A row with these values is filed under the bytes: they have, column by column, the bytes of the value or, where it may be
-- left open, what leaves it open.
unfoldable pub is_filed : ℕ → List ℕ → List Value → List ℕ → Bool
is_filed nullable [] vs bytes = is_nothing bytes
is_filed nullable (c ∷ cs) [] bytes = false
is_filed nullable (c ∷ cs) (v ∷ vs) bytes =
    goes_on (is_filed nullable cs vs) (behind (value_record v) bytes)
    || (may_open nullable c v && goes_on (is_filed nullable cs vs) (behind open_record bytes))

-- the bytes have the front, and behind it the row is filed under them
abbrev pub is_filed_behind : List ℕ → ℕ → List ℕ → List Value → List ℕ → Bool
is_filed_behind front nullable cs vs bytes = goes_on (is_filed nullable cs vs) (behind front bytes)

-- What is asked of a column: null where the pattern has it, anything known where the probe doesn't know it, else its value.
abbrev pub asked_record : Bool → Value → List ℕ
asked_record in_pattern v = cond in_pattern (value_record Null) (cond (is_null v) open_record (value_record v))

-- the bytes that a look-up for a probe asks for
abbrev pub probe_record : ℕ → List ℕ → List Value → List ℕ
probe_record pattern cs row = flat_map (λ c. asked_record (has_column pattern c) (value_at row c)) cs

-- the bytes for the values of a row, or for the mark that one is null, which are those of a null alone
abbrev pub mark_record : Option (List Value) → List ℕ
mark_record None = value_record Null
mark_record (Some vs) = row_record vs

-- how bytes of this number are filed
abbrev pub width_of : ℕ → Width
width_of len = if nat_lt len 16 then Two else if nat_lt len 24 then Three else if nat_lt len 48 then Six else Long

-- the family has the id under these bytes, where they are filed in this way
abbrev pub has_in : Family → Width → List ℕ → ℕ → Bool
has_in family Two bytes id = holds two_cmp family.two (two_words bytes) id
has_in family Three bytes id = holds three_cmp family.three (three_words bytes) id
has_in family Six bytes id = holds six_cmp family.six (six_words bytes) id
has_in family Long bytes id = set_has family.long bytes id

-- the family has the id under these bytes
abbrev pub has : Family → List ℕ → ℕ → Bool
has family bytes id = are_bytes bytes && has_in family (width_of (length bytes)) bytes id

-- the id is had under the bytes that pass, and all else stays
abbrev pub Puts : Family → Family → (List ℕ → Bool) → ℕ → Type 0
Puts old new under id = (bytes : List ℕ) (j : ℕ) → has new bytes j ≡ (has old bytes j || (under bytes && eq_by_cmp nat_cmp j id))

-- the id is no longer had under the bytes that pass, and all else stays
abbrev pub Takes : Family → Family → (List ℕ → Bool) → ℕ → Type 0
Takes old new under id = (bytes : List ℕ) (j : ℕ) → has new bytes j ≡ (has old bytes j && not (under bytes && eq_by_cmp nat_cmp j id))
