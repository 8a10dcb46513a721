use Rattle.std.specs.Prelude.{ℕ, List, [], ◌∷◌, length}
use Rattle.std.specs.List.{flat_map}
use Rattle.std.specs.Int.{cast_unsigned, to_be_bytes, w64}
use Rattle.pk_values.specs.declared.value.Value.{Value}
use Rattle.pk_values.specs.declared.value.Value.TheVariants.{Null, Integer, Text}
use Rattle.pk_values.specs.Values.{IsStorable}

-- A value as files and indexes keep it: 0 for null; 1 and the 8 bytes of the number in two's complement, highest first;
-- 2, how many bytes the text has, and its bytes.
abbrev pub value_record : Value → List ℕ
value_record Null = 0 ∷ []
value_record (Integer z) = 1 ∷ to_be_bytes w64 (cast_unsigned w64 z)
value_record (Text bytes) = 2 ∷ length bytes ∷ bytes

-- a row is kept as its values, one behind the other
abbrev pub row_record : List Value → List ℕ
row_record values = flat_map value_record values

-- each value is one of the code's: null, a number of 64 bits, or words
abbrev pub AreStorable : List Value → Type 0
AreStorable [] = Unit {0}
AreStorable (v ∷ vs) = IsStorable v × AreStorable vs
