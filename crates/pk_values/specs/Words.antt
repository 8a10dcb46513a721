use Rattle.std.specs.Prelude.{◌≡◌, ℕ, ◌≤◌, ◌<◌, Bool, ◌&&◌, List, length, nat_le}
use Rattle.std.specs.Str.{is_utf8, IsValidUpTo}
use Rattle.pk_values.specs.declared.words.WordsErr.{WordsErr}
use Rattle.pk_values.specs.declared.words.WordsErr.TheVariants.{TooLong, NotUtf8, Memory}

-- at most 255 bytes, which are UTF-8
abbrev pub is_words : List ℕ → Bool
is_words bytes = nat_le (length bytes) 255 && is_utf8 bytes

-- the error names why the bytes are no words: their number, or the length of the longest front that is UTF-8
abbrev pub IsCause : WordsErr → List ℕ → Type 0
IsCause (TooLong len) bytes = (len ≡ length bytes) × (255 < length bytes)
IsCause (NotUtf8 at) bytes = (length bytes ≤ 255) × IsValidUpTo bytes at
IsCause Memory bytes = Unit {0}
