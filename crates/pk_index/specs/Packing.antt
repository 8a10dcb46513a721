-- Byte strings as numbers, and the order of these.
use Rattle.std.specs.Prelude.{ℕ, ◌-◌, ◌^◌, List, ◌∷◌, ◌++◌, length, take, drop, replicate}
use Rattle.std.specs.Int.{w64, from_be_bytes}
use Rattle.std.specs.declared.cmp.Ordering.{Ordering}
use Rattle.std.specs.Ordering.{nat_cmp, ordering_then}

-- so many bytes: the length of the given ones, zeros, and at the end the given ones
abbrev pub block : ℕ → List ℕ → List ℕ
block size bytes = take (size - length bytes) (length bytes ∷ replicate (size - 1) 0) ++ bytes

-- the eight bytes at a place as a number, the highest first
abbrev pub word : ℕ → List ℕ → ℕ
word at bytes = from_be_bytes w64 (take 8 (drop at bytes))

-- the number counted down from the greatest
abbrev pub turned : ℕ → ℕ
turned n = 2 ^ 64 - 1 - n

abbrev pub TwoWords : Type 0
TwoWords = ℕ × ℕ

abbrev pub ThreeWords : Type 0
ThreeWords = ℕ × ℕ × ℕ

abbrev pub SixWords : Type 0
SixWords = ℕ × ℕ × ℕ × ℕ × ℕ × ℕ

-- the words of bytes, the last one first and turned over
abbrev pub two_words : List ℕ → TwoWords
two_words bytes = (turned (word 8 (block 16 bytes)), word 0 (block 16 bytes))

abbrev pub three_words : List ℕ → ThreeWords
three_words bytes = (turned (word 16 (block 24 bytes)), word 8 (block 24 bytes), word 0 (block 24 bytes))

abbrev pub six_words : List ℕ → SixWords
six_words bytes = (
  turned (word 40 (block 48 bytes)),
  word 32 (block 48 bytes),
  word 24 (block 48 bytes),
  word 16 (block 48 bytes),
  word 8 (block 48 bytes),
  word 0 (block 48 bytes),
)

-- words are compared one after the other
abbrev pub two_cmp : TwoWords → TwoWords → Ordering
two_cmp p q = ordering_then (nat_cmp p.0 q.0) (nat_cmp p.1 q.1)

abbrev pub three_cmp : ThreeWords → ThreeWords → Ordering
three_cmp p q = ordering_then (ordering_then (nat_cmp p.0 q.0) (nat_cmp p.1 q.1)) (nat_cmp p.2 q.2)

abbrev pub six_cmp : SixWords → SixWords → Ordering
six_cmp p q =
    ordering_then
    (ordering_then
    (ordering_then (ordering_then (ordering_then (nat_cmp p.0 q.0) (nat_cmp p.1 q.1)) (nat_cmp p.2 q.2)) (nat_cmp p.3 q.3)) (nat_cmp p.4 q.4))
    (nat_cmp p.5 q.5)
