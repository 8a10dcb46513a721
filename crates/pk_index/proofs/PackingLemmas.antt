-- Bytes that are packed into the same words are the same.
use Rattle.std.proofs.Common.{◌≡◌, refl, sym, ◌∙◌, ap, subst, ℕ, zero, suc, ◌+◌, ◌-◌, ◌^◌, ◌<◌, ◌≤◌, true, ◌&&◌, List, [], ◌∷◌, ◌++◌, length, get_or, take, drop, replicate, arith}
use Rattle.std.specs.declared.cmp.Ordering.{Ordering}
use Rattle.std.specs.Ordering.{nat_cmp, eq_by_cmp, ordering_then, is_eq}
use Rattle.std.specs.Int.{w64, to_be_bytes}
use Rattle.std.specs.Cmp.{IsTotalOrder, tied_then, both_ways}
use Rattle.std.specs.Str.{bytes_eq}
use Rattle.std.proofs.lemmas.Bool.{and_parts, lt-ltb, ltb-true}
use Rattle.std.proofs.lemmas.Cmp.{eq_by_cmp_equiv, nat_cmp_total, then_total, on_total}
use Rattle.std.proofs.lemmas.List.{append_cancel_left, length-append, length-take-le, length-drop, length-replicate, take-append-drop, drop-drop, drop_all}
use Rattle.std.proofs.lemmas.Nat.{be_bytes_8}
use Rattle.std.proofs.lemmas.Slice.Eq.{bytes_eq-Decides}
use Rattle.pk_values.specs.Values.{are_bytes}
use Rattle.pk_index.proofs.ShownLemmas.{same_id}
use Rattle.pk_index.specs.Packing.{block, word, turned, TwoWords, ThreeWords, SixWords, two_words, three_words, six_words, two_cmp, three_cmp, six_cmp}

-- ---- lists of bytes

are_front : (n : ℕ) (bytes : List ℕ) → are_bytes bytes ≡ true → are_bytes (take n bytes) ≡ true
are_front zero bytes all = refl
are_front (suc n) [] all = refl
are_front (suc n) (b ∷ bytes) all =
    let parts = and_parts _ _ all in
    ap (λ t. t && are_bytes (take n bytes)) parts.0 ∙ are_front n bytes parts.1

are_rest : (n : ℕ) (bytes : List ℕ) → are_bytes bytes ≡ true → are_bytes (drop n bytes) ≡ true
are_rest zero bytes all = all
are_rest (suc n) [] all = refl
are_rest (suc n) (b ∷ bytes) all = are_rest n bytes (and_parts _ _ all).1

are_joined : (a b : List ℕ) → are_bytes a ≡ true → are_bytes b ≡ true → are_bytes (a ++ b) ≡ true
are_joined [] b first second = second
are_joined (x ∷ a) b first second =
    let parts = and_parts _ _ first in
    ap (λ t. t && are_bytes (a ++ b)) parts.0 ∙ are_joined a b parts.1 second

are_zeros : (n : ℕ) → are_bytes (replicate n 0) ≡ true
are_zeros zero = refl
are_zeros (suc n) = are_zeros n

byte_at : (bytes : List ℕ) → are_bytes bytes ≡ true → (i : ℕ) → get_or bytes i 0 < 256
byte_at [] all i = omega arith
byte_at (b ∷ bytes) all zero = ltb-true b 256 (and_parts _ _ all).0
byte_at (b ∷ bytes) all (suc i) = byte_at bytes (and_parts _ _ all).1 i

-- what code knows of bytes
pub all_bytes : (bytes : List ℕ) → ((k : ℕ) → get_or bytes k 0 < 256) → are_bytes bytes ≡ true
all_bytes [] small = refl
all_bytes (b ∷ bytes) small = ap (λ t. t && are_bytes bytes) (lt-ltb b 256 (small 0)) ∙ all_bytes bytes (λ k. small (suc k))

-- ---- the block

-- what stands in front of so many bytes
abbrev front : ℕ → ℕ → List ℕ
front size len = take (size - len) (len ∷ replicate (size - 1) 0)

module _ (size : ℕ) (small : size ≤ 48) (bytes : List ℕ) (all : are_bytes bytes ≡ true) (fits : length bytes < size) where
  pub block_len : length (block size bytes) ≡ size
  block_len =
      let zeros : length {A = ℕ} (replicate (size - 1) 0) ≡ size - 1 = length-replicate (size - 1) 0 in
      let ahead : length (front size (length bytes)) ≡ size - length bytes =
      length-take-le (size - length bytes) (length bytes ∷ replicate (size - 1) 0) (omega (arith, zeros, fits)) in
      let whole : length (block size bytes) ≡ length (front size (length bytes)) + length bytes = length-append (front size (length bytes)) bytes in
      omega (arith, ahead, whole, fits)

  pub block_bytes : are_bytes (block size bytes) ≡ true
  block_bytes =
      are_joined (front size (length bytes)) bytes
      (are_front (size - length bytes) (length bytes ∷ replicate (size - 1) 0)
      (ap (λ t. t && are_bytes (replicate (size - 1) 0)) (lt-ltb (length bytes) 256 (omega (arith, small, fits))) ∙ are_zeros (size - 1)))
      all

  block_head : get_or (block size bytes) 0 0 ≡ length bytes
  block_head = by_room (size - length bytes) (omega (arith, fits)) where
    by_room : (n : ℕ) → 0 < n → get_or (take n (length bytes ∷ replicate (size - 1) 0) ++ bytes) 0 0 ≡ length bytes
    by_room zero some = absurd (omega (arith, some))
    by_room (suc n) some = refl

-- blocks that are the same are of the same bytes
same_block : (size : ℕ) → size ≤ 48 → (a b : List ℕ) → are_bytes a ≡ true → are_bytes b ≡ true → length a < size → length b < size
    → block size a ≡ block size b → a ≡ b
same_block size small a b all_a all_b fits_a fits_b same =
    let lengths : length a ≡ length b = sym (block_head size small a all_a fits_a) ∙ ap (λ bytes. get_or bytes 0 0) same ∙ block_head size small b all_b fits_b in
    append_cancel_left (front size (length b)) a b (ap (λ n. front size n ++ a) (sym lengths) ∙ same)

-- ---- words

piece_len : (at : ℕ) (bytes : List ℕ) → at + 8 ≤ length bytes → length (take 8 (drop at bytes)) ≡ 8
piece_len at bytes room =
    let rest = length-drop at bytes in
    length-take-le 8 (drop at bytes) (omega (arith, rest, room))

piece_bytes : (at : ℕ) (bytes : List ℕ) → are_bytes bytes ≡ true → (i : ℕ) → get_or (take 8 (drop at bytes)) i 0 < 256
piece_bytes at bytes all = byte_at (take 8 (drop at bytes)) (are_front 8 (drop at bytes) (are_rest at bytes all))

pub word_below : (at : ℕ) (bytes : List ℕ) → are_bytes bytes ≡ true → word at bytes < 2 ^ 64
word_below at bytes all =
    let fits = piece_bytes at bytes all in omega (arith, fits 0, fits 1, fits 2, fits 3, fits 4, fits 5, fits 6, fits 7)

module _ (size : ℕ) (a b : List ℕ) (all_a : are_bytes a ≡ true) (all_b : are_bytes b ≡ true) (len_a : length a ≡ size) (len_b : length b ≡ size) where
  -- the last words are the same
  same_end : drop size a ≡ drop size b
  same_end = drop_all size a (omega (arith, len_a)) ∙ sym (drop_all size b (omega (arith, len_b)))

  -- where a word and all behind it are the same, so is all from it on
  same_from : (at : ℕ) → at + 8 ≤ size → word at a ≡ word at b → drop (at + 8) a ≡ drop (at + 8) b → drop at a ≡ drop at b
  same_from at room same behind =
      let in_a : at + 8 ≤ length a = omega (arith, room, len_a) in
      let in_b : at + 8 ≤ length b = omega (arith, room, len_b) in
      let pieces : take 8 (drop at a) ≡ take 8 (drop at b) =
      sym (be_bytes_8 (take 8 (drop at a)) (word at a) (piece_len at a in_a) (piece_bytes at a all_a) refl)
      ∙ ap (to_be_bytes w64) same
      ∙ be_bytes_8 (take 8 (drop at b)) (word at b) (piece_len at b in_b) (piece_bytes at b all_b) refl in
      sym (take-append-drop 8 (drop at a))
      ∙ ap (λ xs. xs ++ drop 8 (drop at a)) pieces
      ∙ ap (λ xs. take 8 (drop at b) ++ xs) (drop-drop 8 at a ∙ behind ∙ sym (drop-drop 8 at b))
      ∙ take-append-drop 8 (drop at b)

turned_back : (m n : ℕ) → m < 2 ^ 64 → n < 2 ^ 64 → turned m ≡ turned n → m ≡ n
turned_back m n low_m low_n same = omega (arith, low_m, low_n, same)

-- ---- words that compare as equal

both_equal : (o p : Ordering) → is_eq (ordering_then o p) ≡ true → (is_eq o ≡ true) × (is_eq p ≡ true)
both_equal o p same = and_parts _ _ (tied_then o p ∙ same)

two_same : (p q : TwoWords) → is_eq (two_cmp p q) ≡ true → (p.0 ≡ q.0) × (p.1 ≡ q.1)
two_same p q same =
    let parts = both_equal (nat_cmp p.0 q.0) (nat_cmp p.1 q.1) same in
    (same_id p.0 q.0 parts.0, same_id p.1 q.1 parts.1)

three_same : (p q : ThreeWords) → is_eq (three_cmp p q) ≡ true → (p.0 ≡ q.0) × (p.1 ≡ q.1) × (p.2 ≡ q.2)
three_same p q same =
    let parts = both_equal (two_cmp (p.0, p.1) (q.0, q.1)) (nat_cmp p.2 q.2) same in
    let first = two_same (p.0, p.1) (q.0, q.1) parts.0 in
    (first.0, first.1, same_id p.2 q.2 parts.1)

six_same : (p q : SixWords) → is_eq (six_cmp p q) ≡ true → (p.0 ≡ q.0) × (p.1 ≡ q.1) × (p.2 ≡ q.2) × (p.3 ≡ q.3) × (p.4 ≡ q.4) × (p.5 ≡ q.5)
six_same p q same =
    let three = three_cmp (p.0, p.1, p.2) (q.0, q.1, q.2) in
    let fifth = both_equal (ordering_then (ordering_then three (nat_cmp p.3 q.3)) (nat_cmp p.4 q.4)) (nat_cmp p.5 q.5) same in
    let fourth = both_equal (ordering_then three (nat_cmp p.3 q.3)) (nat_cmp p.4 q.4) fifth.0 in
    let third = both_equal three (nat_cmp p.3 q.3) fourth.0 in
    let first = three_same (p.0, p.1, p.2) (q.0, q.1, q.2) third.0 in
    (first.0, first.1, first.2, same_id p.3 q.3 third.1, same_id p.4 q.4 fourth.1, same_id p.5 q.5 fifth.1)

-- packed into words, other bytes are other words
abbrev pub Tells : {K : Type 0} → (K → K → Ordering) → (List ℕ → K) → ℕ → Type 0
Tells cmp words limit =
    (a b : List ℕ) → are_bytes a ≡ true → are_bytes b ≡ true → length a < limit → length b < limit → eq_by_cmp cmp (words a) (words b) ≡ bytes_eq a b

tells : {K : Type 0} (cmp : K → K → Ordering) (words : List ℕ → K) (limit : ℕ) → IsTotalOrder cmp
    → ((a b : List ℕ) → are_bytes a ≡ true → are_bytes b ≡ true → length a < limit → length b < limit → is_eq (cmp (words a) (words b)) ≡ true → a ≡ b)
    → Tells cmp words limit
tells cmp words limit total exact a b all_a all_b fits_a fits_b =
    both_ways (eq_by_cmp cmp (words a) (words b)) (bytes_eq a b)
    (λ same. (bytes_eq-Decides a b).1 (exact a b all_a all_b fits_a fits_b same))
    (λ same. subst (λ z. eq_by_cmp cmp (words a) (words z) ≡ true) ((bytes_eq-Decides a b).0 same) ((eq_by_cmp_equiv total).refl (words a)))

module _ (size : ℕ) (small : size ≤ 48) (a b : List ℕ) (all_a : are_bytes a ≡ true) (all_b : are_bytes b ≡ true) (fits_a : length a < size) (fits_b : length b < size) where
  -- the block is the same from a word on, where it is so behind the word
  goes_back : (at : ℕ) → at + 8 ≤ size → word at (block size a) ≡ word at (block size b)
      → drop (at + 8) (block size a) ≡ drop (at + 8) (block size b) → drop at (block size a) ≡ drop at (block size b)
  goes_back at room same behind =
      same_from size (block size a) (block size b) (block_bytes size small a all_a fits_a) (block_bytes size small b all_b fits_b)
      (block_len size small a all_a fits_a) (block_len size small b all_b fits_b) at room same behind

  -- and so it is from its last word on, which is turned over
  ends_same : (at : ℕ) → at + 8 ≡ size → turned (word at (block size a)) ≡ turned (word at (block size b)) → drop at (block size a) ≡ drop at (block size b)
  ends_same at last same =
      let bytes_a = block_bytes size small a all_a fits_a in
      let bytes_b = block_bytes size small b all_b fits_b in
      let len_a = block_len size small a all_a fits_a in
      let len_b = block_len size small b all_b fits_b in
      same_from size (block size a) (block size b) bytes_a bytes_b len_a len_b at (omega (arith, last))
      (turned_back (word at (block size a)) (word at (block size b)) (word_below at (block size a) bytes_a) (word_below at (block size b) bytes_b) same)
      (subst (λ n. drop n (block size a) ≡ drop n (block size b)) (sym last) (same_end size (block size a) (block size b) bytes_a bytes_b len_a len_b))

  whole_same : drop 0 (block size a) ≡ drop 0 (block size b) → a ≡ b
  whole_same = same_block size small a b all_a all_b fits_a fits_b

two_total : IsTotalOrder two_cmp
two_total = then_total (on_total (λ t. t.0) nat_cmp_total) (on_total (λ t. t.1) nat_cmp_total)

three_total : IsTotalOrder three_cmp
three_total = then_total (then_total (on_total (λ t. t.0) nat_cmp_total) (on_total (λ t. t.1) nat_cmp_total)) (on_total (λ t. t.2) nat_cmp_total)

six_total : IsTotalOrder six_cmp
six_total =
    then_total
    (then_total
    (then_total (then_total (then_total (on_total (λ t. t.0) nat_cmp_total) (on_total (λ t. t.1) nat_cmp_total)) (on_total (λ t. t.2) nat_cmp_total)) (on_total (λ t. t.3) nat_cmp_total))
    (on_total (λ t. t.4) nat_cmp_total))
    (on_total (λ t. t.5) nat_cmp_total)

exact_two : (a b : List ℕ) → are_bytes a ≡ true → are_bytes b ≡ true → length a < 16 → length b < 16 → is_eq (two_cmp (two_words a) (two_words b)) ≡ true → a ≡ b
exact_two a b all_a all_b fits_a fits_b same =
    let words = two_same (two_words a) (two_words b) same in
    let small : 16 ≤ 48 = omega arith in
    whole_same 16 small a b all_a all_b fits_a fits_b
    (goes_back 16 small a b all_a all_b fits_a fits_b 0 (omega arith) words.1
    (ends_same 16 small a b all_a all_b fits_a fits_b 8 refl words.0))

exact_three : (a b : List ℕ) → are_bytes a ≡ true → are_bytes b ≡ true → length a < 24 → length b < 24 → is_eq (three_cmp (three_words a) (three_words b)) ≡ true → a ≡ b
exact_three a b all_a all_b fits_a fits_b same =
    let words = three_same (three_words a) (three_words b) same in
    let small : 24 ≤ 48 = omega arith in
    whole_same 24 small a b all_a all_b fits_a fits_b
    (goes_back 24 small a b all_a all_b fits_a fits_b 0 (omega arith) words.2
    (goes_back 24 small a b all_a all_b fits_a fits_b 8 (omega arith) words.1
    (ends_same 24 small a b all_a all_b fits_a fits_b 16 refl words.0)))

exact_six : (a b : List ℕ) → are_bytes a ≡ true → are_bytes b ≡ true → length a < 48 → length b < 48 → is_eq (six_cmp (six_words a) (six_words b)) ≡ true → a ≡ b
exact_six a b all_a all_b fits_a fits_b same =
    let words = six_same (six_words a) (six_words b) same in
    let small : 48 ≤ 48 = omega arith in
    whole_same 48 small a b all_a all_b fits_a fits_b
    (goes_back 48 small a b all_a all_b fits_a fits_b 0 (omega arith) words.5
    (goes_back 48 small a b all_a all_b fits_a fits_b 8 (omega arith) words.4
    (goes_back 48 small a b all_a all_b fits_a fits_b 16 (omega arith) words.3
    (goes_back 48 small a b all_a all_b fits_a fits_b 24 (omega arith) words.2
    (goes_back 48 small a b all_a all_b fits_a fits_b 32 (omega arith) words.1
    (ends_same 48 small a b all_a all_b fits_a fits_b 40 refl words.0))))))

pub tells_two : Tells two_cmp two_words 16
tells_two = tells two_cmp two_words 16 two_total exact_two

pub tells_three : Tells three_cmp three_words 24
tells_three = tells three_cmp three_words 24 three_total exact_three

pub tells_six : Tells six_cmp six_words 48
tells_six = tells six_cmp six_words 48 six_total exact_six
