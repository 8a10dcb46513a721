-- UTF-8 consists of bytes.
use Rattle.std.proofs.Common.{◌≡◌, refl, ◌∙◌, subst, ℕ, ◌+◌, ◌*◌, ◌<◌, true, List, [], ◌∷◌, arith, nat_lt}
use Rattle.std.specs.Prelude.{◌/◌, ◌%◌}
use Rattle.std.specs.Char.{encode_utf8}
use Rattle.std.specs.Str.{is_utf8, chars, all_scalars, encode_utf8_all, bytes_eq}
use Rattle.std.proofs.lemmas.Bool.{lt-ltb, ltb-true, cond_both, and_parts, and_from}
use Rattle.std.proofs.lemmas.List.Folds.{list_all-append}
use Rattle.std.proofs.lemmas.Nat.{mod_below}
use Rattle.std.proofs.lemmas.Slice.Eq.{bytes_eq-Decides}
use Rattle.std.proofs.Math.Nat.{div-lt_iff_lt-mul}
use Rattle.std.proofs.Math.Utf8.{scalar, scalar_cases}
use Rattle.pk_values.specs.Values.{are_bytes}

-- what is below the product is below the factor, divided by the other
part_below : (c k most : ℕ) → 0 < k → c < most * k → c / k < most
part_below c k most some within = (div-lt_iff_lt-mul {k = k} {x = c} {y = most} some).1 within

byte_more : (n : ℕ) (ns : List ℕ) → n < 256 → are_bytes ns ≡ true → are_bytes (n ∷ ns) ≡ true
byte_more n ns low others = and_from (nat_lt n 256) (are_bytes ns) (lt-ltb n 256 low) others

-- a byte that goes on
goes_on : (n : ℕ) (ns : List ℕ) → are_bytes ns ≡ true → are_bytes ((128 + n % 64) ∷ ns) ≡ true
goes_on n ns others = byte_more (128 + n % 64) ns (omega (arith, mod_below n 64 (omega arith))) others

below_last : (c : ℕ) → scalar c ≡ true → c < 1114112
below_last c is = grind (arith, scalar_cases c is)

character_bytes : (c : ℕ) → scalar c ≡ true → are_bytes (encode_utf8 c) ≡ true
unfolding encode_utf8
character_bytes c is =
    let one = (128 + c % 64) ∷ [] in
    let two = (128 + c / 64 % 64) ∷ one in
    let three = (128 + c / 4096 % 64) ∷ two in
    let last = goes_on c [] refl in
    cond_both (nat_lt c 128) _ _ (λ bytes. are_bytes bytes ≡ true)
    (λ low. byte_more c [] (omega (arith, ltb-true c 128 low)) refl)
    (λ _. cond_both (nat_lt c 2048) _ _ (λ bytes. are_bytes bytes ≡ true)
    (λ low. byte_more (192 + c / 64) one (omega (arith, part_below c 64 64 (omega arith) (omega (arith, ltb-true c 2048 low)))) last)
    (λ _. cond_both (nat_lt c 65536) _ _ (λ bytes. are_bytes bytes ≡ true)
    (λ low. byte_more (224 + c / 4096) two (omega (arith, part_below c 4096 32 (omega arith) (omega (arith, ltb-true c 65536 low)))) (goes_on (c / 64) one last))
    (λ _. byte_more (240 + c / 262144) three (omega (arith, part_below c 262144 16 (omega arith) (omega (arith, below_last c is)))) (goes_on (c / 4096) two (goes_on (c / 64) one last)))))

characters_bytes : (cs : List ℕ) → all_scalars cs ≡ true → are_bytes (encode_utf8_all cs) ≡ true
characters_bytes [] are = refl
characters_bytes (c ∷ cs) are =
    let parts = and_parts (scalar c) (all_scalars cs) are in
    list_all-append (λ b. nat_lt b 256) (encode_utf8 c) (encode_utf8_all cs)
    ∙ and_from (are_bytes (encode_utf8 c)) (are_bytes (encode_utf8_all cs)) (character_bytes c parts.0) (characters_bytes cs parts.1)

pub utf8_bytes : (bytes : List ℕ) → is_utf8 bytes ≡ true → are_bytes bytes ≡ true
unfolding is_utf8
utf8_bytes bytes is =
    let parts = and_parts (all_scalars (chars bytes)) (bytes_eq (encode_utf8_all (chars bytes)) bytes) is in
    subst (λ bs. are_bytes bs ≡ true) ((bytes_eq-Decides (encode_utf8_all (chars bytes)) bytes).0 parts.1) (characters_bytes (chars bytes) parts.0)
