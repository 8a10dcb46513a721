use Rattle.std.proofs.Common.{◌≡◌, ℕ, ◌-◌, List, length, take, drop, refl, sym, arith, length-drop}
use Rattle.std.proofs.lemmas.List.{take_all}
use Rattle.pk_lex.proofs.LexemeLemmas.{front_of_text, front_of_open}
use Rattle.pk_lex.proofs.text.read_text.Goals as goal

-- what stands behind the first byte, as a slice
tail_is : (bs : List ℕ) → take (length bs - 1) (drop 1 bs) ≡ drop 1 bs
tail_is bs = take_all (length bs - 1) (drop 1 bs) (omega (arith, length-drop 1 bs))

pub returns-in_ok-unpaired-in-Some : goal.returns-in_ok-unpaired-in-Some
returns-in_ok-unpaired-in-Some c =
    let tail = tail_is c.args.bytes.now in
    let front = front_of_text c.args.bytes.now c.requires in
    let width = sym (rw tail at c.in-Some.ensures.width) in
    rw (front, width, c.closed_text.ensures, c.in_ok-unpaired-in-Some.ensures, tail) refl

pub returns-in-None : goal.returns-in-None
returns-in-None c =
    let tail = tail_is c.args.bytes.now in
    front_of_open c.args.bytes.now c.requires (sym (rw tail at c.in-None.ensures.width))
