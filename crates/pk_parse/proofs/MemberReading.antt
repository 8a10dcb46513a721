-- Reading the members of a condition one by one.
use Rattle.std.proofs.Common.{◌≡◌, ◌≢◌, ℕ, ◌+◌, ◌-◌, ◌<◌, ◌≤◌, zero, suc, List, [], ◌∷◌, ◌++◌, length, Some, None, refl, sym, ap, subst, ◌∙◌, append_assoc, arith}
use Rattle.std.specs.Prelude.{codes}
use Rattle.std.proofs.lemmas.List.{append-nil}
use Rattle.std.proofs.lemmas.Option.{some_pair_parts}
use Rattle.pk_lex.specs.declared.token.Token.{Token}
use Rattle.pk_lex.specs.declared.token.Symbol.TheVariants.{LeftParen}
use Rattle.pk_syntax.specs.declared.condition.Test.{Test}
use Rattle.pk_parse.specs.declared.conditions.Joint.{Joint}
use Rattle.pk_parse.specs.declared.conditions.Joint.TheVariants.{And, Or}
use Rattle.pk_parse.specs.declared.miss.Miss.{Miss}
use Rattle.pk_parse.specs.declared.miss.Miss.TheVariants.{NotStatement, Memory}
use Rattle.pk_parse.specs.Tokens.{Found, after_word, after_symbol}
use Rattle.pk_parse.specs.Lists.{item_then}
use Rattle.pk_parse.specs.Conditions.{word_of, grouped, group, with_first, members_at, joined_at, inside_at, unit_at}
use Rattle.pk_parse.specs.Reading.{Misses}
use Rattle.pk_parse.proofs.Fronts.{bind_some, word_found}
use Rattle.pk_parse.proofs.ListReading.{with_front}

regroup : (front : List Test) (x : Test) (found : Found (List Test)) → with_front front (with_first x found) ≡ with_front (front ++ x ∷ []) found
regroup front x None = refl
regroup front x (Some xs) = ap (λ (items : List Test). Some (items, xs.1)) (sym (append_assoc front (x ∷ []) xs.0))

-- one more member behind the word
pub is_taken : (word : List ℕ) (member : List Token → Found Test) (front : List Test) (end i : ℕ) (tokens behind after : List Token) (x : Test) (all : Found (List Test))
    → i < end → after_word word tokens ≡ Some behind → member behind ≡ Some (x, after)
    → with_front front (members_at word member (end - i) tokens) ≡ all → with_front (front ++ x ∷ []) (members_at word member (end - (i + 1)) after) ≡ all
is_taken word member front end i tokens behind after x all lt found read so_far =
    let left : end - i ≡ suc (end - (i + 1)) = omega arith in
    let one : with_front front (members_at word member (end - i) tokens) ≡ with_front (front ++ x ∷ []) (members_at word member (end - (i + 1)) after) = rw (left, found, read) (regroup front x (members_at word member (end - (i + 1)) after)) in
    sym one ∙ so_far

-- no member behind the word
pub is_missed : (word : List ℕ) (member : List Token → Found Test) (front : List Test) (end i : ℕ) (tokens behind : List Token) (miss : Miss) (all : Found (List Test))
    → i < end → after_word word tokens ≡ Some behind → Misses miss (member behind)
    → with_front front (members_at word member (end - i) tokens) ≡ all → Misses miss all
is_missed word member front end i tokens behind Memory all lt found missed so_far = tt
is_missed word member front end i tokens behind NotStatement all lt found missed so_far =
    let left : end - i ≡ suc (end - (i + 1)) = omega arith in
    let one : with_front front (members_at word member (end - i) tokens) ≡ None = rw (left, found, missed) refl in
    sym so_far ∙ one

-- the word doesn't stand there
pub is_done : (word : List ℕ) (member : List Token → Found Test) (front : List Test) (end i : ℕ) (tokens : List Token) (all : Found (List Test))
    → i < end → after_word word tokens ≡ None
    → with_front front (members_at word member (end - i) tokens) ≡ all → all ≡ Some (front, tokens)
is_done word member front end i tokens all lt none so_far =
    let left : end - i ≡ suc (end - (i + 1)) = omega arith in
    let one : with_front front (members_at word member (end - i) tokens) ≡ Some (front, tokens) = rw (left, none) (ap (λ (items : List Test). Some (items, tokens)) (append-nil front)) in
    sym so_far ∙ one

-- no turn is left
pub is_over : (word : List ℕ) (member : List Token → Found Test) (front : List Test) (end i : ℕ) (tokens : List Token) (all : Found (List Test))
    → end ≤ i
    → with_front front (members_at word member (end - i) tokens) ≡ all → all ≡ Some (front, tokens)
is_over word member front end i tokens all le so_far =
    let left : end - i ≡ 0 = omega arith in
    let one : with_front front (members_at word member (end - i) tokens) ≡ Some (front, tokens) = rw left (ap (λ (items : List Test). Some (items, tokens)) (append-nil front)) in
    sym so_far ∙ one

-- ---- members as one condition

-- no first member
pub joined_missed : (joint : Joint) (member : List Token → Found Test) (tokens : List Token) (miss : Miss) → Misses miss (member tokens) → Misses miss (joined_at joint member tokens)
unfolding joined_at
joined_missed joint member tokens Memory missed = tt
joined_missed joint member tokens NotStatement missed = rw missed refl

-- a first member, and none behind it
pub joined_alone : (joint : Joint) (member : List Token → Found Test) (tokens rest : List Token) (first : Test) → member tokens ≡ Some (first, rest) → after_word (word_of joint) rest ≡ None
    → joined_at joint member tokens ≡ Some (first, rest)
unfolding joined_at
joined_alone joint member tokens rest first read none = rw (read, none_left (length rest)) refl
  where
    none_left : (n : ℕ) → members_at (word_of joint) member n rest ≡ Some ([], rest)
    none_left zero = refl
    none_left (suc n) = rw none refl

-- a first member, and a missing one behind it
pub joined_broken : (joint : Joint) (member : List Token → Found Test) (tokens rest : List Token) (first : Test) (miss : Miss) → member tokens ≡ Some (first, rest)
    → Misses miss (with_first first (members_at (word_of joint) member (length rest) rest)) → Misses miss (joined_at joint member tokens)
unfolding joined_at
joined_broken joint member tokens rest first Memory read missed = tt
joined_broken joint member tokens rest first NotStatement read missed = rw (read, missed) refl

-- members that begin with two are grouped
two_or_more : (joint : Joint) (first : Test) (member : List Token → Found Test) (word : List ℕ) (n : ℕ) (rest behind : List Token) (members : List Test) (end : List Token) → after_word word rest ≡ Some behind
    → with_first first (members_at word member (suc n) rest) ≡ Some (members, end) → grouped joint members ≡ group joint members
two_or_more joint first member word n rest behind members end found e =
    let a = bind_some (members_at word member (suc n) rest) _ (members, end) e in
    let all = some_pair_parts (first ∷ a.0.0) members a.0.1 end a.2 in
    let taken : members_at word member (suc n) rest ≡ item_then (member behind) (members_at word member n) = rw found refl in
    let b = bind_some (member behind) _ a.0 (sym taken ∙ a.1) in
    let c = bind_some (members_at word member n b.0.1) _ a.0 b.2 in
    let second : b.0.0 ∷ c.0.0 ≡ a.0.0 = (some_pair_parts (b.0.0 ∷ c.0.0) a.0.0 c.0.1 a.0.1 c.2).0 in
    let shape : first ∷ b.0.0 ∷ c.0.0 ≡ members = ap (λ (ts : List Test). first ∷ ts) second ∙ all.0 in
    subst (λ ts. grouped joint ts ≡ group joint ts) shape (grouped_two joint first b.0.0 c.0.0)
  where
    grouped_two : (joint : Joint) (x y : Test) (ys : List Test) → grouped joint (x ∷ y ∷ ys) ≡ group joint (x ∷ y ∷ ys)
    grouped_two And x y ys = refl
    grouped_two Or x y ys = refl

-- a first member, and others behind it
pub joined_several : (joint : Joint) (member : List Token → Found Test) (tokens rest behind : List Token) (first : Test) (members : List Test) (end : List Token) → member tokens ≡ Some (first, rest)
    → after_word (word_of joint) rest ≡ Some behind → with_first first (members_at (word_of joint) member (length rest) rest) ≡ Some (members, end)
    → joined_at joint member tokens ≡ Some (group joint members, end)
unfolding joined_at
joined_several joint member tokens rest behind first members end read found e =
    let longer : length rest ≡ suc (length behind) = ap length (word_found (word_of joint) rest behind found) in
    let all = two_or_more joint first member (word_of joint) (length behind) rest behind members end found (rw longer at e) in
    rw (read, e) (ap (λ (t : Test). Some (t, end)) all)

-- ---- units

-- what stands in parentheses
pub unit_inside : (levels : ℕ) (tokens inside : List Token) → levels ≢ 0 → after_word (codes "not") tokens ≡ None → after_symbol LeftParen tokens ≡ Some inside
    → unit_at levels tokens ≡ inside_at (unit_at (levels - 1)) inside
unfolding unit_at
unit_inside zero tokens inside positive no_not opened = absurd (positive refl)
unit_inside (suc n) tokens inside positive no_not opened =
    let one : suc n - 1 ≡ n = omega arith in
    rw (no_not, opened, one) refl
