-- Conditions read as what they are, whatever follows them that may.
use Rattle.std.proofs.Common.{◌≡◌, ℕ, zero, suc, ◌<◌, ◌≤◌, List, [], ◌∷◌, ◌++◌, length, Option, Some, None, refl, sym, ap, subst, ◌∙◌, append_assoc, arith}
use Rattle.std.proofs.lemmas.List.{append-nil, length-append}
use Rattle.std.proofs.lemmas.Option.{some_pair_parts}
use Rattle.pk_lex.specs.declared.token.Token.{Token}
use Rattle.pk_lex.specs.declared.token.Token.TheVariants.{Word}
use Rattle.pk_syntax.specs.declared.condition.Test.{Test}
use Rattle.pk_parse.specs.declared.conditions.Joint.{Joint}
use Rattle.pk_parse.specs.Tokens.{Found, behind_or, after_word}
use Rattle.pk_parse.specs.Lists.{item_then}
use Rattle.pk_parse.specs.Conditions.{word_of, grouped, members_at, joined_at}
use Rattle.pk_parse.specs.ConditionGrammar.{JoinedBy, IsJoined}
use Rattle.pk_parse.proofs.Fronts.{bind_some, word_found, word_again}

-- what is read is in the grammar, and what is in the grammar is read where what follows may end it
pub record ReadsUpTo (Ends : List Token → Type 0) (member : List Token → Found Test) (Is : List Token → Test → Type 0) : Type 0 where
  pub found : (tokens : List Token) (t : Test) (rest : List Token) → member tokens ≡ Some (t, rest) → (front : List Token) × (tokens ≡ front ++ rest) × Is front t
  pub again : (front : List Token) (t : Test) (rest : List Token) → Ends rest → Is front t → member (front ++ rest) ≡ Some (t, rest)

-- ---- members: found

-- what stands behind a member: the word and further members, or nothing more
abbrev Followed : List ℕ → (List Token → Test → Type 0) → List Token → List Test → Type 0
Followed word Is tokens [] = tokens ≡ []
Followed word Is tokens (x ∷ xs) = (behind : List Token) × (tokens ≡ Word word ∷ behind) × JoinedBy word Is behind (x ∷ xs)

joined_then : (word : List ℕ) (Is : List Token → Test → Type 0) (front more : List Token) (x : Test) (xs : List Test) → Is front x → Followed word Is more xs → JoinedBy word Is (front ++ more) (x ∷ xs)
joined_then word Is front more x [] is rest = subst (λ (ts : List Token). Is ts x) (sym (ap (λ (ts : List Token). front ++ ts) rest ∙ append-nil front)) is
joined_then word Is front more x (y ∷ ys) is rest = (front, rest.0, ap (λ (ts : List Token). front ++ ts) rest.1, is, rest.2)

member_parts : (found : Found Test) (more : List Token → Found (List Test)) (xs : List Test) (rest : List Token) → item_then found more ≡ Some (xs, rest)
    → (x : Test) × (after : List Token) × (ys : List Test) × (found ≡ Some (x, after)) × (more after ≡ Some (ys, rest)) × (x ∷ ys ≡ xs)
member_parts found more xs rest e =
    let a = bind_some found _ (xs, rest) e in
    let b = bind_some (more a.0.1) _ (xs, rest) a.2 in
    let parts = some_pair_parts (a.0.0 ∷ b.0.0) xs b.0.1 rest b.2 in
    (a.0.0, a.0.1, b.0.0, a.1, b.1 ∙ ap (λ (ts : List Token). Some (b.0.0, ts)) parts.1, parts.0)

abbrev MembersFound : List ℕ → (List Token → Found Test) → (List Token → Test → Type 0) → ℕ → Type 0
MembersFound word member Is n = (tokens : List Token) (xs : List Test) (rest : List Token) → members_at word member n tokens ≡ Some (xs, rest) → (front : List Token) × (tokens ≡ front ++ rest) × Followed word Is front xs

none_found : (word : List ℕ) (Is : List Token → Test → Type 0) (tokens : List Token) (xs : List Test) (rest : List Token) → ◌≡◌ {A = Found (List Test)} (Some ([], tokens)) (Some (xs, rest))
    → (front : List Token) × (tokens ≡ front ++ rest) × Followed word Is front xs
none_found word Is tokens xs rest e =
    let none : List Test = [] in
    let parts = some_pair_parts none xs tokens rest e in
    ([], parts.1, subst (λ ys. Followed word Is [] ys) parts.0 refl)

behind_found : {Ends : List Token → Type 0} (word : List ℕ) (member : List Token → Found Test) (Is : List Token → Test → Type 0) → ReadsUpTo Ends member Is → (n : ℕ) → MembersFound word member Is n
    → (o : Option (List Token)) (tokens : List Token) (xs : List Test) (rest : List Token) → after_word word tokens ≡ o
    → behind_or o (λ behind. item_then (member behind) (members_at word member n)) (Some ([], tokens)) ≡ Some (xs, rest) → (front : List Token) × (tokens ≡ front ++ rest) × Followed word Is front xs
behind_found word member Is reads n shorter None tokens xs rest at e = none_found word Is tokens xs rest e
behind_found word member Is reads n shorter (Some behind) tokens xs rest at e =
    let a = member_parts (member behind) (members_at word member n) xs rest e in
    let first = reads.found behind a.0 a.1 a.3 in
    let others = shorter a.1 a.2 rest a.4 in
    let inside : behind ≡ (first.0 ++ others.0) ++ rest = first.1 ∙ ap (λ (ts : List Token). first.0 ++ ts) others.1 ∙ sym (append_assoc first.0 others.0 rest) in (
      Word word ∷ first.0 ++ others.0,
      word_found word tokens behind at ∙ ap (λ (ts : List Token). Word word ∷ ts) inside,
      subst (λ ys. Followed word Is (Word word ∷ first.0 ++ others.0) ys) a.5 (first.0 ++ others.0, refl, joined_then word Is first.0 others.0 a.0 a.2 first.2 others.2),
    )

members_found : {Ends : List Token → Type 0} (word : List ℕ) (member : List Token → Found Test) (Is : List Token → Test → Type 0) → ReadsUpTo Ends member Is → (n : ℕ) → MembersFound word member Is n
members_found word member Is reads zero tokens xs rest e = none_found word Is tokens xs rest e
members_found word member Is reads (suc n) tokens xs rest e = behind_found word member Is reads n (members_found word member Is reads n) (after_word word tokens) tokens xs rest refl e

joined_found : {Ends : List Token → Type 0} (joint : Joint) (member : List Token → Found Test) (Is : List Token → Test → Type 0) → ReadsUpTo Ends member Is → (tokens : List Token) (t : Test) (rest : List Token)
    → joined_at joint member tokens ≡ Some (t, rest) → (front : List Token) × (tokens ≡ front ++ rest) × IsJoined joint Is front t
unfolding joined_at
joined_found joint member Is reads tokens t rest e =
    let whole = bind_some (item_then (member tokens) (λ behind. members_at (word_of joint) member (length behind) behind)) _ (t, rest) e in
    let parts = some_pair_parts (grouped joint whole.0.0) t whole.0.1 rest whole.2 in
    let a = member_parts (member tokens) (λ behind. members_at (word_of joint) member (length behind) behind) whole.0.0 whole.0.1 whole.1 in
    let first = reads.found tokens a.0 a.1 a.3 in
    let others = members_found (word_of joint) member Is reads (length a.1) a.1 a.2 whole.0.1 a.4 in
    let ends : others.0 ++ whole.0.1 ≡ others.0 ++ rest = ap (λ (ts : List Token). others.0 ++ ts) parts.1 in (
      first.0 ++ others.0,
      first.1 ∙ ap (λ (ts : List Token). first.0 ++ ts) (others.1 ∙ ends) ∙ sym (append_assoc first.0 others.0 rest),
      subst (IsJoined joint Is (first.0 ++ others.0)) parts.0 (IsJoined.joins (first.0 ++ others.0) whole.0.0 (subst (λ ys. JoinedBy (word_of joint) Is (first.0 ++ others.0) ys) a.5 (joined_then (word_of joint) Is first.0 others.0 a.0 a.2 first.2 others.2))),
    )

-- ---- members: again

none_again : (word : List ℕ) (member : List Token → Found Test) (n : ℕ) (rest : List Token) → after_word word rest ≡ None → members_at word member n rest ≡ Some ([], rest)
none_again word member zero rest ends = refl
none_again word member (suc n) rest ends = rw ends refl

-- the first member again, with the word and all that follows it
first_again : {Ends : List Token → Type 0} (word : List ℕ) (member : List Token → Found Test) (Is : List Token → Test → Type 0) → ReadsUpTo Ends member Is → ((behind : List Token) → Ends (Word word ∷ behind))
    → (tokens front behind rest : List Token) (x : Test) → tokens ≡ front ++ Word word ∷ behind → Is front x
    → (member (tokens ++ rest) ≡ Some (x, Word word ∷ behind ++ rest)) × (length (behind ++ rest) < length (tokens ++ rest))
first_again word member Is reads at_word tokens front behind rest x split is =
    let whole : tokens ++ rest ≡ front ++ (Word word ∷ behind ++ rest) = ap (λ (ts : List Token). ts ++ rest) split ∙ append_assoc front (Word word ∷ behind) rest in
    (ap member whole ∙ reads.again front x (Word word ∷ behind ++ rest) (at_word (behind ++ rest)) is, omega (arith, ap length whole, length-append front (Word word ∷ behind ++ rest)))

members_again : {Ends : List Token → Type 0} (word : List ℕ) (member : List Token → Found Test) (Is : List Token → Test → Type 0) → ReadsUpTo Ends member Is → ((behind : List Token) → Ends (Word word ∷ behind))
    → (xs : List Test) (n : ℕ) (tokens rest : List Token) → Ends rest → after_word word rest ≡ None → JoinedBy word Is tokens xs → length (tokens ++ rest) ≤ n
    → item_then (member (tokens ++ rest)) (members_at word member n) ≡ Some (xs, rest)
members_again word member Is reads at_word [] n tokens rest ends none joined le = absurd joined
members_again word member Is reads at_word (x ∷ []) n tokens rest ends none joined le = rw (reads.again tokens x rest ends joined, none_again word member n rest none) refl
members_again word member Is reads at_word (x ∷ y ∷ ys) zero tokens rest ends none joined le =
    let first = first_again word member Is reads at_word tokens joined.0 joined.1 rest x joined.2 joined.3 in absurd (omega (arith, first.1))
members_again word member Is reads at_word (x ∷ y ∷ ys) (suc n) tokens rest ends none joined le =
    let first = first_again word member Is reads at_word tokens joined.0 joined.1 rest x joined.2 joined.3 in
    rw (first.0, word_again word (joined.1 ++ rest), members_again word member Is reads at_word (y ∷ ys) n joined.1 rest ends none joined.4 (omega (arith, first.1))) refl

-- the same, with a turn for each token behind the first member
all_again : {Ends : List Token → Type 0} (word : List ℕ) (member : List Token → Found Test) (Is : List Token → Test → Type 0) → ReadsUpTo Ends member Is → ((behind : List Token) → Ends (Word word ∷ behind))
    → (xs : List Test) (tokens rest : List Token) → Ends rest → after_word word rest ≡ None → JoinedBy word Is tokens xs
    → item_then (member (tokens ++ rest)) (λ behind. members_at word member (length behind) behind) ≡ Some (xs, rest)
all_again word member Is reads at_word [] tokens rest ends none joined = absurd joined
all_again word member Is reads at_word (x ∷ []) tokens rest ends none joined = rw (reads.again tokens x rest ends joined, none_again word member (length rest) rest none) refl
all_again word member Is reads at_word (x ∷ y ∷ ys) tokens rest ends none joined =
    let first = first_again word member Is reads at_word tokens joined.0 joined.1 rest x joined.2 joined.3 in
    rw (first.0, word_again word (joined.1 ++ rest), members_again word member Is reads at_word (y ∷ ys) (length (joined.1 ++ rest)) joined.1 rest ends none joined.4 (omega arith)) refl

joined_again : {Ends : List Token → Type 0} (joint : Joint) (member : List Token → Found Test) (Is : List Token → Test → Type 0) → ReadsUpTo Ends member Is → ((behind : List Token) → Ends (Word (word_of joint) ∷ behind))
    → (front : List Token) (t : Test) (rest : List Token) → Ends rest × (after_word (word_of joint) rest ≡ None) → IsJoined joint Is front t → joined_at joint member (front ++ rest) ≡ Some (t, rest)
unfolding joined_at
joined_again joint member Is reads at_word front t rest ends (IsJoined.joins tokens members joined) =
    rw (all_again (word_of joint) member Is reads at_word members tokens rest ends.0 ends.1 joined) refl

-- what a joint joins reads as such, where neither what ends a member nor the joint's word is missing
pub joined_read : {Ends : List Token → Type 0} (joint : Joint) (member : List Token → Found Test) (Is : List Token → Test → Type 0) → ReadsUpTo Ends member Is → ((behind : List Token) → Ends (Word (word_of joint) ∷ behind))
    → ReadsUpTo (λ rest. Ends rest × (after_word (word_of joint) rest ≡ None)) (joined_at joint member) (IsJoined joint Is)
joined_read joint member Is reads at_word = record { found = joined_found joint member Is reads; again = joined_again joint member Is reads at_word }
