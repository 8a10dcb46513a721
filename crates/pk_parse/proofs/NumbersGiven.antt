-- The numbers of a statement that is read fit 64 bits.
use Rattle.std.proofs.Common.{◌≡◌, ℕ, ◌-◌, ◌^◌, ◌≤◌, zero, suc, List, [], ◌∷◌, arith}
use Rattle.std.specs.Prelude.{pos, negsuc, neg_ℤ, nat_le, All, FitsSigned}
use Rattle.std.specs.Int.{w64}
use Rattle.std.proofs.lemmas.Bool.{cond_both, leb-true}
use Rattle.std.proofs.lemmas.List.Elements.{All-nil, All-cons}
use Rattle.pk_lex.specs.declared.token.Token.{Token}
use Rattle.pk_syntax.specs.declared.statement.Statement.{Statement}
use Rattle.pk_syntax.specs.declared.edit.SetPart.{SetPart}
use Rattle.pk_syntax.specs.declared.literal.Literal.{Literal}
use Rattle.pk_syntax.specs.declared.literal.Literal.TheVariants as literals
use Rattle.pk_syntax.specs.Given.{HasFittingNumber, NumbersFit}
use Rattle.pk_parse.specs.Literals.{number_of, plain_number, negative_number}
use Rattle.pk_parse.specs.LiteralGrammar.{IsLiteral, null, plain, negative, quoted}
use Rattle.pk_parse.specs.Grammar.{Joined, IsTuple, IsSet, IsStatement}
use Rattle.pk_parse.specs.Grammar as grammar

plain_fits : (n : ℕ) → HasFittingNumber (plain_number n)
plain_fits n =
    cond_both (nat_le n (2 ^ 63 - 1)) (literals.Number (pos n)) literals.Wide HasFittingNumber
    (λ e. let within : n ≤ 2 ^ 63 - 1 = leb-true n (2 ^ 63 - 1) e in record { sfits = omega (arith, within) })
    (λ e. tt)

below_zero : (n : ℕ) → n ≤ 2 ^ 63 → FitsSigned w64 (neg_ℤ (pos n))
below_zero zero within = record { sfits = omega arith }
below_zero (suc n) within = record { sfits = omega (arith, within) }

negative_fits : (n : ℕ) → HasFittingNumber (negative_number n)
negative_fits n =
    cond_both (nat_le n (2 ^ 63)) (literals.Number (neg_ℤ (pos n))) literals.Wide HasFittingNumber
    (λ e. below_zero n (leb-true n (2 ^ 63) e))
    (λ e. tt)

literal_fits : (tokens : List Token) (l : Literal) → IsLiteral tokens l → HasFittingNumber l
literal_fits tokens l null = tt
literal_fits tokens l (plain digits) = plain_fits (number_of digits)
literal_fits tokens l (negative digits) = negative_fits (number_of digits)
literal_fits tokens l (quoted bytes) = tt

-- what is so of each item is so of all of a list
joined_fit : {A : Type 0} (Is : List Token → A → Type 0) (Good : A → Type 0) → ((tokens : List Token) (x : A) → Is tokens x → Good x)
    → (xs : List A) (tokens : List Token) → Joined Is tokens xs → All Good xs
joined_fit Is Good each [] tokens joined = absurd joined
joined_fit Is Good each (x ∷ []) tokens joined = All-cons Good x [] (each tokens x joined) (All-nil Good)
joined_fit Is Good each (x ∷ y ∷ ys) tokens joined =
    All-cons Good x (y ∷ ys) (each joined.0 x joined.3) (joined_fit Is Good each (y ∷ ys) joined.1 joined.4)

tuple_fits : (tokens : List Token) (row : List Literal) → IsTuple tokens row → All HasFittingNumber row
tuple_fits tokens row parens = joined_fit IsLiteral HasFittingNumber literal_fits row parens.0 parens.2

set_fits : (tokens : List Token) (s : SetPart) → IsSet tokens s → HasFittingNumber s.value
set_fits tokens s (grammar.sets column behind value free is) = literal_fits behind value is

pub numbers_given : (tokens : List Token) (s : Statement) → IsStatement tokens s → NumbersFit s
numbers_given tokens s (grammar.insert table listed tuples columns rows free lists joined) = joined_fit IsTuple (All HasFittingNumber) tuple_fits rows tuples joined
numbers_given tokens s (grammar.update table parts behind assigned c free joined tested) = joined_fit IsSet (λ (p : SetPart). HasFittingNumber p.value) set_fits assigned parts joined
numbers_given tokens s (grammar.create table ts parts decl free is declares) = tt
numbers_given tokens s (grammar.drop table free) = tt
numbers_given tokens s (grammar.delete table behind c free tested) = tt
numbers_given tokens s (grammar.select table asked tested ordered what c order free asks tests orders) = tt
numbers_given tokens s grammar.begin = tt
numbers_given tokens s grammar.commit = tt
numbers_given tokens s grammar.rollback = tt
numbers_given tokens s (grammar.session name free) = tt
numbers_given tokens s (grammar.show table free) = tt
numbers_given tokens s (grammar.implies table ts key free is) = tt
numbers_given tokens s (grammar.cover table free) = tt
numbers_given tokens s (grammar.examples table free) = tt
numbers_given tokens s (grammar.discover table ts over free is) = tt
numbers_given tokens s grammar.checkpoint = tt
