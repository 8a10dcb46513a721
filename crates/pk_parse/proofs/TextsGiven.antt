-- Where each text among the tokens is UTF-8, so is each text of the statement that they spell.
use Rattle.std.proofs.Common.{◌≡◌, ℕ, zero, suc, Bool, true, false, cond, not, List, [], ◌∷◌, ◌++◌, Option, refl, sym, ap, subst, ◌∙◌}
use Rattle.std.specs.Prelude.{◌-◌, ◌^◌, codes, pos, neg_ℤ, nat_le}
use Rattle.std.specs.List.{list_all}
use Rattle.std.proofs.lemmas.List.Folds.{list_all-append, list_all-map}
use Rattle.pk_lex.specs.declared.token.Token.{Token}
use Rattle.pk_lex.specs.declared.token.Token.TheVariants.{Word, Symbol as Sign}
use Rattle.pk_lex.specs.declared.token.Symbol.TheVariants.{RightParen, Comma, Equal}
use Rattle.pk_lex.specs.declared.piece.Body.TheVariants.{Tokens}
use Rattle.pk_lex.specs.Tokens.{is_token, ends_piece, stands_inside, is_body}
use Rattle.pk_syntax.specs.declared.statement.Statement.{Statement}
use Rattle.pk_syntax.specs.declared.edit.SetPart.{SetPart}
use Rattle.pk_syntax.specs.declared.literal.Literal.{Literal}
use Rattle.pk_syntax.specs.declared.literal.Literal.TheVariants as literals
use Rattle.pk_syntax.specs.declared.condition.Op.{Op}
use Rattle.pk_syntax.specs.declared.condition.Operand.{Operand}
use Rattle.pk_syntax.specs.declared.condition.Test.{Test}
use Rattle.pk_syntax.specs.declared.condition.Test.TheVariants as tests
use Rattle.pk_syntax.specs.declared.condition.Test.TheVariants.{rolls-Compare, rolls-IsNull, rolls-Not, rolls-All, rolls-Any}
use Rattle.pk_syntax.specs.declared.condition.Test.TheOpen as layers
use Rattle.pk_syntax.specs.declared.condition.Test.TheFolds.{fold-roll-Test}
use Rattle.pk_parse.specs.declared.conditions.Joint.{Joint}
use Rattle.pk_parse.specs.declared.conditions.Joint.TheVariants.{And, Or}
use Rattle.pk_parse.specs.Literals.{number_of}
use Rattle.pk_parse.specs.Conditions.{word_of, grouped}
use Rattle.pk_parse.specs.LiteralGrammar.{IsLiteral, null, plain, negative, quoted}
use Rattle.pk_parse.specs.ConditionGrammar.{IsOperand, JoinedBy, IsJoined, IsCondOf, IsUnitOver, IsUnit, IsCondition}
use Rattle.pk_parse.specs.ConditionGrammar as conditions
use Rattle.pk_parse.specs.Where.{IsWhere}
use Rattle.pk_parse.specs.Grammar.{Joined, IsTuple, IsSet, IsStatement}
use Rattle.pk_parse.specs.Grammar as grammar
use Rattle.pk_parse.proofs.TokensGiven.{AreTokens, split_tokens, behind_token, behind_two, behind_three, joined_given, parens_given}
use Rattle.pk_syntax.specs.Given.{has_utf8, operand_has_utf8, test_step, test_has_utf8, cond_has_utf8, texts_are_utf8}
use Rattle.std.proofs.lemmas.Bool.{and_parts}

-- ---- literals and lists

number_given : (b : Bool) (l : Literal) → has_utf8 l ≡ true → has_utf8 (cond b l literals.Wide) ≡ true
number_given true l e = e
number_given false l e = refl

pub literal_given : (tokens : List Token) (l : Literal) → IsLiteral tokens l → AreTokens tokens → has_utf8 l ≡ true
literal_given tokens l null are = refl
literal_given tokens l (plain digits) are = number_given (nat_le (number_of digits) (2 ^ 63 - 1)) (literals.Number (pos (number_of digits))) refl
literal_given tokens l (negative digits) are = number_given (nat_le (number_of digits) (2 ^ 63)) (literals.Number (neg_ℤ (pos (number_of digits)))) refl
literal_given tokens l (quoted bytes) are = (and_parts _ true are).0

tuple_given : (tokens : List Token) (row : List Literal) → IsTuple tokens row → AreTokens tokens → list_all has_utf8 row ≡ true
tuple_given tokens row parens are = parens_given IsLiteral has_utf8 literal_given row tokens parens are

set_given : (tokens : List Token) (s : SetPart) → IsSet tokens s → AreTokens tokens → has_utf8 s.value ≡ true
set_given tokens s (grammar.sets column behind value free is) are = literal_given behind value is (behind_token (Word column) (Sign Equal ∷ behind) are)

-- ---- conditions

compare_texts : (column : List ℕ) (op : Op) (with : Operand) → test_has_utf8 (tests.Compare column op with) ≡ operand_has_utf8 with
compare_texts column op with = ap test_has_utf8 (sym (rolls-Compare column op with)) ∙ fold-roll-Test Bool test_step (layers.Compare column op with)

null_texts : (column : List ℕ) (negated : Bool) → test_has_utf8 (tests.IsNull column negated) ≡ true
null_texts column negated = ap test_has_utf8 (sym (rolls-IsNull column negated)) ∙ fold-roll-Test Bool test_step (layers.IsNull column negated)

not_texts : (member : Test) → test_has_utf8 (tests.Not member) ≡ test_has_utf8 member
not_texts member = ap test_has_utf8 (sym (rolls-Not member)) ∙ fold-roll-Test Bool test_step (layers.Not member)

all_texts : (members : List Test) → test_has_utf8 (tests.All members) ≡ list_all test_has_utf8 members
all_texts members = ap test_has_utf8 (sym (rolls-All members)) ∙ fold-roll-Test Bool test_step (layers.All members) ∙ list_all-map (λ m. m) test_has_utf8 members

any_texts : (members : List Test) → test_has_utf8 (tests.Any members) ≡ list_all test_has_utf8 members
any_texts members = ap test_has_utf8 (sym (rolls-Any members)) ∙ fold-roll-Test Bool test_step (layers.Any members) ∙ list_all-map (λ m. m) test_has_utf8 members

-- the tokens spell a condition whose texts are UTF-8, where theirs are
abbrev Given : (List Token → Test → Type 0) → Type 0
Given Is = (tokens : List Token) (t : Test) → Is tokens t → AreTokens tokens → test_has_utf8 t ≡ true

members_given : (word : List ℕ) (Is : List Token → Test → Type 0) → Given Is → (members : List Test) (tokens : List Token) → JoinedBy word Is tokens members → AreTokens tokens → list_all test_has_utf8 members ≡ true
members_given word Is each [] tokens joined are = absurd joined
members_given word Is each (t ∷ []) tokens joined are = rw (each tokens t joined are) refl
members_given word Is each (t ∷ u ∷ us) tokens joined are =
    let parts = split_tokens joined.0 (Word word ∷ joined.1) (subst AreTokens joined.2 are) in
    rw (each joined.0 t joined.3 parts.0) (members_given word Is each (u ∷ us) joined.1 joined.4 (behind_token (Word word) joined.1 parts.1))

grouped_given : (joint : Joint) (members : List Test) → list_all test_has_utf8 members ≡ true → test_has_utf8 (grouped joint members) ≡ true
grouped_given And [] all = all_texts [] ∙ all
grouped_given Or [] all = any_texts [] ∙ all
grouped_given joint (t ∷ []) all = (and_parts (test_has_utf8 t) true all).0
grouped_given And (t ∷ u ∷ us) all = all_texts (t ∷ u ∷ us) ∙ all
grouped_given Or (t ∷ u ∷ us) all = any_texts (t ∷ u ∷ us) ∙ all

group_given : (joint : Joint) (Is : List Token → Test → Type 0) → Given Is → Given (IsJoined joint Is)
group_given joint Is each tokens t (conditions.joins ts members joined) are = grouped_given joint members (members_given (word_of joint) Is each members ts joined are)

cond_of_given : (Is : List Token → Test → Type 0) → Given Is → Given (IsCondOf Is)
cond_of_given Is each = group_given Or (IsJoined And Is) (group_given And Is each)

operand_given : (tokens : List Token) (operand : Operand) → IsOperand tokens operand → AreTokens tokens → operand_has_utf8 operand ≡ true
operand_given tokens operand (conditions.known ts literal is) are = literal_given ts literal is are
operand_given tokens operand (conditions.column name free) are = refl

over_given : (IsDeeper : List Token → Test → Type 0) → Given IsDeeper → Given (IsUnitOver IsDeeper)
over_given IsDeeper deeper tokens t (conditions.compares name symbol op ts operand free stands is) are = compare_texts name op operand ∙ operand_given ts operand is (behind_token (Word name) (Sign symbol ∷ ts) are)
over_given IsDeeper deeper tokens t (conditions.is_null name free) are = null_texts name false
over_given IsDeeper deeper tokens t (conditions.is_not_null name free) are = null_texts name true
over_given IsDeeper deeper tokens t (conditions.denies ts member is) are = not_texts member ∙ deeper ts member is (behind_token (Word (codes "not")) ts are)
over_given IsDeeper deeper tokens t (conditions.encloses ts inner is) are = cond_of_given IsDeeper deeper ts inner is (split_tokens ts (Sign RightParen ∷ []) are).0

unit_given : (levels : ℕ) → Given (IsUnit levels)
unfolding IsUnit
unit_given zero tokens t is are = absurd is
unit_given (suc levels) tokens t is are = over_given (IsUnit levels) (unit_given levels) tokens t is are

condition_given : Given IsCondition
unfolding IsCondition
condition_given = cond_of_given (IsUnit 65) (unit_given 65)

where_given : (tokens : List Token) (c : Option Test) → IsWhere tokens c → AreTokens tokens → cond_has_utf8 c ≡ true
where_given tokens c IsWhere.all_rows are = refl
where_given tokens c (IsWhere.tested ts t is) are = condition_given ts t is (behind_token (Word (codes "where")) ts are)

-- ---- statements

pub texts_given : (tokens : List Token) (s : Statement) → IsStatement tokens s → AreTokens tokens → texts_are_utf8 s ≡ true
texts_given tokens s (grammar.create table ts parts decl free is declares) are = refl
texts_given tokens s (grammar.drop table free) are = refl
texts_given tokens s (grammar.insert table listed tuples columns rows free lists joined) are =
    let parts = split_tokens listed (Word (codes "values") ∷ tuples) (behind_three (codes "insert") (codes "into") table (listed ++ (Word (codes "values") ∷ tuples)) are) in
    joined_given IsTuple (list_all has_utf8) tuple_given rows tuples joined (behind_token (Word (codes "values")) tuples parts.1)
texts_given tokens s (grammar.update table parts behind assigned c free joined tested) are =
    let halves = split_tokens parts behind (behind_three (codes "update") table (codes "set") (parts ++ behind) are) in
    rw (joined_given IsSet (λ (p : SetPart). has_utf8 p.value) set_given assigned parts joined halves.0) (where_given behind c tested halves.1)
texts_given tokens s (grammar.delete table behind c free tested) are = where_given behind c tested (behind_three (codes "delete") (codes "from") table behind are)
texts_given tokens s (grammar.select table asked tested ordered what c order free asks tests orders) are =
    let parts = split_tokens asked (Word (codes "from") ∷ Word table ∷ tested ++ ordered) (behind_token (Word (codes "select")) (asked ++ (Word (codes "from") ∷ Word table ∷ tested ++ ordered)) are) in
    let behind = behind_token (Word table) (tested ++ ordered) (behind_token (Word (codes "from")) (Word table ∷ tested ++ ordered) parts.1) in
    where_given tested c tests (split_tokens tested ordered behind).0
texts_given tokens s grammar.begin are = refl
texts_given tokens s grammar.commit are = refl
texts_given tokens s grammar.rollback are = refl
texts_given tokens s (grammar.session name free) are = refl
texts_given tokens s (grammar.show table free) are = refl
texts_given tokens s (grammar.implies table ts key free is) are = refl
texts_given tokens s (grammar.cover table free) are = refl
texts_given tokens s (grammar.examples table free) are = refl
texts_given tokens s (grammar.discover table ts over free is) are = refl
texts_given tokens s grammar.checkpoint are = refl
