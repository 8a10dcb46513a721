-- What single tests and units read as, and with them whole conditions.
use Rattle.std.proofs.Common.{◌≡◌, ℕ, zero, suc, Bool, true, false, List, [], ◌∷◌, ◌++◌, Option, Some, None, refl, sym, ap, subst, ◌∙◌, append_assoc}
use Rattle.std.specs.Prelude.{codes}
use Rattle.std.specs.Str.{bytes_eq}
use Rattle.std.proofs.lemmas.Slice.Eq.{bytes_eq-Decides}
use Rattle.std.proofs.lemmas.Option.{some_pair_parts}
use Rattle.pk_lex.specs.declared.token.Token.{Token}
use Rattle.pk_lex.specs.declared.token.Token.TheVariants.{Word, Number, Text, Symbol as Sign}
use Rattle.pk_lex.specs.declared.token.Symbol.{Symbol}
use Rattle.pk_lex.specs.declared.token.Symbol.TheVariants.{LeftParen, RightParen}
use Rattle.pk_syntax.specs.declared.literal.Literal.{Literal}
use Rattle.pk_syntax.specs.declared.condition.Op.{Op}
use Rattle.pk_syntax.specs.declared.condition.Operand.{Operand}
use Rattle.pk_syntax.specs.declared.condition.Operand.TheVariants.{Known, Column}
use Rattle.pk_syntax.specs.declared.condition.Test.{Test}
use Rattle.pk_syntax.specs.declared.condition.Test.TheVariants.{Compare, IsNull, Not}
use Rattle.pk_parse.specs.declared.conditions.Joint.TheVariants.{And, Or}
use Rattle.pk_parse.specs.Tokens.{Found, behind_or, after_word, after_symbol, name_at}
use Rattle.pk_parse.specs.Literals.{null_at, literal_at}
use Rattle.pk_syntax.specs.Words.{is_reserved, reserved}
use Rattle.pk_parse.specs.LiteralGrammar.{IsFree}
use Rattle.pk_parse.specs.Conditions.{op_of, op_at, known_or, column_operand, operand_at, comparison_at, null_behind, null_test_at, column_test_at, word_of, joined_at, member_at, negation_at, inside_at, unit_over, unit_at, condition_at}
use Rattle.pk_parse.specs.ConditionGrammar.{IsOperand, IsJoined, IsCondOf, IsUnitOver, IsUnit, IsCondition, ReadsConditions}
use Rattle.pk_parse.proofs.Fronts.{bind_some, word_found, word_again, word_missed, symbol_found, symbol_again, name_found, name_again}
use Rattle.pk_parse.proofs.PartReading.{literal_read}
use Rattle.pk_parse.proofs.ConditionReading.{ReadsUpTo, joined_read}

-- ---- operands

op_found : (tokens : List Token) (op : Op) (rest : List Token) → op_at tokens ≡ Some (op, rest) → (symbol : Symbol) × (tokens ≡ Sign symbol ∷ rest) × (op_of symbol ≡ Some op)
unfolding op_at
op_found [] op rest e = absurd cc
op_found (Word w ∷ ts) op rest e = absurd cc
op_found (Number digits ∷ ts) op rest e = absurd cc
op_found (Text bytes ∷ ts) op rest e = absurd cc
op_found (Sign s ∷ ts) op rest e =
    let a = bind_some (op_of s) _ (op, rest) e in
    let parts = some_pair_parts a.0 op ts rest a.2 in
    (s, ap (λ (ts : List Token). Sign s ∷ ts) parts.1, a.1 ∙ ap (λ (o : Op). Some o) parts.0)

op_again : (symbol : Symbol) (op : Op) (rest : List Token) → op_of symbol ≡ Some op → op_at (Sign symbol ∷ rest) ≡ Some (op, rest)
unfolding op_at
op_again symbol op rest e = rw e refl

-- a name is none of the words of the grammar
name_is_other : (word name : List ℕ) (rest : List Token) → is_reserved word ≡ true → IsFree name → after_word word (Word name ∷ rest) ≡ None
name_is_other word name rest taken free = word_missed word name (Word name ∷ rest) rest refl (go (bytes_eq name word) refl)
  where
    go : (b : Bool) → bytes_eq name word ≡ b → b ≡ false
    go false e = refl
    go true e =
        let same : name ≡ word = (bytes_eq-Decides name word).0 e in
        let both : is_reserved word ≡ false = subst IsFree same free in
        absurd cc

not_is_reserved : is_reserved (codes "not") ≡ true
unfolding is_reserved reserved
not_is_reserved = refl

null_is_reserved : is_reserved (codes "null") ≡ true
unfolding is_reserved reserved
null_is_reserved = refl

-- a name is no literal
name_is_no_literal : (name : List ℕ) (rest : List Token) → IsFree name → literal_at (Word name ∷ rest) ≡ None
unfolding literal_at null_at
name_is_no_literal name rest free = rw (name_is_other (codes "null") name rest null_is_reserved free) refl

operand_found : (tokens : List Token) (operand : Operand) (rest : List Token) → operand_at tokens ≡ Some (operand, rest) → (front : List Token) × (tokens ≡ front ++ rest) × IsOperand front operand
unfolding operand_at
operand_found tokens operand rest e = go (literal_at tokens) refl e
  where
    go : (o : Found Literal) → literal_at tokens ≡ o → known_or o (column_operand (name_at tokens)) ≡ Some (operand, rest) → (front : List Token) × (tokens ≡ front ++ rest) × IsOperand front operand
    go (Some (l, behind)) is e =
        let parts = some_pair_parts (Known l) operand behind rest e in
        let literal = literal_read.found tokens l behind is in
        (literal.0, literal.1 ∙ ap (λ (ts : List Token). literal.0 ++ ts) parts.1, subst (IsOperand literal.0) parts.0 (IsOperand.known literal.0 l literal.2))
    go None is e =
        let a = bind_some (name_at tokens) _ (operand, rest) e in
        let parts = some_pair_parts (Column a.0.0) operand a.0.1 rest a.2 in
        let name = name_found tokens a.0.0 a.0.1 a.1 in
        (Word a.0.0 ∷ [], name.0 ∙ ap (λ (ts : List Token). Word a.0.0 ∷ ts) parts.1, subst (IsOperand (Word a.0.0 ∷ [])) parts.0 (IsOperand.column a.0.0 name.1))

operand_again : (front : List Token) (operand : Operand) (rest : List Token) → IsOperand front operand → operand_at (front ++ rest) ≡ Some (operand, rest)
unfolding operand_at
operand_again front operand rest (IsOperand.known tokens l is) = rw (literal_read.again tokens l rest is tt) refl
operand_again front operand rest (IsOperand.column name free) = rw (name_is_no_literal name rest free, name_again name rest free) refl

-- ---- what is asked of one column

-- what stands behind a column's name, as a part of a unit
abbrev BehindName : (List Token → Test → Type 0) → List ℕ → List Token → Test → List Token → Type 0
BehindName Is name tokens t rest = (front : List Token) × (tokens ≡ front ++ rest) × IsUnitOver Is (Word name ∷ front) t

comparison_found : (Is : List Token → Test → Type 0) (name : List ℕ) (tokens : List Token) (t : Test) (rest : List Token) → IsFree name → comparison_at name tokens ≡ Some (t, rest) → BehindName Is name tokens t rest
unfolding comparison_at
comparison_found Is name tokens t rest free e =
    let a = bind_some (op_at tokens) _ (t, rest) e in
    let b = bind_some (operand_at a.0.1) _ (t, rest) a.2 in
    let parts = some_pair_parts (Compare name a.0.0 b.0.0) t b.0.1 rest b.2 in
    let op = op_found tokens a.0.0 a.0.1 a.1 in
    let operand = operand_found a.0.1 b.0.0 b.0.1 b.1 in (
      Sign op.0 ∷ operand.0,
      op.1 ∙ ap (λ (ts : List Token). Sign op.0 ∷ ts) (operand.1 ∙ ap (λ (ts : List Token). operand.0 ++ ts) parts.1),
      subst (IsUnitOver Is (Word name ∷ Sign op.0 ∷ operand.0)) parts.0 (IsUnitOver.compares name op.0 a.0.0 operand.0 b.0.0 free op.2 operand.2),
    )

-- NULL, with the test that it makes
null_found : (name : List ℕ) (negated : Bool) (tokens : List Token) (t : Test) (rest : List Token) → null_behind name negated tokens ≡ Some (t, rest) → (tokens ≡ Word (codes "null") ∷ rest) × (IsNull name negated ≡ t)
null_found name negated tokens t rest e =
    let a = bind_some (after_word (codes "null") tokens) _ (t, rest) e in
    let parts = some_pair_parts (IsNull name negated) t a.0 rest a.2 in
    (word_found (codes "null") tokens a.0 a.1 ∙ ap (λ (ts : List Token). Word (codes "null") ∷ ts) parts.1, parts.0)

null_test_found : (Is : List Token → Test → Type 0) (name : List ℕ) (tokens : List Token) (t : Test) (rest : List Token) → IsFree name → null_test_at name tokens ≡ Some (t, rest)
    → (front : List Token) × (tokens ≡ front ++ rest) × IsUnitOver Is (Word name ∷ Word (codes "is") ∷ front) t
unfolding null_test_at
null_test_found Is name tokens t rest free e = go (after_word (codes "not") tokens) refl e
  where
    go : (o : Option (List Token)) → after_word (codes "not") tokens ≡ o → behind_or o (null_behind name true) (null_behind name false tokens) ≡ Some (t, rest)
        → (front : List Token) × (tokens ≡ front ++ rest) × IsUnitOver Is (Word name ∷ Word (codes "is") ∷ front) t
    go None at e =
        let found = null_found name false tokens t rest e in
        (Word (codes "null") ∷ [], found.0, subst (IsUnitOver Is (Word name ∷ Word (codes "is") ∷ Word (codes "null") ∷ [])) found.1 (IsUnitOver.is_null name free))
    go (Some behind) at e =
        let found = null_found name true behind t rest e in (
          Word (codes "not") ∷ Word (codes "null") ∷ [],
          word_found (codes "not") tokens behind at ∙ ap (λ (ts : List Token). Word (codes "not") ∷ ts) found.0,
          subst (IsUnitOver Is (Word name ∷ Word (codes "is") ∷ Word (codes "not") ∷ Word (codes "null") ∷ [])) found.1 (IsUnitOver.is_not_null name free),
        )

column_test_found : (Is : List Token → Test → Type 0) (tokens : List Token) (t : Test) (rest : List Token) → column_test_at tokens ≡ Some (t, rest) → (front : List Token) × (tokens ≡ front ++ rest) × IsUnitOver Is front t
unfolding column_test_at
column_test_found Is tokens t rest e =
    let a = bind_some (name_at tokens) _ (t, rest) e in
    let name = name_found tokens a.0.0 a.0.1 a.1 in
    let behind = go a.0.0 a.0.1 name.1 (after_word (codes "is") a.0.1) refl a.2 in
    (Word a.0.0 ∷ behind.0, name.0 ∙ ap (λ (ts : List Token). Word a.0.0 ∷ ts) behind.1, behind.2)
  where
    go : (name : List ℕ) (ts : List Token) → IsFree name → (o : Option (List Token)) → after_word (codes "is") ts ≡ o → behind_or o (null_test_at name) (comparison_at name ts) ≡ Some (t, rest) → BehindName Is name ts t rest
    go name ts free None at e = comparison_found Is name ts t rest free e
    go name ts free (Some behind) at e =
        let found = null_test_found Is name behind t rest free e in
        (Word (codes "is") ∷ found.0, word_found (codes "is") ts behind at ∙ ap (λ (ts : List Token). Word (codes "is") ∷ ts) found.1, found.2)

-- a symbol is no word
no_word : (word : List ℕ) (symbol : Symbol) (rest : List Token) → after_word word (Sign symbol ∷ rest) ≡ None
unfolding after_word
no_word word symbol rest = refl

comparison_again : (name : List ℕ) (symbol : Symbol) (op : Op) (tokens : List Token) (operand : Operand) (rest : List Token) → IsFree name → op_of symbol ≡ Some op → IsOperand tokens operand
    → column_test_at (Word name ∷ Sign symbol ∷ tokens ++ rest) ≡ Some (Compare name op operand, rest)
unfolding column_test_at comparison_at
comparison_again name symbol op tokens operand rest free compares is =
    rw (name_again name (Sign symbol ∷ tokens ++ rest) free, no_word (codes "is") symbol (tokens ++ rest), op_again symbol op (tokens ++ rest) compares, operand_again tokens operand rest is) refl

null_is_not_not : (rest : List Token) → after_word (codes "not") (Word (codes "null") ∷ rest) ≡ None
unfolding after_word
null_is_not_not rest = refl

null_again : (name : List ℕ) (rest : List Token) → IsFree name → column_test_at (Word name ∷ Word (codes "is") ∷ Word (codes "null") ∷ rest) ≡ Some (IsNull name false, rest)
unfolding column_test_at null_test_at
null_again name rest free =
    rw (name_again name (Word (codes "is") ∷ Word (codes "null") ∷ rest) free, word_again (codes "is") (Word (codes "null") ∷ rest), null_is_not_not rest, word_again (codes "null") rest) refl

not_null_again : (name : List ℕ) (rest : List Token) → IsFree name → column_test_at (Word name ∷ Word (codes "is") ∷ Word (codes "not") ∷ Word (codes "null") ∷ rest) ≡ Some (IsNull name true, rest)
unfolding column_test_at null_test_at
not_null_again name rest free =
    rw (name_again name (Word (codes "is") ∷ Word (codes "not") ∷ Word (codes "null") ∷ rest) free, word_again (codes "is") (Word (codes "not") ∷ Word (codes "null") ∷ rest), word_again (codes "not") (Word (codes "null") ∷ rest), word_again (codes "null") rest)
    refl

-- ---- conditions over units

or_is_not_and : (behind : List Token) → after_word (codes "and") (Word (codes "or") ∷ behind) ≡ None
unfolding after_word
or_is_not_and behind = refl

-- a unit may be followed by anything
abbrev pub Always : List Token → Type 0
Always rest = Unit {0}

-- a condition reads as such, where neither AND nor OR follows
cond_read : (unit : List Token → Found Test) (Is : List Token → Test → Type 0) → ReadsUpTo Always unit Is
    → ReadsUpTo (λ rest. (Always rest × (after_word (word_of And) rest ≡ None)) × (after_word (word_of Or) rest ≡ None)) (joined_at Or (member_at Or unit)) (IsCondOf Is)
cond_read unit Is reads = joined_read Or (joined_at And unit) (IsJoined And Is) (joined_read And unit Is reads (λ behind. tt)) (λ behind. (tt, or_is_not_and behind))

-- ---- units: found

negation_found : (unit : List Token → Found Test) (Is : List Token → Test → Type 0) → ReadsUpTo Always unit Is → (tokens : List Token) (t : Test) (rest : List Token) → negation_at unit tokens ≡ Some (t, rest)
    → (front : List Token) × (tokens ≡ front ++ rest) × IsUnitOver Is (Word (codes "not") ∷ front) t
negation_found unit Is reads tokens t rest e =
    let a = bind_some (unit tokens) _ (t, rest) e in
    let parts = some_pair_parts (Not a.0.0) t a.0.1 rest a.2 in
    let inner = reads.found tokens a.0.0 a.0.1 a.1 in (
      inner.0,
      inner.1 ∙ ap (λ (ts : List Token). inner.0 ++ ts) parts.1,
      subst (IsUnitOver Is (Word (codes "not") ∷ inner.0)) parts.0 (IsUnitOver.denies inner.0 a.0.0 inner.2),
    )

inside_found : (unit : List Token → Found Test) (Is : List Token → Test → Type 0) → ReadsUpTo Always unit Is → (tokens : List Token) (t : Test) (rest : List Token) → inside_at unit tokens ≡ Some (t, rest)
    → (front : List Token) × (tokens ≡ front ++ rest) × IsUnitOver Is (Sign LeftParen ∷ front) t
inside_found unit Is reads tokens t rest e =
    let a = bind_some (joined_at Or (member_at Or unit) tokens) _ (t, rest) e in
    let b = bind_some (after_symbol RightParen a.0.1) _ (t, rest) a.2 in
    let parts = some_pair_parts a.0.0 t b.0 rest b.2 in
    let inner = (cond_read unit Is reads).found tokens a.0.0 a.0.1 a.1 in
    let close : a.0.1 ≡ Sign RightParen ∷ rest = symbol_found RightParen a.0.1 b.0 b.1 ∙ ap (λ (ts : List Token). Sign RightParen ∷ ts) parts.1 in (
      inner.0 ++ Sign RightParen ∷ [],
      inner.1 ∙ ap (λ (ts : List Token). inner.0 ++ ts) close ∙ sym (append_assoc inner.0 (Sign RightParen ∷ []) rest),
      IsUnitOver.encloses inner.0 t (subst (IsCondOf Is inner.0) parts.0 inner.2),
    )

unit_found : (unit : List Token → Found Test) (Is : List Token → Test → Type 0) → ReadsUpTo Always unit Is → (tokens : List Token) (t : Test) (rest : List Token) → unit_over unit tokens ≡ Some (t, rest)
    → (front : List Token) × (tokens ≡ front ++ rest) × IsUnitOver Is front t
unit_found unit Is reads tokens t rest e = go (after_word (codes "not") tokens) (after_symbol LeftParen tokens) refl refl e
  where
    go : (o p : Option (List Token)) → after_word (codes "not") tokens ≡ o → after_symbol LeftParen tokens ≡ p → behind_or o (negation_at unit) (behind_or p (inside_at unit) (column_test_at tokens)) ≡ Some (t, rest) → (front : List Token) × (tokens ≡ front ++ rest) × IsUnitOver Is front t
    go (Some behind) p at opened e =
        let found = negation_found unit Is reads behind t rest e in
        (Word (codes "not") ∷ found.0, word_found (codes "not") tokens behind at ∙ ap (λ (ts : List Token). Word (codes "not") ∷ ts) found.1, found.2)
    go None (Some inside) at opened e =
        let found = inside_found unit Is reads inside t rest e in
        (Sign LeftParen ∷ found.0, symbol_found LeftParen tokens inside opened ∙ ap (λ (ts : List Token). Sign LeftParen ∷ ts) found.1, found.2)
    go None None at opened e = column_test_found Is tokens t rest e

-- ---- units: again

no_symbol : (symbol : Symbol) (word : List ℕ) (rest : List Token) → after_symbol symbol (Word word ∷ rest) ≡ None
unfolding after_symbol
no_symbol symbol word rest = refl

-- a unit that begins with a name asks of that column
names_a_column : (unit : List Token → Found Test) (name : List ℕ) (rest : List Token) → IsFree name → unit_over unit (Word name ∷ rest) ≡ column_test_at (Word name ∷ rest)
names_a_column unit name rest free = rw (name_is_other (codes "not") name rest not_is_reserved free, no_symbol LeftParen name rest) refl

unit_again : (unit : List Token → Found Test) (Is : List Token → Test → Type 0) → ReadsUpTo Always unit Is → (front : List Token) (t : Test) (rest : List Token) → IsUnitOver Is front t → unit_over unit (front ++ rest) ≡ Some (t, rest)
unit_again unit Is reads front t rest (IsUnitOver.compares name symbol op tokens operand free compares is) =
    names_a_column unit name (Sign symbol ∷ tokens ++ rest) free ∙ comparison_again name symbol op tokens operand rest free compares is
unit_again unit Is reads front t rest (IsUnitOver.is_null name free) =
    names_a_column unit name (Word (codes "is") ∷ Word (codes "null") ∷ rest) free ∙ null_again name rest free
unit_again unit Is reads front t rest (IsUnitOver.is_not_null name free) =
    names_a_column unit name (Word (codes "is") ∷ Word (codes "not") ∷ Word (codes "null") ∷ rest) free ∙ not_null_again name rest free
unit_again unit Is reads front t rest (IsUnitOver.denies tokens u is) =
    rw (word_again (codes "not") (tokens ++ rest), reads.again tokens u rest tt is) refl
unit_again unit Is reads front t rest (IsUnitOver.encloses tokens u is) =
    let whole : (Sign LeftParen ∷ tokens ++ Sign RightParen ∷ []) ++ rest ≡ Sign LeftParen ∷ tokens ++ Sign RightParen ∷ rest = ap (λ (ts : List Token). Sign LeftParen ∷ ts) (append_assoc tokens (Sign RightParen ∷ []) rest) in
    let ends : (Always (Sign RightParen ∷ rest) × (after_word (word_of And) (Sign RightParen ∷ rest) ≡ None)) × (after_word (word_of Or) (Sign RightParen ∷ rest) ≡ None) = ((tt, no_word (word_of And) RightParen rest), no_word (word_of Or) RightParen rest) in
    ap (unit_over unit) whole
    ∙ rw (no_word (codes "not") LeftParen (tokens ++ Sign RightParen ∷ rest), symbol_again LeftParen (tokens ++ Sign RightParen ∷ rest), (cond_read unit Is reads).again tokens u (Sign RightParen ∷ rest) ends is, symbol_again RightParen rest) refl

unit_read : (levels : ℕ) → ReadsUpTo Always (unit_at levels) (IsUnit levels)
unfolding unit_at IsUnit
unit_read zero = record { found = λ tokens t rest e. absurd cc; again = λ front t rest ends is. absurd is }
unit_read (suc levels) = record { found = unit_found (unit_at levels) (IsUnit levels) (unit_read levels); again = λ front t rest ends is. unit_again (unit_at levels) (IsUnit levels) (unit_read levels) front t rest is }

pub conditions_read : ReadsConditions
unfolding condition_at IsCondition
conditions_read = record {
  found = (cond_read (unit_at 65) (IsUnit 65) (unit_read 65)).found;
  again = λ front t rest ends is. (cond_read (unit_at 65) (IsUnit 65) (unit_read 65)).again front t rest ((tt, ends.0), ends.1) is;
}
