-- A condition that may be left out reads as what it is, where neither WHERE nor more of a condition follows.
use Rattle.std.proofs.Common.{◌≡◌, List, [], ◌∷◌, ◌++◌, Option, Some, None, refl, ap, subst, ◌∙◌}
use Rattle.std.specs.Prelude.{codes}
use Rattle.std.proofs.lemmas.Option.{some_pair_parts}
use Rattle.pk_lex.specs.declared.token.Token.{Token}
use Rattle.pk_lex.specs.declared.token.Token.TheVariants.{Word}
use Rattle.pk_syntax.specs.declared.condition.Test.{Test}
use Rattle.pk_parse.specs.Tokens.{behind_or, after_word, after_symbol}
use Rattle.pk_parse.specs.Conditions.{condition_at}
use Rattle.pk_parse.specs.ConditionGrammar.{EndsCondition}
use Rattle.pk_parse.specs.Where.{tested_at, where_at, IsWhere}
use Rattle.pk_parse.proofs.Fronts.{bind_some, word_found, word_again}
use Rattle.pk_parse.proofs.CommaLists.{Ends}
use Rattle.pk_parse.proofs.UnitReading.{conditions_read}

pub where_found : (tokens : List Token) (cond : Option Test) (rest : List Token) → where_at tokens ≡ Some (cond, rest) → (front : List Token) × (tokens ≡ front ++ rest) × IsWhere front cond
unfolding where_at
where_found tokens cond rest e = go (after_word (codes "where") tokens) refl e
  where
    go : (o : Option (List Token)) → after_word (codes "where") tokens ≡ o → behind_or o tested_at (Some (None, tokens)) ≡ Some (cond, rest) → (front : List Token) × (tokens ≡ front ++ rest) × IsWhere front cond
    go None at e =
        let none : Option Test = None in
        let parts = some_pair_parts none cond tokens rest e in
        ([], parts.1, subst (IsWhere []) parts.0 IsWhere.all_rows)
    go (Some behind) at e =
        let a = bind_some (condition_at behind) _ (cond, rest) e in
        let parts = some_pair_parts (Some a.0.0) cond a.0.1 rest a.2 in
        let test = conditions_read.found behind a.0.0 a.0.1 a.1 in (
          Word (codes "where") ∷ test.0,
          word_found (codes "where") tokens behind at ∙ ap (λ (ts : List Token). Word (codes "where") ∷ ts) (test.1 ∙ ap (λ (ts : List Token). test.0 ++ ts) parts.1),
          subst (IsWhere (Word (codes "where") ∷ test.0)) parts.0 (IsWhere.tested test.0 a.0.0 test.2),
        )

pub where_again : (front : List Token) (cond : Option Test) (rest : List Token) → after_word (codes "where") rest ≡ None → EndsCondition rest → IsWhere front cond → where_at (front ++ rest) ≡ Some (cond, rest)
unfolding where_at
where_again front cond rest none ends IsWhere.all_rows = rw none refl
where_again front cond rest none ends (IsWhere.tested tokens t is) = rw (word_again (codes "where") (tokens ++ rest), conditions_read.again tokens t rest ends is) refl

-- nothing, and what begins with another word, may follow
pub nothing_ends_where : (after_word (codes "where") [] ≡ None) × EndsCondition []
unfolding after_word
nothing_ends_where = (refl, (refl, refl))

pub order_ends_where : (rest : List Token) → (after_word (codes "where") (Word (codes "order") ∷ rest) ≡ None) × EndsCondition (Word (codes "order") ∷ rest)
unfolding after_word
order_ends_where rest = (refl, (refl, refl))

-- no comma stands before it
pub where_ends : (front : List Token) (cond : Option Test) → IsWhere front cond → Ends front
unfolding after_symbol
where_ends front cond IsWhere.all_rows = refl
where_ends front cond (IsWhere.tested tokens t is) = refl
