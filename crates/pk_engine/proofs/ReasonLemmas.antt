-- What IMPLIES and COVER tell is true of all tables.
use Rattle.std.proofs.Common.{◌≡◌, ℕ, ◌<◌, ◌^◌, Bool, true, false, Option, Some, None, length, refl, sym, subst, ◌∙◌}
use Rattle.std.proofs.lemmas.List.{length-map}
use Rattle.pk_values.specs.declared.key.KeyDecl.{KeyDecl}
use Rattle.pk_syntax.specs.declared.declaration.ColumnDecl.{ColumnDecl}
use Rattle.pk_syntax.specs.declared.declaration.KeyText.{KeyText}
use Rattle.pk_syntax.specs.Declarations.{has_name}
use Rattle.pk_schema.specs.Laws.{SetsAreInside}
use Rattle.pk_schema.specs.Shapes.{Shape, key_of}
use Rattle.pk_rule.specs.Laws.{TheRuleIsTheTruth, TwoRowsRefute, ShapesArePlain}
use Rattle.pk_rule.specs.Plain.{Plain, IsPlain, plain_of}
use Rattle.pk_rule.specs.Rule.{is_implied}
use Rattle.pk_rule.specs.Tables.{Implied}
use Rattle.pk_rule.specs.TwoRows.{low_row, high_row}
use Rattle.pk_imply.specs.Cover.{cover_of}
use Rattle.pk_imply.specs.Deriving.{implying_place, rules_of, IsTrueOfTables}
use Rattle.pk_imply.specs.Laws.{PlacesAreTrueOfTables, RulesLeadToTheKey, TheCoverIsComputed}
use Rattle.pk_engine.specs.State.{State}
use Rattle.pk_engine.specs.Refusing.{decided, about}
use Rattle.pk_engine.specs.Reasoning.{implies_refusals, implied_or, implied_told, cover_told}
use Rattle.pk_engine.specs.Answer.{answer}
use Rattle.pk_engine.specs.ReasonLaws.{TellsTheTruth, ImpliesTellsTheTruth, CoverIsTold}
use Rattle.pk_engine.proofs.AnswerLemmas.{decided_done}
use Rattle.pk_engine.proofs.JudgeLemmas.{about_is}
use Rattle.pk_engine.proofs.KeptLemmas.{found_valid}

-- the key over named columns is one over the columns of the schema
named_inside : SetsAreInside → (s : Shape) (k : KeyText) → (key_of s.columns k).columns < 2 ^ length (plain_of s).kinds
named_inside inside s k =
    subst (λ (n : ℕ). (key_of s.columns k).columns < 2 ^ n) (sym (length-map s.columns (λ (c : ColumnDecl). c.kind))) (inside (λ (c : ColumnDecl). has_name k.columns c.name) s.columns)

-- a key that fails in some table isn't implied by the rule
unless_implied : TheRuleIsTheTruth → (s : Plain) (k : KeyDecl) → IsPlain s → k.columns < 2 ^ length s.kinds → ¬ Implied s k → is_implied s k ≡ false
unless_implied rule s k plain inside fails = go (is_implied s k) refl
  where
    go : (b : Bool) → is_implied s k ≡ b → b ≡ false
    go true is = absurd (fails ((rule s k plain inside).1 is))
    go false is = refl

-- the reply is true whatever the place is
truth_at : TheRuleIsTheTruth → TwoRowsRefute → RulesLeadToTheKey → (st : State) (s : Plain) (k : KeyDecl) (o : Option ℕ) → IsPlain s → k.columns < 2 ^ length s.kinds
    → implying_place s k ≡ o → IsTrueOfTables s k o → TellsTheTruth st s k (record { reply = implied_or s k o; next = st })
truth_at rule refute lead st s k (Some place) plain inside is of = record {
  implied = λ holds. (place, rules_of s k, refl, of.1, lead s k place plain inside is);
  refuted = λ fails. absurd (fails of.0);
}
truth_at rule refute lead st s k None plain inside is of = record {
  implied = λ holds. absurd (of holds);
  refuted = λ fails. (low_row s k, high_row s k, refl, refute s k plain inside (unless_implied rule s k plain inside fails));
}

pub implies_is_true : TheRuleIsTheTruth → TwoRowsRefute → ShapesArePlain → SetsAreInside → PlacesAreTrueOfTables → RulesLeadToTheKey → ImpliesTellsTheTruth
unfolding answer
implies_is_true rule refute are_plain are_inside of lead st name t k valid found free =
    let s = plain_of t.shape in
    let asked = key_of t.shape.columns k in
    let plain = are_plain t.shape (found_valid st name t valid found).shape in
    let inside = named_inside are_inside t.shape k in
    let done : about st name (λ u. decided st (implies_refusals u k) (implied_told st u k)) ≡ implied_told st t k =
    about_is st name (λ u. decided st (implies_refusals u k) (implied_told st u k)) t found ∙ decided_done st (implies_refusals t k) (implied_told st t k) free in
    subst (TellsTheTruth st s asked) (sym done) (truth_at rule refute lead st s asked (implying_place s asked) plain inside refl (of s asked plain inside))

pub cover_is_told : ShapesArePlain → TheCoverIsComputed → CoverIsTold
unfolding answer
cover_is_told are_plain computed st name t valid found =
    (cover_of (plain_of t.shape), about_is st name (λ u. cover_told st u) t found, computed (plain_of t.shape) (are_plain t.shape (found_valid st name t valid found).shape))
