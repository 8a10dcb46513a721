use Rattle.std.proofs.Common.{sym, ◌∙◌, subst, length, Option}
use Rattle.std.specs.Prelude.{IfErr}
use Rattle.std.proofs.lemmas.Bool.{le-ltb}
use Rattle.std.proofs.lemmas.Result.{IfOk-weaker}
use Rattle.pk_values.specs.declared.key.Sort.TheVariants.{Certain, Possible}
use Rattle.pk_discover.specs.declared.disc_err.DiscErr.{DiscErr}
use Rattle.pk_discover.specs.Limits.{IsTold}
use Rattle.pk_discover.proofs.TransversalLemmas.{keys_from, refusal_from, too_many_rows}
use Rattle.pk_discover.proofs.discovering.discover.Goals as goal

pub returns-clause-certain : goal.returns-clause-certain
returns-clause-certain g c =
    IfOk-weaker c.keys_of.result _ _
    (λ keys is.
    is
    ∙ keys_from c.minimal_keys_are_transversals.ensures Certain c.args.columns c.known_set-all.result c.args.rows.now c.in_ok-sets.sets.apart c.known_set-all.ensures.same
    c.known_set-all.ensures.set c.in_ok-sets.ensures.apart)
    c.keys_of.ensures.certain

pub returns-clause-possible : goal.returns-clause-possible
returns-clause-possible g c =
    IfOk-weaker c.keys_of.result _ _
    (λ keys is.
    is
    ∙ keys_from c.minimal_keys_are_transversals.ensures Possible c.args.columns c.known_set-all.result c.args.rows.now c.in_ok-sets.sets.not_same c.known_set-all.ensures.same
    c.known_set-all.ensures.set c.in_ok-sets.ensures.not_same)
    c.keys_of.ensures.possible

pub returns-then-rows-gt-MOST_ROWS-clause-cause : goal.returns-then-rows-gt-MOST_ROWS-clause-cause
returns-then-rows-gt-MOST_ROWS-clause-cause g c = too_many_rows c.args.columns c.args.rows.now c.if-rows-gt-MOST_ROWS.true

pub returns-clause-few : goal.returns-clause-few
returns-clause-few g c =
    let rows = c.args.rows.now in
    let is = refusal_from c.minimal_keys_are_transversals.ensures c.args.columns c.known_set-all.result rows c.in_ok-sets.sets.apart c.in_ok-sets.sets.not_same
    c.known_set-all.ensures.same (le-ltb 8192 (length rows) c.if-rows-gt-MOST_ROWS.false) c.in_ok-sets.ensures.apart c.in_ok-sets.ensures.not_same in
    IfOk-weaker c.keys_of.result _ _ (λ keys none. sym is ∙ none) c.keys_of.ensures.few

pub returns-clause-cause : goal.returns-clause-cause
returns-clause-cause g c =
    let rows = c.args.rows.now in
    let is = refusal_from c.minimal_keys_are_transversals.ensures c.args.columns c.known_set-all.result rows c.in_ok-sets.sets.apart c.in_ok-sets.sets.not_same
    c.known_set-all.ensures.same (le-ltb 8192 (length rows) c.if-rows-gt-MOST_ROWS.false) c.in_ok-sets.ensures.apart c.in_ok-sets.ensures.not_same in
    subst (λ (why : Option DiscErr). IfErr c.keys_of.result (IsTold why)) is c.keys_of.ensures.cause
