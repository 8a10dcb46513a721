use Rattle.std.proofs.Common.{List, ℕ, ◌≡◌, None, sym, subst, ap, ◌∙◌}
use Rattle.std.proofs.lemmas.Result.{err_from_is_err_and}
use Rattle.pk_values.specs.declared.key.Sort.TheVariants.{Certain, Possible}
use Rattle.pk_discover.specs.Limits.{beyond, either_beyond, IsTold}
use Rattle.pk_discover.proofs.TransversalLemmas.{told_first, told_second, neither_beyond}
use Rattle.pk_discover.proofs.discovering.keys_of.Goals as goal

pub returns-in_err-meeting_all-clause-cause : goal.returns-in_err-meeting_all-clause-cause
returns-in_err-meeting_all-clause-cause c =
    let sets = c.args.sets.now in
    let e = c.in_err-meeting_all.field-0.0 in
    let told = subst (λ (es : List ℕ). IsTold (beyond Certain es) e) c.as_slice.ensures c.in_err-meeting_all.ensures.cause in
    let p = err_from_is_err_and c.from_residual.result c.from_residual.ensures.1 in
    rw p.1 (subst (IsTold (either_beyond sets.apart sets.not_same)) (sym p.2) (told_first sets.apart sets.not_same e told))

pub returns-in_err-meeting_all-2-clause-cause : goal.returns-in_err-meeting_all-2-clause-cause
returns-in_err-meeting_all-2-clause-cause c =
    let sets = c.args.sets.now in
    let e = c.in_err-meeting_all-2.field-0.0 in
    let none : beyond Certain sets.apart ≡ None = ap (beyond Certain) (sym c.as_slice.ensures) ∙ c.in_ok-meeting_all.ensures.few in
    let told = subst (λ (es : List ℕ). IsTold (beyond Possible es) e) c.as_slice-2.ensures c.in_err-meeting_all-2.ensures.cause in
    let p = err_from_is_err_and c.from_residual-in_err-meeting_all-2.result c.from_residual-in_err-meeting_all-2.ensures.1 in
    rw p.1 (subst (IsTold (either_beyond sets.apart sets.not_same)) (sym p.2) (told_second sets.apart sets.not_same e none told))

pub returns-clause-few : goal.returns-clause-few
returns-clause-few c =
    let sets = c.args.sets.now in
    let none : beyond Certain sets.apart ≡ None = ap (beyond Certain) (sym c.as_slice.ensures) ∙ c.in_ok-meeting_all.ensures.few in
    let few : beyond Possible sets.not_same ≡ None = ap (beyond Possible) (sym c.as_slice-2.ensures) ∙ c.in_ok-meeting_all-2.ensures.few in
    neither_beyond sets.apart sets.not_same none few
