use Rattle.std.proofs.Common.{◌≡◌, ◌∙◌, ◌++◌, List, All, ap, sym, subst}
use Rattle.pk_values.specs.declared.value.Value.{Value}
use Rattle.pk_schema.specs.Admits.{Admits}
use Rattle.pk_exec.specs.Drafts.{changed_added}
use Rattle.pk_exec.proofs.AdmitLemmas.{can_change_all, changed_added_admitted}
use Rattle.pk_exec.proofs.draft.drafted.Goals as goal

pub change_added-requires : goal.change_added-requires
change_added-requires g c =
    let can = c.requires.can in can_change_all can.0 c.args.change.now c.args.added.now can.3 can.4

pub returns-clause-added : goal.returns-clause-added
returns-clause-added g c s admits fits =
    let same : c.change_added.new.self.added.items ≡ changed_added c.args.change.now c.args.added.now =
    c.in_ok-change_added.ensures.1.1 ∙ ap (λ (rows : List (List Value)). rows ++ changed_added c.args.change.now c.args.added.now) c.in_ok-draft.ensures.added in
    subst (All (Admits s)) (sym same) (changed_added_admitted s c.args.change.now c.args.added.now admits fits)
