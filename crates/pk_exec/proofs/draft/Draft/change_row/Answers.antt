use Rattle.std.proofs.Common.{sym, ◌∙◌}
use Rattle.pk_exec.proofs.DraftLemmas.{adds_gone, adds_left}
use Rattle.pk_exec.proofs.draft.Draft.change_row.Goals as goal

pub returns-in_default : goal.returns-in_default
returns-in_default c = adds_gone c.args.change.now c.args.base c.args.self.now c.leave.new.self c.leave.result c.in_default.is c.leave.ensures

pub returns-in-Left : goal.returns-in-Left
returns-in-Left c =
    adds_left c.args.change.now c.args.base c.args.self.now c.leave-in-Left.new.self c.leave-in-Left.result c.in-Some.row c.in-Left.row c.in-Some.is (sym c.in-Left.is ∙ c.in_ok-row.ensures) c.leave-in-Left.ensures
