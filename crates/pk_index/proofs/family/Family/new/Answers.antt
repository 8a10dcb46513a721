use Rattle.pk_index.specs.declared.family.Family.{Family}
use Rattle.pk_index.proofs.FamilyLemmas.{nothing}
use Rattle.pk_index.proofs.family.Family.new.Goals as goal

pub returns : goal.returns
returns c =
    let family : Family = record { two = c.new.result; three = c.new-2.result; six = c.new-3.result; long = c.new-4.result } in
    nothing family c.new.ensures c.new-2.ensures c.new-3.ensures c.new-4.ensures
