use Rattle.std.proofs.Common.{◌≡◌, map, drop}
use Rattle.pk_txn.specs.Contents.{changed_by_all}
use Rattle.pk_txn.proofs.book.note_in.Given as goal

-- what the images that are left make of it is what all make of the whole
abbrev pub invariant-loop-image : goal.invariant-loop-image
invariant-loop-image l =
    map (changed_by_all l.commit (drop l.image-index l.before)) l.opened ≡ map (changed_by_all l.commit l.before) l.fn.opened
