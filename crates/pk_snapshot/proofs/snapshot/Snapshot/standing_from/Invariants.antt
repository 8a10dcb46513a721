use Rattle.std.proofs.Common.{◌≡◌, drop}
use Rattle.pk_snapshot.specs.Walks.{is_unchanged, standing_id}
use Rattle.pk_snapshot.proofs.snapshot.Snapshot.standing_from.Given as goal

-- no row so far is where the walk ends
abbrev pub invariant-loop-place : goal.invariant-loop-place
invariant-loop-place l =
    standing_id (is_unchanged l.self.session.now l.self.book.now l.self.table) l.next (drop l.place l.self.rows.now)
    ≡ standing_id (is_unchanged l.self.session.now l.self.book.now l.self.table) l.next (drop l.from l.self.rows.now)
