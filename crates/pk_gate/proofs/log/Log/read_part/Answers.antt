use Rattle.std.proofs.Common.{◌+◌, ◌≤◌, [], ◌∙◌, length, get_or, arith}
use Rattle.pk_gate.proofs.Lies.{lies, part_lies}
use Rattle.pk_gate.proofs.Chains.{stands_read}
use Rattle.pk_gate.proofs.Looks.{then_reads, len_is}
use Rattle.pk_gate.proofs.log.Log.read_part.Goals as goal

pub returns-clause-stands : goal.returns-clause-stands
returns-clause-stands g c = λ ps stands.
    stands_read g.W.Station c.args.station.now c.look.new.station c.args.self.now ps (g.met.W.Station.counts_now c.look.new.station) c.look.ensures.reads stands

pub look-requires : goal.look-requires
look-requires g c = λ tells.
    let ps = c.requires.stands.0 in
    let st = c.requires.stands.1 in
    let e = c.index-extent.result.now in
    let so = lies (g.W.Station.content c.args.station.now).log ps c.args.self.now.extents.items c.args.k e (st.as_read tells) (st.extents tells) c.requires.below c.index-extent.ensures in
    let len : c.args.at + length c.args.room.now ≤ e.len = len_is c.args.self.now c.args.k e c.requires.below c.index-extent.ensures (c.args.at + length c.args.room.now) c.requires.within in
    omega (arith, so.inside, so.len, len)

pub returns-clause-read : goal.returns-clause-read
returns-clause-read g c = λ ps stands.
    then_reads c.look.result _ _ c.look.ensures.read
    (λ is tells.
    let e = c.index-extent.result.now in
    let so = lies (g.W.Station.content c.args.station.now).log ps c.args.self.now.extents.items c.args.k e (stands.as_read tells) (stands.extents tells) c.requires.below c.index-extent.ensures in
    let len : c.args.at + length c.args.room.now ≤ e.len = len_is c.args.self.now c.args.k e c.requires.below c.index-extent.ensures (c.args.at + length c.args.room.now) c.requires.within in
    is tells ∙ part_lies (g.W.Station.content c.args.station.now).log (get_or ps c.args.k []) e c.args.at (length c.args.room.now) so (omega (arith, so.len, len)))
