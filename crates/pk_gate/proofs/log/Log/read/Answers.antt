use Rattle.std.proofs.Common.{◌≡◌, ◌∙◌, [], length, get_or, arith}
use Rattle.pk_gate.proofs.Looks.{len_payload, read_whole}
use Rattle.pk_gate.proofs.log.Log.read.Goals as goal

pub returns-clause-read : goal.returns-clause-read
returns-clause-read g c = λ ps stands tells.
    let p = get_or ps c.args.k [] in
    let long : c.len-len.result ≡ length p = c.len-len.ensures ∙ len_payload g.W.Station c.args.self.now c.args.station.now ps c.args.k stands tells c.requires.below in
    let room : length c.as_mut_slice.result.now ≡ length p = omega (arith, c.in_ok-resize.ensures.len, long) in
    read_whole c.from_vec.result c.resize.new.self.items c.read_part.new.room p c.resize.new.self.len (length c.as_mut_slice.result.now)
    c.from_vec.ensures (c.in_ok-read_part.ensures.read ps stands tells) room (omega (arith, c.in_ok-resize.ensures.len, long))
