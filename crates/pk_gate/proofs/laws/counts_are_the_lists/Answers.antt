use Rattle.std.proofs.Common.{◌<◌, length, arith}
use Rattle.pk_gate.proofs.Looks.{count_payloads, len_payload}
use Rattle.pk_gate.proofs.laws.counts_are_the_lists.Goals as goal

pub returns : goal.returns
returns g c = record {
  count = λ log station ps st tells. count_payloads g.W.Station log station ps st tells;
  len = λ log station ps k st tells within.
      let below : k < length log.extents.items = omega (arith, count_payloads g.W.Station log station ps st tells, within) in
      len_payload g.W.Station log station ps k st tells below;
}
