use Rattle.std.proofs.Common.{refl}
use Rattle.pk_world.specs.Station.{Reads}
use Rattle.pk_gate.proofs.Chains.{create_leaves, create_durable, create_stands}
use Rattle.pk_gate.proofs.log.Log.create.Goals as goal

pub returns-clause-stands : goal.returns-clause-stands
returns-clause-stands g c =
    let s = c.sync.ensures in
    let synced : Reads g.W.Station c.args.station.now c.sync.new.self = record {
      uses = record { tells = s.tells; honest = s.honest; time = s.time; told = s.told; disk = s.count; sink = s.sink };
      content = s.content;
      leaves = s.during;
    } in
    create_stands g.W.Station c.args.station.now c.sync.new.self c.write_through.new.station _ synced c.write_through.ensures.uses c.requires c.in_ok-write_through.ensures.written refl c.new.ensures.items

pub returns-clause-durable : goal.returns-clause-durable
returns-clause-durable g c =
    let s = c.sync.ensures in
    let synced : Reads g.W.Station c.args.station.now c.sync.new.self = record {
      uses = record { tells = s.tells; honest = s.honest; time = s.time; told = s.told; disk = s.count; sink = s.sink };
      content = s.content;
      leaves = s.during;
    } in
    create_durable g.W.Station c.args.station.now c.sync.new.self c.write_through.new.station 9 (g.met.W.Station.counts_now c.write_through.new.station) synced c.write_through.ensures.uses
    c.write_through.ensures.any_moment c.in_ok-sync.ensures.durable

pub returns-in_err-write_through-clause-any_moment : goal.returns-in_err-write_through-clause-any_moment
returns-in_err-write_through-clause-any_moment g c =
    let s = c.sync.ensures in
    let synced : Reads g.W.Station c.args.station.now c.sync.new.self = record {
      uses = record { tells = s.tells; honest = s.honest; time = s.time; told = s.told; disk = s.count; sink = s.sink };
      content = s.content;
      leaves = s.during;
    } in
    create_leaves g.W.Station c.args.station.now c.sync.new.self c.write_through.new.station 9 (g.met.W.Station.counts_now c.sync.new.self) synced c.write_through.ensures.uses c.write_through.ensures.any_moment

pub returns-clause-any_moment : goal.returns-clause-any_moment
returns-clause-any_moment g c =
    let s = c.sync.ensures in
    let synced : Reads g.W.Station c.args.station.now c.sync.new.self = record {
      uses = record { tells = s.tells; honest = s.honest; time = s.time; told = s.told; disk = s.count; sink = s.sink };
      content = s.content;
      leaves = s.during;
    } in
    create_leaves g.W.Station c.args.station.now c.sync.new.self c.write_through.new.station 9 (g.met.W.Station.counts_now c.sync.new.self) synced c.write_through.ensures.uses c.write_through.ensures.any_moment
