use Rattle.std.proofs.Common.{◌<◌, ◌∙◌, length, ap, arith}
use Rattle.gr_tree.specs.declared.link.Place.{Place}
use Rattle.gr_topo.specs.Topology.{TopologyView, up_at, depth_at}
use Rattle.gr_topo.proofs.Rows.{row_fits, place_is}
use Rattle.gr_topo.proofs.topology.Topology.place.Goals as goal

pub index-requires-2 : goal.index-requires-2
index-requires-2 c =
    let t = c.self.inside.parts in
    let host_in : c.args.p < length t.hosts.items = omega (arith, c.requires.publisher, ap (λ (v : TopologyView). length v.publishers) c.self.view_is, c.self.invariant.0.sound.hosts) in
    let broker_in : c.args.b < length t.brokers.items = omega (arith, c.requires.broker, ap (λ (v : TopologyView). length v.brokers) c.self.view_is) in
    row_fits (length t.brokers.items) t.links.items c.self.inside.rows.items t.hosts.items c.args.p c.args.b c.index.result.now c.self.invariant.1 host_in c.index.ensures broker_in

pub returns-clause-up : goal.returns-clause-up
returns-clause-up c =
    let t = c.self.inside.parts in
    let host_in : c.args.p < length t.hosts.items = omega (arith, c.requires.publisher, ap (λ (v : TopologyView). length v.publishers) c.self.view_is, c.self.invariant.0.sound.hosts) in
    let broker_in : c.args.b < length t.brokers.items = omega (arith, c.requires.broker, ap (λ (v : TopologyView). length v.brokers) c.self.view_is) in
    ap (λ (x : Place). x.up) (place_is (length t.brokers.items) t.links.items c.self.inside.rows.items t.hosts.items c.args.p c.args.b c.index.result.now c.index-2.result.now c.self.invariant.1 host_in c.index.ensures broker_in c.index-2.ensures)
    ∙ ap (λ (v : TopologyView). up_at v c.args.p c.args.b) c.self.view_is

pub returns-clause-depth : goal.returns-clause-depth
returns-clause-depth c =
    let t = c.self.inside.parts in
    let host_in : c.args.p < length t.hosts.items = omega (arith, c.requires.publisher, ap (λ (v : TopologyView). length v.publishers) c.self.view_is, c.self.invariant.0.sound.hosts) in
    let broker_in : c.args.b < length t.brokers.items = omega (arith, c.requires.broker, ap (λ (v : TopologyView). length v.brokers) c.self.view_is) in
    ap (λ (x : Place). x.depth) (place_is (length t.brokers.items) t.links.items c.self.inside.rows.items t.hosts.items c.args.p c.args.b c.index.result.now c.index-2.result.now c.self.invariant.1 host_in c.index.ensures broker_in c.index-2.ensures)
    ∙ ap (λ (v : TopologyView). depth_at v c.args.p c.args.b) c.self.view_is
