use Rattle.std.proofs.Common.{◌<◌, length, get_or, sym, subst}
use Rattle.gr_topo.specs.Topology.{children_of}
use Rattle.gr_model.specs.NetOf.{net_of}
use Rattle.gr_broker_relay.proofs.Sent.{sends_both}
use Rattle.gr_broker_relay.proofs.Sited.{children_many, child_number}
use Rattle.gr_broker_relay.proofs.answering.send_answers.Goals as goal

pub returns : goal.returns
returns c =
    let s = c.args.site.now in
    let lt : c.args.i < length s.position.now.children.items = subst (λ n. c.args.i < n) (sym (children_many s.topo.now s.broker s.publisher s.edges.now s.position.now c.requires.site.branch)) c.requires.child in
    sends_both c.send_up.result c.args.held.now.joins (net_of s.topo.now) s.publisher s.broker c.index.result.now.number (get_or (children_of s.topo.now s.publisher s.broker) c.args.i 0) c.args.reply c.in_ok-copy.field-0 c.args.asked.now c.args.into.now c.send_down.new.into c.send_up.new.into
    (child_number s.topo.now s.broker s.publisher c.args.i s.edges.now s.position.now c.index.result.now c.requires.site.branch lt c.index.ensures)
    c.in_ok-copy.ensures c.in_ok-send_down.ensures c.send_up.ensures
