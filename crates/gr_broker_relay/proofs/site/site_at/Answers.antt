use Rattle.std.proofs.Common.{◌<◌, length, sym, subst}
use Rattle.gr_broker_relay.proofs.Seats.{positions_many, position_branch, position_edges}
use Rattle.gr_broker_relay.proofs.site.site_at.Goals as goal

pub bounds-seat-publisher : goal.bounds-seat-publisher
bounds-seat-publisher c =
    subst (λ n. c.args.publisher < n) (sym (positions_many c.args.seat.now.topo.now c.args.seat.now.number (length c.args.seat.now.topo.now.publishers) c.args.seat.now.edges.now c.args.seat.now.positions.now c.requires.seat.branches))
    c.requires.publisher

pub returns-clause-site : goal.returns-clause-site
returns-clause-site c = record {
  broker = c.requires.seat.number;
  publisher = c.requires.publisher;
  here = c.requires.seat.here;
  branch = position_branch c.args.seat.now.topo.now c.args.seat.now.number (length c.args.seat.now.topo.now.publishers) c.args.publisher c.args.seat.now.edges.now c.args.seat.now.positions.now _ c.requires.seat.branches c.requires.publisher;
  edges = position_edges c.args.publisher c.args.seat.now.edges.now c.args.seat.now.positions.now _ c.requires.seat.edges (subst (λ n. c.args.publisher < n) (sym (positions_many c.args.seat.now.topo.now c.args.seat.now.number (length c.args.seat.now.topo.now.publishers) c.args.seat.now.edges.now c.args.seat.now.positions.now c.requires.seat.branches)) c.requires.publisher);
}
