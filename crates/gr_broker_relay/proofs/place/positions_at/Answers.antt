use Rattle.std.proofs.Common.{map, ap, ◌∙◌}
use Rattle.gr_broker_relay.specs.Held.{HasEdges, seen_branch}
use Rattle.gr_broker_relay.proofs.Placing.{positions_stay, placed_more, all_push}
use Rattle.gr_broker_relay.proofs.place.positions_at.Goals as goal

pub publishers-preserved : goal.publishers-preserved
publishers-preserved c =
    let now = c.position_at.new.table.edges.items in
    record {
      edges = c.in_ok-position.ensures.edges;
      branches = ap (map (seen_branch now)) c.in_ok-push.ensures.items
          ∙ placed_more c.args.topo.now c.args.b c.publishers.p c.publishers.table.edges.items now c.in_ok-position.ensures.keeps c.publishers.positions.items c.in_ok-position.position c.publishers.invariant.branches c.publishers.invariant.each c.in_ok-position.ensures.branch;
      each = rw c.in_ok-push.ensures.items (all_push (HasEdges now) c.publishers.positions.items c.in_ok-position.position
          (positions_stay c.publishers.table.edges.items now c.in_ok-position.ensures.keeps c.publishers.positions.items c.publishers.invariant.each) c.in_ok-position.ensures.each);
    }
