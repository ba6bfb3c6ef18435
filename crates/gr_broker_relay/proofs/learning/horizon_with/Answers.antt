use Rattle.std.proofs.Common.{sym, ap, ◌∙◌}
use Rattle.gr_model.specs.NetOf.{net_of}
use Rattle.gr_broker_relay.specs.Branch.{Branch}
use Rattle.gr_broker_relay.specs.Held.{held_view}
use Rattle.gr_broker_relay.proofs.Reaching.{reached_stays, reached_moves}
use Rattle.gr_broker_relay.proofs.learning.horizon_with.Goals as goal

pub returns-then-not-site-clause-reached : goal.returns-then-not-site-clause-reached
returns-then-not-site-clause-reached c =
    reached_stays (net_of c.args.site.now.topo.now) c.args.site.now.publisher c.args.site.now.broker c.horizon-horizon.result (held_view c.args.held.now) c.args.piece.now c.horizon-horizon.ensures.horizon
    (sym (ap (λ (x : Branch). x.keeps) c.requires.branch) ∙ c.if-not-site.true)

pub returns-clause-reached : goal.returns-clause-reached
returns-clause-reached c =
    reached_moves (net_of c.args.site.now.topo.now) c.args.site.now.publisher c.args.site.now.broker c.horizon-horizon.result c.horizon_with.result (held_view c.args.held.now) c.args.piece.now c.horizon-horizon.ensures.horizon
    (sym (ap (λ (x : Branch). x.keeps) c.requires.branch) ∙ c.if-not-site.false)
    c.len.ensures.canonical c.len.ensures.in_range c.len-2.ensures.canonical c.len-2.ensures.in_range c.horizon_with.ensures.forward c.horizon_with.ensures.known c.horizon_with.ensures.greatest
