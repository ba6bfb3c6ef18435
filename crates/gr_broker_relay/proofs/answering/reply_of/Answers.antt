use Rattle.std.proofs.Common.{◌≡◌, ℕ, get_or}
use Rattle.std.proofs.lemmas.Result.{IfOk-weaker}
use Rattle.gr_tick.specs.Stored.{RunsGive}
use Rattle.gr_know.specs.declared.values.K.TheVariants.{Q}
use Rattle.gr_know.specs.Values.{Known, known_at}
use Rattle.gr_edge.specs.Pass as edge
use Rattle.gr_topo.specs.Topology.{TopologyView, children_of}
use Rattle.gr_broker_relay.specs.Answers.{reply_to}
use Rattle.gr_broker_relay.specs.Branch.{wantings_below}
use Rattle.gr_broker_relay.specs.Held.{held_view, shown_net}
use Rattle.gr_broker_relay.proofs.Answered.{reply_is, passed_by}
use Rattle.gr_curio.specs.Wants.{runs_of, wants_of}
use Rattle.gr_broker_relay.proofs.answering.reply_of.Goals as goal

pub returns : goal.returns
returns c =
    let t : TopologyView = c.args.site.now.topo.now in
    let p : ℕ = c.args.site.now.publisher in
    let child : ℕ = get_or (children_of t p c.args.site.now.broker) c.args.i 0 in
    let said : Known = c.in_ok-said.said in
    IfOk-weaker c.pass.result (λ passed. RunsGive Q passed (λ u. edge.pass c.edge_to.result.now c.args.held.now.joins u (known_at said u))) (λ reply. reply ≡ reply_to (shown_net t c.args.held.now) p c.args.site.now.broker c.args.i c.args.piece.now (held_view c.args.held.now))
    (λ passed g. reply_is t (held_view c.args.held.now) p child c.args.held.now.know.runs said passed (wants_of (runs_of c.args.held.now.wants) c.args.i) c.args.piece.now c.len.ensures.canonical c.len-2.ensures.canonical c.len-3.ensures.canonical c.in_ok-said.ensures
    (passed_by said passed _ (wantings_below t p child) c.args.held.now.joins c.edge_to.ensures g)) c.pass.ensures
