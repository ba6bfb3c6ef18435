use Rattle.std.proofs.Common.{◌∙◌, arith}
use Rattle.gr_node.proofs.Exchanged.{log_within, log_at_host, states_more, same_state}
use Rattle.gr_node.proofs.beginning.hold_states.Goals.{then-host-b, else-host-b}
use Rattle.gr_node.proofs.beginning.hold_states.Goals as goal

pub publishers-preserved : goal.publishers-preserved
publishers-preserved c =
    let x = c.args.broker.now in
    let p = c.publishers.p in
    record {
      states = states_more x p c.publishers.invariant.states
          (elim c.if-host-b.branch [
            | then-host-b w ↦ λ l e. same_state x p w.log.result.now l w.log.ensures e w.is_broken.ensures.state
            | else-host-b w ↦ λ l e.
                absurd (w.if-host-b.false (c.host.ensures.host ∙ log_at_host c.args.topo.now x c.requires.fits c.args.b p l c.requires.number (omega (arith, c.publishers-test.true, c.publishers-p-end.ensures.count)) e))
          ]);
    }

pub returns : goal.returns
returns c = λ p l e.
    c.publishers.invariant.states p l (omega (arith, log_within c.args.topo.now c.args.broker.now c.requires.fits p l e, c.publishers-test.false, c.publishers-p-end.ensures.count)) e
