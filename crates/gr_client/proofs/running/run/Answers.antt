use Rattle.std.proofs.Common.{◌≤◌, length, ap, ◌∙◌, arith}
use Rattle.std.proofs.lemmas.Result.{err_from_is_err_and}
use Rattle.gr_sched.specs.declared.step.TheConstants.{MAX_STEPS}
use Rattle.gr_client.specs.Client.{ClientView, client_begun}
use Rattle.gr_client.specs.Run.{events_of}
use Rattle.gr_client.proofs.WholeRun.{few_read, ran_none}
use Rattle.gr_client.proofs.running.run.Goals as goal

pub returns-in_err-events-clause-ran : goal.returns-in_err-events-clause-ran
returns-in_err-events-clause-ran g c =
    let fault = err_from_is_err_and c.from_residual.result c.from_residual.ensures.1 in
    rw (fault.1, fault.2) (ran_none c.args.topo.now c.args.p g.P.Post.tells c.args.steps.now c.args.turns (g.K.Sink.taken c.args.sink.now) (g.P.Post.journal c.args.post.now))

pub new-client-requires : goal.new-client-requires
new-client-requires g c =
    let few : length c.in_ok-events.events ≤ MAX_STEPS = few_read c.args.p MAX_STEPS c.args.steps.now c.as_slice.result.now c.in_ok-events.events c.as_slice.ensures c.in_ok-events.ensures c.requires.few in
    omega (arith, few)

pub run_client-requires-clause-node : goal.run_client-requires-clause-node
run_client-requires-clause-node g c = omega (arith, c.requires.publisher, c.publishers.ensures.topology.sound.limits.publishers)

pub run_client-requires-clause-own : goal.run_client-requires-clause-own
run_client-requires-clause-own g c = ap (λ (x : ClientView). x.publisher) c.new-client.ensures

pub returns-clause-ran : goal.returns-clause-ran
returns-clause-ran g c =
    c.run_client.ensures.ran c.args.steps.now (c.new-client.ensures ∙ ap (client_begun c.args.p) (c.in_ok-events.ensures ∙ ap (events_of c.args.p) c.as_slice.ensures))
