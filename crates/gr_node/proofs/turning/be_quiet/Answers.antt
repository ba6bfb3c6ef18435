use Rattle.std.proofs.Common.{length, drop}
use Rattle.std.specs.Prelude.{flat_map}
use Rattle.gr_model.specs.NetOf.{net_of}
use Rattle.gr_model.specs.Arrivals.{requests_of}
use Rattle.gr_node.specs.Plan.{request_calls, wake_calls}
use Rattle.gr_node.proofs.Wending.{turn_not_post}
use Rattle.gr_node.proofs.Within.{calls_on, calls_cut, calls_kept, calls_kept_front}
use Rattle.gr_node.proofs.turning.be_quiet.Goals as goal

pub returns-in-Ok-clause-went : goal.returns-in-Ok-clause-went
returns-in-Ok-clause-went g c =
    let t = c.args.site.now.topo.now in
    let hosted = c.args.site.now.hosted.now in
    calls_on t hosted g.P.Post.tells (request_calls (requests_of (net_of t) hosted (drop c.args.next c.args.steps.now))) (flat_map (wake_calls (length t.publishers)) hosted) _ _ _ _ _ _ _ c.wake_hosted.result
    c.in-Ok.ensures.went c.wake_hosted.ensures.went

pub returns-in-Err-clause-went : goal.returns-in-Err-clause-went
returns-in-Err-clause-went g c =
    let t = c.args.site.now.topo.now in
    let hosted = c.args.site.now.hosted.now in
    calls_cut t hosted g.P.Post.tells (request_calls (requests_of (net_of t) hosted (drop c.args.next c.args.steps.now))) (flat_map (wake_calls (length t.publishers)) hosted) _ _ _ _ c.in-Err.fault
    (turn_not_post c.in-Err.fault c.in-Err.ensures.cause) c.in-Err.ensures.went

pub returns-in-Ok-clause-kept : goal.returns-in-Ok-clause-kept
returns-in-Ok-clause-kept g c = λ tells.
    let t = c.args.site.now.topo.now in
    let hosted = c.args.site.now.hosted.now in
    calls_kept t hosted g.P.Post.tells (request_calls (requests_of (net_of t) hosted (drop c.args.next c.args.steps.now))) (flat_map (wake_calls (length t.publishers)) hosted) _ _ _ _ _ _ _ _
    c.in-Ok.ensures.went (c.in-Ok.ensures.kept tells) (c.wake_hosted.ensures.kept tells)

pub returns-in-Err-clause-kept : goal.returns-in-Err-clause-kept
returns-in-Err-clause-kept g c = λ tells.
    let t = c.args.site.now.topo.now in
    let hosted = c.args.site.now.hosted.now in
    calls_kept_front t hosted (request_calls (requests_of (net_of t) hosted (drop c.args.next c.args.steps.now))) (flat_map (wake_calls (length t.publishers)) hosted) _ _ _ (c.in-Err.ensures.kept tells)
