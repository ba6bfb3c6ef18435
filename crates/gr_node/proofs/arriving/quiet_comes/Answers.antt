use Rattle.std.proofs.Common.{[], ◌∷◌, map, drop}
use Rattle.gr_model.specs.NetOf.{net_of}
use Rattle.gr_model.specs.Arrivals.{requests_of}
use Rattle.gr_node.specs.Seen.{seen}
use Rattle.gr_node.specs.Plan.{calls, settles, quiet_calls}
use Rattle.gr_node.proofs.Keeping.{serving_then}
use Rattle.gr_node.proofs.Wending.{all_made, went_cut, went_settled, turn_not_post}
use Rattle.gr_node.proofs.OneTurn.{went_quiet, kept_quiet}
use Rattle.gr_node.proofs.arriving.quiet_comes.Goals as goal

pub settle-requires : goal.settle-requires
settle-requires g c = c.in-Ok.ensures.serving.set.orders

pub returns-in-Ok-clause-went : goal.returns-in-Ok-clause-went
returns-in-Ok-clause-went g c =
    let t = c.args.site.now.topo.now in
    let hosted = c.args.site.now.hosted.now in
    let m = seen c.be_quiet.new.node in
    let left = requests_of (net_of t) hosted (drop c.args.next c.args.steps.now) in
    went_quiet t hosted g.P.Post.tells left c.args.moment c.last_tick-node.result (seen c.args.node.now) (seen c.settle.new.node) _ _ c.settle.result c.last_tick-node.ensures
    (went_settled t hosted g.P.Post.tells (map calls (quiet_calls (net_of t) hosted left)) _ m (seen c.settle.new.node) _ (g.K.Sink.taken c.be_quiet.new.sink) (g.K.Sink.taken c.settle.new.sink) c.be_quiet.new.page.held c.settle.new.page.held (g.P.Post.journal c.be_quiet.new.post) c.settle.result
    (all_made t hosted g.P.Post.tells _ _ m _ _ _ c.in-Ok.ensures.went) c.settle.ensures.node c.settle.ensures.told c.settle.ensures.emptied c.settle.ensures.front c.settle.ensures.puts.cause)

pub returns-in-Err-clause-went : goal.returns-in-Err-clause-went
returns-in-Err-clause-went g c =
    let t = c.args.site.now.topo.now in
    let hosted = c.args.site.now.hosted.now in
    let m = seen c.be_quiet.new.node in
    let left = requests_of (net_of t) hosted (drop c.args.next c.args.steps.now) in
    went_quiet t hosted g.P.Post.tells left c.args.moment c.last_tick-node.result (seen c.args.node.now) m _ _ _ c.last_tick-node.ensures
    (went_cut t hosted g.P.Post.tells (map calls (quiet_calls (net_of t) hosted left)) (settles ∷ []) _ m _ _ c.in-Err.fault (turn_not_post c.in-Err.fault c.in-Err.ensures.cause) c.in-Err.ensures.went)

pub returns-in-Ok-clause-serving : goal.returns-in-Ok-clause-serving
returns-in-Ok-clause-serving g c =
    serving_then c.args.site.now.topo.now c.args.site.now.hosted.now g.D.Disk.tells (g.D.Disk.lane_of c.be_quiet.new.disk) (seen c.be_quiet.new.node) (seen c.settle.new.node) c.settle.result c.settle.ensures.node c.in-Ok.ensures.serving

pub returns-in-Ok-clause-kept : goal.returns-in-Ok-clause-kept
returns-in-Ok-clause-kept g c = λ tells.
    let t = c.args.site.now.topo.now in
    let hosted = c.args.site.now.hosted.now in
    kept_quiet t hosted (requests_of (net_of t) hosted (drop c.args.next c.args.steps.now)) c.args.moment c.last_tick-node.result (seen c.args.node.now) (g.D.Disk.lane_of c.args.disk.now) (g.D.Disk.lane_of c.be_quiet.new.disk)
    c.last_tick-node.ensures (c.in-Ok.ensures.kept tells)

pub returns-in-Err-clause-kept : goal.returns-in-Err-clause-kept
returns-in-Err-clause-kept g c = λ tells.
    let t = c.args.site.now.topo.now in
    let hosted = c.args.site.now.hosted.now in
    kept_quiet t hosted (requests_of (net_of t) hosted (drop c.args.next c.args.steps.now)) c.args.moment c.last_tick-node.result (seen c.args.node.now) (g.D.Disk.lane_of c.args.disk.now) (g.D.Disk.lane_of c.be_quiet.new.disk)
    c.last_tick-node.ensures (c.in-Err.ensures.kept tells)
