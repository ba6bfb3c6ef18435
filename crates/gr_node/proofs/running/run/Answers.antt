use Rattle.std.proofs.Common.{Ok}
use Rattle.gr_node.specs.Seen.{seen}
use Rattle.gr_node.proofs.Keeping.{serving_then}
use Rattle.gr_node.proofs.Wending.{made_settles}
use Rattle.gr_node.proofs.Ended.{put_unknown}
use Rattle.gr_node.proofs.SoFar.{KeptSoFar, KeptRun, kept_settled, kept_unsettled, ran_settled, ran_unsettled}
use Rattle.gr_node.proofs.running.run.Goals as goal

pub settle-requires : goal.settle-requires
settle-requires g c = c.requires.can.serving.set.orders

pub run_turns-requires : goal.run_turns-requires
run_turns-requires g c =
    let t = c.args.site.now.topo.now in
    let hosted = c.args.site.now.hosted.now in
    record {
      can = record {
        asked = c.requires.can.asked;
        serving = serving_then {T = Unit {0}} t hosted g.D.Disk.tells (g.D.Disk.lane_of c.args.disk.now) (seen c.args.node.now) (seen c.settle.new.node) (Ok tt) c.in-Ok.ensures.node c.requires.can.serving;
        written = c.in-Ok.ensures.emptied;
      };
    }

pub returns-in-Ok-clause-ran : goal.returns-in-Ok-clause-ran
returns-in-Ok-clause-ran g c =
    let t = c.args.site.now.topo.now in
    let hosted = c.args.site.now.hosted.now in
    let n = seen c.args.node.now in
    let m = seen c.settle.new.node in
    let first = g.D.Disk.lane_of c.args.disk.now in
    let lanes = g.D.Disk.lane_of c.run_turns.new.disk in
    ran_settled t hosted g.P.Post.tells c.args.steps.now c.args.turns n m (seen c.run_turns.new.node) _ _ _
    (KeptSoFar g.D.Disk.tells t hosted c.args.steps.now m first lanes) (KeptRun g.D.Disk.tells t hosted c.args.steps.now n first lanes) c.run_turns.result
    (made_settles t hosted g.P.Post.tells n m (g.K.Sink.taken c.args.sink.now) (g.K.Sink.taken c.settle.new.sink) c.args.page.now.held c.settle.new.page.held (g.P.Post.journal c.args.post.now)
    c.in-Ok.ensures.node c.in-Ok.ensures.told c.in-Ok.ensures.emptied)
    (kept_settled g.D.Disk.tells t hosted c.args.steps.now n m first lanes c.in-Ok.ensures.node) c.run_turns.ensures.ran

pub returns-in-Err-clause-ran : goal.returns-in-Err-clause-ran
returns-in-Err-clause-ran g c =
    let t = c.args.site.now.topo.now in
    let hosted = c.args.site.now.hosted.now in
    let n = seen c.args.node.now in
    let lanes = g.D.Disk.lane_of c.args.disk.now in
    ran_unsettled t hosted g.P.Post.tells c.args.steps.now c.args.turns n (seen c.settle.new.node) (g.K.Sink.taken c.args.sink.now) (g.K.Sink.taken c.settle.new.sink)
    c.args.page.now.held c.settle.new.page.held (g.P.Post.journal c.args.post.now) (KeptRun g.D.Disk.tells t hosted c.args.steps.now n lanes lanes)
    c.in-Err.fault c.in-Err.ensures.puts.cause c.in-Err.ensures.front (kept_unsettled g.D.Disk.tells t hosted c.args.steps.now n lanes)

pub returns-in-Err-clause-empty : goal.returns-in-Err-clause-empty
returns-in-Err-clause-empty g c = λ exact other. absurd (put_unknown (Unit {0}) c.in-Err.fault c.in-Err.ensures.puts.cause exact)
