use Rattle.std.proofs.Common.{take, drop, ◌++◌, Ok, Err, refl, ap, ◌∙◌}
use Rattle.gr_out.specs.Journal.{next_entries}
use Rattle.gr_out.specs.declared.post.Arrival.{Arrival as PostArrival}
use Rattle.gr_out.specs.declared.post.PostFault.{PostFault}
use Rattle.gr_model.specs.NetOf.{net_of}
use Rattle.gr_model.specs.Arrivals.{datagram, quiet, requests_of}
use Rattle.gr_node.specs.Seen.{seen}
use Rattle.gr_trace.proofs.OneTurn.{traced_on, traced_within, traced_closed, traced_failed, traced_refused}
use Rattle.gr_trace.proofs.running.turn.Goals as goal

-- As a turn of gr_node, whose group is written.

pub returns-in-Ok-trace_datagram-clause-traced : goal.returns-in-Ok-trace_datagram-clause-traced
returns-in-Ok-trace_datagram-clause-traced g c =
    let t = c.args.site.now.topo.now in
    let hosted = c.args.site.now.hosted.now in
    traced_on t hosted g.P.Post.tells g.D.Disk.tells (g.D.Disk.lane_of c.args.disk.now) (g.D.Disk.lane_of c.trace_datagram.new.disk) c.args.steps.now c.args.next.now c.args.next.now (datagram c.in-Datagram.at (take c.in-Datagram.len c.await_next.new.piece) c.in-Datagram.moment) (seen c.args.node.now) (seen c.trace_datagram.new.node) (g.K.Sink.taken c.args.sink.now) (g.K.Sink.taken c.trace_datagram.new.sink) (g.P.Post.journal c.args.post.now) (g.P.Post.journal c.await_next.new.post) (g.P.Post.journal c.trace_datagram.new.post) c.in-Ok-trace_datagram.field-0
    c.in-Ok-trace_datagram.ensures.bytes (λ tells. c.in-Ok.ensures.journal tells ∙ ap (λ (a : PostArrival). g.P.Post.journal c.args.post.now ++ next_entries c.await_next.new.piece (Ok a)) c.in-Datagram.is)
    (c.in-Ok-trace_datagram.ensures.wrote (requests_of (net_of t) hosted (drop c.args.next.now c.args.steps.now))) refl (λ tells. c.in-Ok-trace_datagram.ensures.kept tells (requests_of (net_of t) hosted (drop c.args.next.now c.args.steps.now)))

pub returns-in-Err-trace_datagram-clause-traced : goal.returns-in-Err-trace_datagram-clause-traced
returns-in-Err-trace_datagram-clause-traced g c =
    let t = c.args.site.now.topo.now in
    let hosted = c.args.site.now.hosted.now in
    traced_within t hosted g.P.Post.tells g.D.Disk.tells (g.D.Disk.lane_of c.args.disk.now) (g.D.Disk.lane_of c.trace_datagram.new.disk) c.args.steps.now c.args.next.now c.args.next.now (datagram c.in-Datagram.at (take c.in-Datagram.len c.await_next.new.piece) c.in-Datagram.moment) (seen c.args.node.now) (seen c.trace_datagram.new.node) (g.K.Sink.taken c.args.sink.now) (g.K.Sink.taken c.trace_datagram.new.sink) (g.P.Post.journal c.args.post.now) (g.P.Post.journal c.await_next.new.post) (g.P.Post.journal c.trace_datagram.new.post) c.in-Err-trace_datagram.fault
    c.in-Err-trace_datagram.ensures.bytes (λ tells. c.in-Ok.ensures.journal tells ∙ ap (λ (a : PostArrival). g.P.Post.journal c.args.post.now ++ next_entries c.await_next.new.piece (Ok a)) c.in-Datagram.is)
    (c.in-Err-trace_datagram.ensures.wrote (requests_of (net_of t) hosted (drop c.args.next.now c.args.steps.now))) (λ tells. c.in-Err-trace_datagram.ensures.kept tells (requests_of (net_of t) hosted (drop c.args.next.now c.args.steps.now)))

pub returns-in-Ok-trace_quiet-clause-traced : goal.returns-in-Ok-trace_quiet-clause-traced
returns-in-Ok-trace_quiet-clause-traced g c =
    let t = c.args.site.now.topo.now in
    let hosted = c.args.site.now.hosted.now in
    traced_on t hosted g.P.Post.tells g.D.Disk.tells (g.D.Disk.lane_of c.args.disk.now) (g.D.Disk.lane_of c.trace_quiet.new.disk) c.args.steps.now c.args.next.now c.next_after.result (quiet c.in-Quiet.moment) (seen c.args.node.now) (seen c.trace_quiet.new.node) (g.K.Sink.taken c.args.sink.now) (g.K.Sink.taken c.trace_quiet.new.sink) (g.P.Post.journal c.args.post.now) (g.P.Post.journal c.await_next.new.post) (g.P.Post.journal c.trace_quiet.new.post) c.in-Ok-trace_quiet.field-0
    tt (λ tells. c.in-Ok.ensures.journal tells ∙ ap (λ (a : PostArrival). g.P.Post.journal c.args.post.now ++ next_entries c.await_next.new.piece (Ok a)) c.in-Quiet.is)
    c.in-Ok-trace_quiet.ensures.wrote (c.next_after.ensures.left c.in-Quiet.moment) c.in-Ok-trace_quiet.ensures.kept

pub returns-in-Err-trace_quiet-clause-traced : goal.returns-in-Err-trace_quiet-clause-traced
returns-in-Err-trace_quiet-clause-traced g c =
    let t = c.args.site.now.topo.now in
    let hosted = c.args.site.now.hosted.now in
    traced_within t hosted g.P.Post.tells g.D.Disk.tells (g.D.Disk.lane_of c.args.disk.now) (g.D.Disk.lane_of c.trace_quiet.new.disk) c.args.steps.now c.args.next.now c.args.next.now (quiet c.in-Quiet.moment) (seen c.args.node.now) (seen c.trace_quiet.new.node) (g.K.Sink.taken c.args.sink.now) (g.K.Sink.taken c.trace_quiet.new.sink) (g.P.Post.journal c.args.post.now) (g.P.Post.journal c.await_next.new.post) (g.P.Post.journal c.trace_quiet.new.post) c.in-Err-trace_quiet.fault
    tt (λ tells. c.in-Ok.ensures.journal tells ∙ ap (λ (a : PostArrival). g.P.Post.journal c.args.post.now ++ next_entries c.await_next.new.piece (Ok a)) c.in-Quiet.is)
    c.in-Err-trace_quiet.ensures.wrote c.in-Err-trace_quiet.ensures.kept

pub returns-in-Closed-clause-traced : goal.returns-in-Closed-clause-traced
returns-in-Closed-clause-traced g c =
    let t = c.args.site.now.topo.now in
    let hosted = c.args.site.now.hosted.now in
    traced_closed t hosted g.P.Post.tells g.D.Disk.tells (g.D.Disk.lane_of c.args.disk.now) (g.D.Disk.lane_of c.args.disk.now) c.args.steps.now c.args.next.now c.args.next.now (seen c.args.node.now) (seen c.args.node.now) (g.K.Sink.taken c.args.sink.now) (g.P.Post.journal c.args.post.now) (g.P.Post.journal c.await_next.new.post) refl
    (λ tells. c.in-Ok.ensures.journal tells ∙ ap (λ (a : PostArrival). g.P.Post.journal c.args.post.now ++ next_entries c.await_next.new.piece (Ok a)) c.in-Closed.is) refl (λ k. refl)

pub returns-in-Failed-clause-traced : goal.returns-in-Failed-clause-traced
returns-in-Failed-clause-traced g c =
    let t = c.args.site.now.topo.now in
    let hosted = c.args.site.now.hosted.now in
    traced_failed t hosted g.P.Post.tells g.D.Disk.tells (g.D.Disk.lane_of c.args.disk.now) (g.D.Disk.lane_of c.args.disk.now) c.args.steps.now c.args.next.now c.args.next.now (seen c.args.node.now) (seen c.args.node.now) (g.K.Sink.taken c.args.sink.now) (g.P.Post.journal c.args.post.now) (g.P.Post.journal c.await_next.new.post) refl
    (λ tells. c.in-Err.ensures.journal tells ∙ ap (λ (f : PostFault). g.P.Post.journal c.args.post.now ++ next_entries c.await_next.new.piece (Err f)) c.in-Failed.is) (λ k. refl)

pub returns-in-Memory-clause-traced : goal.returns-in-Memory-clause-traced
returns-in-Memory-clause-traced g c =
    let t = c.args.site.now.topo.now in
    let hosted = c.args.site.now.hosted.now in
    traced_refused t hosted g.P.Post.tells g.D.Disk.tells (g.D.Disk.lane_of c.args.disk.now) (g.D.Disk.lane_of c.args.disk.now) c.args.steps.now c.args.next.now c.args.next.now (seen c.args.node.now) (seen c.args.node.now) (g.K.Sink.taken c.args.sink.now) (g.P.Post.journal c.args.post.now) (g.P.Post.journal c.await_next.new.post)
    (λ tells. c.in-Err.ensures.journal tells ∙ ap (λ (f : PostFault). g.P.Post.journal c.args.post.now ++ next_entries c.await_next.new.piece (Err f)) c.in-Memory.is) (λ k. refl)

pub returns-in-Failed-clause-serving_at_post : goal.returns-in-Failed-clause-serving_at_post
returns-in-Failed-clause-serving_at_post g c = λ e. c.requires.between.serving
