use Rattle.std.proofs.Common.{take, drop, ◌++◌, Ok, Err, refl, ap, ◌∙◌}
use Rattle.gr_out.specs.Journal.{next_entries}
use Rattle.gr_out.specs.declared.post.Arrival.{Arrival as PostArrival}
use Rattle.gr_out.specs.declared.post.PostFault.{PostFault}
use Rattle.gr_model.specs.NetOf.{net_of}
use Rattle.gr_model.specs.Arrivals.{datagram, quiet, requests_of}
use Rattle.gr_node.specs.Seen.{seen}
use Rattle.gr_node.proofs.OneTurn.{turned_on, turned_cut, turned_shut, turned_failed, turned_refused}
use Rattle.gr_node.proofs.arriving.turn.Goals as goal

pub returns-in-Ok-datagram_comes-clause-turned : goal.returns-in-Ok-datagram_comes-clause-turned
returns-in-Ok-datagram_comes-clause-turned g c =
    let t = c.args.site.now.topo.now in
    let hosted = c.args.site.now.hosted.now in
    turned_on t hosted g.P.Post.tells g.D.Disk.tells (g.D.Disk.lane_of c.args.disk.now) (g.D.Disk.lane_of c.datagram_comes.new.disk) c.args.steps.now c.args.next.now c.args.next.now (datagram c.in-Datagram.at (take c.in-Datagram.len c.await_next.new.piece) c.in-Datagram.moment) (seen c.args.node.now) (seen c.datagram_comes.new.node) (g.K.Sink.taken c.args.sink.now) c.args.page.now.held (g.P.Post.journal c.args.post.now) (g.P.Post.journal c.await_next.new.post) _ c.in-Ok-datagram_comes.field-0
    c.in-Ok-datagram_comes.ensures.bytes (λ tells. c.in-Ok.ensures.journal tells ∙ ap (λ (a : PostArrival). g.P.Post.journal c.args.post.now ++ next_entries c.await_next.new.piece (Ok a)) c.in-Datagram.is)
    (c.in-Ok-datagram_comes.ensures.went (requests_of (net_of t) hosted (drop c.args.next.now c.args.steps.now))) refl (λ tells. c.in-Ok-datagram_comes.ensures.kept tells (requests_of (net_of t) hosted (drop c.args.next.now c.args.steps.now)))

pub returns-in-Err-datagram_comes-clause-turned : goal.returns-in-Err-datagram_comes-clause-turned
returns-in-Err-datagram_comes-clause-turned g c =
    let t = c.args.site.now.topo.now in
    let hosted = c.args.site.now.hosted.now in
    turned_cut t hosted g.P.Post.tells g.D.Disk.tells (g.D.Disk.lane_of c.args.disk.now) (g.D.Disk.lane_of c.datagram_comes.new.disk) c.args.steps.now c.args.next.now c.args.next.now (datagram c.in-Datagram.at (take c.in-Datagram.len c.await_next.new.piece) c.in-Datagram.moment) (seen c.args.node.now) (seen c.datagram_comes.new.node) (g.K.Sink.taken c.args.sink.now) c.args.page.now.held (g.P.Post.journal c.args.post.now) (g.P.Post.journal c.await_next.new.post) _ c.in-Err-datagram_comes.fault
    c.in-Err-datagram_comes.ensures.bytes (λ tells. c.in-Ok.ensures.journal tells ∙ ap (λ (a : PostArrival). g.P.Post.journal c.args.post.now ++ next_entries c.await_next.new.piece (Ok a)) c.in-Datagram.is)
    (c.in-Err-datagram_comes.ensures.went (requests_of (net_of t) hosted (drop c.args.next.now c.args.steps.now))) (λ tells. c.in-Err-datagram_comes.ensures.kept tells (requests_of (net_of t) hosted (drop c.args.next.now c.args.steps.now)))

pub returns-in-Ok-quiet_comes-clause-turned : goal.returns-in-Ok-quiet_comes-clause-turned
returns-in-Ok-quiet_comes-clause-turned g c =
    let t = c.args.site.now.topo.now in
    let hosted = c.args.site.now.hosted.now in
    turned_on t hosted g.P.Post.tells g.D.Disk.tells (g.D.Disk.lane_of c.args.disk.now) (g.D.Disk.lane_of c.quiet_comes.new.disk) c.args.steps.now c.args.next.now c.next_after.result (quiet c.in-Quiet.moment) (seen c.args.node.now) (seen c.quiet_comes.new.node) (g.K.Sink.taken c.args.sink.now) c.args.page.now.held (g.P.Post.journal c.args.post.now) (g.P.Post.journal c.await_next.new.post) _ c.in-Ok-quiet_comes.field-0
    tt (λ tells. c.in-Ok.ensures.journal tells ∙ ap (λ (a : PostArrival). g.P.Post.journal c.args.post.now ++ next_entries c.await_next.new.piece (Ok a)) c.in-Quiet.is)
    c.in-Ok-quiet_comes.ensures.went (c.next_after.ensures.left c.in-Quiet.moment) c.in-Ok-quiet_comes.ensures.kept

pub returns-in-Err-quiet_comes-clause-turned : goal.returns-in-Err-quiet_comes-clause-turned
returns-in-Err-quiet_comes-clause-turned g c =
    let t = c.args.site.now.topo.now in
    let hosted = c.args.site.now.hosted.now in
    turned_cut t hosted g.P.Post.tells g.D.Disk.tells (g.D.Disk.lane_of c.args.disk.now) (g.D.Disk.lane_of c.quiet_comes.new.disk) c.args.steps.now c.args.next.now c.args.next.now (quiet c.in-Quiet.moment) (seen c.args.node.now) (seen c.quiet_comes.new.node) (g.K.Sink.taken c.args.sink.now) c.args.page.now.held (g.P.Post.journal c.args.post.now) (g.P.Post.journal c.await_next.new.post) _ c.in-Err-quiet_comes.fault
    tt (λ tells. c.in-Ok.ensures.journal tells ∙ ap (λ (a : PostArrival). g.P.Post.journal c.args.post.now ++ next_entries c.await_next.new.piece (Ok a)) c.in-Quiet.is)
    c.in-Err-quiet_comes.ensures.went c.in-Err-quiet_comes.ensures.kept

pub returns-in-Closed-clause-turned : goal.returns-in-Closed-clause-turned
returns-in-Closed-clause-turned g c =
    let t = c.args.site.now.topo.now in
    let hosted = c.args.site.now.hosted.now in
    turned_shut t hosted g.P.Post.tells g.D.Disk.tells (g.D.Disk.lane_of c.args.disk.now) (g.D.Disk.lane_of c.args.disk.now) c.args.steps.now c.args.next.now c.args.next.now (seen c.args.node.now) (seen c.args.node.now) (g.K.Sink.taken c.args.sink.now) c.args.page.now.held (g.P.Post.journal c.args.post.now) (g.P.Post.journal c.await_next.new.post) refl
    (λ tells. c.in-Ok.ensures.journal tells ∙ ap (λ (a : PostArrival). g.P.Post.journal c.args.post.now ++ next_entries c.await_next.new.piece (Ok a)) c.in-Closed.is) refl (λ k. refl)

pub returns-in-Failed-clause-turned : goal.returns-in-Failed-clause-turned
returns-in-Failed-clause-turned g c =
    let t = c.args.site.now.topo.now in
    let hosted = c.args.site.now.hosted.now in
    turned_failed t hosted g.P.Post.tells g.D.Disk.tells (g.D.Disk.lane_of c.args.disk.now) (g.D.Disk.lane_of c.args.disk.now) c.args.steps.now c.args.next.now c.args.next.now (seen c.args.node.now) (seen c.args.node.now) (g.K.Sink.taken c.args.sink.now) c.args.page.now.held (g.P.Post.journal c.args.post.now) (g.P.Post.journal c.await_next.new.post) refl
    (λ tells. c.in-Err.ensures.journal tells ∙ ap (λ (f : PostFault). g.P.Post.journal c.args.post.now ++ next_entries c.await_next.new.piece (Err f)) c.in-Failed.is) (λ k. refl)

pub returns-in-Memory-clause-turned : goal.returns-in-Memory-clause-turned
returns-in-Memory-clause-turned g c =
    let t = c.args.site.now.topo.now in
    let hosted = c.args.site.now.hosted.now in
    turned_refused t hosted g.P.Post.tells g.D.Disk.tells (g.D.Disk.lane_of c.args.disk.now) (g.D.Disk.lane_of c.args.disk.now) c.args.steps.now c.args.next.now c.args.next.now (seen c.args.node.now) (seen c.args.node.now) (g.K.Sink.taken c.args.sink.now) c.args.page.now.held (g.P.Post.journal c.args.post.now) (g.P.Post.journal c.await_next.new.post)
    (λ tells. c.in-Err.ensures.journal tells ∙ ap (λ (f : PostFault). g.P.Post.journal c.args.post.now ++ next_entries c.await_next.new.piece (Err f)) c.in-Memory.is) (λ k. refl)

pub returns-in-Failed-clause-serving_at_post : goal.returns-in-Failed-clause-serving_at_post
returns-in-Failed-clause-serving_at_post g c = λ e. c.requires.serving
