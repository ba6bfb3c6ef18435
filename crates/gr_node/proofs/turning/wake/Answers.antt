use Rattle.std.proofs.Common.{refl, sym, subst, [], ◌∷◌, OnOk}
use Rattle.gr_node.specs.Seen.{seen}
use Rattle.gr_node.specs.Plan.{wakes, calls}
use Rattle.gr_node.specs.Of.{IsSet, AllStand}
use Rattle.gr_node.specs.Went.{outside, Went}
use Rattle.gr_node.proofs.Keeping.{if_ok, set_on, serving_of}
use Rattle.gr_node.proofs.Lasting.{acts_call}
use Rattle.gr_node.proofs.Wending.{went_call, went_refused}
use Rattle.gr_node.proofs.turning.wake.Goals as goal

pub returns-in-Ok-clause-went : goal.returns-in-Ok-clause-went
returns-in-Ok-clause-went g c =
    let t = c.args.site.now.topo.now in
    let hosted = c.args.site.now.hosted.now in
    subst (λ m. Went t hosted g.P.Post.tells (calls (wakes c.args.b c.args.p) ∷ []) (seen c.args.node.now) m
    (outside (g.K.Sink.taken c.args.sink.now) c.args.page.now.held (g.P.Post.journal c.args.post.now))
    (outside (g.K.Sink.taken c.tell.new.sink) c.tell.new.page.held (g.P.Post.journal c.tell.new.post)) c.tell.result)
    (sym c.tell.ensures.rest)
    (went_call c.args.site.now.topo.now c.args.site.now.hosted.now g.P.Post.tells (wakes c.args.b c.args.p) (seen c.args.node.now) (seen c.wake_at.new.self) c.in-Ok.told c.tell.new.node.offers c.tell.new.node.orders
    (outside (g.K.Sink.taken c.args.sink.now) c.args.page.now.held (g.P.Post.journal c.args.post.now))
    (outside (g.K.Sink.taken c.tell.new.sink) c.tell.new.page.held (g.P.Post.journal c.tell.new.post))
    c.tell.result c.in-Ok.ensures.makes (record {
      told_all = c.tell.ensures.told;
      front = c.tell.ensures.front;
      sent = c.tell.ensures.sent;
      sent_front = c.tell.ensures.sent_front;
      count = c.tell.ensures.offers;
      heard = c.tell.ensures.heard;
      cause = c.tell.ensures.keeps.puts.cause;
    }))

pub returns-in-Ok-clause-serving : goal.returns-in-Ok-clause-serving
returns-in-Ok-clause-serving g c =
    serving_of _ _ _ _ _ c.tell.result
    (subst (λ m. OnOk c.tell.result (IsSet c.args.site.now.topo.now c.args.site.now.hosted.now m)) (sym c.tell.ensures.rest) (set_on c.args.site.now.topo.now c.args.site.now.hosted.now (seen c.args.node.now) (seen c.wake_at.new.self) (wakes c.args.b c.args.p) c.in-Ok.told c.tell.new.node.offers c.tell.new.node.orders c.tell.result
    c.in-Ok.ensures.makes c.in-Ok.ensures.fits c.tell.ensures.heard c.requires.serving.set))
    (λ tells. subst (λ m. OnOk c.tell.result (AllStand (g.D.Disk.lane_of c.wake_at.new.disk) m)) (sym c.tell.ensures.rest) (if_ok c.tell.result (c.in-Ok.ensures.stands tells)))

pub returns-in-Err-clause-went : goal.returns-in-Err-clause-went
returns-in-Err-clause-went g c = went_refused c.args.site.now.topo.now c.args.site.now.hosted.now g.P.Post.tells _ _ (seen c.args.node.now) _
    (outside (g.K.Sink.taken c.args.sink.now) c.args.page.now.held (g.P.Post.journal c.args.post.now)) c.in-Err.fault c.in-Err.ensures.cause (λ e. refl)

pub returns-in-Ok-clause-kept : goal.returns-in-Ok-clause-kept
returns-in-Ok-clause-kept g c = λ tells.
    acts_call c.args.site.now.topo.now c.args.site.now.hosted.now (seen c.args.node.now) (wakes c.args.b c.args.p) (g.D.Disk.lane_of c.args.disk.now) (g.D.Disk.lane_of c.wake_at.new.disk) (c.in-Ok.ensures.kept tells)

pub returns-in-Err-clause-kept : goal.returns-in-Err-clause-kept
returns-in-Err-clause-kept g c = λ tells.
    acts_call c.args.site.now.topo.now c.args.site.now.hosted.now (seen c.args.node.now) (wakes c.args.b c.args.p) (g.D.Disk.lane_of c.args.disk.now) (g.D.Disk.lane_of c.wake_at.new.disk) (c.in-Err.ensures.kept tells)
