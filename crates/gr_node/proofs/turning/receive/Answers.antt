use Rattle.std.proofs.Common.{◌≡◌, refl, sym, subst, [], ◌∷◌, OnOk}
use Rattle.gr_out.specs.declared.fault.RunFault.TheVariants as run
use Rattle.gr_node.specs.Seen.{seen}
use Rattle.gr_node.specs.Plan.{gets, calls}
use Rattle.gr_node.specs.Of.{IsSet, AllStand}
use Rattle.gr_node.specs.Went.{outside, IsCallFault, Went}
use Rattle.gr_frame.specs.Decode.{frame_decoded}
use Rattle.gr_node.proofs.Keeping.{if_ok, set_on}
use Rattle.gr_node.proofs.Wending.{went_call, went_refused}
use Rattle.gr_node.proofs.turning.receive.Goals as goal

pub returns-in-Ok-clause-went : goal.returns-in-Ok-clause-went
returns-in-Ok-clause-went g c =
    let t = c.args.site.now.topo.now in
    let hosted = c.args.site.now.hosted.now in
    subst (λ m. Went t hosted g.P.Post.tells (calls (gets c.args.b (frame_decoded c.args.bytes.now)) ∷ []) (seen c.args.node.now) m
    (outside (g.K.Sink.taken c.args.sink.now) c.args.page.now.held (g.P.Post.journal c.args.post.now))
    (outside (g.K.Sink.taken c.tell.new.sink) c.tell.new.page.held (g.P.Post.journal c.tell.new.post)) c.tell.result)
    (sym c.tell.ensures.rest)
    (went_call c.args.site.now.topo.now c.args.site.now.hosted.now g.P.Post.tells (gets c.args.b (frame_decoded c.args.bytes.now)) (seen c.args.node.now) (seen c.receive_at.new.self) c.in-Ok.told c.tell.new.node.offers c.tell.new.node.orders
    (outside (g.K.Sink.taken c.args.sink.now) c.args.page.now.held (g.P.Post.journal c.args.post.now))
    (outside (g.K.Sink.taken c.tell.new.sink) c.tell.new.page.held (g.P.Post.journal c.tell.new.post))
    c.tell.result c.in-Ok.ensures.makes (record {
      told_all = c.tell.ensures.told;
      front = c.tell.ensures.front;
      sent = c.tell.ensures.sent;
      sent_front = c.tell.ensures.sent_front;
      count = c.tell.ensures.offers;
      heard = c.tell.ensures.heard;
      cause = c.tell.ensures.keeps.puts.cause;
    }))

pub returns-in-Ok-clause-set : goal.returns-in-Ok-clause-set
returns-in-Ok-clause-set g c =
    subst (λ m. OnOk c.tell.result (IsSet c.args.site.now.topo.now c.args.site.now.hosted.now m)) (sym c.tell.ensures.rest)
    (set_on c.args.site.now.topo.now c.args.site.now.hosted.now (seen c.args.node.now) (seen c.receive_at.new.self) (gets c.args.b (frame_decoded c.args.bytes.now)) c.in-Ok.told c.tell.new.node.offers c.tell.new.node.orders c.tell.result
    c.in-Ok.ensures.makes c.in-Ok.ensures.fits c.tell.ensures.heard c.requires.set)

pub returns-in-Ok-clause-stands : goal.returns-in-Ok-clause-stands
returns-in-Ok-clause-stands g c = λ lanes stand. subst (λ m. OnOk c.tell.result (AllStand lanes m)) (sym c.tell.ensures.rest) (if_ok c.tell.result (c.in-Ok.ensures.stands lanes stand))

pub returns-in-Err-clause-went : goal.returns-in-Err-clause-went
returns-in-Err-clause-went g c =
    let is : c.in-Err.fault ≡ run.Memory = c.in-Err.ensures.memory c.in-Err.fault refl in
    went_refused c.args.site.now.topo.now c.args.site.now.hosted.now g.P.Post.tells _ _ (seen c.args.node.now) _
    (outside (g.K.Sink.taken c.args.sink.now) c.args.page.now.held (g.P.Post.journal c.args.post.now)) c.in-Err.fault (subst IsCallFault (sym is) tt) (λ e. cc)
