use Rattle.std.proofs.Common.{◌≡◌, ◌+◌, ◌++◌, suc, ap, ◌∙◌, subst, arith}
use Rattle.gr_out.specs.Page.{TakesBut}
use Rattle.gr_model.specs.NetOf.{net_of}
use Rattle.gr_model.specs.World.{sent_lines}
use Rattle.gr_model_calls.specs.Edges.{GoesOverEdge}
use Rattle.gr_node.specs.Seen.{text_of}
use Rattle.gr_node.specs.Plan.{offers_of}
use Rattle.gr_node.proofs.Offering.{all_said, told_more, told_front, told_part, offered_more, offered_part, all_taken}
use Rattle.gr_node.proofs.telling.offer_frames.Goals as goal

pub returns-in_default-clause-front : goal.returns-in_default-clause-front
returns-in_default-clause-front g c = λ fs a.
    told_part c.args.topo.now _ _ c.args.page.now.held c.frames.page.held (suc c.args.offers.now) c.frames.i fs (c.frames.invariant.told fs a)

pub returns-in_default-clause-sent_front : goal.returns-in_default-clause-sent_front
returns-in_default-clause-sent_front g c = λ t fs a. offered_part _ _ c.frames.i fs (c.frames.invariant.sent t fs a)

pub offer_frame-requires : goal.offer_frame-requires
offer_frame-requires g c =
    let over = c.requires.over in
    record { over = all_said (GoesOverEdge (net_of c.args.topo.now)) c.args.sent.now.frames over.0 c.frames.i c.frame.result.now over.1.0 over.1.1 c.frame.ensures }

pub returns-in-Err-clause-front : goal.returns-in-Err-clause-front
returns-in-Err-clause-front g c = λ fs a.
    let i = c.frames.invariant in
    let number : c.in-Some.number ≡ suc c.args.offers.now + c.frames.i = omega (arith, c.in-Some.ensures, i.offers) in
    told_front c.args.topo.now _ _ _ c.args.page.now.held c.frames.page.held (suc c.args.offers.now) c.in-Some.number c.frames.i c.args.sent.now.frames fs c.frame.result.now a c.frame.ensures number
    (i.told fs a) c.in-Err.ensures.front

pub returns-in-Err-clause-sent_front : goal.returns-in-Err-clause-sent_front
returns-in-Err-clause-sent_front g c = λ t fs a. offered_part _ _ c.frames.i fs (c.in-Err.ensures.unsent t ∙ c.frames.invariant.sent t fs a)

pub frames-preserved : goal.frames-preserved
frames-preserved g c =
    let i = c.frames.invariant in
    let number : c.in-Some.number ≡ suc c.args.offers.now + c.frames.i = omega (arith, c.in-Some.ensures, i.offers) in
    record {
      offers = omega (arith, c.in-Some.ensures, i.offers);
      told = λ fs a.
          told_more c.args.topo.now _ _ _ c.args.page.now.held c.frames.page.held c.offer_frame.new.page.held (suc c.args.offers.now) c.in-Some.number c.frames.i c.args.sent.now.frames fs c.frame.result.now a c.frame.ensures number
          (i.told fs a) c.in-Ok.ensures.told;
      sent = λ t fs a. offered_more _ _ _ c.frames.i c.args.sent.now.frames fs c.frame.result.now a c.frame.ensures (i.sent t fs a) (c.in-Ok.ensures.sent t);
      sink = c.in-Ok.ensures.keeps.puts.sink_moves.same (λ e. cc) ∙ i.sink;
      post = c.offer_frame.ensures.keeps.post_same ∙ i.post;
    }

pub returns-clause-told : goal.returns-clause-told
returns-clause-told g c = λ fs a.
    let all = all_taken c.args.sent.now.frames fs c.frames.i a (omega (arith, c.frames-test.false, c.len-i-end.ensures)) in
    subst (λ xs. TakesBut (g.K.Sink.taken c.args.sink.now) (g.K.Sink.taken c.frames.sink) (c.args.page.now.held ++ text_of c.args.topo.now (sent_lines (suc c.args.offers.now) xs)) c.frames.page.held)
    all (c.frames.invariant.told fs a)

pub returns-clause-sent : goal.returns-clause-sent
returns-clause-sent g c = λ t fs a.
    let all = all_taken c.args.sent.now.frames fs c.frames.i a (omega (arith, c.frames-test.false, c.len-i-end.ensures)) in
    c.frames.invariant.sent t fs a ∙ ap (λ xs. g.P.Post.journal c.args.post.now ++ offers_of xs) all
