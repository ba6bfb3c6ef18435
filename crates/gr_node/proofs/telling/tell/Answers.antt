use Rattle.std.proofs.Common.{◌++◌, suc, sym, ap, ◌∙◌, subst}
use Rattle.gr_frame.specs.Cut.{AreFrames}
use Rattle.gr_frame.specs.Frames.{FrameList}
use Rattle.gr_out.specs.Page.{TakesBut, TakesFront}
use Rattle.gr_out.proofs.Fronts.{but-later, front-later, front-more, on_fault, on_success}
use Rattle.gr_model.specs.World.{sent_lines}
use Rattle.gr_model.specs.Orders.{fed}
use Rattle.gr_node.specs.Seen.{text_of}
use Rattle.gr_node.proofs.Keeping.{if_ok}
use Rattle.gr_node.proofs.Offering.{text_joined}
use Rattle.gr_node.proofs.telling.tell.Goals as goal

pub returns-in-Ok-clause-told : goal.returns-in-Ok-clause-told
returns-in-Ok-clause-told g c = λ fs a.
    let t = c.args.site.now.topo.now in
    let told = text_of t c.as_slice.result.now in
    let sent = text_of t (sent_lines (suc c.args.node.now.offers) fs) in
    on_success c.offer_frames.result
    (λ h. subst (λ xs. TakesBut (g.K.Sink.taken c.args.sink.now) (g.K.Sink.taken c.offer_frames.new.sink) xs c.offer_frames.new.page.held)
    (text_joined t c.args.page.now.held c.as_slice.result.now c.args.told.reports (sent_lines (suc c.args.node.now.offers) fs) c.as_slice.ensures)
    (but-later _ _ _ (c.args.page.now.held ++ told) sent c.put_heard.new.page.held c.offer_frames.new.page.held c.in-Ok.ensures.ok h))
    (c.offer_frames.ensures.told fs (subst (λ (l : FrameList). AreFrames l.frames fs) (sym c.bytes.ensures) a))

pub returns-in-Ok-clause-front : goal.returns-in-Ok-clause-front
returns-in-Ok-clause-front g c = λ fs a.
    let t = c.args.site.now.topo.now in
    let told = text_of t c.as_slice.result.now in
    let sent = text_of t (sent_lines (suc c.args.node.now.offers) fs) in
    on_fault c.offer_frames.result
    (λ h. subst (λ xs. TakesFront (g.K.Sink.taken c.args.sink.now) (g.K.Sink.taken c.offer_frames.new.sink) xs)
    (text_joined t c.args.page.now.held c.as_slice.result.now c.args.told.reports (sent_lines (suc c.args.node.now.offers) fs) c.as_slice.ensures)
    (front-later _ _ _ (c.args.page.now.held ++ told) sent c.put_heard.new.page.held c.in-Ok.ensures.ok h))
    (c.offer_frames.ensures.front fs (subst (λ (l : FrameList). AreFrames l.frames fs) (sym c.bytes.ensures) a))

pub returns-clause-front : goal.returns-clause-front
returns-clause-front g c = λ fs a.
    let t = c.args.site.now.topo.now in
    let told = text_of t c.as_slice.result.now in
    let sent = text_of t (sent_lines (suc c.args.node.now.offers) fs) in
    subst (λ xs. TakesFront (g.K.Sink.taken c.args.sink.now) (g.K.Sink.taken c.put_heard.new.sink) xs)
    (text_joined t c.args.page.now.held c.as_slice.result.now c.args.told.reports (sent_lines (suc c.args.node.now.offers) fs) c.as_slice.ensures)
    (front-more _ _ (c.args.page.now.held ++ told) sent c.in-Err.ensures.front)

pub returns-in-Ok-clause-heard : goal.returns-in-Ok-clause-heard
returns-in-Ok-clause-heard g c = if_ok c.offer_frames.result (c.in-Ok.ensures.heard ∙ ap (fed c.args.node.now.orders) c.as_slice.ensures)
