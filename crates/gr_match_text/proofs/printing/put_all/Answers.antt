use Rattle.std.proofs.Common.{◌++◌, ◌+◌, take, drop, sym, ap, ◌∙◌, subst, append_assoc}
use Rattle.gr_out.specs.Page.{TakesBut, TakesFront}
use Rattle.gr_out.proofs.Fronts.{front-later, front-more, but-later}
use Rattle.gr_match_text.specs.Matching.{matched_line, matched_text}
use Rattle.gr_match_text.proofs.Lines.{text_more, text_cut}
use Rattle.gr_match_text.proofs.printing.put_all.Goals as goal

pub returns-in-Err-clause-front : goal.returns-in-Err-clause-front
returns-in-Err-clause-front g c =
    let filters = c.args.filters.now in
    let done = matched_text filters (take c.events.event-index c.args.events.now) in
    let line = matched_line filters c.event-item.result in
    let rest = matched_text filters (drop (c.events.event-index + 1) c.args.events.now) in
    let held = c.args.page.now.held in
    let front = front-more _ _ ((held ++ done) ++ line) rest (front-later _ _ _ (held ++ done) line c.events.page.held c.events.invariant.put c.in-Err.ensures.front) in
    subst (TakesFront (g.K.Sink.taken c.args.sink.now) (g.K.Sink.taken c.put_line.new.sink))
    (ap (λ xs. xs ++ rest) (append_assoc held done line) ∙ append_assoc held (done ++ line) rest ∙ ap (λ xs. held ++ xs) (sym (text_cut filters c.args.events.now c.events.event-index c.event-item.result c.events-test.true c.event-item.is)))
    front

pub events-preserved : goal.events-preserved
events-preserved g c =
    let filters = c.args.filters.now in
    let done = matched_text filters (take c.events.event-index c.args.events.now) in
    let line = matched_line filters c.event-item.result in
    let held = c.args.page.now.held in
    record {
      put = subst (λ text. TakesBut (g.K.Sink.taken c.args.sink.now) (g.K.Sink.taken c.put_line.new.sink) text c.put_line.new.page.held)
          (append_assoc held done line ∙ ap (λ xs. held ++ xs) (sym (text_more filters c.args.events.now c.events.event-index c.event-item.result c.events-test.true c.event-item.is)))
          (but-later _ _ _ (held ++ done) line c.events.page.held c.put_line.new.page.held c.events.invariant.put c.in-Ok.ensures.ok);
      same = c.in-Ok.ensures.same (λ e. cc) ∙ c.events.invariant.same;
    }
