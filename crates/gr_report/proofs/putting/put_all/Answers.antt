use Rattle.std.proofs.Common.{◌++◌, ◌+◌, take, drop, sym, ap, ◌∙◌, subst, append_assoc}
use Rattle.gr_model.specs.Text.{labels_of, report_text, whole_line}
use Rattle.gr_out.specs.Page.{TakesBut, TakesFront}
use Rattle.gr_out.proofs.Fronts.{front-later, front-more, but-later}
use Rattle.gr_report.proofs.Fronts.{text_more, text_cut}
use Rattle.gr_report.proofs.putting.put_all.Goals as goal

pub returns-in-Err-clause-front : goal.returns-in-Err-clause-front
returns-in-Err-clause-front g c =
    let labels = labels_of c.args.topology.now in
    let done = report_text labels (take c.lines.line-index c.args.lines.now) in
    let line = whole_line labels c.line-item.result in
    let rest = report_text labels (drop (c.lines.line-index + 1) c.args.lines.now) in
    let held = c.args.page.now.held in
    let front = front-more _ _ ((held ++ done) ++ line) rest (front-later _ _ _ (held ++ done) line c.lines.page.held c.lines.invariant.put c.in-Err.ensures.front) in
    subst (TakesFront (g.K.Sink.taken c.args.sink.now) (g.K.Sink.taken c.put_line.new.sink))
    (ap (λ xs. xs ++ rest) (append_assoc held done line) ∙ append_assoc held (done ++ line) rest ∙ ap (λ xs. held ++ xs) (sym (text_cut labels c.args.lines.now c.lines.line-index c.line-item.result c.lines-test.true c.line-item.is)))
    front

pub lines-preserved : goal.lines-preserved
lines-preserved g c =
    let labels = labels_of c.args.topology.now in
    let done = report_text labels (take c.lines.line-index c.args.lines.now) in
    let line = whole_line labels c.line-item.result in
    let held = c.args.page.now.held in
    record {
      put = subst (λ text. TakesBut (g.K.Sink.taken c.args.sink.now) (g.K.Sink.taken c.put_line.new.sink) text c.put_line.new.page.held)
          (append_assoc held done line ∙ ap (λ xs. held ++ xs) (sym (text_more labels c.args.lines.now c.lines.line-index c.line-item.result c.lines-test.true c.line-item.is)))
          (but-later _ _ _ (held ++ done) line c.lines.page.held c.put_line.new.page.held c.lines.invariant.put c.in-Ok.ensures.ok);
      same = c.in-Ok.ensures.same (λ e. cc) ∙ c.lines.invariant.same;
    }
