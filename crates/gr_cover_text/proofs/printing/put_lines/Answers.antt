use Rattle.std.proofs.Common.{suc, ◌++◌, length, sym, ap, ◌∙◌, subst, append_assoc, arith}
use Rattle.gr_out.specs.Page.{TakesBut, TakesFront}
use Rattle.gr_out.proofs.Fronts.{front-later, front-more, but-later}
use Rattle.gr_cover_text.specs.Covers.{pair_line, text_below}
use Rattle.gr_cover_text.proofs.Lines.{left_of, text_more, joined_left}
use Rattle.gr_cover_text.proofs.printing.put_lines.Goals as goal

pub returns-in-Err-clause-front : goal.returns-in-Err-clause-front
returns-in-Err-clause-front g c =
    let text = pair_line c.args.filters.now c.args.wide in
    let n = c.filters.narrow in
    let held = c.args.page.now.held in
    let left = left_of text (suc n) (length c.args.filters.now) (omega (arith, c.filters-test.true)) in
    let front = front-more _ _ ((held ++ text_below text n) ++ text n) left.rest (front-later _ _ _ (held ++ text_below text n) (text n) c.filters.page.held c.filters.invariant.put c.in-Err.ensures.front) in
    subst (TakesFront (g.K.Sink.taken c.args.sink.now) (g.K.Sink.taken c.put_pair.new.sink)) (joined_left text held n (length c.args.filters.now) left) front

pub filters-preserved : goal.filters-preserved
filters-preserved g c =
    let text = pair_line c.args.filters.now c.args.wide in
    let n = c.filters.narrow in
    let held = c.args.page.now.held in
    record {
      upto = omega arith;
      put = subst (λ x. TakesBut (g.K.Sink.taken c.args.sink.now) (g.K.Sink.taken c.put_pair.new.sink) x c.put_pair.new.page.held)
          (append_assoc held (text_below text n) (text n) ∙ ap (λ xs. held ++ xs) (sym (text_more text n)))
          (but-later _ _ _ (held ++ text_below text n) (text n) c.filters.page.held c.put_pair.new.page.held c.filters.invariant.put c.in-Ok.ensures.ok);
      same = c.in-Ok.ensures.keeps.same (λ e. cc) ∙ c.filters.invariant.same;
    }
