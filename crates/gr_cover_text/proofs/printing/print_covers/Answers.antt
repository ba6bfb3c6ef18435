use Rattle.std.proofs.Common.{◌++◌, subst}
use Rattle.gr_out.specs.Page.{TakesFront}
use Rattle.gr_out.proofs.Fronts.{front-held, on_fault}
use Rattle.gr_cover_text.specs.Covers.{covered_text}
use Rattle.gr_cover_text.proofs.printing.print_covers.Goals as goal

pub returns-in-Ok-put_all-clause-front : goal.returns-in-Ok-put_all-clause-front
returns-in-Ok-put_all-clause-front g c =
    let text = covered_text c.args.filters.now in
    on_fault c.flush.result
    (λ f. subst (λ held. TakesFront (g.K.Sink.taken c.args.sink.now) (g.K.Sink.taken c.flush.new.sink) (held ++ text)) c.in-Ok.ensures.empty
    (front-held _ _ _ (c.in-Ok.page.held ++ text) c.put_all.new.page.held c.in-Ok-put_all.ensures.ok f))
    c.flush.ensures.front
