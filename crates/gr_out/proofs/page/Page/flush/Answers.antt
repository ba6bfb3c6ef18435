use Rattle.std.proofs.Common.{◌≡◌, take, subst}
use Rattle.gr_out.specs.Bytes.{with_more}
use Rattle.gr_out.proofs.Fronts.{front-take}
use Rattle.gr_out.proofs.page.Page.flush.Goals as goal

pub returns-in-Err-clause-front : goal.returns-in-Err-clause-front
returns-in-Err-clause-front g c =
    let part = c.in-Err.ensures.err in
    let held : c.as_slice.result.now ≡ c.args.self.now.held = cc in
    front-take _ _ c.args.self.now.held part.0 (subst (λ xs. g.K.Sink.taken c.write_all.new.sink ≡ with_more (g.K.Sink.taken c.args.sink.now) (take part.0 xs)) held part.2)
