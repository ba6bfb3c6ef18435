use Rattle.std.proofs.Common.{◌∙◌, subst}
use Rattle.gr_out.specs.Page.{TakesFront}
use Rattle.gr_out.proofs.Fronts.{front-take}
use Rattle.gr_soak.proofs.running.soak.Goals as goal

pub returns-clause-front : goal.returns-clause-front
returns-clause-front g c =
    let x = c.in-Err-write_all.ensures.err in
    subst (TakesFront (g.K.Sink.taken c.args.sink.now) (g.K.Sink.taken c.write_all.new.sink)) (c.as_slice.ensures ∙ c.in-Ok.ensures)
    (front-take (g.K.Sink.taken c.args.sink.now) (g.K.Sink.taken c.write_all.new.sink) c.as_slice.result.now x.0 x.2)
