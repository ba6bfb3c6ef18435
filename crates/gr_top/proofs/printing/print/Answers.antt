use Rattle.gr_out.proofs.Fronts.{front-take}
use Rattle.gr_top.proofs.printing.print.Goals as goal

pub returns-in-Err-clause-front : goal.returns-in-Err-clause-front
returns-in-Err-clause-front g c = λ e. let x = c.in-Err.ensures.err in front-take (g.K.Sink.taken c.args.sink.now) (g.K.Sink.taken c.write_all.new.sink) c.args.bytes.now x.0 x.2
