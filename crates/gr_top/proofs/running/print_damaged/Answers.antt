use Rattle.std.proofs.Common.{Err, ap}
use Rattle.gr_out.proofs.Fronts.{front-take}
use Rattle.gr_top.specs.Serving.{damaged_line}
use Rattle.gr_top.proofs.running.print_damaged.Goals as goal

pub returns-in-Err-Write-clause-front : goal.returns-in-Err-Write-clause-front
returns-in-Err-Write-clause-front g c =
    λ cut. let x = c.in-Err-Write.ensures.write (ap (λ f. Err f) c.in-Err-Write.field-0-is) in
    front-take (g.K.Sink.taken c.args.sink.now) (g.K.Sink.taken c.put.new.sink) (damaged_line c.args.topo.now c.args.publisher c.args.at) x.0 x.2
