use Rattle.std.proofs.Common.{[]}
use Rattle.gr_node.specs.Seen.{seen}
use Rattle.gr_node.specs.Went.{outside}
use Rattle.gr_node.proofs.Ended.{started_wrote, same_err}
use Rattle.gr_node.proofs.service.open_hosted.Goals as goal

pub returns-clause-started : goal.returns-clause-started
returns-clause-started g c =
    started_wrote c.args.site.now.topo.now c.args.site.now.hosted.now (seen c.start_hosted-done.new.node) (outside (g.K.Sink.taken c.args.sink.now) c.args.page.now.held [])
    (g.K.Sink.taken c.start_hosted-done.new.sink) (g.K.Sink.taken c.finish.new.sink) c.start_hosted-done.new.page.held c.finish.new.page.held c.start_hosted-done.result c.finish.result
    c.start_hosted-done.ensures.never_post c.start_hosted-done.ensures.started c.finish.ensures.wrote

pub returns-clause-damaged : goal.returns-clause-damaged
returns-clause-damaged g c = λ tells p at e. c.start_hosted-done.ensures.damaged tells p at (same_err _ _ _ _ _ _ _ c.finish.ensures.wrote _ (λ is. cc) e)

pub returns-clause-damaged_here : goal.returns-clause-damaged_here
returns-clause-damaged_here g c = λ p at e. c.start_hosted-done.ensures.damaged_here p at (same_err _ _ _ _ _ _ _ c.finish.ensures.wrote _ (λ is. cc) e)
