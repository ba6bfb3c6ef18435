use Rattle.std.proofs.Common.{◌++◌, List, ap}
use Rattle.gr_out.proofs.Fronts.{front-held, taken-whole, on_fault, on_success}
use Rattle.gr_model.specs.Orders.{Order, ordered}
use Rattle.gr_node.specs.Seen.{NodeView, seen, text_of}
use Rattle.gr_node.proofs.Keeping.{if_ok}
use Rattle.gr_node.proofs.ordering.settle.Goals as goal

pub returns-in-Ok-clause-told : goal.returns-in-Ok-clause-told
returns-in-Ok-clause-told g c =
    let text = c.args.page.now.held ++ text_of c.args.site.now.topo.now (ordered (seen c.args.node.now).orders) in
    on_success c.flush.result
    (λ e. taken-whole (g.K.Sink.taken c.args.sink.now) (g.K.Sink.taken c.put_ordered.new.sink) (g.K.Sink.taken c.flush.new.sink) text c.put_ordered.new.page.held c.in-Ok.ensures.told e) c.flush.ensures.taken

pub returns-in-Ok-clause-front : goal.returns-in-Ok-clause-front
returns-in-Ok-clause-front g c =
    let text = c.args.page.now.held ++ text_of c.args.site.now.topo.now (ordered (seen c.args.node.now).orders) in
    on_fault c.flush.result
    (λ f. front-held (g.K.Sink.taken c.args.sink.now) (g.K.Sink.taken c.put_ordered.new.sink) (g.K.Sink.taken c.flush.new.sink) text c.put_ordered.new.page.held c.in-Ok.ensures.told f) c.flush.ensures.front

pub returns-in-Ok-clause-node : goal.returns-in-Ok-clause-node
returns-in-Ok-clause-node g c =
    let n = seen c.args.node.now in
    let with_lists : List Order → NodeView = λ os. record { brokers = n.brokers; offers = n.offers; now = n.now; orders = os } in
    if_ok c.flush.result (ap with_lists c.in-Ok.ensures.left)
