use Rattle.gr_node.specs.Seen.{seen}
use Rattle.gr_node.proofs.Wending.{all_made}
use Rattle.gr_node.proofs.OneTurn.{went_flushed}
use Rattle.gr_node.proofs.turning.take_written.Goals as goal

pub returns-in-Ok-clause-went : goal.returns-in-Ok-clause-went
returns-in-Ok-clause-went g c =
    let t = c.args.site.now.topo.now in
    let hosted = c.args.site.now.hosted.now in
    went_flushed t hosted g.P.Post.tells _ _ (seen c.take_request.new.node) _ (g.K.Sink.taken c.take_request.new.sink) (g.K.Sink.taken c.flush.new.sink) c.take_request.new.page.held c.flush.new.self.held (g.P.Post.journal c.take_request.new.post) c.flush.result
    (all_made t hosted g.P.Post.tells _ _ (seen c.take_request.new.node) _ _ _ c.in-Ok.ensures.went) c.flush.ensures.taken c.flush.ensures.emptied c.flush.ensures.front c.flush.ensures.only
