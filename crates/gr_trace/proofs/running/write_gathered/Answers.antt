use Rattle.std.proofs.Common.{refl}
use Rattle.gr_trace.proofs.Putting.{if_ok, own_fault, sink_still, writes_nothing, writes_cut, writes_unsent, writes_all}
use Rattle.gr_trace.proofs.running.write_gathered.Goals as goal

pub returns-then-not-is_known-clause-writes : goal.returns-then-not-is_known-clause-writes
returns-then-not-is_known-clause-writes g c =
    writes_nothing c.args.topo.now g.P.Post.tells c.args.gathered.now c.args.page.now.held c.args.done (g.K.Sink.taken c.args.sink.now) (g.P.Post.journal c.args.post.now) _ refl

pub returns-in-Err-clause-writes : goal.returns-in-Err-clause-writes
returns-in-Err-clause-writes g c =
    writes_nothing c.args.topo.now g.P.Post.tells c.args.gathered.now c.args.page.now.held c.args.done (g.K.Sink.taken c.args.sink.now) (g.P.Post.journal c.args.post.now) c.in-Err.fault c.in-Err.ensures.cause

pub returns-in-Err-flush-clause-writes : goal.returns-in-Err-flush-clause-writes
returns-in-Err-flush-clause-writes g c =
    writes_cut c.args.topo.now g.P.Post.tells c.args.gathered.now c.args.page.now.held c.args.done (g.K.Sink.taken c.args.sink.now) (g.P.Post.journal c.args.post.now)
    (c.is_known.ensures.yes c.if-not-is_known.false) c.is_ok.result c.put_gathered.new.page.held c.is_ok.ensures.value c.in-Ok.ensures.put
    (g.K.Sink.taken c.flush.new.sink) c.in-Err-flush.fault c.in-Err-flush.ensures.only c.in-Err-flush.ensures.front

pub returns-in-Err-offer_all-clause-writes : goal.returns-in-Err-offer_all-clause-writes
returns-in-Err-offer_all-clause-writes g c =
    writes_unsent c.args.topo.now g.P.Post.tells c.args.gathered.now c.args.page.now.held c.args.done (g.K.Sink.taken c.args.sink.now) (g.P.Post.journal c.args.post.now)
    (c.is_known.ensures.yes c.if-not-is_known.false) c.is_ok.result c.put_gathered.new.page.held c.is_ok.ensures.value c.in-Ok.ensures.put
    (g.K.Sink.taken c.flush.new.sink) (g.P.Post.journal c.offer_all.new.post) c.as_slice.result.now c.in-Err-offer_all.fault c.in-Err-offer_all.ensures.cause c.in-Ok-flush.ensures.taken c.as_slice.ensures c.in-Err-offer_all.ensures.front

pub returns-clause-writes : goal.returns-clause-writes
returns-clause-writes g c =
    writes_all c.args.topo.now g.P.Post.tells c.args.gathered.now c.args.page.now.held c.args.done (g.K.Sink.taken c.args.sink.now) (g.P.Post.journal c.args.post.now)
    (c.is_known.ensures.yes c.if-not-is_known.false) c.is_ok.result c.put_gathered.new.page.held c.is_ok.ensures.value c.in-Ok.ensures.put
    (g.K.Sink.taken c.flush.new.sink) (g.P.Post.journal c.offer_all.new.post) c.as_slice.result.now c.in-Ok-flush.ensures.taken c.as_slice.ensures c.in-Ok-offer_all.ensures.sent

pub returns-clause-empty : goal.returns-clause-empty
returns-clause-empty g c = if_ok c.args.done c.clear.ensures

pub returns-clause-written : goal.returns-clause-written
returns-clause-written g c = if_ok c.args.done c.in-Ok-flush.ensures.emptied

pub returns-clause-cause : goal.returns-clause-cause
returns-clause-cause g c = own_fault c.args.done

pub returns-clause-sink : goal.returns-clause-sink
returns-clause-sink g c = sink_still _ _ c.args.done (c.is_known.ensures.yes c.if-not-is_known.false) (c.in-Ok-flush.ensures.same (λ e. cc))
