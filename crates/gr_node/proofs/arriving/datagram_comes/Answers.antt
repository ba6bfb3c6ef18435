use Rattle.std.proofs.Common.{[], ◌∷◌, refl, sym, ◌∙◌}
use Rattle.gr_model.specs.NetOf.{net_of}
use Rattle.gr_node.specs.Seen.{seen}
use Rattle.gr_node.specs.Plan.{settles, datagram_acts}
use Rattle.gr_node.proofs.Keeping.{if_ok, serving_then}
use Rattle.gr_node.proofs.Lasting.{acts_same}
use Rattle.gr_node.proofs.Wending.{made_none, all_made, went_cut, went_settled, turn_not_post}
use Rattle.gr_node.proofs.OneTurn.{went_flushed, went_elsewhere, went_here, kept_here}
use Rattle.gr_node.proofs.arriving.datagram_comes.Goals as goal

pub settle-requires : goal.settle-requires
settle-requires g c = c.in-Ok.ensures.serving.set.orders

pub returns-then-not-is_among-clause-went : goal.returns-then-not-is_among-clause-went
returns-then-not-is_among-clause-went g c = λ left.
    let t = c.args.site.now.topo.now in
    let hosted = c.args.site.now.hosted.now in
    let n = seen c.args.node.now in
    went_elsewhere t hosted g.P.Post.tells c.args.b c.args.bytes.now c.args.moment left n n _ _ c.flush.result (sym c.is_among.ensures ∙ c.if-not-is_among.true)
    (went_flushed t hosted g.P.Post.tells _ n n _ (g.K.Sink.taken c.args.sink.now) (g.K.Sink.taken c.flush.new.sink) c.args.page.now.held c.flush.new.self.held (g.P.Post.journal c.args.post.now) c.flush.result
    (made_none t hosted g.P.Post.tells n n _ _ refl refl refl refl) c.flush.ensures.taken c.flush.ensures.emptied c.flush.ensures.front c.flush.ensures.only)

pub returns-in-Ok-clause-went : goal.returns-in-Ok-clause-went
returns-in-Ok-clause-went g c = λ left.
    let t = c.args.site.now.topo.now in
    let hosted = c.args.site.now.hosted.now in
    let m = seen c.take_datagram.new.node in
    went_here t hosted g.P.Post.tells c.args.b c.args.bytes.now c.args.moment c.last_tick-node.result left (seen c.args.node.now) (seen c.settle.new.node) _ _ c.settle.result (sym c.is_among.ensures ∙ c.if-not-is_among.false) c.last_tick-node.ensures
    (went_settled t hosted g.P.Post.tells (datagram_acts (net_of t) c.args.b c.args.bytes.now) _ m (seen c.settle.new.node) _ (g.K.Sink.taken c.take_datagram.new.sink) (g.K.Sink.taken c.settle.new.sink) c.take_datagram.new.page.held c.settle.new.page.held (g.P.Post.journal c.take_datagram.new.post) c.settle.result
    (all_made t hosted g.P.Post.tells _ _ m _ _ _ c.in-Ok.ensures.went) c.settle.ensures.node c.settle.ensures.told c.settle.ensures.emptied c.settle.ensures.front c.settle.ensures.puts.cause)

pub returns-in-Err-clause-went : goal.returns-in-Err-clause-went
returns-in-Err-clause-went g c = λ left.
    let t = c.args.site.now.topo.now in
    let hosted = c.args.site.now.hosted.now in
    let m = seen c.take_datagram.new.node in
    went_here t hosted g.P.Post.tells c.args.b c.args.bytes.now c.args.moment c.last_tick-node.result left (seen c.args.node.now) m _ _ _ (sym c.is_among.ensures ∙ c.if-not-is_among.false) c.last_tick-node.ensures
    (went_cut t hosted g.P.Post.tells (datagram_acts (net_of t) c.args.b c.args.bytes.now) (settles ∷ []) _ m _ _ c.in-Err.fault (turn_not_post c.in-Err.fault c.in-Err.ensures.cause) c.in-Err.ensures.went)

pub returns-in-Ok-clause-serving : goal.returns-in-Ok-clause-serving
returns-in-Ok-clause-serving g c =
    serving_then c.args.site.now.topo.now c.args.site.now.hosted.now g.D.Disk.tells (g.D.Disk.lane_of c.take_datagram.new.disk) (seen c.take_datagram.new.node) (seen c.settle.new.node) c.settle.result c.settle.ensures.node c.in-Ok.ensures.serving

pub returns-then-not-is_among-clause-serving : goal.returns-then-not-is_among-clause-serving
returns-then-not-is_among-clause-serving g c = if_ok c.flush.result c.requires.serving

pub returns-then-not-is_among-clause-bytes : goal.returns-then-not-is_among-clause-bytes
returns-then-not-is_among-clause-bytes g c = λ i. (c.type_inv.bytes i).fits

pub returns-in-Ok-clause-bytes : goal.returns-in-Ok-clause-bytes
returns-in-Ok-clause-bytes g c = λ i. (c.type_inv.bytes i).fits

pub returns-in-Err-clause-bytes : goal.returns-in-Err-clause-bytes
returns-in-Err-clause-bytes g c = λ i. (c.type_inv.bytes i).fits

pub returns-then-not-is_among-clause-kept : goal.returns-then-not-is_among-clause-kept
returns-then-not-is_among-clause-kept g c = λ tells left. acts_same c.args.site.now.topo.now c.args.site.now.hosted.now _ _ (g.D.Disk.lane_of c.args.disk.now)

pub returns-in-Ok-clause-kept : goal.returns-in-Ok-clause-kept
returns-in-Ok-clause-kept g c = λ tells left.
    kept_here c.args.site.now.topo.now c.args.site.now.hosted.now c.args.b c.args.bytes.now c.args.moment c.last_tick-node.result left (seen c.args.node.now) (g.D.Disk.lane_of c.args.disk.now) (g.D.Disk.lane_of c.take_datagram.new.disk)
    (sym c.is_among.ensures ∙ c.if-not-is_among.false) c.last_tick-node.ensures (c.in-Ok.ensures.kept tells)

pub returns-in-Err-clause-kept : goal.returns-in-Err-clause-kept
returns-in-Err-clause-kept g c = λ tells left.
    kept_here c.args.site.now.topo.now c.args.site.now.hosted.now c.args.b c.args.bytes.now c.args.moment c.last_tick-node.result left (seen c.args.node.now) (g.D.Disk.lane_of c.args.disk.now) (g.D.Disk.lane_of c.take_datagram.new.disk)
    (sym c.is_among.ensures ∙ c.if-not-is_among.false) c.last_tick-node.ensures (c.in-Err.ensures.kept tells)
