use Rattle.std.proofs.Common.{sym, ◌∙◌, subst}
use Rattle.gr_model.specs.NetOf.{net_of}
use Rattle.gr_node.specs.Seen.{seen}
use Rattle.gr_node.specs.Went.{outside, Went}
use Rattle.gr_node.specs.Lasting.{ActsKeep}
use Rattle.gr_node.proofs.Keeping.{serving_of}
use Rattle.gr_node.proofs.Lasting.{acts_same}
use Rattle.gr_node.proofs.Notes.{read_as_note, read_as_frame}
use Rattle.gr_node.proofs.Wending.{put_fault}
use Rattle.gr_node.proofs.noting.take_datagram.Goals as goal

pub returns-then-begins_note-clause-went : goal.returns-then-begins_note-clause-went
returns-then-begins_note-clause-went g c =
    let t = c.args.site.now.topo.now in
    subst (λ acts. Went t c.args.site.now.hosted.now g.P.Post.tells acts (seen c.args.node.now) (seen c.take_note.new.node) (outside (g.K.Sink.taken c.args.sink.now) c.args.page.now.held (g.P.Post.journal c.args.post.now))
    (outside (g.K.Sink.taken c.take_note.new.sink) c.take_note.new.page.held (g.P.Post.journal c.take_note.new.post)) c.take_note.result)
    (sym (read_as_note (net_of t) c.args.b c.args.bytes.now (sym c.begins_note.ensures ∙ c.if-begins_note.true))) c.take_note.ensures.went

pub returns-clause-went : goal.returns-clause-went
returns-clause-went g c =
    let t = c.args.site.now.topo.now in
    subst (λ acts. Went t c.args.site.now.hosted.now g.P.Post.tells acts (seen c.args.node.now) (seen c.receive.new.node) (outside (g.K.Sink.taken c.args.sink.now) c.args.page.now.held (g.P.Post.journal c.args.post.now))
    (outside (g.K.Sink.taken c.receive.new.sink) c.receive.new.page.held (g.P.Post.journal c.receive.new.post)) c.receive.result)
    (sym (read_as_frame (net_of t) c.args.b c.args.bytes.now (sym c.begins_note.ensures ∙ c.if-begins_note.false))) c.receive.ensures.went

pub returns-clause-serving : goal.returns-clause-serving
returns-clause-serving g c = serving_of _ _ _ _ _ c.receive.result c.receive.ensures.set (λ tells. c.receive.ensures.stands (g.D.Disk.lane_of c.args.disk.now) (c.requires.serving.stands tells))

pub returns-clause-cause : goal.returns-clause-cause
returns-clause-cause g c = put_fault c.receive.result c.receive.ensures.keeps.puts.cause

pub returns-then-begins_note-clause-kept : goal.returns-then-begins_note-clause-kept
returns-then-begins_note-clause-kept g c = λ tells.
    let t = c.args.site.now.topo.now in
    subst (λ acts. ActsKeep t c.args.site.now.hosted.now (seen c.args.node.now) acts (g.D.Disk.lane_of c.args.disk.now) (g.D.Disk.lane_of c.take_note.new.disk))
    (sym (read_as_note (net_of t) c.args.b c.args.bytes.now (sym c.begins_note.ensures ∙ c.if-begins_note.true))) (c.take_note.ensures.kept tells)

pub returns-clause-kept : goal.returns-clause-kept
returns-clause-kept g c = λ tells. acts_same c.args.site.now.topo.now c.args.site.now.hosted.now (seen c.args.node.now) _ (g.D.Disk.lane_of c.args.disk.now)
