use Rattle.std.proofs.Common.{List, [], ◌∷◌, sym, ap, ◌∙◌, subst}
use Rattle.gr_model.specs.declared.report.Report.{Report}
use Rattle.gr_model.specs.NetOf.{net_of}
use Rattle.gr_node.specs.Seen.{seen}
use Rattle.gr_node.specs.Plan.{Act, drops, note_acts}
use Rattle.gr_node.specs.Went.{outside, Went}
use Rattle.gr_node.proofs.Keeping.{if_ok}
use Rattle.gr_node.proofs.Lasting.{acts_same}
use Rattle.gr_node.proofs.Wending.{went_dropped, went_memory}
use Rattle.gr_node.proofs.noting.take_note.Goals as goal

pub returns-in-Err-clause-went : goal.returns-in-Err-clause-went
returns-in-Err-clause-went g c =
    went_memory c.args.site.now.topo.now c.args.site.now.hosted.now g.P.Post.tells _ (seen c.args.node.now)
    (outside (g.K.Sink.taken c.args.sink.now) c.args.page.now.held (g.P.Post.journal c.args.post.now)) c.in-Err.fault c.in-Err.ensures.cause

pub returns-clause-went : goal.returns-clause-went
returns-clause-went g c =
    let t = c.args.site.now.topo.now in
    let hosted = c.args.site.now.hosted.now in
    let n = seen c.args.node.now in
    let journal = g.P.Post.journal c.args.post.now in
    let taken = g.K.Sink.taken c.args.sink.now in
    let taken' = g.K.Sink.taken c.put_line.new.sink in
    subst (λ (acts : List Act). Went t hosted g.P.Post.tells acts n n (outside taken c.args.page.now.held journal) (outside taken' c.put_line.new.page.held journal) c.put_line.result)
    (ap (λ (l : Report). drops l ∷ []) c.bad_note.ensures ∙ ap (note_acts (net_of t) c.args.b) (sym c.in-Err-read.is ∙ c.in-Ok.ensures.read))
    (went_dropped t hosted g.P.Post.tells c.bad_note.result n taken taken' c.args.page.now.held c.put_line.new.page.held journal c.put_line.result c.put_line.ensures.ok c.put_line.ensures.front c.put_line.ensures.only)

pub returns-clause-serving : goal.returns-clause-serving
returns-clause-serving g c = if_ok c.put_line.result c.requires.serving

pub returns-in-Err-clause-kept : goal.returns-in-Err-clause-kept
returns-in-Err-clause-kept g c = λ tells. acts_same c.args.site.now.topo.now c.args.site.now.hosted.now (seen c.args.node.now) _ (g.D.Disk.lane_of c.args.disk.now)

pub returns-clause-kept : goal.returns-clause-kept
returns-clause-kept g c = λ tells. acts_same c.args.site.now.topo.now c.args.site.now.hosted.now (seen c.args.node.now) _ (g.D.Disk.lane_of c.args.disk.now)
