use Rattle.std.proofs.Common.{sym, subst, ◌∙◌}
use Rattle.gr_model.specs.declared.report.Report.TheVariants as line
use Rattle.gr_model.specs.NetOf.{net_of}
use Rattle.gr_node.specs.Seen.{seen}
use Rattle.gr_node.specs.Went.{outside, Went}
use Rattle.gr_node.specs.Lasting.{ActsKeep}
use Rattle.gr_node.proofs.Keeping.{if_ok}
use Rattle.gr_node.proofs.Lasting.{acts_same}
use Rattle.gr_node.proofs.Wending.{went_dropped, put_fault}
use Rattle.gr_node.proofs.Notes.{taken_by, taken_in, not_taken, next_dropped, spent_dropped, here_below, here_at}
use Rattle.gr_node.proofs.noting.take_read.Goals as goal

pub submit-requires-clause-publisher : goal.submit-requires-clause-publisher
submit-requires-clause-publisher g c =
    (taken_by (net_of c.args.site.now.topo.now) c.args.b c.in-Submit.publisher (sym c.takes_notes.ensures ∙ c.if-takes_notes.true)).0

pub submit-requires-clause-here : goal.submit-requires-clause-here
submit-requires-clause-here g c =
    here_at (seen c.args.node.now) _ c.args.b (taken_by (net_of c.args.site.now.topo.now) c.args.b c.in-Submit.publisher (sym c.takes_notes.ensures ∙ c.if-takes_notes.true)).1 c.requires.here

pub put_stray-requires : goal.put_stray-requires
put_stray-requires g c = here_below c.args.site.now.topo.now (seen c.args.node.now) c.args.b c.requires.serving.set.fits c.requires.here

pub returns-then-takes_notes-clause-went : goal.returns-then-takes_notes-clause-went
returns-then-takes_notes-clause-went g c =
    let t = c.args.site.now.topo.now in
    let hosted = c.args.site.now.hosted.now in
    subst (λ acts. Went t hosted g.P.Post.tells acts (seen c.args.node.now) (seen c.submit.new.node) (outside (g.K.Sink.taken c.args.sink.now) c.args.page.now.held (g.P.Post.journal c.args.post.now))
    (outside (g.K.Sink.taken c.submit.new.sink) c.submit.new.page.held (g.P.Post.journal c.submit.new.post)) c.submit.result)
    (sym (taken_in (net_of t) c.args.b c.in-Submit.publisher _ _ c.args.note.now c.in-Submit.is (sym c.takes_notes.ensures ∙ c.if-takes_notes.true))) c.submit.ensures.went

pub returns-else-takes_notes-clause-went : goal.returns-else-takes_notes-clause-went
returns-else-takes_notes-clause-went g c =
    let t = c.args.site.now.topo.now in
    let hosted = c.args.site.now.hosted.now in
    let n = seen c.args.node.now in
    let journal = g.P.Post.journal c.args.post.now in
    let taken = g.K.Sink.taken c.args.sink.now in
    let taken' = g.K.Sink.taken c.put_stray.new.sink in
    subst (λ acts. Went t hosted g.P.Post.tells acts n n (outside taken c.args.page.now.held journal) (outside taken' c.put_stray.new.page.held journal) c.put_stray.result)
    (sym (not_taken (net_of t) c.args.b c.in-Submit.publisher _ _ c.args.note.now c.in-Submit.is (sym c.takes_notes.ensures ∙ c.if-takes_notes.false)))
    (went_dropped t hosted g.P.Post.tells (line.DroppedStrayNote c.args.b c.in-Submit.publisher) n taken taken' c.args.page.now.held c.put_stray.new.page.held journal c.put_stray.result c.put_stray.ensures.told c.put_stray.ensures.front c.put_stray.ensures.puts.cause)

pub returns-else-takes_notes-clause-serving : goal.returns-else-takes_notes-clause-serving
returns-else-takes_notes-clause-serving g c = if_ok c.put_stray.result c.requires.serving

pub returns-else-takes_notes-clause-cause : goal.returns-else-takes_notes-clause-cause
returns-else-takes_notes-clause-cause g c = put_fault c.put_stray.result c.put_stray.ensures.puts.cause

pub returns-in-Next-clause-went : goal.returns-in-Next-clause-went
returns-in-Next-clause-went g c =
    let t = c.args.site.now.topo.now in
    let hosted = c.args.site.now.hosted.now in
    let n = seen c.args.node.now in
    let journal = g.P.Post.journal c.args.post.now in
    let taken = g.K.Sink.taken c.args.sink.now in
    let taken' = g.K.Sink.taken c.put_stray-in-Next.new.sink in
    subst (λ acts. Went t hosted g.P.Post.tells acts n n (outside taken c.args.page.now.held journal) (outside taken' c.put_stray-in-Next.new.page.held journal) c.put_stray-in-Next.result)
    (sym (next_dropped (net_of t) c.args.b c.in-Next.publisher _ c.args.note.now c.in-Next.is))
    (went_dropped t hosted g.P.Post.tells (line.DroppedStrayNote c.args.b c.in-Next.publisher) n taken taken' c.args.page.now.held c.put_stray-in-Next.new.page.held journal c.put_stray-in-Next.result c.put_stray-in-Next.ensures.told c.put_stray-in-Next.ensures.front c.put_stray-in-Next.ensures.puts.cause)

pub returns-in-Next-clause-serving : goal.returns-in-Next-clause-serving
returns-in-Next-clause-serving g c = if_ok c.put_stray-in-Next.result c.requires.serving

pub returns-in-Next-clause-cause : goal.returns-in-Next-clause-cause
returns-in-Next-clause-cause g c = put_fault c.put_stray-in-Next.result c.put_stray-in-Next.ensures.puts.cause

pub returns-in-Spent-clause-went : goal.returns-in-Spent-clause-went
returns-in-Spent-clause-went g c =
    let t = c.args.site.now.topo.now in
    let hosted = c.args.site.now.hosted.now in
    let n = seen c.args.node.now in
    let journal = g.P.Post.journal c.args.post.now in
    let taken = g.K.Sink.taken c.args.sink.now in
    let taken' = g.K.Sink.taken c.put_stray-in-Spent.new.sink in
    subst (λ acts. Went t hosted g.P.Post.tells acts n n (outside taken c.args.page.now.held journal) (outside taken' c.put_stray-in-Spent.new.page.held journal) c.put_stray-in-Spent.result)
    (sym (spent_dropped (net_of t) c.args.b c.in-Spent.publisher c.args.note.now c.in-Spent.is))
    (went_dropped t hosted g.P.Post.tells (line.DroppedStrayNote c.args.b c.in-Spent.publisher) n taken taken' c.args.page.now.held c.put_stray-in-Spent.new.page.held journal c.put_stray-in-Spent.result c.put_stray-in-Spent.ensures.told c.put_stray-in-Spent.ensures.front c.put_stray-in-Spent.ensures.puts.cause)

pub returns-in-Spent-clause-serving : goal.returns-in-Spent-clause-serving
returns-in-Spent-clause-serving g c = if_ok c.put_stray-in-Spent.result c.requires.serving

pub returns-in-Spent-clause-cause : goal.returns-in-Spent-clause-cause
returns-in-Spent-clause-cause g c = put_fault c.put_stray-in-Spent.result c.put_stray-in-Spent.ensures.puts.cause

pub returns-then-takes_notes-clause-kept : goal.returns-then-takes_notes-clause-kept
returns-then-takes_notes-clause-kept g c = λ tells.
    let t = c.args.site.now.topo.now in
    subst (λ acts. ActsKeep t c.args.site.now.hosted.now (seen c.args.node.now) acts (g.D.Disk.lane_of c.args.disk.now) (g.D.Disk.lane_of c.submit.new.disk))
    (sym (taken_in (net_of t) c.args.b c.in-Submit.publisher _ _ c.args.note.now c.in-Submit.is (sym c.takes_notes.ensures ∙ c.if-takes_notes.true))) (c.submit.ensures.kept tells)

pub returns-else-takes_notes-clause-kept : goal.returns-else-takes_notes-clause-kept
returns-else-takes_notes-clause-kept g c = λ tells. acts_same c.args.site.now.topo.now c.args.site.now.hosted.now (seen c.args.node.now) _ (g.D.Disk.lane_of c.args.disk.now)

pub returns-in-Next-clause-kept : goal.returns-in-Next-clause-kept
returns-in-Next-clause-kept g c = λ tells. acts_same c.args.site.now.topo.now c.args.site.now.hosted.now (seen c.args.node.now) _ (g.D.Disk.lane_of c.args.disk.now)

pub returns-in-Spent-clause-kept : goal.returns-in-Spent-clause-kept
returns-in-Spent-clause-kept g c = λ tells. acts_same c.args.site.now.topo.now c.args.site.now.hosted.now (seen c.args.node.now) _ (g.D.Disk.lane_of c.args.disk.now)
