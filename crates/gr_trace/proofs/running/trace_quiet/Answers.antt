use Rattle.std.proofs.Common.{◌++◌, drop, refl, ap, ◌∙◌}
use Rattle.gr_out.specs.Page.{PageView}
use Rattle.gr_journal.specs.Lines.{arrival_text}
use Rattle.gr_journal.specs.declared.arrival.Arrival.TheVariants.{Quiet}
use Rattle.gr_model.specs.NetOf.{net_of}
use Rattle.gr_model.specs.Arrivals.{quiet, requests_of}
use Rattle.gr_node.specs.Seen.{seen}
use Rattle.gr_node.specs.Done.{at_arrival}
use Rattle.gr_node.proofs.Lasting.{acts_same}
use Rattle.gr_trace.proofs.Coming.{ok_from, moves_from, cause_from, between_of, wrote_came, wrote_unput}
use Rattle.gr_trace.proofs.running.trace_quiet.Goals as goal

pub returns-in-Err-clause-wrote : goal.returns-in-Err-clause-wrote
returns-in-Err-clause-wrote g c =
    wrote_unput c.args.site.now.topo.now c.args.site.now.hosted.now g.P.Post.tells _ (at_arrival c.args.site.now.hosted.now (seen c.args.node.now) (quiet c.args.moment)) (seen c.args.node.now) _ (g.K.Sink.taken c.args.sink.now) (g.P.Post.journal c.args.post.now)

pub returns-in-Err-clause-kept : goal.returns-in-Err-clause-kept
returns-in-Err-clause-kept g c = λ tells. acts_same c.args.site.now.topo.now c.args.site.now.hosted.now _ _ (g.D.Disk.lane_of c.args.disk.now)

pub returns-clause-wrote : goal.returns-clause-wrote
returns-clause-wrote g c =
    let t = c.args.site.now.topo.now in
    let hosted = c.args.site.now.hosted.now in
    let a = quiet c.args.moment in
    wrote_came t hosted c.brokers.ensures.topology g.P.Post.tells (requests_of (net_of t) hosted (drop c.args.next c.args.steps.now)) a refl (at_arrival hosted (seen c.args.node.now) a) (seen c.take_quiet-done.new.node) c.take_quiet-done.new.gathered c.push_quiet.new.text
    (g.K.Sink.taken c.args.sink.now) (g.K.Sink.taken c.write_gathered.new.sink) (g.P.Post.journal c.args.post.now) (g.P.Post.journal c.write_gathered.new.post) c.take_quiet-done.result c.write_gathered.result
    (c.in-Ok.ensures t ∙ (ap (λ (p : PageView). p.held ++ arrival_text t (Quiet c.min.result)) c.page.view_is ∙ (ap (λ held. held ++ arrival_text t (Quiet c.min.result)) c.requires.between.written ∙ ap (λ moment. arrival_text t (Quiet moment)) c.min.ensures)))
    c.write_gathered.ensures.writes c.take_quiet-done.ensures.cause c.take_quiet-done.ensures.went

pub returns-clause-between : goal.returns-clause-between
returns-clause-between g c =
    let written = c.write_gathered.ensures in
    between_of c.args.site.now.topo.now c.args.site.now.hosted.now g.D.Disk.tells (g.D.Disk.lane_of c.take_quiet-done.new.disk) (seen c.take_quiet-done.new.node) c.write_gathered.new.gathered c.write_gathered.new.page.held c.write_gathered.result
    (ok_from c.take_quiet-done.result c.write_gathered.result _ written.writes.same c.take_quiet-done.ensures.serving) written.empty written.written

pub returns-clause-keeps : goal.returns-clause-keeps
returns-clause-keeps g c = record {
  others = c.take_quiet-done.ensures.keeps.others;
  disk_moves = moves_from _ _ _ _ c.take_quiet-done.result c.write_gathered.result c.write_gathered.ensures.writes.same c.take_quiet-done.ensures.keeps.disk_moves;
  sink_moves = c.write_gathered.ensures.sink;
  post_same = c.write_gathered.ensures.post;
}

pub returns-clause-cause : goal.returns-clause-cause
returns-clause-cause g c = cause_from c.take_quiet-done.result c.write_gathered.result c.take_quiet-done.ensures.cause c.write_gathered.ensures.cause
