use Rattle.gr_out.specs.declared.fault.RunFault.TheVariants as run
use Rattle.gr_journal.specs.Lines.{process_text}
use Rattle.gr_node.specs.Seen.{seen}
use Rattle.gr_trace.proofs.Opening.{opening_unput, opening_of, nothing_sent}
use Rattle.gr_trace.proofs.Coming.{ok_from, err_from, moves_from, between_of}
use Rattle.gr_trace.proofs.tracing.trace_opening.Goals as goal

pub returns-in-Err-clause-opening : goal.returns-in-Err-clause-opening
returns-in-Err-clause-opening g c =
    opening_unput c.args.site.now.topo.now c.args.site.now.hosted.now g.D.Disk.tells (seen c.args.node.now) (process_text c.args.site.now.topo.now c.args.site.now.hosted.now) (g.K.Sink.taken c.args.sink.now) (g.D.Disk.lane_of c.args.disk.now) c.in-Err.fault c.in-Err.ensures.cause

pub returns-clause-opening : goal.returns-clause-opening
returns-clause-opening g c =
    let t = c.args.site.now.topo.now in
    let hosted = c.args.site.now.hosted.now in
    opening_of t hosted g.D.Disk.tells g.P.Post.tells (seen c.open-done.new.node) c.open-done.new.gathered c.open-done.ensures.offers (process_text t hosted) c.put_process.new.page.held c.in-Ok.ensures.put
    (g.K.Sink.taken c.args.sink.now) (g.K.Sink.taken c.write_gathered.new.sink) (g.P.Post.journal c.args.post.now) (g.P.Post.journal c.write_gathered.new.post) (g.D.Disk.lane_of c.args.disk.now)
    c.open-done.result c.write_gathered.result c.write_gathered.ensures.writes c.open-done.ensures.opens

pub returns-clause-between : goal.returns-clause-between
returns-clause-between g c =
    let written = c.write_gathered.ensures in
    between_of c.args.site.now.topo.now c.args.site.now.hosted.now g.D.Disk.tells (g.D.Disk.lane_of c.open-done.new.disk) (seen c.open-done.new.node) c.write_gathered.new.gathered c.write_gathered.new.page.held c.write_gathered.result
    (ok_from c.open-done.result c.write_gathered.result _ written.writes.same c.open-done.ensures.serving) written.empty written.written

pub returns-clause-starts : goal.returns-clause-starts
returns-clause-starts g c =
    let done = c.open-done.result in
    let starts = c.open-done.ensures.starts in
    let same = c.write_gathered.ensures.writes.same in
    record {
      keeps = record {
        others = starts.keeps.others;
        disk_moves = moves_from _ _ _ _ done c.write_gathered.result same starts.keeps.disk_moves;
      };
      kept = starts.kept;
      damaged = λ tells p at is. starts.damaged tells p at (err_from done c.write_gathered.result (run.Damaged p at) tt same is);
      damaged_here = λ p at is. starts.damaged_here p at (err_from done c.write_gathered.result (run.Damaged p at) tt same is);
      never_post = λ is. starts.never_post (err_from done c.write_gathered.result run.Post tt same is);
    }

pub returns-clause-unsent : goal.returns-clause-unsent
returns-clause-unsent g c = λ tells.
    let t = c.args.site.now.topo.now in
    let hosted = c.args.site.now.hosted.now in
    nothing_sent t hosted g.D.Disk.tells g.P.Post.tells (seen c.open-done.new.node) c.open-done.new.gathered c.open-done.ensures.offers (process_text t hosted) c.put_process.new.page.held c.in-Ok.ensures.put
    (g.K.Sink.taken c.args.sink.now) (g.K.Sink.taken c.write_gathered.new.sink) (g.P.Post.journal c.args.post.now) (g.P.Post.journal c.write_gathered.new.post) (g.D.Disk.lane_of c.args.disk.now)
    c.open-done.result c.write_gathered.result c.write_gathered.ensures.writes tells
