use Rattle.gr_out.specs.declared.fault.RunFault.TheVariants as run
use Rattle.gr_node.specs.Seen.{seen}
use Rattle.gr_trace.proofs.InMemory.{ok_end, opens_end, moves_end, fault_end}
use Rattle.gr_trace.proofs.gathering.open.Goals as goal

-- The lines that were on their way are told as well.

pub returns-clause-opens : goal.returns-clause-opens
returns-clause-opens g c = λ x.
    let before = c.start_and_settle-done in
    opens_end c.args.site.now.topo.now c.args.site.now.hosted.now g.D.Disk.tells (seen before.new.node) (g.D.Disk.lane_of c.args.disk.now) before.result c.finish.result before.new.lines.held before.new.page.held c.finish.new.lines.held c.finish.new.page.held
    c.finish.ensures before.ensures.opens x

pub returns-clause-serving : goal.returns-clause-serving
returns-clause-serving g c = ok_end c.start_and_settle-done.result c.finish.result _ _ _ _ _ c.finish.ensures c.start_and_settle-done.ensures.serving

pub returns-clause-starts : goal.returns-clause-starts
returns-clause-starts g c =
    let before = c.start_and_settle-done in
    let starts = before.ensures.starts in
    let ends = c.finish.ensures in
    record {
      keeps = record {
        others = starts.keeps.others;
        disk_moves = moves_end _ _ _ _ before.result c.finish.result _ _ _ _ ends starts.keeps.disk_moves;
      };
      kept = starts.kept;
      damaged = λ tells p at e. starts.damaged tells p at (fault_end before.result c.finish.result _ _ _ _ (run.Damaged p at) (λ is. cc) ends e);
      damaged_here = λ p at e. starts.damaged_here p at (fault_end before.result c.finish.result _ _ _ _ (run.Damaged p at) (λ is. cc) ends e);
      never_post = λ e. starts.never_post (fault_end before.result c.finish.result _ _ _ _ run.Post (λ is. cc) ends e);
    }
