use Rattle.std.proofs.Common.{ap, ◌∙◌}
use Rattle.gr_world.proofs.Again.{crashes_next}
use Rattle.gr_world.proofs.Answering.{faultless_on}
use Rattle.gr_world.proofs.starting.crash_lanes.Goals as goal

pub publishers-preserved : goal.publishers-preserved
publishers-preserved g c =
    let sofar = c.publishers.invariant in
    let here = c.crash_log.ensures in
    record {
      crashes = crashes_next c.args.topology.now c.args.b c.publishers.p (g.D.Disk.lane_of c.args.disk.now) (g.D.Disk.lane_of c.publishers.disk) (g.D.Disk.lane_of c.crash_log.new.disk)
          sofar.crashes here.here (λ n k. ap (λ d. g.D.Disk.lane_of d k) (here.elsewhere n)) here.others;
      counts = record {
        faults_same = here.counts.faults_same ∙ sofar.counts.faults_same;
        stops_same = here.counts.stops_same ∙ sofar.counts.stops_same;
        faultless_stays = faultless_on (g.D.Disk.faultless c.args.disk.now) (g.D.Disk.faultless c.publishers.disk) (g.D.Disk.faultless c.crash_log.new.disk) (g.D.Disk.faults c.args.disk.now) (g.D.Disk.faults c.publishers.disk) (g.D.Disk.faults c.crash_log.new.disk) sofar.counts.faultless_stays here.counts.faultless_stays;
      };
    }
