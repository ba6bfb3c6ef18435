use Rattle.std.proofs.Common.{◌≡◌, ◌+◌, suc, true, ap, ◌∙◌, sym, subst, arith, add-one}
use Rattle.gr_out.specs.Lane.{Lane, with_stop, stop_at}
use Rattle.gr_broker.specs.Lanes.{log_lane}
use Rattle.gr_world.proofs.Both.{both_changed, others_same}
use Rattle.gr_world.proofs.pair.stop_both.Goals as goal

pub stop_after-requires : goal.stop_after-requires
stop_after-requires g c = record {
  reserved = λ t. subst (λ n. (g.D.Disk.lane_of c.args.disk.now n).reserved ≡ true) (sym c.log_lane-lane.ensures) c.requires.reserved.first;
}

pub stop_after-requires-2 : goal.stop_after-requires-2
stop_after-requires-2 g c =
    let m = c.log_lane-lane.result in
    record {
      reserved = λ t.
          ap (λ (x : Lane). x.reserved) (c.stop_after.ensures.others g.met.D.SimDisk.told (m + 1) (λ e. omega (arith, e)))
          ∙ subst (λ n. (g.D.Disk.lane_of c.args.disk.now n).reserved ≡ true) (sym (add-one m ∙ ap suc c.log_lane-lane.ensures)) c.requires.reserved.second;
    }

pub returns-clause-both : goal.returns-clause-both
returns-clause-both g c =
    let told = g.met.D.SimDisk.told in
    both_changed (with_stop (stop_at c.args.calls c.args.pick)) (g.D.Disk.lane_of c.args.disk.now) (g.D.Disk.lane_of c.stop_after.new.self) (g.D.Disk.lane_of c.stop_after-2.new.self) (log_lane c.args.publisher) c.log_lane-lane.result
    c.log_lane-lane.ensures (c.stop_after.ensures.stop told) (c.stop_after.ensures.others told) (c.stop_after-2.ensures.stop told) (c.stop_after-2.ensures.others told)

pub returns-clause-others : goal.returns-clause-others
returns-clause-others g c =
    let told = g.met.D.SimDisk.told in
    others_same (with_stop (stop_at c.args.calls c.args.pick)) (g.D.Disk.lane_of c.args.disk.now) (g.D.Disk.lane_of c.stop_after.new.self) (g.D.Disk.lane_of c.stop_after-2.new.self) (log_lane c.args.publisher) c.log_lane-lane.result
    c.log_lane-lane.ensures (c.stop_after.ensures.others told) (c.stop_after-2.ensures.others told)
