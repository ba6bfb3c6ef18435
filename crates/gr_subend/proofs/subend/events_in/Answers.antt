use Rattle.std.proofs.Common.{◌≤◌, ◌<◌, ◌^◌, length, arith}
use Rattle.gr_subend.specs.Horizon.{data_of_run}
use Rattle.gr_subend.proofs.Handing.{run_more, all_runs}
use Rattle.gr_subend.proofs.subend.events_in.Goals as goal

pub loop-i-preserved : goal.loop-i-preserved
loop-i-preserved c =
    let lt : c.loop-i.i < length c.args.piece.now = omega arith in
    run_more (data_of_run 0 (2 ^ 62)) c.args.piece.now c.loop-i.i c.run.result.now c.loop-i.deliveries c.put_run.new.deliveries _ lt c.run.ensures.run c.in_ok-put_run.ensures c.loop-i.invariant

pub returns : goal.returns
returns c =
    let le : length c.args.piece.now ≤ c.loop-i.i = omega arith in
    all_runs c.args.piece.now c.loop-i.i c.loop-i.deliveries le c.loop-i.invariant
