use Rattle.std.proofs.Common.{Ok, Err}
use Rattle.gr_out.specs.declared.fault.RunFault.TheVariants as run
use Rattle.gr_node.specs.Seen.{seen}
use Rattle.gr_trace.proofs.InMemory.{opens_all, opens_cut, started_empty, serving_settled, put_kind, moves_put}
use Rattle.gr_trace.proofs.gathering.start_and_settle.Goals as goal

pub settle-requires : goal.settle-requires
settle-requires g c = c.in-Ok.ensures.set.orders

pub returns-in-Ok-clause-opens : goal.returns-in-Ok-clause-opens
returns-in-Ok-clause-opens g c = λ exact.
    let t = c.args.site.now.topo.now in
    let hosted = c.args.site.now.hosted.now in
    let o = seen c.open_hosted.new.node in
    let before = c.in-Ok.ensures in
    opens_all {T = Unit {0}} t hosted g.D.Disk.tells o (seen c.settle.new.node) c.open_hosted.new.sink.held c.settle.new.sink.held c.open_hosted.new.page.held c.settle.new.page.held (g.D.Disk.lane_of c.args.disk.now) c.settle.result
    (λ u. started_empty {T = Unit {0}} t hosted o c.args.lines.now.held c.args.page.now.held c.open_hosted.new.sink.held (Ok u) c.requires.empty.1 c.requires.empty.0 before.started)
    before.offers before.now before.count before.found before.empty c.settle.ensures.told c.settle.ensures.emptied c.settle.ensures.node c.settle.ensures.puts.cause exact

pub returns-in-Ok-clause-serving : goal.returns-in-Ok-clause-serving
returns-in-Ok-clause-serving g c =
    serving_settled c.args.site.now.topo.now c.args.site.now.hosted.now g.D.Disk.tells (g.D.Disk.lane_of c.open_hosted.new.disk) (seen c.open_hosted.new.node) (seen c.settle.new.node) c.settle.result c.settle.ensures.node
    (record { set = c.in-Ok.ensures.set; stands = c.in-Ok.ensures.stands })

pub returns-in-Ok-clause-starts : goal.returns-in-Ok-clause-starts
returns-in-Ok-clause-starts g c = record {
  keeps = record {
    others = c.in-Ok.ensures.others;
    disk_moves = moves_put _ _ _ _ c.settle.result (c.in-Ok.ensures.disk.same (λ e. cc) (λ e. cc) (λ e. cc)) c.settle.ensures.puts.cause;
  };
  kept = c.in-Ok.ensures.kept;
  damaged = λ tells p at e. absurd (put_kind c.settle.result (run.Damaged p at) c.settle.ensures.puts.cause e);
  damaged_here = λ p at e. absurd (put_kind c.settle.result (run.Damaged p at) c.settle.ensures.puts.cause e);
  never_post = λ e. put_kind c.settle.result run.Post c.settle.ensures.puts.cause e;
}

pub returns-in-Err-clause-opens : goal.returns-in-Err-clause-opens
returns-in-Err-clause-opens g c = λ exact.
    let t = c.args.site.now.topo.now in
    let hosted = c.args.site.now.hosted.now in
    let o = seen c.open_hosted.new.node in
    let before = c.in-Err.ensures in
    opens_cut {T = Unit {0}} t hosted g.D.Disk.tells o c.open_hosted.new.sink.held c.truncate.new.self (g.D.Disk.lane_of c.args.disk.now) c.in-Err.fault c.truncate.ensures
    (started_empty {T = Unit {0}} t hosted o c.args.lines.now.held c.args.page.now.held c.open_hosted.new.sink.held (Err c.in-Err.fault) c.requires.empty.1 c.requires.empty.0 before.started)
    before.offers before.now before.count before.found
