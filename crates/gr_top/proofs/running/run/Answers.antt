use Rattle.std.proofs.Common.{Ok, Err, ap, refl}
use Rattle.gr_out.specs.declared.fault.RunFault.TheVariants as run
use Rattle.gr_top.specs.Serving.{around}
use Rattle.gr_top.proofs.RunLemmas.{runs_to, stops_by, ends_at_once, ends_damaged, all_read}
use Rattle.gr_top.proofs.running.run.Goals as goal

pub print_damaged-requires : goal.print_damaged-requires
print_damaged-requires g c =
    (c.in-Err-Damaged.ensures.damaged_here c.in-Err-Damaged.publisher c.in-Err-Damaged.at (ap (λ f. Err f) c.in-Err-Damaged.field-0-is)).0

pub returns-in-Ok-clause-served : goal.returns-in-Ok-clause-served
returns-in-Ok-clause-served g c = λ e.
    runs_to c.args.voice c.args.topo.now c.args.steps.now c.args.hosted.now c.args.turns g.P.Post.tells g.D.Disk.tells
    (around (g.K.Sink.taken c.args.sink.now) (g.P.Post.journal c.args.post.now) (g.D.Disk.lane_of c.args.disk.now))
    (around (g.K.Sink.taken c.write.new.sink) (g.P.Post.journal c.write.new.post) (g.D.Disk.lane_of c.write.new.disk))
    (Ok tt) c.requires c.an_honest_journal_meets_the_headline.ensures.headline c.an_honest_journal_meets_the_headline.ensures.by_rules c.an_honest_journal_meets_the_headline.ensures.ordered c.in-Ok.ensures.ran

pub returns-in-Ok-clause-undamaged : goal.returns-in-Ok-clause-undamaged
returns-in-Ok-clause-undamaged g c = λ e tells.
    let r = c.in-Ok.ensures.ran in
    all_read c.args.topo.now c.args.steps.now c.args.hosted.now c.args.turns r.0
    (g.D.Disk.lane_of c.args.disk.now) (g.D.Disk.lane_of c.write.new.disk) r.1.0 (r.1.1.1.1 tells)

pub returns-in-Err-Write-clause-stopped : goal.returns-in-Err-Write-clause-stopped
returns-in-Err-Write-clause-stopped g c = λ e.
    stops_by c.args.voice c.args.topo.now c.args.steps.now c.args.hosted.now c.args.turns g.P.Post.tells g.D.Disk.tells
    (around (g.K.Sink.taken c.args.sink.now) (g.P.Post.journal c.args.post.now) (g.D.Disk.lane_of c.args.disk.now))
    (around (g.K.Sink.taken c.write.new.sink) (g.P.Post.journal c.write.new.post) (g.D.Disk.lane_of c.write.new.disk))
    c.in-Err-Write.field-0 4 (g.K.Sink.taken c.write.new.sink) c.requires c.an_honest_journal_meets_the_headline.ensures.headline c.an_honest_journal_meets_the_headline.ensures.by_rules c.an_honest_journal_meets_the_headline.ensures.ordered c.in-Err-Write.ensures.ran
    (ends_at_once c.args.topo.now c.in-Err-Write.field-0 run.Write 4 (g.K.Sink.taken c.write.new.sink) c.in-Err-Write.field-0-is (refl, refl))

pub returns-in-Err-Disk-clause-stopped : goal.returns-in-Err-Disk-clause-stopped
returns-in-Err-Disk-clause-stopped g c = λ e.
    stops_by c.args.voice c.args.topo.now c.args.steps.now c.args.hosted.now c.args.turns g.P.Post.tells g.D.Disk.tells
    (around (g.K.Sink.taken c.args.sink.now) (g.P.Post.journal c.args.post.now) (g.D.Disk.lane_of c.args.disk.now))
    (around (g.K.Sink.taken c.write.new.sink) (g.P.Post.journal c.write.new.post) (g.D.Disk.lane_of c.write.new.disk))
    c.in-Err-Disk.field-0 5 (g.K.Sink.taken c.write.new.sink) c.requires c.an_honest_journal_meets_the_headline.ensures.headline c.an_honest_journal_meets_the_headline.ensures.by_rules c.an_honest_journal_meets_the_headline.ensures.ordered c.in-Err-Disk.ensures.ran
    (ends_at_once c.args.topo.now c.in-Err-Disk.field-0 run.Disk 5 (g.K.Sink.taken c.write.new.sink) c.in-Err-Disk.field-0-is (refl, refl))

pub returns-in-Err-Damaged-clause-stopped : goal.returns-in-Err-Damaged-clause-stopped
returns-in-Err-Damaged-clause-stopped g c = λ e.
    stops_by c.args.voice c.args.topo.now c.args.steps.now c.args.hosted.now c.args.turns g.P.Post.tells g.D.Disk.tells
    (around (g.K.Sink.taken c.args.sink.now) (g.P.Post.journal c.args.post.now) (g.D.Disk.lane_of c.args.disk.now))
    (around (g.K.Sink.taken c.write.new.sink) (g.P.Post.journal c.write.new.post) (g.D.Disk.lane_of c.write.new.disk))
    c.in-Err-Damaged.field-0 c.print_damaged.result (g.K.Sink.taken c.print_damaged.new.sink) c.requires c.an_honest_journal_meets_the_headline.ensures.headline c.an_honest_journal_meets_the_headline.ensures.by_rules c.an_honest_journal_meets_the_headline.ensures.ordered c.in-Err-Damaged.ensures.ran
    (ends_damaged c.args.topo.now c.in-Err-Damaged.field-0 c.in-Err-Damaged.publisher c.in-Err-Damaged.at c.print_damaged.result (g.K.Sink.taken c.write.new.sink) (g.K.Sink.taken c.print_damaged.new.sink)
    c.in-Err-Damaged.field-0-is c.print_damaged.ensures.complete c.print_damaged.ensures.printed c.print_damaged.ensures.front)

pub returns-in-Err-Damaged-clause-damaged : goal.returns-in-Err-Damaged-clause-damaged
returns-in-Err-Damaged-clause-damaged g c = λ e tells. record {
  publisher = c.in-Err-Damaged.publisher;
  at = c.in-Err-Damaged.at;
  first = (c.in-Err-Damaged.ensures.ran.1.1.1.1 tells).damaged c.in-Err-Damaged.publisher c.in-Err-Damaged.at (ap (λ f. Err f) c.in-Err-Damaged.field-0-is);
}

pub returns-in-Err-Memory-clause-stopped : goal.returns-in-Err-Memory-clause-stopped
returns-in-Err-Memory-clause-stopped g c = λ e.
    stops_by c.args.voice c.args.topo.now c.args.steps.now c.args.hosted.now c.args.turns g.P.Post.tells g.D.Disk.tells
    (around (g.K.Sink.taken c.args.sink.now) (g.P.Post.journal c.args.post.now) (g.D.Disk.lane_of c.args.disk.now))
    (around (g.K.Sink.taken c.write.new.sink) (g.P.Post.journal c.write.new.post) (g.D.Disk.lane_of c.write.new.disk))
    c.in-Err-Memory.field-0 7 (g.K.Sink.taken c.write.new.sink) c.requires c.an_honest_journal_meets_the_headline.ensures.headline c.an_honest_journal_meets_the_headline.ensures.by_rules c.an_honest_journal_meets_the_headline.ensures.ordered c.in-Err-Memory.ensures.ran
    (ends_at_once c.args.topo.now c.in-Err-Memory.field-0 run.Memory 7 (g.K.Sink.taken c.write.new.sink) c.in-Err-Memory.field-0-is (refl, refl))

pub returns-in-Err-Post-clause-stopped : goal.returns-in-Err-Post-clause-stopped
returns-in-Err-Post-clause-stopped g c = λ e.
    stops_by c.args.voice c.args.topo.now c.args.steps.now c.args.hosted.now c.args.turns g.P.Post.tells g.D.Disk.tells
    (around (g.K.Sink.taken c.args.sink.now) (g.P.Post.journal c.args.post.now) (g.D.Disk.lane_of c.args.disk.now))
    (around (g.K.Sink.taken c.write.new.sink) (g.P.Post.journal c.write.new.post) (g.D.Disk.lane_of c.write.new.disk))
    c.in-Err-Post.field-0 8 (g.K.Sink.taken c.write.new.sink) c.requires c.an_honest_journal_meets_the_headline.ensures.headline c.an_honest_journal_meets_the_headline.ensures.by_rules c.an_honest_journal_meets_the_headline.ensures.ordered c.in-Err-Post.ensures.ran
    (ends_at_once c.args.topo.now c.in-Err-Post.field-0 run.Post 8 (g.K.Sink.taken c.write.new.sink) c.in-Err-Post.field-0-is (refl, refl))
