use Rattle.std.proofs.Common.{◌∙◌}
use Rattle.gr_audit_theorems.proofs.Parts.{unheard_of}
use Rattle.gr_node.specs.Seen.{seen}
use Rattle.gr_trace.proofs.TracedStart.{opening_failed}
use Rattle.gr_trace.proofs.TracedEnd.{opened_by, run_traced}
use Rattle.gr_trace.proofs.tracing.trace_with.Goals as goal

pub returns-in-Ok-clause-traces : goal.returns-in-Ok-clause-traces
returns-in-Ok-clause-traces g c = λ journal posted.
    let t = c.args.site.now.topo.now in
    let hosted = c.args.site.now.hosted.now in
    let before = c.in-Ok.ensures in
    let w = before.opening in
    run_traced t hosted c.requires.asked.brokers c.brokers.ensures.topology c.args.steps.now c.requires.asked.lines c.args.turns g.P.Post.tells g.D.Disk.tells
    journal (g.P.Post.journal c.trace_opening.new.post) (g.P.Post.journal c.run.new.post) (g.K.Sink.taken c.args.sink.now) (g.K.Sink.taken c.trace_opening.new.sink) (g.K.Sink.taken c.run.new.sink)
    (g.D.Disk.lane_of c.args.disk.now) (g.D.Disk.lane_of c.trace_opening.new.disk) (g.D.Disk.lane_of c.run.new.disk) (seen c.trace_opening.new.node) (seen c.run.new.node)
    c.stands_read.ensures c.frames_pass_the_log.ensures.log c.frames_pass_the_log.ensures.rest (unheard_of t c.requires.unheard)
    w.lines c.in-Ok.field-0 (opened_by t hosted g.D.Disk.tells (seen c.trace_opening.new.node) _ _ _ (g.D.Disk.lane_of c.args.disk.now) c.in-Ok.field-0 w) (w.wrote tt)
    (λ h lane here. c.run.ensures.keeps.others h lane here ∙ before.starts.keeps.others h lane here) before.starts.kept
    (λ tells. before.unsent tells ∙ posted tells) c.run.result c.run.ensures.traced c.run.ensures.serving c.run.ensures.serving_at_post c.run.ensures.keeps.never_damaged

pub returns-in-Err-clause-traces : goal.returns-in-Err-clause-traces
returns-in-Err-clause-traces g c = λ journal posted.
    let t = c.args.site.now.topo.now in
    let hosted = c.args.site.now.hosted.now in
    let before = c.in-Err.ensures in
    let w = before.opening in
    opening_failed t hosted c.requires.asked.brokers c.brokers.ensures.topology c.args.steps.now c.args.turns g.P.Post.tells g.D.Disk.tells
    journal (g.P.Post.journal c.trace_opening.new.post) (g.K.Sink.taken c.args.sink.now) (g.K.Sink.taken c.trace_opening.new.sink) (g.D.Disk.lane_of c.args.disk.now) (g.D.Disk.lane_of c.trace_opening.new.disk) c.in-Err.fault
    before.starts.never_post (λ tells. before.unsent tells ∙ posted tells) before.starts.keeps.others before.starts.kept before.starts.damaged (seen c.trace_opening.new.node) w.lines w.done w.same w.opens w.wrote w.front
