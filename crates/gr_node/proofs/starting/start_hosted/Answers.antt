use Rattle.std.proofs.Common.{◌+◌, Err, take, flat_map, refl, sym, ap, ◌∙◌, subst, arith, append-nil}
use Rattle.gr_out.specs.declared.fault.RunFault.TheVariants as run
use Rattle.gr_out.specs.Page.{TakesBut}
use Rattle.gr_out.proofs.Fronts.{but-nothing}
use Rattle.gr_model.specs.Orders.{orders_of}
use Rattle.gr_node.specs.Seen.{NodeView, seen}
use Rattle.gr_node.specs.Starting.{start_lines}
use Rattle.gr_model_theorems.proofs.order.Unheard.{fed_nothing}
use Rattle.gr_node.proofs.StartingNodes.{none_begun, begun_set, begun_hosted, with_broker}
use Rattle.gr_node.proofs.StartingLanes.{none_found, all_found, touched_hosted}
use Rattle.gr_node.proofs.Lasting.{starts_same, starts_on}
use Rattle.gr_node.proofs.StartingRuns.{b, lists_kept, begun_next, heard_next, found_next, left_next, damaged_next, next_hosted, put_next, started_all, started_failed, started_cut}
use Rattle.gr_node.proofs.StartingFaults.{same_fault, none_moved, still_moved, moved_from, sink_kept, sink_unasked, sink_asked}
use Rattle.gr_node.proofs.starting.start_hosted.Goals as goal

pub brokers-init : goal.brokers-init
brokers-init g c =
    let t = c.args.site.now.topo.now in
    let n = seen c.args.node.now in
    let none = none_begun t n c.requires.none in
    let taken = g.K.Sink.taken c.args.sink.now in
    let held = c.args.page.now.held in
    record {
      begun = none;
      found = λ tells. none_found t n (g.D.Disk.lane_of c.args.disk.now) (g.D.Disk.lane_of c.args.disk.now) none (λ k. refl);
      kept = λ tells. starts_same t.late (g.D.Disk.lane_of c.args.disk.now) (g.D.Disk.lane_of c.args.disk.now) (λ k. refl);
      put = subst (λ text. TakesBut taken taken text held) (sym (append-nil held)) (but-nothing taken taken held refl);
      heard = ap (λ (m : NodeView). m.orders) c.requires.none ∙ sym (fed_nothing (orders_of t));
      faults = refl;
      stops = refl;
      same = refl;
    }

pub brokers-preserved : goal.brokers-preserved
brokers-preserved g c =
    let t = c.args.site.now.topo.now in
    let hosted = c.args.site.now.hosted.now in
    let i = c.brokers.b-index in
    let n = seen c.brokers.node in
    let sofar = c.brokers.invariant in
    let x = c.in-Ok.started.broker in
    let os = c.put_heard.new.orders in
    let before = g.D.Disk.lane_of c.args.disk.now in
    let mid = g.D.Disk.lane_of c.brokers.disk in
    let after = g.D.Disk.lane_of c.start_one.new.disk in
    record {
      begun = begun_next t hosted i n c.requires.hosted c.brokers-test.true sofar.begun x os c.in-Ok.ensures.begun;
      found = λ tells. found_next t hosted i n c.requires.hosted c.brokers-test.true sofar.begun before mid after (sofar.found tells) (c.in-Ok.ensures.others tells) x os c.in-Ok.ensures.begun (c.in-Ok.ensures.opens tells) (c.in-Ok.ensures.stands tells);
      kept = λ tells. starts_on t.late before mid after (sofar.kept tells) (c.in-Ok.ensures.kept tells);
      put = put_next t hosted i n c.requires.hosted c.brokers-test.true sofar.begun (g.K.Sink.taken c.args.sink.now) (g.K.Sink.taken c.brokers.sink) c.args.page.now.held c.brokers.page.held sofar.put (g.K.Sink.taken c.put_heard.new.sink)
          x os c.in-Ok.ensures.begun c.as_slice.result.now (c.as_slice.ensures ∙ c.in-Ok.ensures.lines) c.put_heard.new.page.held c.in-Ok-put_heard.ensures.ok;
      heard = heard_next t hosted i n c.requires.hosted c.brokers-test.true sofar.begun x os c.as_slice.result.now (c.as_slice.ensures ∙ c.in-Ok.ensures.lines) sofar.heard c.in-Ok-put_heard.ensures.heard;
      faults = (c.in-Ok.ensures.disk.same (λ e. cc) (λ e. cc) (λ e. cc)).0 ∙ sofar.faults;
      stops = (c.in-Ok.ensures.disk.same (λ e. cc) (λ e. cc) (λ e. cc)).1 ∙ sofar.stops;
      same = c.in-Ok-put_heard.ensures.puts.sink_moves.same (λ e. cc) ∙ sofar.same;
    }

-- The next has not started

pub returns-in-Err-clause-started : goal.returns-in-Err-clause-started
returns-in-Err-clause-started g c =
    let t = c.args.site.now.topo.now in
    let hosted = c.args.site.now.hosted.now in
    let i = c.brokers.b-index in
    let n = seen c.brokers.node in
    let sofar = c.brokers.invariant in
    started_failed t hosted i n c.requires.hosted c.brokers-test.true sofar.begun (g.K.Sink.taken c.args.sink.now) (g.K.Sink.taken c.brokers.sink) c.args.page.now.held c.brokers.page.held sofar.put
    c.in-Err.fault (λ p at e. (c.in-Err.ensures.damaged_here p at (ap (λ f. Err f) e)).1)

pub returns-in-Err-clause-short : goal.returns-in-Err-clause-short
returns-in-Err-clause-short g c = begun_hosted c.args.site.now.topo.now c.args.site.now.hosted.now (seen c.brokers.node) c.brokers.b-index c.brokers.invariant.begun

pub returns-in-Err-clause-offers : goal.returns-in-Err-clause-offers
returns-in-Err-clause-offers g c = c.brokers.invariant.begun.offers

pub returns-in-Err-clause-now : goal.returns-in-Err-clause-now
returns-in-Err-clause-now g c = c.brokers.invariant.begun.now

pub returns-in-Err-clause-found : goal.returns-in-Err-clause-found
returns-in-Err-clause-found g c = λ tells.
    let t = c.args.site.now.topo.now in
    let hosted = c.args.site.now.hosted.now in
    let i = c.brokers.b-index in
    let n = seen c.brokers.node in
    let sofar = c.brokers.invariant in
    all_found t (take i hosted) (take i hosted) n (g.D.Disk.lane_of c.args.disk.now) (g.D.Disk.lane_of c.brokers.disk) sofar.begun (sofar.found tells)

pub returns-in-Err-clause-stands : goal.returns-in-Err-clause-stands
returns-in-Err-clause-stands g c = λ tells.
    let t = c.args.site.now.topo.now in
    let hosted = c.args.site.now.hosted.now in
    let i = c.brokers.b-index in
    let n = seen c.brokers.node in
    let sofar = c.brokers.invariant in
    let before = g.D.Disk.lane_of c.args.disk.now in
    let mid = g.D.Disk.lane_of c.brokers.disk in
    let after = g.D.Disk.lane_of c.start_one.new.disk in
    (left_next t hosted i n c.requires.hosted c.brokers-test.true sofar.begun before mid after (sofar.found tells) (c.in-Err.ensures.others tells)).stands

pub returns-in-Err-clause-others : goal.returns-in-Err-clause-others
returns-in-Err-clause-others g c = λ tells.
    let t = c.args.site.now.topo.now in
    let hosted = c.args.site.now.hosted.now in
    let i = c.brokers.b-index in
    let n = seen c.brokers.node in
    let sofar = c.brokers.invariant in
    let before = g.D.Disk.lane_of c.args.disk.now in
    let mid = g.D.Disk.lane_of c.brokers.disk in
    let after = g.D.Disk.lane_of c.start_one.new.disk in
    touched_hosted t hosted (i + 1) before after (left_next t hosted i n c.requires.hosted c.brokers-test.true sofar.begun before mid after (sofar.found tells) (c.in-Err.ensures.others tells)).others

pub returns-in-Err-clause-damaged : goal.returns-in-Err-clause-damaged
returns-in-Err-clause-damaged g c = λ tells p at e.
    let t = c.args.site.now.topo.now in
    let hosted = c.args.site.now.hosted.now in
    let i = c.brokers.b-index in
    let n = seen c.brokers.node in
    let sofar = c.brokers.invariant in
    let before = g.D.Disk.lane_of c.args.disk.now in
    let mid = g.D.Disk.lane_of c.brokers.disk in
    let after = g.D.Disk.lane_of c.start_one.new.disk in
    damaged_next t hosted i n c.requires.hosted c.brokers-test.true sofar.begun before mid after (sofar.found tells) (c.in-Err.ensures.others tells) p at
    (c.in-Err.ensures.damaged tells p at (same_fault c.in-Err.fault (run.Damaged p at) e))

pub returns-in-Err-clause-damaged_here : goal.returns-in-Err-clause-damaged_here
returns-in-Err-clause-damaged_here g c = λ p at e.
    let t = c.args.site.now.topo.now in
    let hosted = c.args.site.now.hosted.now in
    let i = c.brokers.b-index in
    let n = seen c.brokers.node in
    let sofar = c.brokers.invariant in
    let there = c.in-Err.ensures.damaged_here p at (same_fault c.in-Err.fault (run.Damaged p at) e) in
    (there.0, next_hosted t hosted i n c.requires.hosted c.brokers-test.true sofar.begun p there.1)

pub returns-in-Err-clause-disk : goal.returns-in-Err-clause-disk
returns-in-Err-clause-disk g c =
    moved_from c.in-Err.fault (g.D.Disk.faults c.args.disk.now) (g.D.Disk.stops c.args.disk.now) (g.D.Disk.faults c.brokers.disk) (g.D.Disk.stops c.brokers.disk) (g.D.Disk.faults c.start_one.new.disk) (g.D.Disk.stops c.start_one.new.disk)
    c.brokers.invariant.faults c.brokers.invariant.stops c.in-Err.ensures.disk

pub returns-in-Err-clause-sink : goal.returns-in-Err-clause-sink
returns-in-Err-clause-sink g c = sink_unasked c.in-Err.fault (g.K.Sink.faults c.args.sink.now) (g.K.Sink.faults c.brokers.sink) c.in-Err.ensures.cause c.brokers.invariant.same

pub returns-in-Err-clause-kept : goal.returns-in-Err-clause-kept
returns-in-Err-clause-kept g c = λ tells.
    starts_on c.args.site.now.topo.now.late (g.D.Disk.lane_of c.args.disk.now) (g.D.Disk.lane_of c.brokers.disk) (g.D.Disk.lane_of c.start_one.new.disk) (c.brokers.invariant.kept tells) (c.in-Err.ensures.kept tells)

-- Its lines could not be put

pub returns-in-Err-put_heard-clause-kept : goal.returns-in-Err-put_heard-clause-kept
returns-in-Err-put_heard-clause-kept g c = λ tells.
    starts_on c.args.site.now.topo.now.late (g.D.Disk.lane_of c.args.disk.now) (g.D.Disk.lane_of c.brokers.disk) (g.D.Disk.lane_of c.start_one.new.disk) (c.brokers.invariant.kept tells) (c.in-Ok.ensures.kept tells)

pub returns-in-Err-put_heard-clause-started : goal.returns-in-Err-put_heard-clause-started
returns-in-Err-put_heard-clause-started g c =
    let t = c.args.site.now.topo.now in
    let hosted = c.args.site.now.hosted.now in
    let i = c.brokers.b-index in
    let n = seen c.brokers.node in
    let sofar = c.brokers.invariant in
    let x = c.in-Ok.started.broker in
    let os = c.put_heard.new.orders in
    started_cut t hosted i n c.requires.hosted c.brokers-test.true sofar.begun (g.K.Sink.taken c.args.sink.now) (g.K.Sink.taken c.brokers.sink) c.args.page.now.held c.brokers.page.held sofar.put (g.K.Sink.taken c.put_heard.new.sink)
    x os c.in-Ok.ensures.begun c.as_slice.result.now (c.as_slice.ensures ∙ c.in-Ok.ensures.lines) c.put_heard.new.page.held c.in-Err-put_heard.fault c.in-Err-put_heard.ensures.puts.cause c.in-Err-put_heard.ensures.front

pub returns-in-Err-put_heard-clause-short : goal.returns-in-Err-put_heard-clause-short
returns-in-Err-put_heard-clause-short g c =
    let t = c.args.site.now.topo.now in
    let hosted = c.args.site.now.hosted.now in
    let i = c.brokers.b-index in
    let n = seen c.brokers.node in
    let sofar = c.brokers.invariant in
    let x = c.in-Ok.started.broker in
    let os = c.put_heard.new.orders in
    begun_hosted t hosted (with_broker n (b t hosted i n c.requires.hosted c.brokers-test.true sofar.begun) x os) (i + 1) (begun_next t hosted i n c.requires.hosted c.brokers-test.true sofar.begun x os c.in-Ok.ensures.begun)

pub returns-in-Err-put_heard-clause-offers : goal.returns-in-Err-put_heard-clause-offers
returns-in-Err-put_heard-clause-offers g c = c.brokers.invariant.begun.offers

pub returns-in-Err-put_heard-clause-now : goal.returns-in-Err-put_heard-clause-now
returns-in-Err-put_heard-clause-now g c = c.brokers.invariant.begun.now

pub returns-in-Err-put_heard-clause-found : goal.returns-in-Err-put_heard-clause-found
returns-in-Err-put_heard-clause-found g c = λ tells.
    let t = c.args.site.now.topo.now in
    let hosted = c.args.site.now.hosted.now in
    let i = c.brokers.b-index in
    let n = seen c.brokers.node in
    let sofar = c.brokers.invariant in
    let x = c.in-Ok.started.broker in
    let os = c.put_heard.new.orders in
    let before = g.D.Disk.lane_of c.args.disk.now in
    let mid = g.D.Disk.lane_of c.brokers.disk in
    let after = g.D.Disk.lane_of c.start_one.new.disk in
    all_found t (take (i + 1) hosted) (take (i + 1) hosted) (with_broker n (b t hosted i n c.requires.hosted c.brokers-test.true sofar.begun) x os) before after
    (begun_next t hosted i n c.requires.hosted c.brokers-test.true sofar.begun x os c.in-Ok.ensures.begun)
    (found_next t hosted i n c.requires.hosted c.brokers-test.true sofar.begun before mid after (sofar.found tells) (c.in-Ok.ensures.others tells) x os c.in-Ok.ensures.begun (c.in-Ok.ensures.opens tells) (c.in-Ok.ensures.stands tells))

pub returns-in-Err-put_heard-clause-stands : goal.returns-in-Err-put_heard-clause-stands
returns-in-Err-put_heard-clause-stands g c = λ tells.
    let t = c.args.site.now.topo.now in
    let hosted = c.args.site.now.hosted.now in
    let i = c.brokers.b-index in
    let n = seen c.brokers.node in
    let sofar = c.brokers.invariant in
    let x = c.in-Ok.started.broker in
    let os = c.put_heard.new.orders in
    let before = g.D.Disk.lane_of c.args.disk.now in
    let mid = g.D.Disk.lane_of c.brokers.disk in
    let after = g.D.Disk.lane_of c.start_one.new.disk in
    (found_next t hosted i n c.requires.hosted c.brokers-test.true sofar.begun before mid after (sofar.found tells) (c.in-Ok.ensures.others tells) x os c.in-Ok.ensures.begun (c.in-Ok.ensures.opens tells) (c.in-Ok.ensures.stands tells)).stands

pub returns-in-Err-put_heard-clause-others : goal.returns-in-Err-put_heard-clause-others
returns-in-Err-put_heard-clause-others g c = λ tells.
    let t = c.args.site.now.topo.now in
    let hosted = c.args.site.now.hosted.now in
    let i = c.brokers.b-index in
    let n = seen c.brokers.node in
    let sofar = c.brokers.invariant in
    let x = c.in-Ok.started.broker in
    let os = c.put_heard.new.orders in
    let before = g.D.Disk.lane_of c.args.disk.now in
    let mid = g.D.Disk.lane_of c.brokers.disk in
    let after = g.D.Disk.lane_of c.start_one.new.disk in
    touched_hosted t hosted (i + 1) before after
    (found_next t hosted i n c.requires.hosted c.brokers-test.true sofar.begun before mid after (sofar.found tells) (c.in-Ok.ensures.others tells) x os c.in-Ok.ensures.begun (c.in-Ok.ensures.opens tells) (c.in-Ok.ensures.stands tells)).others

pub returns-in-Err-put_heard-clause-disk : goal.returns-in-Err-put_heard-clause-disk
returns-in-Err-put_heard-clause-disk g c =
    still_moved c.in-Err-put_heard.fault (g.D.Disk.faults c.args.disk.now) (g.D.Disk.stops c.args.disk.now) (g.D.Disk.faults c.start_one.new.disk) (g.D.Disk.stops c.start_one.new.disk)
    c.in-Err-put_heard.ensures.puts.cause ((c.in-Ok.ensures.disk.same (λ e. cc) (λ e. cc) (λ e. cc)).0 ∙ c.brokers.invariant.faults) ((c.in-Ok.ensures.disk.same (λ e. cc) (λ e. cc) (λ e. cc)).1 ∙ c.brokers.invariant.stops)

pub returns-in-Err-put_heard-clause-sink : goal.returns-in-Err-put_heard-clause-sink
returns-in-Err-put_heard-clause-sink g c = sink_asked c.in-Err-put_heard.fault (g.K.Sink.faults c.args.sink.now) (g.K.Sink.faults c.brokers.sink) (g.K.Sink.faults c.put_heard.new.sink) c.brokers.invariant.same c.in-Err-put_heard.ensures.puts.sink_moves.rose c.in-Err-put_heard.ensures.puts.sink_moves.same

-- All have started

pub returns-clause-started : goal.returns-clause-started
returns-clause-started g c =
    let t = c.args.site.now.topo.now in
    let hosted = c.args.site.now.hosted.now in
    let i = c.brokers.b-index in
    let n = seen c.brokers.node in
    let sofar = c.brokers.invariant in
    started_all t hosted i n (g.K.Sink.taken c.args.sink.now) (g.K.Sink.taken c.brokers.sink) c.args.page.now.held c.brokers.page.held tt
    sofar.begun sofar.heard (omega (arith, c.brokers.auto.b-index-end, c.brokers-test.false)) sofar.put

pub returns-clause-set : goal.returns-clause-set
returns-clause-set g c = begun_set c.args.site.now.topo.now c.args.site.now.hosted.now (seen c.brokers.node) c.brokers.b-index c.brokers.invariant.begun (omega (arith, c.brokers-test.false))
    (lists_kept c.args.site.now.topo.now (seen c.brokers.node).orders (flat_map (start_lines c.args.site.now.topo.now (seen c.brokers.node)) (take c.brokers.b-index c.args.site.now.hosted.now)) c.brokers.invariant.heard)

pub returns-clause-short : goal.returns-clause-short
returns-clause-short g c = begun_hosted c.args.site.now.topo.now c.args.site.now.hosted.now (seen c.brokers.node) c.brokers.b-index c.brokers.invariant.begun

pub returns-clause-offers : goal.returns-clause-offers
returns-clause-offers g c = c.brokers.invariant.begun.offers

pub returns-clause-now : goal.returns-clause-now
returns-clause-now g c = c.brokers.invariant.begun.now

pub returns-clause-found : goal.returns-clause-found
returns-clause-found g c = λ tells.
    let t = c.args.site.now.topo.now in
    let hosted = c.args.site.now.hosted.now in
    let i = c.brokers.b-index in
    let n = seen c.brokers.node in
    let sofar = c.brokers.invariant in
    all_found t (take i hosted) (take i hosted) n (g.D.Disk.lane_of c.args.disk.now) (g.D.Disk.lane_of c.brokers.disk) sofar.begun (sofar.found tells)

pub returns-clause-stands : goal.returns-clause-stands
returns-clause-stands g c = λ tells. (c.brokers.invariant.found tells).stands

pub returns-clause-others : goal.returns-clause-others
returns-clause-others g c = λ tells.
    touched_hosted c.args.site.now.topo.now c.args.site.now.hosted.now c.brokers.b-index (g.D.Disk.lane_of c.args.disk.now) (g.D.Disk.lane_of c.brokers.disk) (c.brokers.invariant.found tells).others

pub returns-clause-disk : goal.returns-clause-disk
returns-clause-disk g c = none_moved tt (g.D.Disk.faults c.args.disk.now) (g.D.Disk.stops c.args.disk.now) (g.D.Disk.faults c.brokers.disk) (g.D.Disk.stops c.brokers.disk) c.brokers.invariant.faults c.brokers.invariant.stops

pub returns-clause-sink : goal.returns-clause-sink
returns-clause-sink g c = sink_kept tt (g.K.Sink.faults c.args.sink.now) (g.K.Sink.faults c.brokers.sink) c.brokers.invariant.same

pub returns-clause-kept : goal.returns-clause-kept
returns-clause-kept g c = c.brokers.invariant.kept
