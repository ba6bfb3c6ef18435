use Rattle.std.proofs.Common.{ap, refl, ◌++◌, ◌∙◌}
use Rattle.gr_audit.specs.Compared.{told_of}
use Rattle.gr_audit_run.proofs.Going.{first_is, none_is, run_begins, cut_at_first, run_ends, fewer, run_goes_on, run_is_cut}
use Rattle.gr_audit_run.proofs.brokers.run_started.Goals as goal

pub returns-then-not-tell-clause-cut : goal.returns-then-not-tell-clause-cut
returns-then-not-tell-clause-cut c = λ e.
    let part = c.tell.ensures.cut c.if-not-tell.true in
    cut_at_first c.args.site.now.topo.now c.args.site.now.hosted.now c.args.steps.now c.args.given.now c.args.told.now c.tell.new.told c.as_slice.result.now part.0
    (c.as_slice.ensures ∙ c.requires.text) part.1 (c.tell.ensures.wrong c.if-not-tell.true) c.tell.ensures.text

pub arrivals-init : goal.arrivals-init
arrivals-init c = record {
  ready = c.requires.ready;
  runs = run_begins c.args.site.now.topo.now c.args.site.now.hosted.now c.args.steps.now c.args.process.now c.args.given.now c.args.told.now c.tell.new.told
      c.requires.asked c.brokers.ensures.topology c.requires.fresh c.requires.left c.requires.text
      (c.tell.ensures.whole c.if-not-tell.false ∙ ap (λ xs. told_of c.args.told.now ++ xs) c.as_slice.ensures) c.tell.ensures.text c.requires.come;
}

pub take_group-requires-clause-ready : goal.take_group-requires-clause-ready
take_group-requires-clause-ready c =
    let r = c.arrivals.invariant.ready in
    record {
      goes_on = record { serving = r.goes_on.serving; within = r.goes_on.within; first = r.goes_on.first };
      empty = r.empty;
    }

pub arrivals-smaller : goal.arrivals-smaller
arrivals-smaller c =
    fewer c.args.site.now.topo.now c.args.site.now.hosted.now c.args.steps.now c.frames_pass_the_log.ensures.log c.frames_pass_the_log.ensures.rest c.requires.unheard c.brokers.ensures.topology
    c.arrivals.process _ c.take_group.new.process c.args.given.now c.arrivals.given c.next.new.self c.take_group.new.given c.args.told.now c.arrivals.told c.in-Some.came.now
    c.arrivals.invariant.runs (first_is _ _ _ _ c.in_ok-came.ensures.next c.in-Some.is) c.in_ok-came.ensures.noted refl refl c.truncate.ensures
    c.in_ok-take_group.ensures.took c.in_ok-take_group.ensures.noted

pub arrivals-preserved : goal.arrivals-preserved
arrivals-preserved c = record {
  ready = c.in_ok-take_group.ensures.ready;
  runs = run_goes_on c.args.site.now.topo.now c.args.site.now.hosted.now c.args.steps.now c.frames_pass_the_log.ensures.log c.frames_pass_the_log.ensures.rest c.requires.unheard c.brokers.ensures.topology
      c.arrivals.process _ c.take_group.new.process c.args.given.now c.arrivals.given c.next.new.self c.take_group.new.given c.args.told.now c.arrivals.told c.in-Some.came.now
      c.arrivals.invariant.runs (first_is _ _ _ _ c.in_ok-came.ensures.next c.in-Some.is) c.in_ok-came.ensures.noted refl refl c.truncate.ensures
      c.in_ok-take_group.ensures.took c.in_ok-take_group.ensures.noted
      c.tell-in-Some.new.told
      (c.tell-in-Some.ensures.whole c.if-not-tell-2.false ∙ ap (λ xs. told_of c.arrivals.told ++ xs) c.as_slice-in-Some.ensures) c.tell-in-Some.ensures.text;
}

pub returns-then-not-tell-2-clause-cut : goal.returns-then-not-tell-2-clause-cut
returns-then-not-tell-2-clause-cut c = λ e.
    let part = c.tell-in-Some.ensures.cut c.if-not-tell-2.true in
    run_is_cut c.args.site.now.topo.now c.args.site.now.hosted.now c.args.steps.now c.frames_pass_the_log.ensures.log c.frames_pass_the_log.ensures.rest c.requires.unheard c.brokers.ensures.topology
    c.arrivals.process _ c.take_group.new.process c.args.given.now c.arrivals.given c.next.new.self c.take_group.new.given c.args.told.now c.arrivals.told c.in-Some.came.now
    c.arrivals.invariant.runs (first_is _ _ _ _ c.in_ok-came.ensures.next c.in-Some.is) c.in_ok-came.ensures.noted refl refl c.truncate.ensures
    c.in_ok-take_group.ensures.took c.in_ok-take_group.ensures.noted
    c.tell-in-Some.new.told part.0
    (part.1 ∙ ap (λ xs. told_of c.arrivals.told ++ xs) c.as_slice-in-Some.ensures) (c.tell-in-Some.ensures.wrong c.if-not-tell-2.true) c.tell-in-Some.ensures.text

pub returns-clause-whole : goal.returns-clause-whole
returns-clause-whole c = λ e.
    run_ends c.args.site.now.topo.now c.args.site.now.hosted.now c.args.steps.now c.arrivals.process c.args.given.now c.arrivals.given c.next.new.self c.args.told.now c.arrivals.told
    c.arrivals.invariant.runs (none_is _ _ _ c.in_ok-came.ensures.next c.in_default.is) c.in_ok-came.ensures.noted
