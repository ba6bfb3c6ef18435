use Rattle.std.proofs.Common.{◌≡◌, Some, None, IfOk, OnOk, map, refl, sym, ap, ◌∙◌, subst}
use Rattle.gr_model.specs.NetOf.{net_of}
use Rattle.gr_model.specs.Broker.{empty_log}
use Rattle.gr_broker_relay.specs.Held.{held_view}
use Rattle.gr_broker.specs.declared.outcome.Dropped.TheVariants as dropped
use Rattle.gr_broker.specs.Receipt.{view_after, AnswersInto}
use Rattle.gr_broker.proofs.Receipts.{answers_split, answers_piece, answers_expect, expects_below}
use Rattle.gr_broker.proofs.ReceiptSites.{taken_from}
use Rattle.gr_broker.proofs.receiving.take_frame.Goals as goal

pub returns-in-Some-clause-says : goal.returns-in-Some-clause-says
returns-in-Some-clause-says c =
    let e = answers_split (net_of c.args.site.now.topo.now) c.args.now (held_view c.args.held.now) c.args.frame.now c.in-Knowledge.piece c.in-Knowledge.joins c.in-Some.split c.in-Knowledge.is (sym c.in-Some.ensures) in
    subst (λ r. AnswersInto c.args.into.now (Some (dropped.Split c.in-Some.split.at c.in-Some.split.kept c.in-Some.split.came)) r) (sym e) (refl, refl, refl)

pub returns-in-Some-clause-view : goal.returns-in-Some-clause-view
returns-in-Some-clause-view c =
    let e = answers_split (net_of c.args.site.now.topo.now) c.args.now (held_view c.args.held.now) c.args.frame.now c.in-Knowledge.piece c.in-Knowledge.joins c.in-Some.split c.in-Knowledge.is (sym c.in-Some.ensures) in
    ap (λ r. view_after r (held_view c.args.held.now)) (sym e)

pub returns-in_default-clause-says : goal.returns-in_default-clause-says
returns-in_default-clause-says c =
    let e = answers_piece (net_of c.args.site.now.topo.now) c.args.now c.args.site.now.publisher c.args.site.now.broker (held_view c.args.held.now) c.args.frame.now c.in-Knowledge.piece c.in-Knowledge.joins
    c.requires.publisher c.requires.to c.in-Knowledge.is (sym c.in_default.ensures) in
    subst (λ r. IfOk c.take_knowledge.result (λ d. AnswersInto c.take_knowledge.new.into d r)) (sym e) c.take_knowledge.ensures.says

pub returns-in_default-clause-view : goal.returns-in_default-clause-view
returns-in_default-clause-view c =
    let e = answers_piece (net_of c.args.site.now.topo.now) c.args.now c.args.site.now.publisher c.args.site.now.broker (held_view c.args.held.now) c.args.frame.now c.in-Knowledge.piece c.in-Knowledge.joins
    c.requires.publisher c.requires.to c.in-Knowledge.is (sym c.in_default.ensures) in
    subst (λ r. OnOk c.take_knowledge.result (held_view c.take_knowledge.new.held ≡ view_after r (held_view c.args.held.now))) (sym e) c.take_knowledge.ensures.view

pub take_expect-requires-clause-below : goal.take_expect-requires-clause-below
take_expect-requires-clause-below c =
    expects_below c.args.site.now.topo.now c.args.site.now.publisher c.args.site.now.broker c.in-Expect.tick c.args.site.now.position.now.up (map (λ x. x.number) c.args.site.now.position.now.children.items) c.args.frame.now
    c.brokers.ensures.topology c.requires.site.publisher (ap (λ x. x.up) c.requires.site.branch) c.in-Expect.is c.requires.over

pub returns-in-Ok-take_expect-clause-says : goal.returns-in-Ok-take_expect-clause-says
returns-in-Ok-take_expect-clause-says c =
    let e = answers_expect (net_of c.args.site.now.topo.now) c.args.now c.args.site.now.publisher c.args.site.now.broker (held_view c.args.held.now) c.args.frame.now c.in-Expect.tick
    c.requires.publisher c.requires.to c.in-Expect.is in
    subst (λ r. AnswersInto c.take_expect.new.into None r) (sym e) (c.in-Ok-take_expect.ensures.told empty_log)

pub returns-in-Ok-take_expect-clause-view : goal.returns-in-Ok-take_expect-clause-view
returns-in-Ok-take_expect-clause-view c =
    let e = answers_expect (net_of c.args.site.now.topo.now) c.args.now c.args.site.now.publisher c.args.site.now.broker (held_view c.args.held.now) c.args.frame.now c.in-Expect.tick
    c.requires.publisher c.requires.to c.in-Expect.is in
    c.in-Ok-take_expect.ensures.view empty_log ∙ ap (λ r. view_after r (held_view c.args.held.now)) (sym e)

pub returns-in-Ok-clause-says : goal.returns-in-Ok-clause-says
returns-in-Ok-clause-says c =
    let e = taken_from c.args.site.now c.args.now c.in-Some-child_at.i (held_view c.args.held.now) c.args.frame.now c.in-Curiosity.piece
    c.requires.site c.requires.publisher c.requires.to c.in-Curiosity.is (c.in-Some-child_at.ensures.0, c.in-Some-child_at.ensures.2) in
    subst (λ r. AnswersInto c.take_curiosity.new.into None r) (sym e) (c.in-Ok.ensures.told empty_log)

pub returns-in-Ok-clause-view : goal.returns-in-Ok-clause-view
returns-in-Ok-clause-view c =
    let e = taken_from c.args.site.now c.args.now c.in-Some-child_at.i (held_view c.args.held.now) c.args.frame.now c.in-Curiosity.piece
    c.requires.site c.requires.publisher c.requires.to c.in-Curiosity.is (c.in-Some-child_at.ensures.0, c.in-Some-child_at.ensures.2) in
    c.in-Ok.ensures.view empty_log ∙ ap (λ r. view_after r (held_view c.args.held.now)) (sym e)
