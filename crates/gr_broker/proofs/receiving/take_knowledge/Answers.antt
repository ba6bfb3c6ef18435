-- A piece that does not clash is learned at the net that the longer list shows; where memory is refused the list is put back
use Rattle.std.proofs.Common.{Some, None, refl, sym, ap, ◌∙◌, subst}
use Rattle.gr_event.specs.Joins.{Joins}
use Rattle.gr_model.specs.NetOf.{net_of}
use Rattle.gr_model.specs.Broker.{View, Outcome, empty_log, learn, seen, with_joins}
use Rattle.gr_broker_relay.specs.Held.{held_view}
use Rattle.gr_broker_relay.specs.Told.{Tells}
use Rattle.gr_broker.specs.declared.outcome.Dropped.TheVariants as dropped
use Rattle.gr_broker.specs.Receipt.{view_after, AnswersInto}
use Rattle.gr_broker.proofs.Receipts.{piece_clashes, piece_taken}
use Rattle.gr_broker.proofs.receiving.take_knowledge.Goals as goal

pub returns-in-Some-clause-says : goal.returns-in-Some-clause-says
returns-in-Some-clause-says c =
    let e = piece_clashes (net_of c.args.site.now.topo.now) c.args.site.now.publisher c.args.site.now.broker c.in-Some.clash.tick (held_view c.args.held.now) c.args.piece.now c.args.joins.now c.in-Some.clash.kept c.in-Some.clash.came
    c.len.ensures.canonical c.len-2.ensures.canonical c.in-Some.ensures in
    subst (λ r. AnswersInto c.args.into.now (Some (dropped.Clash c.in-Some.clash)) r) (sym e) (refl, refl, refl)

pub returns-in-Some-clause-view : goal.returns-in-Some-clause-view
returns-in-Some-clause-view c =
    let e = piece_clashes (net_of c.args.site.now.topo.now) c.args.site.now.publisher c.args.site.now.broker c.in-Some.clash.tick (held_view c.args.held.now) c.args.piece.now c.args.joins.now c.in-Some.clash.kept c.in-Some.clash.came
    c.len.ensures.canonical c.len-2.ensures.canonical c.in-Some.ensures in
    ap (λ r. view_after r (held_view c.args.held.now)) (sym e)

pub returns-in-Ok-clause-says : goal.returns-in-Ok-clause-says
returns-in-Ok-clause-says c =
    let s = c.args.site.now in
    let net = net_of s.topo.now in
    let v = held_view c.args.held.now in
    let e = piece_taken net s.publisher s.broker v c.args.piece.now c.args.joins.now c.len.ensures.canonical c.len-2.ensures.canonical c.in_default.ensures in
    subst (λ r. AnswersInto c.learn.new.into None r) (sym e)
    (subst (λ (js : Joins). let u : View = with_joins v js in Tells (learn (seen net u) s.publisher s.broker c.args.piece.now u empty_log) c.learn.new.into)
    (c.replace-before.ensures.after ∙ c.longer-more.ensures) (c.in-Ok.ensures.told empty_log))

pub returns-in-Ok-clause-view : goal.returns-in-Ok-clause-view
returns-in-Ok-clause-view c =
    let s = c.args.site.now in
    let net = net_of s.topo.now in
    let v = held_view c.args.held.now in
    let e = piece_taken net s.publisher s.broker v c.args.piece.now c.args.joins.now c.len.ensures.canonical c.len-2.ensures.canonical c.in_default.ensures in
    c.in-Ok.ensures.view empty_log
    ∙ ap (λ (js : Joins). let u : View = with_joins v js in let o : Outcome = learn (seen net u) s.publisher s.broker c.args.piece.now u empty_log in o.view) (c.replace-before.ensures.after ∙ c.longer-more.ensures)
    ∙ ap (λ r. view_after r v) (sym e)
