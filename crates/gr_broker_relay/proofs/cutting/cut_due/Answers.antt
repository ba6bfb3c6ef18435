-- How far all is consolidated is what the machine cuts to
use Rattle.std.proofs.Common.{◌≡◌, ◌∙◌, ℕ, ap, sym, arith, Bool, true, false, Some, None}
use Rattle.std.specs.Prelude.{nat_lt, if◌then◌else◌}
use Rattle.std.proofs.lemmas.Bool.{lt-ltb, le-ltb}
use Rattle.gr_pubend.specs.Log.{said}
use Rattle.gr_model.specs.NetOf.{net_of}
use Rattle.gr_broker_relay.specs.Held.{held_view}
use Rattle.gr_broker_relay.proofs.Consolidation.{due_is}
use Rattle.gr_broker_relay.proofs.cutting.cut_due.Goals as goal

pub consolidated_upto-upto-requires-clause-limit : goal.consolidated_upto-upto-requires-clause-limit
consolidated_upto-upto-requires-clause-limit c = omega (arith, c.is_broken.ensures.state.settled, c.settled.ensures)

pub returns-then-cut-upto-clause-tick : goal.returns-then-cut-upto-clause-tick
returns-then-cut-upto-clause-tick c =
    let l = c.args.log.now in
    let upto : ℕ = c.consolidated_upto-upto.result in
    let past : nat_lt l.state.cut upto ≡ true = lt-ltb _ _ (omega (arith, c.if-cut-upto.true, c.cut.ensures)) in
    let e = c.consolidated_upto-upto.ensures in
    ap (λ (q : Bool). if q then Some upto else None) (sym past)
    ∙ due_is (net_of c.args.site.now.topo.now) c.args.site.now.publisher c.args.site.now.broker upto (held_view c.args.held.now) (said l) c.horizon_of.result
    c.requires.kept.wants c.horizon_of.ensures.value (omega (arith, e.within, c.settled.ensures)) e.each (λ x. e.stops (omega (arith, x, c.settled.ensures)))

pub returns-clause-tick : goal.returns-clause-tick
returns-clause-tick c =
    let l = c.args.log.now in
    let upto : ℕ = c.consolidated_upto-upto.result in
    let past : nat_lt l.state.cut upto ≡ false = le-ltb _ _ (omega (arith, c.if-cut-upto.false, c.cut.ensures)) in
    let e = c.consolidated_upto-upto.ensures in
    ap (λ (q : Bool). if q then Some upto else None) (sym past)
    ∙ due_is (net_of c.args.site.now.topo.now) c.args.site.now.publisher c.args.site.now.broker upto (held_view c.args.held.now) (said l) c.horizon_of.result
    c.requires.kept.wants c.horizon_of.ensures.value (omega (arith, e.within, c.settled.ensures)) e.each (λ x. e.stops (omega (arith, x, c.settled.ensures)))
