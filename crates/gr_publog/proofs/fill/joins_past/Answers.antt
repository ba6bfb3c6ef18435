-- One join more is up to the tick, or none further
use Rattle.std.proofs.Common.{◌+◌, ◌<◌, ◌≤◌, length, take, drop, arith}
use Rattle.gr_publog.proofs.Putting.{join_is, taken_is, rise_on, upto_on, past_on, upto_ends, past_ends}
use Rattle.gr_publog.proofs.fill.joins_past.Goals as goal

pub upto-preserved : goal.upto-preserved
upto-preserved c =
    let js = c.args.joins.now in
    let i = c.upto.i in
    let x = c.join_at.result in
    let inside : i < length js = omega (arith, c.upto-test.true) in
    let is = join_is js i x inside c.join_at.ensures in
    let low : x.tick ≤ c.args.tick = omega (arith, c.if-join_at-tick.true) in
    record {
      within = omega (arith, inside);
      rise = rise_on (drop i js) (drop (i + 1) js) x is c.upto.invariant.rise;
      before = upto_on c.args.tick i js (drop (i + 1) js) _ x is (taken_is js i x inside c.join_at.ensures) low c.upto.invariant.before;
      rest = past_on c.args.tick (drop i js) (drop (i + 1) js) _ x is low c.upto.invariant.rest;
    }

pub returns-else-join_at-tick-clause-before : goal.returns-else-join_at-tick-clause-before
returns-else-join_at-tick-clause-before c =
    let js = c.args.joins.now in
    let i = c.upto.i in
    let x = c.join_at.result in
    let inside : i < length js = omega (arith, c.upto-test.true) in
    upto_ends c.args.tick (take i js) (drop i js) (drop (i + 1) js) _ x (join_is js i x inside c.join_at.ensures) (omega (arith, c.if-join_at-tick.false)) c.upto.invariant.rise c.upto.invariant.before

pub returns-else-join_at-tick-clause-rest : goal.returns-else-join_at-tick-clause-rest
returns-else-join_at-tick-clause-rest c =
    let js = c.args.joins.now in
    let i = c.upto.i in
    let x = c.join_at.result in
    let inside : i < length js = omega (arith, c.upto-test.true) in
    past_ends c.args.tick (drop i js) (drop (i + 1) js) _ x (join_is js i x inside c.join_at.ensures) (omega (arith, c.if-join_at-tick.false)) c.upto.invariant.rise c.upto.invariant.rest
