-- One join more, or none further
use Rattle.std.proofs.Common.{◌+◌, ◌<◌, length, drop, arith}
use Rattle.gr_publog.proofs.Putting.{join_is, rise_on, below_on, from_on, below_ends, from_ends}
use Rattle.gr_publog.proofs.fill.put_joins.Goals as goal

pub joins-preserved : goal.joins-preserved
joins-preserved c =
    let js = c.args.joins.now in
    let i = c.joins.i in
    let x = c.join_at-join.result in
    let inside : i < length js = omega (arith, c.joins-test.true) in
    let is = join_is js i x inside c.join_at-join.ensures in
    let low : x.tick < c.args.end = omega (arith, c.if-join-end.false) in
    record {
      within = omega (arith, inside);
      rise = rise_on (drop i js) (drop (i + 1) js) x is c.joins.invariant.rise;
      text = below_on c.joins.bytes.items c.put_join.new.bytes.items _ c.args.end (drop i js) (drop (i + 1) js) x c.in_ok-put_join.ensures is low c.joins.invariant.text;
      rest = from_on c.args.end (drop i js) (drop (i + 1) js) _ x is low c.joins.invariant.rest;
    }

pub returns-then-join-end-clause-text : goal.returns-then-join-end-clause-text
returns-then-join-end-clause-text c =
    let js = c.args.joins.now in
    let i = c.joins.i in
    let x = c.join_at-join.result in
    let inside : i < length js = omega (arith, c.joins-test.true) in
    below_ends c.joins.bytes.items _ c.args.end (drop i js) (drop (i + 1) js) x (join_is js i x inside c.join_at-join.ensures) (omega (arith, c.if-join-end.true)) c.joins.invariant.rise c.joins.invariant.text

pub returns-then-join-end-clause-rest : goal.returns-then-join-end-clause-rest
returns-then-join-end-clause-rest c =
    let js = c.args.joins.now in
    let i = c.joins.i in
    let x = c.join_at-join.result in
    let inside : i < length js = omega (arith, c.joins-test.true) in
    from_ends c.args.end (drop i js) (drop (i + 1) js) _ x (join_is js i x inside c.join_at-join.ensures) (omega (arith, c.if-join-end.true)) c.joins.invariant.rise c.joins.invariant.rest
