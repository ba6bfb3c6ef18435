-- One entry more is cut, or none further
use Rattle.std.proofs.Common.{◌+◌, ◌<◌, length, drop, arith}
use Rattle.gr_publog.proofs.Putting.{next_is, rise_next, cut_next, cut_ends}
use Rattle.gr_publog.proofs.fill.first_past.Goals as goal

pub cut-preserved : goal.cut-preserved
cut-preserved c =
    let es = c.args.entries.now.items in
    let i = c.cut.i in
    let inside : i < length es = omega (arith, c.len.ensures, c.cut-test.true) in
    let is = next_is es i c.index.result.now inside c.index.ensures in
    record {
      within = omega (arith, inside);
      rise = rise_next (drop i es) (drop (i + 1) es) c.index.result.now is c.cut.invariant.rise;
      rest = cut_next c.args.tick (drop i es) (drop (i + 1) es) _ c.index.result.now is (omega (arith, c.if-index-tick.true)) c.cut.invariant.rest;
    }

pub returns-else-index-tick-clause-rest : goal.returns-else-index-tick-clause-rest
returns-else-index-tick-clause-rest c =
    let es = c.args.entries.now.items in
    let i = c.cut.i in
    let inside : i < length es = omega (arith, c.len.ensures, c.cut-test.true) in
    let is = next_is es i c.index.result.now inside c.index.ensures in
    cut_ends c.args.tick (drop i es) (drop (i + 1) es) _ c.index.result.now is (omega (arith, c.if-index-tick.false)) c.cut.invariant.rise c.cut.invariant.rest
