use Rattle.std.proofs.Common.{◌≤◌, ◌+◌, ◌^◌, arith}
use Rattle.gr_tick.proofs.RunsLemmas.{value_at_past}
use Rattle.gr_know.specs.Values.{known_at}
use Rattle.gr_know.specs.declared.values.K.TheVariants.{Q}
use Rattle.gr_know.proofs.Walks.{join_known_left, join_both, join_on, next_unknown}
use Rattle.gr_know.proofs.news.horizon_with.Goals as goal

pub loop-reached-init : goal.loop-reached-init
loop-reached-init c = record {
  forward = omega (arith, c.first_bottom_from-reached.ensures.forward);
  inside = omega (arith, c.first_bottom_from-reached.ensures.inside);
  known = λ t lo hi. join_known_left (known_at c.args.stream.now.runs t) (known_at c.args.piece.now t) (c.first_bottom_from-reached.ensures.known t (omega (arith, lo)) (omega (arith, hi, c.first_bottom_from-reached.ensures.forward)));
  next = next_unknown c.args.stream.now.runs c.first_bottom_from-reached.result (omega (arith, c.first_bottom_from-reached.ensures.forward)) c.first_bottom_from-reached.ensures.bottom;
}

pub returns-then-came-reached-clause-greatest : goal.returns-then-came-reached-clause-greatest
returns-then-came-reached-clause-greatest c =
    join_both (known_at c.args.stream.now.runs (c.loop-reached.reached + 1)) (known_at c.args.piece.now (c.loop-reached.reached + 1)) c.loop-reached.invariant.next (c.came_until-came.ensures.none c.if-came-reached.true)

pub loop-reached-preserved : goal.loop-reached-preserved
loop-reached-preserved c =
    let inv = c.loop-reached.invariant in
    let up = c.first_bottom_from-reached-in-loop-reached in
    record {
      forward = omega (arith, inv.forward, c.came_until-came.ensures.forward, up.ensures.forward);
      inside = omega (arith, up.ensures.inside);
      known = join_on (known_at c.args.stream.now.runs) (known_at c.args.piece.now) c.args.horizon c.loop-reached.reached c.came_until-came.result up.result inv.known c.came_until-came.ensures.came up.ensures.known;
      next = next_unknown c.args.stream.now.runs up.result (omega (arith, up.ensures.forward)) up.ensures.bottom;
    }

pub returns-clause-greatest : goal.returns-clause-greatest
returns-clause-greatest c =
    let all : 2 ^ 62 + 1 ≤ c.loop-reached.reached + 1 = omega arith in
    join_both (known_at c.args.stream.now.runs (c.loop-reached.reached + 1)) (known_at c.args.piece.now (c.loop-reached.reached + 1)) c.loop-reached.invariant.next
    (value_at_past Q c.args.piece.now (2 ^ 62 + 1) (c.loop-reached.reached + 1) c.len.ensures.in_range all)
