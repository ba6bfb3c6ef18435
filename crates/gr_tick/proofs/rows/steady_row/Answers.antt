-- behind all runs the value is the least up to the last tick; at a run the lemma says it
use Rattle.std.proofs.Common.{◌<◌, length, arith, ◌∙◌}
use Rattle.gr_tick.proofs.EditLemmas.{drop_read}
use Rattle.gr_tick.proofs.StepLemmas.{ahead_none, gap_steady}
use Rattle.gr_tick.proofs.SeekLemmas.{gap_at}
use Rattle.gr_tick.proofs.SteadyLemmas.{run_says}
use Rattle.gr_tick.proofs.rows.steady_row.Goals as goal

pub returns-then-i-len : goal.returns-then-i-len
returns-then-i-len g c = record {
  value = c.bottom.ensures ∙ gap_at g.V.Lattice.least c.args.runs.now.items c.seek_row-i.result c.args.tick c.seek_row-i.ensures.front (ahead_none c.args.runs.now.items c.seek_row-i.result c.args.tick (omega arith));
  forward = c.requires.upto;
  inside = omega arith;
  steady = λ t lo hi.
      gap_steady _ c.args.runs.now.items c.seek_row-i.result c.args.tick _ t c.seek_row-i.ensures.front (ahead_none c.args.runs.now.items c.seek_row-i.result t (omega arith)) lo (omega arith);
  greatest = λ lt. absurd (omega (arith, lt));
}

pub returns : goal.returns
returns g c =
    let xs = c.args.runs.now.items in
    let i = c.seek_row-i.result in
    let r = c.get.result.now in
    let lt : i < length xs = omega arith in
    run_says g.V.Lattice.least xs i c.args.tick r c.steady_by.result lt c.get.ensures c.requires.runs c.seek_row-i.ensures.front
    (c.seek_row-i.ensures.here r _ (drop_read xs i r lt c.get.ensures)) c.steady_by.ensures.ahead c.steady_by.ensures.begun
