use Rattle.std.proofs.Common.{◌+◌, arith, refl}
use Rattle.gr_tick.proofs.EditLemmas.{right_absorbed, right_absorbed_values, room_in_place}
use Rattle.gr_tick.proofs.edits.with_after.Goals as goal

pub returns-clause-runs : goal.returns-clause-runs
returns-clause-runs g c =
    right_absorbed g.V.Lattice.least c.args.runs.now.items c.args.i c.get-after.result.now c.args.run _ (omega arith) c.get-after.ensures c.requires.runs c.requires.alone c.if-run-after.false (grind arith) refl refl refl

pub returns-clause-values : goal.returns-clause-values
returns-clause-values g c = λ d n.
    right_absorbed_values g.V.Lattice.least c.args.runs.now.items c.args.i c.get-after.result.now c.args.run (omega arith) c.get-after.ensures c.requires.runs c.requires.alone c.if-run-after.false (grind arith) d n

pub returns-clause-room : goal.returns-clause-room
returns-clause-room g c = λ last.
    omega (
      arith,
      room_in_place (c.args.run.last + 1) last c.args.runs.now.items c.args.i c.get-after.result.now (record { first = c.args.run.first; last = c.get-after.result.now.last; value = c.args.run.value }) (omega arith) c.get-after.ensures,
    )
