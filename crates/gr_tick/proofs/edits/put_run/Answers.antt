use Rattle.std.proofs.Common.{◌+◌, List, cond, arith, ap, ◌∙◌, subst}
use Rattle.std.proofs.lemmas.List.{take-append-drop, take_all}
use Rattle.gr_tick.specs.Runs.{is_in, value_at}
use Rattle.gr_tick.specs.Stored.{EndBefore}
use Rattle.gr_tick.specs.declared.run.Run.{Run}
use Rattle.gr_tick.proofs.RunsLemmas.{room_past}
use Rattle.gr_tick.proofs.StepLemmas.{pushed_past, runs_in_past}
use Rattle.gr_tick.proofs.edits.put_run.Goals as goal

-- Behind all runs, the new runs end with it

pub returns-then-i-len-clause-room : goal.returns-then-i-len-clause-room
returns-then-i-len-clause-room g c = λ last.
    let old : EndBefore c.args.runs.now.items c.args.run.first = subst (λ (xs : List (Run g.row.V.Denot)). EndBefore xs c.args.run.first) (take_all c.args.i c.args.runs.now.items (omega arith)) c.requires.past in
    let new = pushed_past g.V.Lattice.least c.args.runs.now.items c.put_end.new.runs.items c.args.run (c.args.run.last + 1) c.put_end.ensures.runs old c.requires.alone.ordered c.put_end.ensures.values (omega arith) in
    omega (arith, room_past (c.args.run.last + 1) last c.put_end.new.runs.items new, c.put_end.ensures.spare)

pub returns-then-i-len-clause-later : goal.returns-then-i-len-clause-later
returns-then-i-len-clause-later g c = λ f l lt le.
    let old : EndBefore c.args.runs.now.items c.args.run.first = subst (λ (xs : List (Run g.row.V.Denot)). EndBefore xs c.args.run.first) (take_all c.args.i c.args.runs.now.items (omega arith)) c.requires.past in
    let new = pushed_past g.V.Lattice.least c.args.runs.now.items c.put_end.new.runs.items c.args.run f c.put_end.ensures.runs old c.requires.alone.ordered c.put_end.ensures.values lt in
    omega (arith, runs_in_past f l c.put_end.new.runs.items new)

pub returns-clause-values : goal.returns-clause-values
returns-clause-values g c = λ t.
    c.put_over.ensures.values t
    ∙ ap (λ zs. cond (is_in t c.args.run) c.args.run.value (value_at g.V.Lattice.least zs t)) (take-append-drop c.args.i c.args.runs.now.items)
