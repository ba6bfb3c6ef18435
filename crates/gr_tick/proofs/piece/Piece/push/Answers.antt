use Rattle.std.proofs.Common.{cond, ap, ◌∙◌}
use Rattle.gr_tick.specs.Runs.{is_in, value_at}
use Rattle.gr_tick.proofs.Canonical.{RunsGive-in_range}
use Rattle.gr_tick.proofs.StepLemmas.{pushed_past}
use Rattle.gr_tick.proofs.LastLemmas.{both_ok}
use Rattle.gr_tick.proofs.piece.Piece.push.Goals as goal

pub returns-clause-ok : goal.returns-clause-ok
returns-clause-ok g c =
    both_ok c.put_last.result (λ runs values. RunsGive-in_range g.V.Lattice.least c.put_last.new.runs.items _ runs
    (λ n. values n ∙ ap (λ zs. cond (is_in n c.args.run) c.args.run.value (value_at g.V.Lattice.least zs n)) c.self.view_is)) c.put_last.ensures.runs c.put_last.ensures.values

pub returns-clause-past : goal.returns-clause-past
returns-clause-past g c =
    both_ok c.put_last.result (λ runs values t lt. pushed_past g.V.Lattice.least c.args.self.now c.put_last.new.runs.items c.args.run t runs c.requires.past c.requires.alone.ordered
    (λ n. values n ∙ ap (λ zs. cond (is_in n c.args.run) c.args.run.value (value_at g.V.Lattice.least zs n)) c.self.view_is) lt) c.put_last.ensures.runs c.put_last.ensures.values
