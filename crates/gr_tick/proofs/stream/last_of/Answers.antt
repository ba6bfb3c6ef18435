use Rattle.std.proofs.Common.{◌+◌, ◌-◌, subst, arith}
use Rattle.std.proofs.lemmas.List.{take_all}
use Rattle.gr_tick.specs.Stored.{EndBefore}
use Rattle.gr_tick.proofs.StepLemmas.{read_alone}
use Rattle.gr_tick.proofs.SteadyLemmas.{top_of-last}
use Rattle.gr_tick.proofs.SeekLemmas.{seek_low}
use Rattle.gr_tick.proofs.stream.last_of.Goals as goal

pub returns-clause-top : goal.returns-clause-top
returns-clause-top g c = top_of-last c.args.runs.now.items (c.len-count.result - 1) c.get-run.result.now (omega arith) c.get-run.ensures

pub returns-clause-inside : goal.returns-clause-inside
returns-clause-inside g c = (read_alone g.V.Lattice.least c.args.runs.now.items (c.len-count.result - 1) c.get-run.result.now (omega arith) c.get-run.ensures c.requires).upto

pub returns-clause-past : goal.returns-clause-past
returns-clause-past g c =
    subst (λ zs. EndBefore zs (c.get-run.result.now.last + 1)) (take_all (c.len-count.result - 1 + 1) c.args.runs.now.items (omega arith))
    (seek_low g.V.Lattice.least c.args.runs.now.items (c.len-count.result - 1) (c.get-run.result.now.last + 1) c.get-run.result.now (omega arith) c.get-run.ensures c.requires (omega arith))
