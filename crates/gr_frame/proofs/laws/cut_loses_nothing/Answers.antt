use Rattle.gr_frame.specs.Bytes.{head_size, known_run_size, wanted_run_size}
use Rattle.gr_frame.proofs.Cutting.{heads_kept, joined_parts}
use Rattle.gr_frame.proofs.laws.cut_loses_nothing.Goals as goal

pub returns-clause-heads : goal.returns-clause-heads
returns-clause-heads c = heads_kept

pub returns-clause-known : goal.returns-clause-known
returns-clause-known c = λ js. joined_parts (head_size js) known_run_size

pub returns-clause-wanted : goal.returns-clause-wanted
returns-clause-wanted c = joined_parts 12 wanted_run_size
