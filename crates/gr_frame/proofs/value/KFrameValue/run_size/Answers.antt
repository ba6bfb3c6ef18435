use Rattle.gr_frame.proofs.Cutting.{known_data}
use Rattle.gr_frame.proofs.value.KFrameValue.run_size.Goals as goal

pub returns-in-D-clause-spelled : goal.returns-in-D-clause-spelled
returns-in-D-clause-spelled c = λ some. known_data c.args.run.now c.in-D.event c.size.result c.in-D.is c.size.ensures.size
