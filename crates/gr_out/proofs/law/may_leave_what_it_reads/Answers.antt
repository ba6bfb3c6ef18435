-- Each call leaves its full effect as one of its images
use Rattle.gr_out.proofs.Images.{read_left}
use Rattle.gr_out.proofs.law.may_leave_what_it_reads.Goals as goal

pub returns : goal.returns
returns c = λ l. read_left l.start l.calls
