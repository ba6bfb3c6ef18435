use Rattle.gr_frame.proofs.Cutting.{not_cut, parts_not_cut}
use Rattle.gr_frame.proofs.laws.one_frame_is_not_cut.Goals as goal

pub returns-clause-whole : goal.returns-clause-whole
returns-clause-whole c = not_cut

pub returns-clause-parts : goal.returns-clause-parts
returns-clause-parts c = parts_not_cut
