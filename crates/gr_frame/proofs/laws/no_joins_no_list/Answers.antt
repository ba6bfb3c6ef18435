use Rattle.std.proofs.Common.{refl}
use Rattle.gr_frame.proofs.laws.no_joins_no_list.Goals as goal

pub returns : goal.returns
returns c = λ h n. refl
