use Rattle.gr_world.proofs.Lasting.{holds_sent}
use Rattle.gr_world.proofs.law.what_was_sent_lasts.Goals as goal

pub returns : goal.returns
returns c = λ w lanes steps told p x y f lt left. holds_sent c.stands_read.ensures w lanes steps told f p lt x y left
