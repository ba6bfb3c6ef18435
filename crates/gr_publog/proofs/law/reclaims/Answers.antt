-- Each pair of images opens as before or as after
use Rattle.gr_publog.specs.State.{empty_state}
use Rattle.gr_publog.specs.Lanes.{state_text}
use Rattle.gr_publog.proofs.Pairing.{reclaiming}
use Rattle.gr_publog.proofs.law.reclaims.Goals as goal

pub returns : goal.returns
returns c = λ late. reclaiming c.shut_is.ensures c.filled_is.ensures c.two_are.ensures c.lower_is.ensures (empty_state late) (state_text late)
