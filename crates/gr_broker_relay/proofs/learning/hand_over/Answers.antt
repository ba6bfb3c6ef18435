use Rattle.std.proofs.Common.{refl, arith}
use Rattle.gr_broker_relay.proofs.Handing.{here_in}
use Rattle.gr_broker_relay.proofs.learning.hand_over.Goals as goal

pub hand_to-requires : goal.hand_to-requires
hand_to-requires c = here_in c.args.site.now.topo.now c.args.site.now.broker c.args.site.now.here.now c.here.subscriber-index _ c.requires.here (omega arith) refl
