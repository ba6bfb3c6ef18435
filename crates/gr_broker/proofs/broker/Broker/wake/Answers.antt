-- The logs stand as those of the broker's parts
use Rattle.std.proofs.Common.{sym, subst}
use Rattle.gr_broker.specs.Seen.{BrokerView}
use Rattle.gr_broker.specs.Of.{LogsStand}
use Rattle.gr_broker.proofs.broker.Broker.wake.Goals as goal

pub wake-requires-clause-stands : goal.wake-requires-clause-stands
wake-requires-clause-stands g c = λ tells. subst (λ (b : BrokerView). LogsStand (g.D.Disk.lane_of c.args.disk.now) b) (sym c.self.view_is) (c.requires.stands tells)
