use Rattle.std.proofs.Common.{length, arith}
use Rattle.gr_topo.specs.Topology.{name_at}
use Rattle.gr_journal.specs.Lines.{is_among, behind_space, name_if_among}
use Rattle.gr_journal.proofs.InOrder.{text_start, text_more, text_end}
use Rattle.gr_journal.proofs.spelling.push_brokers.Goals as goal

pub brokers-init : goal.brokers-init
brokers-init c = text_start (is_among c.args.brokers.now) (λ b. behind_space (name_at c.args.topo.now.brokers b)) c.args.text.now (length c.args.topo.now.brokers)

pub brokers-preserved : goal.brokers-preserved
brokers-preserved c =
    text_more (name_if_among c.args.topo.now c.args.brokers.now) c.brokers.text c.push_broker.new.text _ c.brokers.b (length c.args.topo.now.brokers) (omega arith) c.brokers.invariant c.in_ok-push_broker.ensures

pub returns : goal.returns
returns c = text_end (name_if_among c.args.topo.now c.args.brokers.now) c.brokers.text _ c.brokers.b (length c.args.topo.now.brokers) (omega arith) c.brokers.invariant
