use Rattle.std.proofs.Common.{length, sym, ◌∙◌, arith}
use Rattle.gr_journal.specs.Lines.{is_among}
use Rattle.gr_journal.proofs.InOrder.{all_start, one_passes, one_fails, none_left}
use Rattle.gr_journal.proofs.hosting.are_all_among.Goals as goal

pub brokers-init : goal.brokers-init
brokers-init c = all_start (is_among c.args.named.now) (length c.args.topo.now.brokers)

pub returns-then-not-is_among : goal.returns-then-not-is_among
returns-then-not-is_among c =
    one_fails (is_among c.args.named.now) c.brokers.b (length c.args.topo.now.brokers) _ (omega arith) (sym c.is_among.ensures ∙ c.if-not-is_among.true) c.brokers.invariant

pub brokers-preserved : goal.brokers-preserved
brokers-preserved c =
    one_passes (is_among c.args.named.now) c.brokers.b (length c.args.topo.now.brokers) _ (omega arith) (sym c.is_among.ensures ∙ c.if-not-is_among.false) c.brokers.invariant

pub returns : goal.returns
returns c = none_left (is_among c.args.named.now) c.brokers.b (length c.args.topo.now.brokers) _ (omega arith) c.brokers.invariant
