use Rattle.std.proofs.Common.{◌≡◌, drop}
use Rattle.gr_journal.specs.Hosting.{with_brokers}
use Rattle.gr_journal.proofs.hosting.put_brokers.Given as goal

abbrev pub invariant-brokers : goal.invariant-brokers
invariant-brokers l = with_brokers l.named (drop l.broker-index l.brokers) ≡ with_brokers l.fn.named l.fn.brokers
