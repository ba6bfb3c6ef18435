use Rattle.std.proofs.Common.{◌≡◌, ◌++◌, ◌-◌, length, filter}
use Rattle.gr_tree.specs.Walks.{numbers_from}
use Rattle.gr_top.specs.Words.{texts_of}
use Rattle.gr_top.specs.Hosting.{is_named, named_brokers}
use Rattle.gr_top.proofs.hosting.named_in.Given as goal

-- the brokers so far and those named among what is left are all
abbrev pub invariant-brokers : goal.invariant-brokers
invariant-brokers l =
    l.brokers ++ filter (is_named l.topo (texts_of l.words)) (numbers_from l.b (length l.topo.brokers - l.b)) ≡ named_brokers l.topo (texts_of l.words)
