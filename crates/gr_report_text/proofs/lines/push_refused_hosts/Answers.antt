use Rattle.std.proofs.Common.{[], ◌∷◌, codes}
use Rattle.std.specs.Fmt.{decimal}
use Rattle.gr_topo.specs.Topology.{name_at}
use Rattle.gr_report_text.proofs.RunWords.{last_word}
use Rattle.gr_report_text.proofs.lines.push_refused_hosts.Goals as goal

pub returns : goal.returns
returns c = last_word _ _ _ _ (codes "refused" ∷ codes "line" ∷ decimal c.args.line ∷ codes "hosts-subscriber" ∷ []) (name_at c.args.topo.now.brokers c.args.broker) c.push_broker.ensures c.in_ok-push_refused.ensures
