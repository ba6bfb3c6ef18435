use Rattle.std.proofs.Common.{[], ◌∷◌, codes}
use Rattle.std.specs.Fmt.{decimal}
use Rattle.gr_topo.specs.Topology.{name_at}
use Rattle.gr_report_text.proofs.RunWords.{last_word}
use Rattle.gr_report_text.proofs.lines.push_stray_note.Goals as goal

pub returns : goal.returns
returns c = last_word _ _ _ _ (codes "dropped" ∷ name_at c.args.topo.now.brokers c.args.broker ∷ codes "stray-note" ∷ []) (decimal c.args.publisher) c.push_number.ensures c.in_ok-push_dropped.ensures
