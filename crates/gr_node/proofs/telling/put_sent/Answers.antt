use Rattle.std.proofs.Common.{sym, subst}
use Rattle.gr_model.specs.Text.{IsNamed}
use Rattle.gr_outbox.specs.Said.{frame_said}
use Rattle.gr_report.proofs.Named.{sent_is_named}
use Rattle.gr_node.proofs.telling.put_sent.Goals as goal

pub put_line-requires : goal.put_line-requires
put_line-requires g c = subst (IsNamed c.args.topo.now) (sym c.in-Ok.ensures) (sent_is_named c.args.topo.now c.args.number (frame_said c.args.bytes.now) c.requires.over)
