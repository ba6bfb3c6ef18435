use Rattle.std.proofs.Common.{sym, ap, ◌∙◌, length}
use Rattle.gr_broker.specs.Seen.{log_said}
use Rattle.gr_report.proofs.Shown.{line_of_log}
use Rattle.gr_node.specs.Done.{log_shown}
use Rattle.gr_node.proofs.showing.log_line.Goals as goal

pub returns : goal.returns
returns c =
    line_of_log c.args.p c.last.result c.settled.result c.cut.result c.len.result c.log-log.result.now c.is_broken.ensures.state c.last.ensures c.settled.ensures c.cut.ensures (c.len.ensures ∙ ap length c.events.ensures)
    ∙ sym (ap (λ l. log_shown c.args.p (log_said l)) c.log-log.ensures)
